-- What the readers of this crate find, beside the readers of the definitions: proof furniture, which the laws tie to the definitions.
use Rattle.std.specs.Prelude.{ℕ, ◌+◌, ◌*◌, ◌≤◌, ◌≡◌, Bool, true, false, length, drop, Result, Ok, Err}
use Rattle.std.proofs.Math.Option.{Option, none, some}
use Rattle.paper.specs.Bytes.{Bytes}
use Rattle.paper.specs.Grammar.{Reader, ◌>>=◌, ◌>>◌, gives, this}
use Rattle.paper.specs.Dates.{Date}
use Rattle.paper.specs.TypedDates.{typed_digit, typed_pair, typed_month, typed_year}
use Rattle.paper.specs.declared.Read.{Read}
use Rattle.paper.specs.declared.Refusal.{Refusal}

-- what a reader of the definitions gives: the number, and the bytes after it
abbrev pub found : Bytes → Result (Read ℕ) Refusal → Option (ℕ × Bytes)
found text (Ok r) = some (r.value, drop r.next text)
found text (Err e) = none

-- the number and the place are within bounds; "another form is 12"
abbrev pub Within : ℕ → Bytes → Result (Read ℕ) Refusal → Type 0
Within most text (Ok r) = (r.value ≤ most) × (r.next ≤ length text)
Within most text (Err e) = e ≡ Refusal.NotConvertible

-- one digit more after those of n
unfoldable pub further : ℕ → Reader ℕ
further n = typed_digit >>= λ d. gives (n * 10 + d)

-- a number that the separator follows
abbrev pub parting : ℕ → ℕ → Reader ℕ
parting s x = this s >> gives x

-- the second piece: a month in letters, or a day
abbrev pub second : Bool → Reader ℕ
second true = typed_month
second false = typed_pair

-- the date of the pieces: the day comes first where the month has letters
abbrev pub ordered : Bool → ℕ → ℕ → ℕ → Date
ordered true a b year = record { year = year; month = b; day = a }
ordered false a b year = record { year = year; month = a; day = b }

abbrev pub ended : Bool → ℕ → ℕ → ℕ → Reader Date
ended letters a b year = gives (ordered letters a b year)

-- both forms: two pieces, each with the separator after it, and the year
unfoldable pub form : Bool → ℕ → Reader Date
form letters s = do
  a ← typed_pair
  this s
  b ← second letters
  this s
  year ← typed_year
  ended letters a b year

-- the month of a number, if there is one
abbrev pub named : Option ℕ → Reader ℕ
named none rest = none
named (some m) rest = some (m, rest)
