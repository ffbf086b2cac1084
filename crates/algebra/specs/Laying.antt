-- What the code's readers leave, as facts of its own answer: the place after what was read, and its elms laid behind the F text so far.
use Rattle.std.specs.Prelude.{ℕ, ◌+◌, ◌*◌, ◌≤◌, ◌<◌, ◌≡◌, Bool, true, false, List, [], ◌∷◌, ◌++◌, length, drop, eqb, if◌then◌else◌, Some, None}
use Rattle.std.specs.Prelude.{Option as Maybe}
use Rattle.std.proofs.Math.Option.{Option, none, some}
use Rattle.paper.specs.Bytes.{Bytes, ch, bytes}
use Rattle.paper.specs.Codes.{Elm}
use Rattle.codes.specs.declared.Elm as codes
use Rattle.codes.specs.declared.Operand as operands
use Rattle.readers.specs.Places.{byte_at, after}
use Rattle.lent.specs.Over as lent
use Rattle.algebra.specs.Expressions.{Expression, Operand, Operator, Spelt, spelt, elms_in, operand_elms, behind}
use Rattle.paper.specs.declared.Read.{Read}

-- a text has room for what the rest of a code may be shown as: no byte is shown as more than three
pub record Room (code : Bytes) (at : ℕ) (text : Bytes) (len : ℕ) : Type 0 where
  pub inside : at ≤ length code
  pub few : len ≤ 3 * at
  pub enough : 3 * length code ≤ length text

-- what was read from `at` to `next`, and laid
pub record Laid {A : Type 0} (elms : A → List Spelt) (code : Bytes) (at : ℕ) (before : Bytes) (len : ℕ) (read : Option (A × Bytes)) (next end : ℕ)
    (after : Bytes) : Type 0 where
  pub thing : A
  pub reads : read ≡ some (thing, drop next code)
  pub forward : at < next
  pub inside : next ≤ length code
  pub few : end + 3 * at ≤ len + 3 * next
  pub written : lent.Laid (behind (elms thing)) before end after len

-- the answer of a reader, with the text after it and the bytes laid in it, beside what the definition reads
pub data Lays {A : Type 0} (elms : A → List Spelt) (code : Bytes) (at : ℕ) (before : Bytes) (len : ℕ) (read : Option (A × Bytes))
    : Maybe ℕ → Bytes → ℕ → Type 0 where
  laid : {next end : ℕ} {after : Bytes} → Laid elms code at before len read next end after → Lays elms code at before len read (Some next) after end
  unread : {end : ℕ} {after : Bytes} → read ≡ none → Lays elms code at before len read None after end

-- `x,y`, and `[y,z]` with its elm behind it
abbrev pub pair_elms : Expression × Expression → List Spelt
pair_elms p = elms_in p.0 ++ elms_in p.1

abbrev pub bracket_elms : Expression × Expression → List Spelt
bracket_elms p = elms_in p.0 ++ elms_in p.1 ++ spelt (bytes "[]") Elm.substring ∷ []

-- an operator's operand, and the operator behind it
abbrev pub operation_elms : Operator → Operand → List Spelt
operation_elms o x = operand_elms x ++ spelt o.in_F (Elm.binary o.does) ∷ []

-- an elm of F that is an operand of A
unfoldable pub fetches : codes.Elm → Bool
fetches (codes.Elm.Push (operands.Operand.Attribute n r)) = true
fetches (codes.Elm.Push (operands.Operand.Literal start len)) = true
fetches (codes.Elm.Push operands.Operand.Previous) = false
fetches (codes.Elm.Binary o) = false
fetches codes.Elm.Substring = false
fetches codes.Elm.Exchange = false
fetches codes.Elm.Duplicate = false
fetches (codes.Elm.Convert c) = false

-- an operator's byte in F, and the place after it
pub record Signed (code : Bytes) (at : ℕ) (read : Option (Operator × Bytes)) (byte next : ℕ) : Type 0 where
  pub thing : Operator
  pub reads : read ≡ some (thing, drop next code)
  pub spelling : thing.in_F ≡ byte ∷ []
  pub forward : at < next
  pub inside : next ≤ length code

pub data Signs (code : Bytes) (at : ℕ) (read : Option (Operator × Bytes)) : Maybe (Read ℕ) → Type 0 where
  signed : {r : Read ℕ} → Signed code at read r.value r.next → Signs code at read (Some r)
  missing : read ≡ none → Signs code at read None

-- `<` or `>`: the one byte where a `=` stands behind it, else the other
unfoldable pub ordered : Bytes → ℕ → ℕ → ℕ → Read ℕ
ordered code at with_it without =
    if eqb (byte_at code at) (ch "=") then record { value = with_it; next = after code at } else record { value = without; next = at }
