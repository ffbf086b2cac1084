-- Reading back what D prints with four digits gives the day. Assumes nothing.
use Prim.Native.Nat.{ℕ, zero, suc, pred, ◌+◌, ◌*◌, ◌/◌, ◌%◌, ◌≤◌, ◌<◌}
use mathlib.Core.Path.{◌≡◌, refl, ◌∙◌, ap}
use mathlib.Core.Bool.{true}
use mathlib.Core.List.{[], ◌∷◌, ◌++◌, append-nil}
use mathlib.Core.Option.{Option, none, some}
use native.Mathlib.Omega.{arith}
use native.Mathlib.Nat.{mod-lt, not-suc-le-zero, le_of_suc-le-suc, zero-add, add-zero, add-suc, suc-add}
use lib.ListN.{get_or}
use lib.Dec.{lit<}
use borrow.Author.Tests.{eq-eqb}
use Rattle.paper.specs.Bytes.{Bytes, ch, is_letter, is_upper, is_lower, digit_value, bytes, same_bytes}
use Rattle.paper.specs.Refusals.{given}
use Rattle.paper.specs.Numbers.{digits, natural, signed, plus}
use Rattle.paper.specs.Texts.{raised}
use Rattle.paper.specs.Grammar.{this, numeral, more_digits}
use Rattle.paper.specs.Dates.{Date, month_names, date_of, date_text, year_text, day_zero}
use Rattle.paper.specs.TypedDates.{typed_pair, typed_digit, typed_year, typed_month, typed_letter, month_called, typed_form, typed}
use Rattle.paper.proofs.Numerals.{digit_byte}
use Rattle.paper.proofs.Calendar.{InCalendar, calendar_parts, month_most, date_of_in_calendar, days_to_date_of, year_of_date}

-- a digit's byte, and what it stands for
abbrev digit : ℕ → ℕ
digit x = ch "0" + x

digit_back : (x : ℕ) → digit_value (digit x) ≡ x
unfolding digit_value
digit_back x = omega arith

-- "one or two digits": two
pair_read : (a b : ℕ) (rest : Bytes) → a < 10 → b < 10 → typed_pair (digit a ∷ digit b ∷ rest) ≡ some (a * 10 + b, rest)
unfolding typed_pair numeral more_digits
pair_read a b rest h k = simp (digit_byte a h, digit_byte b k, digit_back a, digit_back b)

pub digits_read : (d : ℕ) (rest : Bytes) → d < 100 → typed_pair (digits 2 d ++ rest) ≡ some (d, rest)
unfolding digits
digits_read d rest h =
    let same : d / 10 % 10 * 10 + d % 10 ≡ d = omega arith in
    pair_read (d / 10 % 10) (d % 10) rest (mod-lt (d / 10) (lit< tt)) (mod-lt d (lit< tt)) ∙ ap (λ (x : ℕ). some (x, rest)) same

-- "a year of 2 or 4 digits": four
four_read : (a b c d : ℕ) (rest : Bytes) → a < 10 → b < 10 → c < 10 → d < 10
    → typed_year (digit a ∷ digit b ∷ digit c ∷ digit d ∷ rest) ≡ some (((a * 10 + b) * 10 + c) * 10 + d, rest)
unfolding typed_year typed_digit numeral more_digits
four_read a b c d rest ha hb hc hd =
    simp (digit_byte a ha, digit_byte b hb, digit_byte c hc, digit_byte d hd, digit_back a, digit_back b, digit_back c, digit_back d)

pub year_read : (y : ℕ) (rest : Bytes) → y < 10_000 → typed_year (digits 4 y ++ rest) ≡ some (y, rest)
unfolding digits
year_read y rest h =
    let same : ((y / 10 / 10 / 10 % 10 * 10 + y / 10 / 10 % 10) * 10 + y / 10 % 10) * 10 + y % 10 ≡ y = omega arith in
    four_read (y / 10 / 10 / 10 % 10) (y / 10 / 10 % 10) (y / 10 % 10) (y % 10) rest
    (mod-lt _ (lit< tt)) (mod-lt _ (lit< tt)) (mod-lt _ (lit< tt)) (mod-lt _ (lit< tt))
    ∙ ap (λ (x : ℕ). some (x, rest)) same

year_alone : (y : ℕ) → y < 10_000 → typed_year (digits 4 y) ≡ some (y, [])
year_alone y h = rw append-nil at (year_read y [] h)

-- what holds of i and of the n numbers in all that follow from it
abbrev Each : (ℕ → Type 0) → ℕ → ℕ → Type 0
Each P zero i = Unit {0}
Each P (suc n) i = P i × Each P n (suc i)

each : (P : ℕ → Type 0) (n i k : ℕ) → Each P n i → k < n → P (k + i)
each P zero i k es h = absurd (not-suc-le-zero h)
each P (suc n) i zero es h = rw zero-add es.0
each P (suc n) i (suc k) es h = rw (suc-add, ← add-suc) (each P n (suc i) k es.1 (le_of_suc-le-suc h))

-- "three letters in either case for a month": a month's name
abbrev ReadBack : Bytes → ℕ → Type 0
ReadBack rest k = typed_month (get_or month_names k [] ++ rest) ≡ some (suc k, rest)

pub name_read : (k : ℕ) (rest : Bytes) → k < 12 → ReadBack rest k
unfolding typed_month typed_letter month_called month_names bytes is_letter is_upper is_lower raised same_bytes
name_read k rest h =
    rw (← (add-zero k))
    (each (ReadBack rest) 12 0 k
    (refl, (refl, (refl, (refl, (refl, (refl, (refl, (refl, (refl, (refl, (refl, (refl, tt)))))))))))) h)

-- a separator
this_read : (s : ℕ) (rest : Bytes) → this s (s ∷ rest) ≡ some (tt, rest)
unfolding this
this_read s rest = simp (eq-eqb s s refl)

-- the form that the code prints is read as the date
form_read : (s : Option ℕ) (d : Date) → InCalendar d → d.year ≤ 9_999 → typed_form s (date_text 4 s d) ≡ some (d, [])
unfolding typed_form date_text year_text typed_pair numeral digits
form_read none d p h =
    let day : d.day < 100 = omega (arith, p.day_last, month_most d.year (pred d.month)) in
    let month : suc (pred d.month) ≡ d.month = omega (arith, p.month_first) in
    rw (
      digits_read d.day _ day,
      this_read (ch " "),
      name_read (pred d.month) _ (omega (arith, p.month_first, p.month_last)),
      this_read (ch " "),
      year_alone d.year (omega arith),
      month,
    )
form_read (some s) d p h =
    let day : d.day < 100 = omega (arith, p.day_last, month_most d.year (pred d.month)) in
    let month : d.month < 100 = omega (arith, p.month_last) in
    rw (digits_read d.month _ month, this_read s, digits_read d.day _ day, this_read s, year_alone d.year (omega arith))

-- reading back what D prints with four digits gives the day, whatever the separator
pub read_back : (n : ℕ) (s : Option ℕ) → n ≤ 3_652_058
    → typed 4 s (date_text 4 s (date_of n)) ≡ given (plus (natural n) (signed true day_zero))
unfolding typed
read_back n s h =
    rw (form_read s (date_of n) (calendar_parts (date_of n) (date_of_in_calendar n)) (year_of_date n h), date_of_in_calendar n, days_to_date_of n)
