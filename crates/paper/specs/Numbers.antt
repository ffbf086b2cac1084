-- Document 01, "What each code gives", and document 02, L3: numeric form, range, decimal text, and the arithmetic and relations of F.
use Rattle.std.specs.Prelude.{ℕ, zero, suc, pred, ◌+◌, ◌-◌, ◌*◌, ◌/◌, ◌%◌, ◌^◌, Bool, true, false, not, ◌&&◌, [], ◌∷◌, ◌++◌, reverse, take, drop, leb, ltb, eqb, if◌then◌else◌}
use Rattle.std.proofs.Math.Option.{Option, none, some}
use Rattle.paper.specs.Bytes.{Bytes, ch, is_digit, digit_value}
use Rattle.paper.specs.Sizes.{number_digits, number_most}
use Rattle.paper.specs.Refusals.{Res, given, ◌>>=◌, ◌>>◌, refuse◌unless◌, refuse◌when◌, out_of_range, zero_divisor}

-- A whole number: its sign and its size. Zero has no sign.
pub record Number : Type 0 where
  pub negative : Bool
  pub size : ℕ

unfoldable pub signed : Bool → ℕ → Number
signed negative size = record { negative = negative && ltb 0 size; size = size }

unfoldable pub natural : ℕ → Number
natural n = record { negative = false; size = n }

-- the value of digits, n being that of the digits before them
unfoldable pub value : ℕ → Bytes → Option ℕ
value n [] = some n
value n (b ∷ bs) = if is_digit b then value (n * 10 + digit_value b) bs else none

abbrev pub as_signed : Bool → Option ℕ → Option Number
as_signed negative none = none
as_signed negative (some n) = some (signed negative n)

-- "then one or more digits"
abbrev pub digits_alone : Bool → Bytes → Option Number
digits_alone negative [] = none
digits_alone negative (b ∷ bs) = as_signed negative (value 0 (b ∷ bs))

-- Document 02, L3: "blanks (byte 32) before and after, not between": what stands after the first ones, before the last ones, within both
unfoldable pub after_blanks : Bytes → Bytes
after_blanks [] = []
after_blanks (b ∷ bs) = if eqb b (ch " ") then after_blanks bs else b ∷ bs

unfoldable pub before_blanks : Bytes → Bytes
before_blanks bs = reverse (after_blanks (reverse bs))

unfoldable pub within_blanks : Bytes → Bytes
within_blanks bs = before_blanks (after_blanks bs)

-- "an optional `+` or `-`, then one or more digits"
unfoldable pub sign_and_digits : Bytes → Option Number
sign_and_digits [] = none
sign_and_digits (b ∷ bs) =
    if eqb b (ch "-") then digits_alone true bs
    else (if eqb b (ch "+") then digits_alone false bs else digits_alone false (b ∷ bs))

-- "Numeric form should ignore blanks"; "blanks alone is still not numeric", since nothing stands within them: the one reader of numeric form
unfoldable pub numeric : Bytes → Option Number
numeric bs = sign_and_digits (within_blanks bs)

-- "numbers from -999,999,999,999,999 to 999,999,999,999,999"
unfoldable pub ranged : Number → Res Number
ranged x = do
  refuse out_of_range unless leb x.size number_most
  given x

-- "Arithmetic, start and length take other strings, the empty one included, as 0." "out of range is 10 wherever it is read as a number"
abbrev pub or_zero : Option Number → Number
or_zero none = natural 0
or_zero (some x) = x

unfoldable pub number : Bytes → Res Number
number bs = ranged (or_zero (numeric bs))

-- the last k decimal digits of n, zeros in front
unfoldable pub digits : ℕ → ℕ → Bytes
digits zero n = []
digits (suc k) n = digits k (n / 10) ++ (ch "0" + n % 10) ∷ []

-- "no leading zeros", but one digit at least
unfoldable pub trimmed : Bytes → Bytes
trimmed [] = []
trimmed (d ∷ []) = d ∷ []
trimmed (d ∷ e ∷ ds) = if eqb d (ch "0") then trimmed (e ∷ ds) else d ∷ e ∷ ds

-- the decimal text of a size in range
unfoldable pub decimal : ℕ → Bytes
decimal n = trimmed (digits number_digits n)

-- "Results have no leading zeros and no `+`."
unfoldable pub number_text : Number → Bytes
number_text x = if x.negative then ch "-" ∷ decimal x.size else decimal x.size

abbrev pub differ : Bool → Bool → Bool
differ true b = not b
differ false b = b

unfoldable pub negated : Number → Number
negated x = signed (not x.negative) x.size

unfoldable pub plus : Number → Number → Number
plus x y =
    if differ x.negative y.negative
    then (if leb y.size x.size then signed x.negative (x.size - y.size) else signed y.negative (y.size - x.size))
    else signed x.negative (x.size + y.size)

unfoldable pub times : Number → Number → Number
times x y = signed (differ x.negative y.negative) (x.size * y.size)

-- "truncated toward zero"
unfoldable pub quotient : Number → Number → Number
quotient x y = signed (differ x.negative y.negative) (x.size / y.size)

-- "`R` has the sign of the second entry"
unfoldable pub remainder : Number → Number → Number
remainder x y = signed x.negative (x.size % y.size)

-- "as numbers": x below y
unfoldable pub below : Number → Number → Bool
below x y =
    if x.negative then (if y.negative then ltb y.size x.size else true)
    else (if y.negative then false else ltb x.size y.size)

-- "else by bytes, a prefix being smaller"
unfoldable pub bytes_below : Bytes → Bytes → Bool
bytes_below [] [] = false
bytes_below [] (c ∷ cs) = true
bytes_below (b ∷ bs) [] = false
bytes_below (b ∷ bs) (c ∷ cs) = if eqb b c then bytes_below bs cs else ltb b c

pub data Order : Type 0 where
  less same more : Order

-- the order of two things by a test "below" read both ways
abbrev pub order_by : Bool → Bool → Order
order_by true other = less
order_by false true = more
order_by false false = same

abbrev pub compare_forms : Bytes → Bytes → Option Number → Option Number → Res Order
compare_forms second top (some x) (some y) = do
  ranged x
  ranged y
  given (order_by (below x y) (below y x))
compare_forms second top (some x) none = given (order_by (bytes_below second top) (bytes_below top second))
compare_forms second top none y = given (order_by (bytes_below second top) (bytes_below top second))

-- "Relations (001, 4.5) read second against top: as numbers when both have numeric form, else by bytes"
unfoldable pub compared : Bytes → Bytes → Res Order
compared second top = compare_forms second top (numeric second) (numeric top)

-- `=` `#` `>` `<` `]` `[` (001, 4.5): equal, unequal, greater, less, greater or equal, less or equal
pub data Relation : Type 0 where
  equal unequal greater lesser at_least at_most : Relation

unfoldable pub holds : Relation → Order → Bool
holds equal less = false
holds equal same = true
holds equal more = false
holds unequal less = true
holds unequal same = false
holds unequal more = true
holds greater less = false
holds greater same = false
holds greater more = true
holds lesser less = true
holds lesser same = false
holds lesser more = false
holds at_least less = false
holds at_least same = true
holds at_least more = true
holds at_most less = true
holds at_most same = true
holds at_most more = false

-- The elms that take two entries and put one: `*` and `*n` (`*` is `*0`), `/` `R` `+` `-` `:`, and the relations.
pub data Binary : Type 0 where
  multiply : ℕ → Binary
  divide rest add subtract concatenate : Binary
  relate : Relation → Binary

-- both entries as numbers, the result in range
abbrev pub arithmetic : (Number → Number → Res Number) → Bytes → Bytes → Res Bytes
arithmetic f second top = do
  x ← number second
  y ← number top
  z ← f x y
  r ← ranged z
  given (number_text r)

-- "Range comes before 11."
abbrev pub divided : (Number → Number → Number) → Number → Number → Res Number
divided f x y = do
  refuse zero_divisor when eqb y.size 0
  given (f x y)

-- "`*n` divides the product by ten to the n, truncated toward zero; the undivided product must be in range"
abbrev pub multiplied : ℕ → Number → Number → Res Number
multiplied n x y = do
  p ← ranged (times x y)
  given (quotient p (natural (10 ^ n)))

-- what the second entry and the top give
unfoldable pub binary_gives : Binary → Bytes → Bytes → Res Bytes
binary_gives (multiply n) second top = arithmetic (multiplied n) second top
binary_gives divide second top = arithmetic (divided quotient) second top
binary_gives rest second top = arithmetic (divided remainder) second top
binary_gives add second top = arithmetic (λ x y. given (plus x y)) second top
binary_gives subtract second top = arithmetic (λ x y. given (plus x (negated y))) second top
binary_gives concatenate second top = given (second ++ top)
binary_gives (relate r) second top = do
  o ← compared second top
  given (if holds r o then ch "1" ∷ [] else ch "0" ∷ [])

-- a start below 1 and a length below 0 count as 1 and 0
abbrev pub skipped : Number → ℕ
skipped x = if x.negative then 0 else pred x.size

abbrev pub taken : Number → ℕ
taken x = if x.negative then 0 else x.size

-- "`[]`: third entry, start in second (below 1 counts as 1), length in top (below 0 counts as 0)"
unfoldable pub substring_gives : Bytes → Bytes → Bytes → Res Bytes
substring_gives third second top = do
  start ← number second
  count ← number top
  given (take (taken count) (drop (skipped start) third))
