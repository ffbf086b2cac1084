-- Document 01, "The code grammar", and document 02, L1: readers that look one byte ahead and commit, a line for each line of the grammar.
use Rattle.std.specs.Prelude.{ℕ, zero, suc, ◌+◌, ◌*◌, Bool, true, false, not, ◌&&◌, ◌||◌, List, [], ◌∷◌, length, ltb, eqb, if◌then◌else◌}
use Rattle.std.proofs.Math.Option.{Option, none, some}
use Rattle.paper.specs.Bytes.{Bytes, ch, within, is_digit, is_letter, digit_value, any}
use Rattle.paper.specs.Sizes.{is_mark}
use Rattle.paper.specs.Numbers.{Binary, Relation}
use Rattle.paper.specs.Codes.{Plain, Credit, Class, Test, Pattern, Conversion, Repeat, Operand, Elm, Code}

infixl 5 ◌>>=◌ ◌>>◌
-- What stands at the front of the bytes and the bytes after it, or none.
abbrev pub Reader : Type 0 → Type 0
Reader A = Bytes → Option (A × Bytes)

abbrev pub follow : {A B : Type 0} → Option (A × Bytes) → (A → Reader B) → Option (B × Bytes)
follow none k = none
follow (some r) k = k r.0 r.1

abbrev pub ◌>>=◌ : {A B : Type 0} → Reader A → (A → Reader B) → Reader B
◌>>=◌ r k bs = follow (r bs) k

abbrev pub ◌>>◌ : {A B : Type 0} → Reader A → Reader B → Reader B
◌>>◌ r q bs = follow (r bs) (λ _. q)

abbrev pub gives : {A : Type 0} → A → Reader A
gives a bs = some (a, bs)

abbrev pub fails : {A : Type 0} → Reader A
fails bs = none

-- a test that nothing is eaten by
abbrev pub only_if : Bool → Reader (Unit {0})
only_if true bs = some (tt, bs)
only_if false bs = none

-- one byte ahead: if it passes the test it is eaten, and k goes on with it; if not, `other` does
abbrev pub ahead : {A : Type 0} → (ℕ → Bool) → (ℕ → Reader A) → Reader A → Reader A
ahead p k other [] = other []
ahead p k other (b ∷ bs) = if p b then k b bs else other (b ∷ bs)

-- this byte
unfoldable pub this : ℕ → Reader (Unit {0})
this c = ahead (eqb c) (λ _. gives tt) fails

-- whether this byte stands here; it is eaten if it does
unfoldable pub flag : ℕ → Reader Bool
flag c = ahead (eqb c) (λ _. gives true) (gives false)

-- the reader that the next byte names
unfoldable pub choose : {A : Type 0} → List (ℕ × Reader A) → Reader A
choose [] = fails
choose (c ∷ cs) = ahead (eqb c.0) (λ _. c.1) (choose cs)

-- up to k more digits
unfoldable pub more_digits : ℕ → ℕ → Reader ℕ
more_digits zero n = gives n
more_digits (suc k) n = ahead is_digit (λ b. more_digits k (n * 10 + digit_value b)) (gives n)

-- one digit, and up to k more
unfoldable pub numeral : ℕ → Reader ℕ
numeral k = ahead is_digit (λ b. more_digits k (digit_value b)) fails

-- ""num" is 1 to 4 digits"
unfoldable pub num : Reader ℕ
num = numeral 3

-- "zero or more bytes .. without that quote", up to the quote
abbrev pub onto : ℕ → Option (Bytes × Bytes) → Option (Bytes × Bytes)
onto b none = none
onto b (some r) = some (b ∷ r.0, r.1)

unfoldable pub quoted : ℕ → Reader Bytes
quoted q [] = none
quoted q (b ∷ bs) = if eqb b q then some ([], bs) else onto b (quoted q bs)

-- `G{num}x num`, "x any byte not a digit or mark, second num at least 1"
unfoldable pub separator : Reader ℕ
separator = ahead (λ b. not (is_digit b || is_mark b)) gives fails

unfoldable pub group_after : ℕ → Reader Plain
group_after skip = do
  x ← separator
  n ← num
  only_if (ltb 0 n)
  gives (Plain.group skip x n)

unfoldable pub group_code : Reader Plain
group_code = ahead is_digit (λ b. more_digits 3 (digit_value b) >>= group_after) (group_after 0)

-- `T num` or `T num,num`, "a start at least 1"
unfoldable pub extract_from : ℕ → Reader Plain
extract_from start = do
  only_if (ltb 0 start)
  n ← num
  gives (Plain.extract start n)

unfoldable pub extract_code : Reader Plain
extract_code = num >>= λ n. ahead (eqb (ch ",")) (λ _. extract_from n) (gives (Plain.extract 1 n))

-- `L`, `L num`, `L num,num`
unfoldable pub admit_from : ℕ → Reader Plain
admit_from least = num >>= λ most. gives (Plain.admit least most)

unfoldable pub length_after : ℕ → Reader Plain
length_after n = ahead (eqb (ch ",")) (λ _. admit_from n) (gives (Plain.admit 0 n))

unfoldable pub length_code : Reader Plain
length_code = ahead is_digit (λ b. more_digits 3 (digit_value b) >>= length_after) (gives Plain.measure)

-- `MCA` `MC/A` `MCN` `MC/N` `MCU` `MCL` `MCT`
unfoldable pub except_code : Reader Plain
except_code = choose ((ch "A", gives Plain.other_than_letters) ∷ (ch "N", gives Plain.other_than_numerals) ∷ [])

unfoldable pub character_code : Reader Plain
character_code =
    choose
    ((ch "A", gives Plain.letters)
    ∷ (ch "N", gives Plain.numerals)
    ∷ (ch "/", except_code)
    ∷ (ch "U", gives Plain.upper)
    ∷ (ch "L", gives Plain.lower)
    ∷ (ch "T", gives Plain.title)
    ∷ [])

-- `{n{m}}`: "m absent is n, n absent is 0"
unfoldable pub scales : Reader (ℕ × ℕ)
scales =
    ahead is_digit
    (λ n. ahead is_digit (λ m. gives (digit_value n, digit_value m)) (gives (digit_value n, digit_value n)))
    (gives (0, 0))

-- "{C, D, E, M or N}"
unfoldable pub credit_letter : Reader Credit
credit_letter =
    ahead (eqb (ch "C")) (λ _. gives Credit.credit)
    (ahead (eqb (ch "D")) (λ _. gives Credit.debit)
    (ahead (eqb (ch "E")) (λ _. gives Credit.enclosed)
    (ahead (eqb (ch "M")) (λ _. gives Credit.trailing)
    (ahead (eqb (ch "N")) (λ _. gives Credit.suppressed) (gives Credit.no_credit)))))

-- `(fill num)`, "fill `#`, `*` or `%`, this num 1 to 99"
unfoldable pub fill_byte : Reader ℕ
fill_byte = choose ((ch "#", gives (ch " ")) ∷ (ch "*", gives (ch "*")) ∷ (ch "%", gives (ch "0")) ∷ [])

unfoldable pub fill_width : Reader (Option (ℕ × ℕ))
fill_width = do
  fill ← fill_byte
  width ← num
  only_if (within 1 99 width)
  this (ch ")")
  gives (some (fill, width))

unfoldable pub fill_part : Reader (Option (ℕ × ℕ))
fill_part = ahead (eqb (ch "(")) (λ _. fill_width) (gives none)

unfoldable pub mask_code : Bool → Reader Conversion
mask_code left = do
  nm ← scales
  z ← flag (ch "Z")
  commas ← flag (ch ",")
  cr ← credit_letter
  dollar ← flag (ch "$")
  fill ← fill_part
  gives
      (Conversion.mask
      (record {
        left = left;
        decimals = nm.0;
        scale = nm.1;
        blank_zero = z;
        commas = commas;
        credits = cr;
        dollar = dollar;
        filled = fill;
      }))

-- `D{n}{s}`, "n 0 to 4, s a byte 32 to 126, no letter, digit, parenthesis or semicolon"
unfoldable pub is_separator : ℕ → Bool
is_separator b =
    within 32 126 b && not (is_letter b || is_digit b || eqb b (ch "(") || eqb b (ch ")") || eqb b (ch ";"))

unfoldable pub date_after : ℕ → Reader Conversion
date_after n = ahead is_separator (λ s. gives (Conversion.date n (some s))) (gives (Conversion.date n none))

-- where n is absent it is 4 (001, 4.4)
unfoldable pub date_code : Reader Conversion
date_code = ahead (within (ch "0") (ch "4")) (λ b. date_after (digit_value b)) (date_after 4)

-- one or more, parted by the byte c: each eats a byte, so `fuel` of the bytes' number is enough
unfoldable pub parted : {A : Type 0} → ℕ → ℕ → Reader A → Reader (List A)
parted zero c r = fails
parted (suc fuel) c r = do
  x ← r
  ahead (eqb c) (λ _. parted fuel c r >>= λ xs. gives (x ∷ xs)) (gives (x ∷ []))

-- one or more with nothing between them, up to the byte c, which is eaten
unfoldable pub closed_by : {A : Type 0} → ℕ → ℕ → Reader A → Reader (List A)
closed_by zero c r = fails
closed_by (suc fuel) c r = do
  x ← r
  ahead (eqb c) (λ _. gives (x ∷ [])) (closed_by fuel c r >>= λ xs. gives (x ∷ xs))

-- Document 02, L1. `N`, `A` or `X`
unfoldable pub class_letter : Reader Class
class_letter = choose ((ch "N", gives Class.numeric) ∷ (ch "A", gives Class.alpha) ∷ (ch "X", gives Class.character) ∷ [])

-- "`nN`, `nA`, `nX` .. n of 1 to 3 digits"
unfoldable pub count_test : ℕ → Reader Test
count_test b = do
  n ← more_digits 2 (digit_value b)
  c ← class_letter
  gives (Test.so_many n c)

-- "a quoted literal"
unfoldable pub literal_test : ℕ → Reader Test
literal_test q = quoted q >>= λ bs. gives (Test.literal bs)

unfoldable pub test : Reader Test
test = ahead is_digit count_test (choose ((ch "'", literal_test (ch "'")) ∷ (ch "\"", literal_test (ch "\"")) ∷ []))

-- "one or more tests"
unfoldable pub tests : Reader Pattern
tests bs = closed_by (length bs) (ch ")") test bs

-- "each in parentheses"
unfoldable pub pattern : Reader Pattern
pattern = this (ch "(") >> tests

-- "one or more patterns, .. parted by semicolons"
unfoldable pub pattern_list : Reader (List Pattern)
pattern_list bs = parted (length bs) (ch ";") pattern bs

unfoldable pub pattern_code : Reader Conversion
pattern_code = pattern_list >>= λ ps. gives (Conversion.patterns ps)

abbrev pub as_plain : Reader Plain → Reader Conversion
as_plain r = r >>= λ p. gives (Conversion.plain p)

-- `MC..`, `MX`, `MY`, `ML..`, `MR..`
unfoldable pub masking_code : Reader Conversion
masking_code =
    choose
    ((ch "C", as_plain character_code)
    ∷ (ch "X", gives (Conversion.plain Plain.hex))
    ∷ (ch "Y", gives (Conversion.plain Plain.unhex))
    ∷ (ch "L", mask_code true)
    ∷ (ch "R", mask_code false)
    ∷ [])

-- a code other than F
unfoldable pub conversion : Reader Conversion
conversion =
    choose
    ((ch "G", as_plain group_code)
    ∷ (ch "T", as_plain extract_code)
    ∷ (ch "L", as_plain length_code)
    ∷ (ch "M", masking_code)
    ∷ (ch "D", date_code)
    ∷ (ch "P", pattern_code)
    ∷ [])

-- "1 to 3 digits, then nothing, `R` or `RR` (an attribute)"
unfoldable pub repeats : Reader Repeat
repeats =
    ahead (eqb (ch "R"))
    (λ _. ahead (eqb (ch "R")) (λ _. gives Repeat.first_subvalue) (gives Repeat.first_value))
    (gives Repeat.each)

unfoldable pub attribute_elm : ℕ → Reader Elm
attribute_elm b = do
  n ← more_digits 2 (digit_value b)
  r ← repeats
  gives (Elm.push (Operand.attribute n r))

-- "zero or more bytes in `'` or `"`, without that quote"
unfoldable pub literal_elm : ℕ → Reader Elm
literal_elm q = quoted q >>= λ bs. gives (Elm.push (Operand.literal bs))

-- `LPV`
unfoldable pub previous_elm : Reader Elm
previous_elm = do
  this (ch "P")
  this (ch "V")
  gives (Elm.push Operand.previous)

-- "`*` or `*` and a digit"
unfoldable pub multiply_elm : Reader Elm
multiply_elm =
    ahead is_digit (λ b. gives (Elm.binary (Binary.multiply (digit_value b)))) (gives (Elm.binary (Binary.multiply 0)))

-- `[]`, or `[` alone
unfoldable pub bracket_elm : Reader Elm
bracket_elm = ahead (eqb (ch "]")) (λ _. gives Elm.substring) (gives (Elm.binary (Binary.relate Relation.at_most)))

-- "or any one code below in parentheses"
unfoldable pub converting_elm : Reader Elm
converting_elm = do
  c ← conversion
  this (ch ")")
  gives (Elm.convert c)

abbrev pub two_entries : Binary → Reader Elm
two_entries o = gives (Elm.binary o)

abbrev pub relating : Relation → Reader Elm
relating r = gives (Elm.binary (Binary.relate r))

unfoldable pub operator_elm : Reader Elm
operator_elm =
    choose
    ((ch "'", literal_elm (ch "'"))
    ∷ (ch "\"", literal_elm (ch "\""))
    ∷ (ch "L", previous_elm)
    ∷ (ch "*", multiply_elm)
    ∷ (ch "/", two_entries Binary.divide)
    ∷ (ch "R", two_entries Binary.rest)
    ∷ (ch "+", two_entries Binary.add)
    ∷ (ch "-", two_entries Binary.subtract)
    ∷ (ch ":", two_entries Binary.concatenate)
    ∷ (ch "_", gives Elm.exchange)
    ∷ (ch "P", gives Elm.duplicate)
    ∷ (ch "=", relating Relation.equal)
    ∷ (ch "#", relating Relation.unequal)
    ∷ (ch ">", relating Relation.greater)
    ∷ (ch "<", relating Relation.lesser)
    ∷ (ch "]", relating Relation.at_least)
    ∷ (ch "[", bracket_elm)
    ∷ (ch "(", converting_elm)
    ∷ [])

unfoldable pub elm : Reader Elm
elm = ahead is_digit attribute_elm operator_elm

unfoldable pub elms : Reader (List Elm)
elms bs = parted (length bs) (ch ";") elm bs

-- `F;elm;elm...`, "at least one elm"
unfoldable pub function_code : Reader Code
function_code = do
  this (ch ";")
  es ← elms
  gives (Code.function es)

unfoldable pub code : Reader Code
code = ahead (eqb (ch "F")) (λ _. function_code) (conversion >>= λ c. gives (Code.single c))

-- all of the bytes, and none left
abbrev pub all_read : {A : Type 0} → Option (A × Bytes) → Option A
all_read none = none
all_read (some r) = if eqb (length r.1) 0 then some r.0 else none

-- one whole code; "Bytes 251, 252, 254, 255 and an empty code are 6"
unfoldable pub read : Bytes → Option Code
read bs = if any is_mark bs then none else all_read (code bs)
