-- Document 01, "The code grammar", and document 02, L1, by place: the codes other than F, the lines of crates/paper/specs/Grammar.antt in their order,
-- as the enums of `codes`.
use Rattle.std.specs.Prelude.{ℕ, ◌-◌, Bool, true, false, not, ◌||◌, [], ◌∷◌, length, drop, ltb}
use Rattle.std.specs.Prelude.{Option as Maybe, Some, None}
use Rattle.std.proofs.Math.Option.{Option, none, some}
use Rattle.paper.specs.Bytes.{Bytes, ch, within, is_digit, digit_value}
use Rattle.paper.specs.Sizes.{is_mark}
use Rattle.paper.specs.Grammar.{is_separator, pattern_list}
use Rattle.paper.specs.Patterns.{tests_in}
use Rattle.codes.specs.declared.Credit.{Credit}
use Rattle.codes.specs.declared.Fill.{Fill}
use Rattle.codes.specs.declared.Plain.{Plain}
use Rattle.codes.specs.declared.Class.{Class}
use Rattle.codes.specs.declared.Test.{Test}
use Rattle.codes.specs.declared.Conversion.{Conversion}
use Rattle.readers.specs.Places.{Placed, follow, ◌>>=◌, ◌>>◌, gives, fails, only_if, ahead, digit_ahead, choose, choose_or, this, flag}
use Rattle.readers.specs.Places.{numeral_ahead, num, literal}

-- `G{num}x num`, "x any byte not a digit or mark"
unfoldable pub separates : ℕ → Bool
separates b = not (is_digit b || is_mark b)

abbrev pub separator : Placed ℕ
separator = ahead separates gives fails

abbrev pub group_after : ℕ → Placed Plain
group_after skip = do
  x ← separator
  n ← num
  only_if (ltb 0 n)
  gives (Plain.Group skip x n)

abbrev pub group_code : Placed Plain
group_code = numeral_ahead 3 group_after (group_after 0)

-- `T num` or `T num,num`
abbrev pub extract_from : ℕ → Placed Plain
extract_from start = do
  only_if (ltb 0 start)
  n ← num
  gives (Plain.Extract start n)

abbrev pub extract_code : Placed Plain
extract_code = num >>= λ n. choose_or ((ch ",", extract_from n) ∷ []) (gives (Plain.Extract 1 n))

-- `L`, `L num`, `L num,num`
abbrev pub admit_from : ℕ → Placed Plain
admit_from least = num >>= λ most. gives (Plain.Admit least most)

abbrev pub length_after : ℕ → Placed Plain
length_after n = choose_or ((ch ",", admit_from n) ∷ []) (gives (Plain.Admit 0 n))

abbrev pub length_code : Placed Plain
length_code = numeral_ahead 3 length_after (gives Plain.Measure)

-- `MCA` `MC/A` `MCN` `MC/N` `MCU` `MCL` `MCT`
abbrev pub except_code : Placed Plain
except_code = choose ((ch "A", gives Plain.OtherThanLetters) ∷ (ch "N", gives Plain.OtherThanNumerals) ∷ [])

abbrev pub character_code : Placed Plain
character_code =
    choose
    ((ch "A", gives Plain.Letters)
    ∷ (ch "N", gives Plain.Numerals)
    ∷ (ch "/", except_code)
    ∷ (ch "U", gives Plain.Upper)
    ∷ (ch "L", gives Plain.Lower)
    ∷ (ch "T", gives Plain.Title)
    ∷ [])

-- `{n{m}}`
abbrev pub scales : Placed (ℕ × ℕ)
scales = digit_ahead (λ n. digit_ahead (λ m. gives (n, m)) (gives (n, n))) (gives (0, 0))

-- "{C, D, E, M or N}"
abbrev pub credit_letter : Placed (Maybe Credit)
credit_letter =
    choose_or
    ((ch "C", gives (Some Credit.Credit))
    ∷ (ch "D", gives (Some Credit.Debit))
    ∷ (ch "E", gives (Some Credit.Enclosed))
    ∷ (ch "M", gives (Some Credit.Trailing))
    ∷ (ch "N", gives (Some Credit.Suppressed))
    ∷ [])
    (gives None)

-- `(fill num)`
abbrev pub fill_byte : Placed ℕ
fill_byte = choose ((ch "#", gives (ch " ")) ∷ (ch "*", gives (ch "*")) ∷ (ch "%", gives (ch "0")) ∷ [])

abbrev pub fill_field : ℕ → Placed (Maybe Fill)
fill_field fill = do
  width ← num
  only_if (within 1 99 width)
  this (ch ")")
  gives (Some (record { byte = fill; width = width }))

abbrev pub fill_width : Placed (Maybe Fill)
fill_width = fill_byte >>= fill_field

abbrev pub fill_part : Placed (Maybe Fill)
fill_part = choose_or ((ch "(", fill_width) ∷ []) (gives None)

-- `ML` or `MR`, then `{n{m}}{Z}{,}{C, D, E, M or N}{$}{(fill num)}`
unfoldable pub mask_code : Bool → Placed Conversion
mask_code left = do
  nm ← scales
  z ← flag (ch "Z")
  commas ← flag (ch ",")
  cr ← credit_letter
  dollar ← flag (ch "$")
  fill ← fill_part
  gives
      (Conversion.Mask
      (record {
        left = left;
        decimals = nm.0;
        scale = nm.1;
        blank_zero = z;
        commas = commas;
        credits = cr;
        dollar = dollar;
        filled = fill;
      }))

-- `D{n}{s}`
abbrev pub date_after : ℕ → Placed Conversion
date_after n =
    ahead is_separator (λ s. gives (Conversion.Date n (Some s))) (gives (Conversion.Date n None))

abbrev pub date_code : Placed Conversion
date_code = ahead (within (ch "0") (ch "4")) (λ b. date_after (digit_value b)) (date_after 4)

-- Document 02, L1: `N`, `A` or `X`
abbrev pub class_letter : Placed Class
class_letter = choose ((ch "N", gives Class.Numeric) ∷ (ch "A", gives Class.Alpha) ∷ (ch "X", gives Class.Character) ∷ [])

-- "`nN`, `nA`, `nX`", after n
unfoldable pub count_test : ℕ → Placed Test
count_test n = class_letter >>= λ c. gives (Test.SoMany n c)

-- "a quoted literal"
unfoldable pub literal_test : ℕ → Placed Test
literal_test = literal Test.Literal

unfoldable pub quoted_test : Placed Test
quoted_test = choose ((ch "'", literal_test (ch "'")) ∷ (ch "\"", literal_test (ch "\"")) ∷ [])

-- "n of 1 to 3 digits"
abbrev pub test : Placed Test
test = numeral_ahead 2 count_test quoted_test

-- Patterns are skimmed and not kept: the size of what the paper reads, and the place after it.
unfoldable pub skimmed : {A : Type 0} → (A → ℕ) → Bytes → Option (A × Bytes) → Option (ℕ × ℕ)
skimmed size s none = none
skimmed size s (some r) = some (size r.0, length s - length r.1)

-- "`P` and one or more patterns": where they begin, and the tests in all of them
unfoldable pub pattern_code : Placed Conversion
pattern_code s at = follow (skimmed tests_in s (pattern_list (drop at s))) (λ tests. gives (Conversion.Patterns at tests)) s

abbrev pub plained : Option (Plain × ℕ) → Option (Conversion × ℕ)
plained none = none
plained (some r) = some (Conversion.Plain r.0, r.1)

abbrev pub as_plain : Placed Plain → Placed Conversion
as_plain r s at = plained (r s at)

-- `MC..`, `MX`, `MY`, `ML..`, `MR..`
unfoldable pub masking_code : Placed Conversion
masking_code =
    choose
    ((ch "C", as_plain character_code)
    ∷ (ch "X", gives (Conversion.Plain Plain.Hex))
    ∷ (ch "Y", gives (Conversion.Plain Plain.Unhex))
    ∷ (ch "L", mask_code true)
    ∷ (ch "R", mask_code false)
    ∷ [])

-- a code other than F
unfoldable pub conversion : Placed Conversion
conversion =
    choose
    ((ch "G", as_plain group_code)
    ∷ (ch "T", as_plain extract_code)
    ∷ (ch "L", as_plain length_code)
    ∷ (ch "M", masking_code)
    ∷ (ch "D", date_code)
    ∷ (ch "P", pattern_code)
    ∷ [])
