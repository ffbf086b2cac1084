-- What the contracts of this crate share: the paper's code for each case of an enum, and what a code comes to on one element.
use Rattle.std.specs.Prelude.{Bool, not, ℕ, if◌then◌else◌}
use Rattle.paper.specs.Bytes.{Bytes, is_letter, is_digit}
use Rattle.paper.specs.Sizes.{entry_most}
use Rattle.paper.specs.Refusals.{Res}
use Rattle.paper.specs.Codes.{Plain}
use Rattle.paper.specs.Texts.{plain_gives, raised, lowered}
use Rattle.paper.specs.Steps.{limited}
use Rattle.texts.specs.declared.Class.{Class}
use Rattle.texts.specs.declared.Class.TheVariants.{Letters, OtherThanLetters, Numerals, OtherThanNumerals}
use Rattle.texts.specs.declared.Casing.{Casing}
use Rattle.texts.specs.declared.Casing.TheVariants.{Upper, Lower, Title}

-- "any element, stack entry or step result 1,024": what the code gives, or a refusal
abbrev pub outcome : Plain → Bytes → Res Bytes
outcome p e = limited entry_most (plain_gives p e)

-- `MCA` `MC/A` `MCN` `MC/N`
unfoldable pub kept_code : Class → Plain
kept_code Letters = Plain.letters
kept_code OtherThanLetters = Plain.other_than_letters
kept_code Numerals = Plain.numerals
kept_code OtherThanNumerals = Plain.other_than_numerals

-- the bytes that such a code keeps
unfoldable pub kept : Class → ℕ → Bool
kept Letters b = is_letter b
kept OtherThanLetters b = not (is_letter b)
kept Numerals b = is_digit b
kept OtherThanNumerals b = not (is_digit b)

-- `MCU` `MCL` `MCT`
unfoldable pub cased_code : Casing → Plain
cased_code Upper = Plain.upper
cased_code Lower = Plain.lower
cased_code Title = Plain.title

-- one byte under such a code, after a letter or not
unfoldable pub turned : Casing → Bool → ℕ → ℕ
turned Upper after_letter b = raised b
turned Lower after_letter b = lowered b
turned Title after_letter b = if after_letter then lowered b else raised b
