-- What each case of these enums is in the paper's definitions.
use Rattle.std.specs.Prelude.{ℕ, List, [], take, drop, None, Some}
use Rattle.std.specs.Prelude.{Option as Maybe}
use Rattle.std.proofs.Math.Option.{Option, none, some}
use Rattle.paper.specs.Bytes.{Bytes}
use Rattle.paper.specs.Answers.{maybe, maybe_by}
use Rattle.paper.specs.Numbers as numbers
use Rattle.paper.specs.Codes as paper
use Rattle.paper.specs.Grammar.{pattern_list}
use Rattle.codes.specs.declared.Relation.{Relation}
use Rattle.codes.specs.declared.Arithmetic.{Arithmetic}
use Rattle.codes.specs.declared.Operator.{Operator}
use Rattle.codes.specs.declared.Credit.{Credit}
use Rattle.codes.specs.declared.Fill.{Fill}
use Rattle.codes.specs.declared.Mask.{Mask}
use Rattle.codes.specs.declared.Plain.{Plain}
use Rattle.codes.specs.declared.Class.{Class}
use Rattle.codes.specs.declared.Test.{Test}
use Rattle.codes.specs.declared.Conversion.{Conversion}
use Rattle.codes.specs.declared.Repeat.{Repeat}
use Rattle.codes.specs.declared.Operand.{Operand}
use Rattle.codes.specs.declared.Elm.{Elm}

unfoldable pub relation_of : Relation → numbers.Relation
relation_of Relation.Equal = numbers.equal
relation_of Relation.Unequal = numbers.unequal
relation_of Relation.Greater = numbers.greater
relation_of Relation.Lesser = numbers.lesser
relation_of Relation.AtLeast = numbers.at_least
relation_of Relation.AtMost = numbers.at_most

unfoldable pub arithmetic_of : Arithmetic → numbers.Binary
arithmetic_of (Arithmetic.Multiply n) = numbers.multiply n
arithmetic_of Arithmetic.Divide = numbers.divide
arithmetic_of Arithmetic.Rest = numbers.rest
arithmetic_of Arithmetic.Add = numbers.add
arithmetic_of Arithmetic.Subtract = numbers.subtract

unfoldable pub operator_of : Operator → numbers.Binary
operator_of (Operator.Arithmetic a) = arithmetic_of a
operator_of Operator.Concatenate = numbers.concatenate
operator_of (Operator.Relate r) = numbers.relate (relation_of r)

unfoldable pub credit_of : Maybe Credit → paper.Credit
credit_of None = paper.no_credit
credit_of (Some Credit.Credit) = paper.credit
credit_of (Some Credit.Debit) = paper.debit
credit_of (Some Credit.Enclosed) = paper.enclosed
credit_of (Some Credit.Trailing) = paper.trailing
credit_of (Some Credit.Suppressed) = paper.suppressed

abbrev pub fill_of : Maybe Fill → Option (ℕ × ℕ)
fill_of filled = maybe_by (λ f. (f.byte, f.width)) filled

unfoldable pub mask_of : Mask → paper.Mask
mask_of m =
    record {
      left = m.left;
      decimals = m.decimals;
      scale = m.scale;
      blank_zero = m.blank_zero;
      commas = m.commas;
      credits = credit_of m.credits;
      dollar = m.dollar;
      filled = fill_of m.filled;
    }

unfoldable pub plain_of : Plain → paper.Plain
plain_of (Plain.Group skip separator count) = paper.group skip separator count
plain_of (Plain.Extract start count) = paper.extract start count
plain_of Plain.Measure = paper.measure
plain_of (Plain.Admit least most) = paper.admit least most
plain_of Plain.Letters = paper.letters
plain_of Plain.OtherThanLetters = paper.other_than_letters
plain_of Plain.Numerals = paper.numerals
plain_of Plain.OtherThanNumerals = paper.other_than_numerals
plain_of Plain.Upper = paper.upper
plain_of Plain.Lower = paper.lower
plain_of Plain.Title = paper.title
plain_of Plain.Hex = paper.hex
plain_of Plain.Unhex = paper.unhex

unfoldable pub class_of : Class → paper.Class
class_of Class.Numeric = paper.numeric
class_of Class.Alpha = paper.alpha
class_of Class.Character = paper.character

-- a literal's bytes stand in the code string
unfoldable pub test_of : Bytes → Test → paper.Test
test_of string (Test.SoMany count class) = paper.so_many count (class_of class)
test_of string (Test.Literal start len) = paper.literal (take len (drop start string))

abbrev pub patterns_read : Option (List paper.Pattern × Bytes) → List paper.Pattern
patterns_read none = []
patterns_read (some r) = r.0

-- the patterns that are read from a place of the code string on
unfoldable pub patterns_at : Bytes → ℕ → List paper.Pattern
patterns_at string start = patterns_read (pattern_list (drop start string))

-- a code other than F may point into its code string, as a literal does
unfoldable pub conversion_of : Bytes → Conversion → paper.Conversion
conversion_of string (Conversion.Plain p) = paper.plain (plain_of p)
conversion_of string (Conversion.Mask m) = paper.mask (mask_of m)
conversion_of string (Conversion.Date digits separator) = paper.date digits (maybe separator)
conversion_of string (Conversion.Patterns start tests) = paper.patterns (patterns_at string start)

unfoldable pub repeat_of : Repeat → paper.Repeat
repeat_of Repeat.Each = paper.each
repeat_of Repeat.FirstValue = paper.first_value
repeat_of Repeat.FirstSubvalue = paper.first_subvalue

-- and so do those of a literal of F
unfoldable pub operand_of : Bytes → Operand → paper.Operand
operand_of string (Operand.Attribute number repeat) = paper.attribute number (repeat_of repeat)
operand_of string (Operand.Literal start len) = paper.literal (take len (drop start string))
operand_of string Operand.Previous = paper.previous

unfoldable pub elm_of : Bytes → Elm → paper.Elm
elm_of string (Elm.Push o) = paper.push (operand_of string o)
elm_of string (Elm.Binary o) = paper.binary (operator_of o)
elm_of string Elm.Substring = paper.substring
elm_of string Elm.Exchange = paper.exchange
elm_of string Elm.Duplicate = paper.duplicate
elm_of string (Elm.Convert c) = paper.convert (conversion_of string c)
