-- What the grammar keeps an elm's numbers within: the functions of a step take no others.
use Rattle.std.specs.Prelude.{ℕ, ◌+◌, ◌≤◌, length}
use Rattle.paper.specs.Bytes.{Bytes}
use Rattle.codes.specs.declared.Relation.{Relation}
use Rattle.codes.specs.declared.Arithmetic.{Arithmetic}
use Rattle.codes.specs.declared.Operator.{Operator}
use Rattle.codes.specs.declared.Conversion.{Conversion}
use Rattle.codes.specs.declared.Repeat.{Repeat}
use Rattle.codes.specs.declared.Operand.{Operand}
use Rattle.codes.specs.declared.Elm.{Elm}
use Rattle.giving.specs.Bounds.{ConversionWithin}

-- a literal lies within its code
pub data OperandWithin (code : Bytes) : Operand → Type 0 where
  attribute_within : {n : ℕ} {r : Repeat} → OperandWithin code (Operand.Attribute n r)
  literal_within : {start len : ℕ} → start + len ≤ length code → OperandWithin code (Operand.Literal start len)
  previous_within : OperandWithin code Operand.Previous

-- `*n`: n is a digit
pub data ArithmeticWithin : Arithmetic → Type 0 where
  multiply_within : {n : ℕ} → n ≤ 9 → ArithmeticWithin (Arithmetic.Multiply n)
  divide_within : ArithmeticWithin Arithmetic.Divide
  rest_within : ArithmeticWithin Arithmetic.Rest
  add_within : ArithmeticWithin Arithmetic.Add
  subtract_within : ArithmeticWithin Arithmetic.Subtract

pub data OperatorWithin : Operator → Type 0 where
  arithmetic_within : {a : Arithmetic} → ArithmeticWithin a → OperatorWithin (Operator.Arithmetic a)
  concatenate_within : OperatorWithin Operator.Concatenate
  relate_within : {r : Relation} → OperatorWithin (Operator.Relate r)

pub data ElmWithin (code : Bytes) : Elm → Type 0 where
  push_within : {o : Operand} → OperandWithin code o → ElmWithin code (Elm.Push o)
  binary_within : {o : Operator} → OperatorWithin o → ElmWithin code (Elm.Binary o)
  substring_within : ElmWithin code Elm.Substring
  exchange_within : ElmWithin code Elm.Exchange
  duplicate_within : ElmWithin code Elm.Duplicate
  convert_within : {c : Conversion} → ConversionWithin code c → ElmWithin code (Elm.Convert c)
