-- The laws of what an elm pushes: the place that an attribute is loaded from, and a literal's place in its code. Assumes nothing.
use mathlib.Core.Path.{◌≡◌, refl}
use Prim.Native.Nat.{ℕ, zero, suc, ◌+◌, ◌-◌, ◌≤◌}
use native.Mathlib.Omega.{arith}
use lib.ListN.{length, take, drop}
use Rattle.paper.specs.Bytes.{Bytes}
use Rattle.paper.specs.Records.{path, reads}
use Rattle.paper.specs.Sizes.{number_digits}
use Rattle.paper.specs.Codes as paper
use Rattle.paper.specs.Steps.{Setting, load_path, operand}
use Rattle.codes.specs.declared.Repeat.{Repeat}
use Rattle.codes.specs.declared.Operand.{Operand}
use Rattle.codes.specs.declared.Arithmetic.{Arithmetic}
use Rattle.codes.specs.declared.Operator.{Operator}
use Rattle.codes.specs.declared.Conversion.{Conversion}
use Rattle.codes.specs.declared.Elm.{Elm}
use Rattle.codes.specs.Meaning.{repeat_of, operand_of}
use Rattle.numbers.specs.Operators.{scales, scale_of}
use Rattle.giving.specs.Bounds.{ConversionWithin}
use Rattle.steps.specs.Bounds.{OperandWithin, literal_within, ArithmeticWithin, multiply_within, divide_within, rest_within, add_within, subtract_within, OperatorWithin, arithmetic_within, concatenate_within, relate_within, ElmWithin, push_within, binary_within, convert_within}
use Rattle.stack.proofs.Putting.{from_to}

-- the value and the subvalue that are loaded
abbrev turned : paper.Repeat → ℕ → ℕ → ℕ × ℕ
turned paper.each v s = (v, s)
turned paper.first_value v s = (1, s)
turned paper.first_subvalue v s = (1, 1)

pub load_id : (n : ℕ) (r : paper.Repeat) (v s : ℕ) → n ≡ 0 → path 0 0 0 ≡ load_path n r v s
unfolding load_path
load_id n r v s e = rw e

pub loads : {part : Bytes} {r q : Repeat} (item : Bytes) (n v s : ℕ) → r ≡ q → (n ≡ 0 → ⊥)
    → part ≡ reads item (path n (turned (repeat_of q) v s).0 (turned (repeat_of q) v s).1) → part ≡ reads item (load_path n (repeat_of r) v s)
unfolding load_path repeat_of
loads item zero v s e ne p = absurd (ne refl)
loads {q = Repeat.Each} item (suc n) v s e ne p = rw e p
loads {q = Repeat.FirstValue} item (suc n) v s e ne p = rw e p
loads {q = Repeat.FirstSubvalue} item (suc n) v s e ne p = rw e p

-- a literal lies within its code, and is the part there
pub literal_ends : {code : Bytes} {start len : ℕ} → OperandWithin code (Operand.Literal start len) → start + len ≤ length code
literal_ends (literal_within h) = h

module _ {o : Operand} (code : Bytes) (c : Setting) where
  pub attribute_operand : {n : ℕ} {r : Repeat} {part : Bytes} → o ≡ Operand.Attribute n r → part ≡ reads c.item (load_path n (repeat_of r) c.v c.s)
      → part ≡ operand c (operand_of code o)
  unfolding operand operand_of
  attribute_operand e p = rw e p

  pub literal_operand : {start len : ℕ} → o ≡ Operand.Literal start len → take (start + len - start) (drop start code) ≡ operand c (operand_of code o)
  unfolding operand operand_of
  literal_operand {start} {len} e = rw e (from_to code start len)

  pub previous_operand : o ≡ Operand.Previous → c.previous ≡ operand c (operand_of code o)
  unfolding operand operand_of
  previous_operand e = rw e

-- `*n`: n is a digit
arithmetic_scale : {a : Arithmetic} → ArithmeticWithin a → scales a ≤ number_digits
arithmetic_scale (multiply_within h) = omega arith
arithmetic_scale divide_within = omega arith
arithmetic_scale rest_within = omega arith
arithmetic_scale add_within = omega arith
arithmetic_scale subtract_within = omega arith

pub operator_scale : {o : Operator} → OperatorWithin o → scale_of o ≤ number_digits
operator_scale (arithmetic_within h) = arithmetic_scale h
operator_scale concatenate_within = omega arith
operator_scale relate_within = omega arith

-- the operand, operator and code of an elm
pub push_operand : {code : Bytes} {o : Operand} → ElmWithin code (Elm.Push o) → OperandWithin code o
push_operand (push_within h) = h

pub binary_operator : {code : Bytes} {o : Operator} → ElmWithin code (Elm.Binary o) → OperatorWithin o
binary_operator (binary_within h) = h

pub convert_conversion : {code : Bytes} {c : Conversion} → ElmWithin code (Elm.Convert c) → ConversionWithin code c
convert_conversion (convert_within h) = h
