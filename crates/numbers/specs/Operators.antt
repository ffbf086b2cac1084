-- The digits that an operator drops of its product.
use Rattle.std.specs.Prelude.{ℕ}
use Rattle.codes.specs.declared.Arithmetic.{Arithmetic}
use Rattle.codes.specs.declared.Operator.{Operator}

-- the digits that `*n` drops
abbrev pub scales : Arithmetic → ℕ
scales (Arithmetic.Multiply n) = n
scales Arithmetic.Divide = 0
scales Arithmetic.Rest = 0
scales Arithmetic.Add = 0
scales Arithmetic.Subtract = 0

abbrev pub scale_of : Operator → ℕ
scale_of (Operator.Arithmetic a) = scales a
scale_of Operator.Concatenate = 0
scale_of (Operator.Relate r) = 0
