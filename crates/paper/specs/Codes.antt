-- Document 01, "The code grammar", and document 02, L1 (tests and patterns): what a code is once it is read.
use Rattle.std.specs.Prelude.{ℕ, Bool, List}
use Rattle.std.proofs.Math.Option.{Option}
use Rattle.paper.specs.Bytes.{Bytes}
use Rattle.paper.specs.Numbers.{Binary}

-- G, T, L, MC, MX and MY: what cuts, keeps or spells bytes
pub data Plain : Type 0 where
  -- `G{num}x num`: fields skipped, the separator, fields taken
  group : ℕ → ℕ → ℕ → Plain
  -- `T num,num`: start and length; `T num` is `T1,num`
  extract : ℕ → ℕ → Plain
  -- `L`
  measure : Plain
  -- `L num,num`: least and most; `L num` is `L0,num`
  admit : ℕ → ℕ → Plain
  -- `MCA` `MC/A` `MCN` `MC/N` `MCU` `MCL` `MCT` `MX` `MY`
  letters other_than_letters numerals other_than_numerals upper lower title hex unhex : Plain

-- "{C, D, E, M or N}", or none
pub data Credit : Type 0 where
  no_credit credit debit enclosed trailing suppressed : Credit

-- `ML` or `MR`, then `{n{m}}{Z}{,}{C, D, E, M or N}{$}{(fill num)}`
pub record Mask : Type 0 where
  pub left : Bool
  pub decimals : ℕ
  pub scale : ℕ
  pub blank_zero : Bool
  pub commas : Bool
  pub credits : Credit
  pub dollar : Bool
  pub filled : Option (ℕ × ℕ)

-- `N`, `A` and `X` (000, 2.12): numeric, alpha, any character
pub data Class : Type 0 where
  numeric alpha character : Class

-- Document 02, L1: "`nN`, `nA`, `nX`, a quoted literal, n of 1 to 3 digits, 0 meaning any number and none"
pub data Test : Type 0 where
  so_many : ℕ → Class → Test
  literal : Bytes → Test

-- "A pattern is one or more tests"
abbrev pub Pattern : Type 0
Pattern = List Test

-- "any one code below": a code other than F
pub data Conversion : Type 0 where
  plain : Plain → Conversion
  mask : Mask → Conversion
  -- `D{n}{s}`: digits of the year, and the separator
  date : ℕ → Option ℕ → Conversion
  -- "`P` and one or more patterns, each in parentheses, parted by semicolons"
  patterns : List Pattern → Conversion

-- an attribute's number is followed by "nothing, `R` or `RR`"
pub data Repeat : Type 0 where
  each first_value first_subvalue : Repeat

-- what an elm may push
pub data Operand : Type 0 where
  attribute : ℕ → Repeat → Operand
  literal : Bytes → Operand
  previous : Operand

pub data Elm : Type 0 where
  push : Operand → Elm
  binary : Binary → Elm
  -- `[]` `_` `P`
  substring exchange duplicate : Elm
  -- "any one code below in parentheses"
  convert : Conversion → Elm

pub data Code : Type 0 where
  function : List Elm → Code
  single : Conversion → Code

-- What a step is charged by: an attribute load, a P code "with T tests in the code", or any other step.
pub data Kind : Type 0 where
  loading : Kind
  testing : ℕ → Kind
  other : Kind

-- Entries taken and entries put by an elm, and its kind: the check, the machine, the cost and the ceiling share these.
pub record Shape : Type 0 where
  pub takes : ℕ
  pub puts : ℕ
  pub kind : Kind
