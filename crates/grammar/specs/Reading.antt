-- Document 01, "The code grammar", by place: the elms of F, the lines of crates/paper/specs/Grammar.antt in their order, as the enums of `codes`.
use Rattle.std.specs.Prelude.{ℕ, [], ◌∷◌}
use Rattle.paper.specs.Bytes.{ch}
use Rattle.codes.specs.declared.Relation.{Relation}
use Rattle.codes.specs.declared.Arithmetic.{Arithmetic}
use Rattle.codes.specs.declared.Operator.{Operator}
use Rattle.codes.specs.declared.Repeat.{Repeat}
use Rattle.codes.specs.declared.Operand.{Operand}
use Rattle.codes.specs.declared.Elm.{Elm}
use Rattle.readers.specs.Places.{Placed, ◌>>=◌, ◌>>◌, gives, digit_ahead, choose, choose_or, this, numeral_ahead, literal}
use Rattle.readers.specs.Reading.{conversion}

-- "1 to 3 digits, then nothing, `R` or `RR` (an attribute)"
abbrev pub repeats : Placed Repeat
repeats =
    choose_or
    ((ch "R", choose_or ((ch "R", gives Repeat.FirstSubvalue) ∷ []) (gives Repeat.FirstValue)) ∷ [])
    (gives Repeat.Each)

abbrev pub attribute_elm : ℕ → Placed Elm
attribute_elm n = repeats >>= λ r. gives (Elm.Push (Operand.Attribute n r))

-- "zero or more bytes in `'` or `"`, without that quote"
abbrev pub literal_elm : ℕ → Placed Elm
literal_elm = literal (λ start len. Elm.Push (Operand.Literal start len))

-- `LPV`
abbrev pub previous_elm : Placed Elm
previous_elm = do
  this (ch "P")
  this (ch "V")
  gives (Elm.Push Operand.Previous)

-- "`*` or `*` and a digit"
abbrev pub multiply_elm : Placed Elm
multiply_elm =
    digit_ahead (λ n. gives (Elm.Binary (Operator.Arithmetic (Arithmetic.Multiply n)))) (gives (Elm.Binary (Operator.Arithmetic (Arithmetic.Multiply 0))))

-- `[]`, or `[` alone
abbrev pub bracket_elm : Placed Elm
bracket_elm = choose_or ((ch "]", gives Elm.Substring) ∷ []) (gives (Elm.Binary (Operator.Relate Relation.AtMost)))

-- "or any one code below in parentheses"
abbrev pub converting_elm : Placed Elm
converting_elm = do
  c ← conversion
  this (ch ")")
  gives (Elm.Convert c)

-- the elms of one byte
abbrev pub single_elm : Placed Elm
single_elm =
    choose
    ((ch "/", gives (Elm.Binary (Operator.Arithmetic Arithmetic.Divide)))
    ∷ (ch "R", gives (Elm.Binary (Operator.Arithmetic Arithmetic.Rest)))
    ∷ (ch "+", gives (Elm.Binary (Operator.Arithmetic Arithmetic.Add)))
    ∷ (ch "-", gives (Elm.Binary (Operator.Arithmetic Arithmetic.Subtract)))
    ∷ (ch ":", gives (Elm.Binary Operator.Concatenate))
    ∷ (ch "_", gives Elm.Exchange)
    ∷ (ch "P", gives Elm.Duplicate)
    ∷ (ch "=", gives (Elm.Binary (Operator.Relate Relation.Equal)))
    ∷ (ch "#", gives (Elm.Binary (Operator.Relate Relation.Unequal)))
    ∷ (ch ">", gives (Elm.Binary (Operator.Relate Relation.Greater)))
    ∷ (ch "<", gives (Elm.Binary (Operator.Relate Relation.Lesser)))
    ∷ (ch "]", gives (Elm.Binary (Operator.Relate Relation.AtLeast)))
    ∷ [])

-- the other elms, by their first byte
abbrev pub longer_elm : Placed Elm
longer_elm =
    choose_or
    ((ch "'", literal_elm (ch "'"))
    ∷ (ch "\"", literal_elm (ch "\""))
    ∷ (ch "L", previous_elm)
    ∷ (ch "*", multiply_elm)
    ∷ (ch "[", bracket_elm)
    ∷ (ch "(", converting_elm)
    ∷ [])
    single_elm

unfoldable pub elm : Placed Elm
elm = numeral_ahead 2 attribute_elm longer_elm
