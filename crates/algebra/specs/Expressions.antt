-- Document 02, L4: the A code. Its expressions, their meaning, and the F text that they are shown as. What only this call needs stands here and in
-- the two files beside it, Grammar and Showing; attributes, literals, operators and the check are crates/paper's.
use Rattle.std.specs.Prelude.{ℕ, List, [], ◌∷◌, ◌++◌, map}
use Rattle.paper.specs.Bytes.{Bytes, ch, bytes}
use Rattle.paper.specs.Records.{reads}
use Rattle.paper.specs.Numbers.{Binary, binary_gives, substring_gives}
use Rattle.paper.specs.Codes.{Repeat, Elm}
use Rattle.paper.specs.Codes as F
use Rattle.paper.specs.Steps.{load_path, limited}
use Rattle.paper.specs.Refusals.{Res, given, ◌>>=◌}

-- an operator: what it does with the value on its left and the one on its right, and its spelling in F
pub record Operator : Type 0 where
  pub does : Binary
  pub in_F : Bytes

mutual
  -- "An expression holds operands": one alone, or an expression, an operator and one operand more, "strictly left to right with no precedence"
  pub data Expression : Type 0 where
    alone : Operand → Expression
    joined : Expression → Operator → Operand → Expression

  -- "and an operand in parentheses holds an expression again"; an attribute and a literal have their spelling in front
  pub data Operand : Type 0 where
    attribute : Bytes → ℕ → Repeat → Operand
    literal : Bytes → Bytes → Operand
    parenthesised : Expression → Operand
    -- `R(x,y)`
    remainder : Expression → Expression → Operand
    -- `x[y,z]`, "that x an operand, the rest expressions"
    substring : Operand → Expression → Expression → Operand

-- "Write the meaning of an A code as the value of its expression, with no stack in it": on a record and a position, over the limit on an entry
module _ (most : ℕ) (item : Bytes) (v s : ℕ) where
  unfoldable mutual
    pub value : Expression → Res Bytes
    value (alone x) = operand_value x
    value (joined e o x) = do
      left ← value e
      right ← operand_value x
      limited most (binary_gives o.does left right)

    pub operand_value : Operand → Res Bytes
    operand_value (attribute text n r) = limited most (given (reads item (load_path n r v s)))
    operand_value (literal text bs) = limited most (given bs)
    operand_value (parenthesised e) = value e
    operand_value (remainder e f) = do
      x ← value e
      y ← value f
      limited most (binary_gives Binary.rest x y)
    operand_value (substring x e f) = do
      text ← operand_value x
      start ← value e
      count ← value f
      limited most (substring_gives text start count)

-- an elm of F and its spelling
pub record Spelt : Type 0 where
  pub text : Bytes
  pub elm : Elm

abbrev pub spelt : Bytes → Elm → Spelt
spelt text e = record { text = text; elm = e }

-- "operands in written order and spelling, each operator in F's spelling straight after its operands"
unfoldable mutual
  pub elms_in : Expression → List Spelt
  elms_in (alone x) = operand_elms x
  elms_in (joined e o x) = elms_in e ++ operand_elms x ++ spelt o.in_F (Elm.binary o.does) ∷ []

  pub operand_elms : Operand → List Spelt
  operand_elms (attribute text n r) = spelt text (Elm.push (F.Operand.attribute n r)) ∷ []
  operand_elms (literal text bs) = spelt text (Elm.push (F.Operand.literal bs)) ∷ []
  operand_elms (parenthesised e) = elms_in e
  operand_elms (remainder e f) = elms_in e ++ elms_in f ++ spelt (bytes "R") (Elm.binary Binary.rest) ∷ []
  operand_elms (substring x e f) = operand_elms x ++ elms_in e ++ elms_in f ++ spelt (bytes "[]") Elm.substring ∷ []

-- each elm behind a `;`
unfoldable pub behind : List Spelt → Bytes
behind [] = []
behind (t ∷ ts) = ch ";" ∷ t.text ++ behind ts

-- `F;elm;elm...`
unfoldable pub f_text : Expression → Bytes
f_text e = ch "F" ∷ behind (elms_in e)

-- and the elms that it stands for
unfoldable pub f_elms : Expression → List Elm
f_elms e = map (λ (t : Spelt). t.elm) (elms_in e)
