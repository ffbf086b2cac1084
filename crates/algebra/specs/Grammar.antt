-- Document 02, L4: the grammar of an A code, in the readers of crates/paper/specs/Grammar.antt, which look one byte ahead and commit.
use Rattle.std.specs.Prelude.{ℕ, zero, suc, ◌-◌, [], ◌∷◌, length, take, eqb, if◌then◌else◌}
use Rattle.std.proofs.Math.Option.{Option, none, some}
use Rattle.paper.specs.Bytes.{Bytes, ch, bytes, any}
use Rattle.paper.specs.Sizes.{is_mark}
use Rattle.paper.specs.Numbers.{Binary, Relation}
use Rattle.paper.specs.Codes.{Elm}
use Rattle.paper.specs.Codes as F
use Rattle.paper.specs.Grammar.{Reader, follow, ◌>>=◌, ◌>>◌, gives, fails, ahead, this, choose, elm, all_read}
use Rattle.algebra.specs.Expressions.{Operator, Expression, Operand, alone, joined, attribute, literal, parenthesised, remainder, substring}

-- "operators are `+ - * / :` and the six relations": F's spelling is A's, but for two
abbrev pub operation : Bytes → Binary → Reader Operator
operation text o = gives (record { does = o; in_F = text })

abbrev pub relation : Bytes → Relation → Reader Operator
relation text r = operation text (Binary.relate r)

-- `<` and `>`, and the `=` behind them: `>=` becomes `]` and `<=` becomes `[`
abbrev pub or_equal : Reader Operator → Reader Operator → Reader Operator
or_equal with_it without = ahead (eqb (ch "=")) (λ _. with_it) without

unfoldable pub operator : Reader Operator
operator =
    choose
    ((ch "+", operation (bytes "+") Binary.add)
    ∷ (ch "-", operation (bytes "-") Binary.subtract)
    ∷ (ch "*", operation (bytes "*") (Binary.multiply 0))
    ∷ (ch "/", operation (bytes "/") Binary.divide)
    ∷ (ch ":", operation (bytes ":") Binary.concatenate)
    ∷ (ch "=", relation (bytes "=") Relation.equal)
    ∷ (ch "#", relation (bytes "#") Relation.unequal)
    ∷ (ch "<", or_equal (relation (bytes "[") Relation.at_most) (relation (bytes "<") Relation.lesser))
    ∷ (ch ">", or_equal (relation (bytes "]") Relation.at_least) (relation (bytes ">") Relation.greater))
    ∷ [])

-- what goes on from a thing that is there; if it is not, `other` does
abbrev pub or_else : {A B : Type 0} → Option (A × Bytes) → (A → Reader B) → Option (B × Bytes) → Option (B × Bytes)
or_else none k other = other
or_else (some r) k other = k r.0 r.1

abbrev pub if_there : {A B : Type 0} → Reader A → (A → Reader B) → Reader B → Reader B
if_there r k other bs = or_else (r bs) k (other bs)

-- "Operands are F's attributes and literals": of F's elms no other, `LPV` neither
abbrev pub as_operand : Bytes → Elm → Reader Operand
as_operand text (Elm.push (F.Operand.attribute n r)) = gives (attribute text n r)
as_operand text (Elm.push (F.Operand.literal bs)) = gives (literal text bs)
as_operand text (Elm.push F.Operand.previous) = fails
as_operand text (Elm.binary o) = fails
as_operand text Elm.substring = fails
as_operand text Elm.exchange = fails
as_operand text Elm.duplicate = fails
as_operand text (Elm.convert c) = fails

-- as F's elm is read, with the bytes that spell it
unfoldable pub fetch : Reader Operand
fetch bs = follow (elm bs) (λ e rest. as_operand (take (length bs - length rest) bs) e rest)

-- Over the reader of an expression inside an operand.
module _ (inside : Reader Expression) where
  -- an expression and the byte behind it
  unfoldable pub up_to : ℕ → Reader Expression
  up_to c = do
    e ← inside
    this c
    gives e

  -- `x,y` and the byte that closes them
  unfoldable pub pair : ℕ → Reader (Expression × Expression)
  pair close = do
    x ← up_to (ch ",")
    y ← up_to close
    gives (x, y)

  -- the rest of `(x)`: "parentheses to any depth"
  unfoldable pub enclosed : Reader Operand
  enclosed = up_to (ch ")") >>= λ e. gives (parenthesised e)

  -- the rest of `R(x,y)`
  unfoldable pub remainder_of : Reader Operand
  remainder_of = do
    this (ch "(")
    p ← pair (ch ")")
    gives (remainder p.0 p.1)

  unfoldable pub base : Reader Operand
  base = ahead (eqb (ch "(")) (λ _. enclosed) (ahead (eqb (ch "R")) (λ _. remainder_of) fetch)

  -- the rest of `x[y,z]`
  unfoldable pub bracket : Operand → Reader Operand
  bracket x = pair (ch "]") >>= λ p. gives (substring x p.0 p.1)

  -- any number of `[y,z]` behind the one operand: each eats a byte, so `fuel` of the bytes' number is enough
  unfoldable pub brackets : ℕ → Operand → Reader Operand
  brackets zero x = gives x
  brackets (suc fuel) x = ahead (eqb (ch "[")) (λ _. bracket x >>= brackets fuel) (gives x)

  unfoldable pub operand : Reader Operand
  operand = base >>= λ x bs. brackets (length bs) x bs

  -- any number of operator and operand, "strictly left to right"
  unfoldable pub operations : ℕ → Expression → Reader Expression
  operations zero e = gives e
  operations (suc fuel) e = if_there operator (λ o. operand >>= λ x. operations fuel (joined e o x)) (gives e)

-- each expression inside another stands behind a byte, so `depth` of the bytes' number is enough
unfoldable pub expression : ℕ → Reader Expression
expression zero = fails
expression (suc depth) = operand (expression depth) >>= λ x bs. operations (expression depth) (length bs) (alone x) bs

-- "The code is `A` and an expression, no blanks between."
unfoldable pub algebra : Reader Expression
algebra = this (ch "A") >> λ bs. expression (length bs) bs

-- "No byte 251 to 255 stands in an expression, quotes or not."
unfoldable pub read : Bytes → Option Expression
read bs = if any is_mark bs then none else all_read (algebra bs)
