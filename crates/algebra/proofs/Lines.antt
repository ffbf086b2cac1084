-- Each line of the grammar of an A code, as the code lays it. Assumes nothing.
use Prim.Native.Nat.{ℕ, zero, suc, ◌+◌, ◌≤◌, ◌<◌}
use native.Mathlib.Omega.{arith}
use mathlib.Core.Path.{◌≡◌, refl, sym, ap, ◌∙◌}
use mathlib.Core.List.{List, [], ◌∷◌, ◌++◌, append_assoc}
use mathlib.Core.Option.{Option, none, some}
use lib.ListN.{length, drop, drop_of_length-le}
use lib.Dec.{eqb, lit<}
use borrow.Author.Tests.{eq-eqb}
use Rattle.paper.specs.Bytes.{Bytes, ch, bytes}
use Rattle.paper.specs.Numbers.{Binary}
use Rattle.paper.specs.Codes.{Elm}
use Rattle.paper.specs.Grammar as paper
use Rattle.lent.specs.Over as lent
use Rattle.readers.specs.Places.{Peeked}
use Rattle.algebra.specs.Expressions.{
  Operator,
  Expression,
  Operand,
  alone,
  joined,
  parenthesised,
  remainder,
  substring,
  Spelt,
  spelt,
  elms_in,
  operand_elms,
}
use Rattle.algebra.specs.Grammar.{operator, fetch, up_to, pair, enclosed, remainder_of, base, bracket, brackets, operand, operations, expression}
use Rattle.algebra.specs.Laying.{Laid, Lays, pair_elms, bracket_elms, operation_elms, Signed}
use Rattle.std.specs.Prelude.{Option as Maybe}
use Rattle.algebra.proofs.Ahead.{hit, miss}
use Rattle.algebra.proofs.Laying.{elm_written, laid_elm, laid_as, lays_as, lays_from, lays_then}
use Rattle.algebra.proofs.Going.{Going, follow_gives, follow_same, going_on, going_none, going_starts}

module _ (inside : paper.Reader Expression) {s t : Bytes} {at l : ℕ} where
  -- the byte behind an expression
  pub up_to_laid : {n m b n' c : ℕ} {u : Bytes} → Laid elms_in s at t l (inside (drop at s)) n m u → Peeked s n b n' → b ≡ c → c < 255
      → Laid elms_in s at t l (up_to inside c (drop at s)) n' m u
  unfolding up_to paper.this
  up_to_laid {c = c} x p e h =
      let w = hit p e h in
      record {
        thing = x.thing;
        reads = rw (x.reads, w.0, eq-eqb c c refl);
        forward = omega (arith, x.forward, w.1);
        inside = omega (arith, w.1, w.2);
        few = omega (arith, x.few, w.1);
        written = x.written;
      }

  pub up_to_stray : {n m b n' c : ℕ} {u : Bytes} → Laid elms_in s at t l (inside (drop at s)) n m u → Peeked s n b n' → (b ≡ c → ⊥)
      → up_to inside c (drop at s) ≡ none
  unfolding up_to paper.this
  up_to_stray {c = c} x p f = rw (x.reads, miss p {c = c} (λ _. paper.gives (tt {0})) paper.fails f)

pub up_to_none : (inside : paper.Reader Expression) (c : ℕ) (bs : Bytes) → inside bs ≡ none → up_to inside c bs ≡ none
unfolding up_to
up_to_none inside c bs e = rw e

-- The lines of the grammar, over the reader of an expression inside.
module _ (inside : paper.Reader Expression) where
  pub brackets_stop : {s : Bytes} {n b n' : ℕ} → Peeked s n b n' → (b ≡ ch "[" → ⊥) → (f : ℕ) (x : Operand)
      → brackets inside f x (drop n s) ≡ some (x, drop n s)
  unfolding brackets
  brackets_stop p h zero x = refl
  brackets_stop p h (suc f) x = miss p {c = ch "["} (λ _ bs. paper.follow (bracket inside x bs) (brackets inside f)) (paper.gives x) h

  pub brackets_step : {s : Bytes} {n b n' : ℕ} → Peeked s n b n' → b ≡ ch "[" → (f : ℕ) (x : Operand)
      → brackets inside (suc f) x (drop n s) ≡ paper.follow (pair inside (ch "]") (drop n' s)) (λ y. brackets inside f (substring x y.0 y.1))
  unfolding brackets bracket
  brackets_step {s} {n} {b} {n'} p e f x =
      rw (hit p e (lit< tt)).0 (follow_gives (pair inside (ch "]") (drop n' s)) (λ y. substring x y.0 y.1) (brackets inside f))

  pub operations_stop : (bs : Bytes) → operator bs ≡ none → (f : ℕ) (e : Expression) → operations inside f e bs ≡ some (e, bs)
  unfolding operations
  operations_stop bs h zero e = refl
  operations_stop bs h (suc f) e = rw h

  pub operations_step : (bs rest : Bytes) (o : Operator) → operator bs ≡ some (o, rest) → (f : ℕ) (e : Expression)
      → operations inside (suc f) e bs ≡ paper.follow (operand inside rest) (λ x. operations inside f (joined e o x))
  unfolding operations
  operations_step bs rest o h f e = rw h

  pub base_enclosed : {s : Bytes} {at b n : ℕ} → Peeked s at b n → b ≡ ch "("
      → base inside (drop at s) ≡ paper.follow (up_to inside (ch ")") (drop n s)) (λ e. paper.gives (parenthesised e))
  unfolding base enclosed
  base_enclosed p e = rw (hit p e (lit< tt)).0

  pub base_remainder : {s : Bytes} {at b n : ℕ} → Peeked s at b n → b ≡ ch "R" → base inside (drop at s) ≡ remainder_of inside (drop n s)
  unfolding base
  base_remainder p e = rw (hit p e (lit< tt)).0

  pub base_fetch : {s : Bytes} {at b n : ℕ} → Peeked s at b n → (b ≡ ch "(" → ⊥) → (b ≡ ch "R" → ⊥) → base inside (drop at s) ≡ fetch (drop at s)
  unfolding base
  base_fetch p f g =
      miss p {c = ch "("} (λ _. enclosed inside) (paper.ahead (eqb (ch "R")) (λ _. remainder_of inside) fetch) f ∙ miss p {c = ch "R"}
      (λ _. remainder_of inside) fetch g

  pub remainder_pair : {s : Bytes} {at b n : ℕ} → Peeked s at b n → b ≡ ch "("
      → remainder_of inside (drop at s) ≡ paper.follow (pair inside (ch ")") (drop n s)) (λ p. paper.gives (remainder p.0 p.1))
  unfolding remainder_of paper.this
  remainder_pair p e = rw (hit p e (lit< tt)).0

  pub remainder_stray : {s : Bytes} {at b n : ℕ} → Peeked s at b n → (b ≡ ch "(" → ⊥) → remainder_of inside (drop at s) ≡ none
  unfolding remainder_of paper.this
  remainder_stray p f = rw (miss p {c = ch "("} (λ _. paper.gives (tt {0})) paper.fails f)

  pub pair_none : (c : ℕ) (bs : Bytes) → up_to inside (ch ",") bs ≡ none → pair inside c bs ≡ none
  unfolding pair
  pair_none c bs e = rw e

  pub pair_then : (c : ℕ) (bs rest : Bytes) (x : Expression) → up_to inside (ch ",") bs ≡ some (x, rest)
      → pair inside c bs ≡ paper.follow (up_to inside c rest) (λ y. paper.gives (x, y))
  unfolding pair
  pair_then c bs rest x e = rw e

  pub operand_starts : (bs : Bytes) → operand inside bs ≡ paper.follow (base inside bs) (λ x rest. brackets inside (length rest) x rest)
  unfolding operand
  operand_starts bs = refl

pub expression_starts : (depth : ℕ) (bs : Bytes) → expression (suc depth) bs
    ≡ paper.follow (paper.follow (operand (expression depth) bs) (λ x. paper.gives (alone x))) (λ e rest. operations (expression depth) (length rest) e rest)
unfolding expression
expression_starts depth bs = sym (follow_gives (operand (expression depth) bs) alone (λ e rest. operations (expression depth) (length rest) e rest))

-- an expression inside an operand is read with one depth less; where no byte is left, with none
nothing_left : (depth : ℕ) → expression depth [] ≡ none
unfolding expression operand base fetch paper.elm paper.operator_elm paper.choose
nothing_left zero = refl
nothing_left (suc depth) = refl

pub expression_lays : {s t u : Bytes} {at l k : ℕ} {r : Maybe ℕ}
    → ((depth : ℕ) → length s ≤ at + suc depth → Lays elms_in s at t l (expression (suc depth) (drop at s)) r u k)
    → (depth : ℕ) → length s ≤ at + depth → Lays elms_in s at t l (expression depth (drop at s)) r u k
expression_lays {s} {at = at} f zero h =
    let none_left : length s ≤ at = omega arith in
    let e : drop at s ≡ [] = drop_of_length-le s none_left in
    lays_from (f 0 (omega arith)) (omega arith) (rw e (nothing_left 0 ∙ sym (nothing_left 1)))
expression_lays f (suc depth) h = f depth h

-- Each line of the grammar, as the code lays it.
module _ (inside : paper.Reader Expression) {s t u : Bytes} {at l : ℕ} where
  pub base_by_parenthesis : {b n k : ℕ} {r : Maybe ℕ} → Peeked s at b n → b ≡ ch "(" → Lays elms_in s n t l (up_to inside (ch ")") (drop n s)) r u k
      → Lays operand_elms s at t l (base inside (drop at s)) r u k
  unfolding operand_elms
  base_by_parenthesis p e x =
      lays_from (lays_as elms_in operand_elms parenthesised (λ y. refl) x) (omega (arith, (hit p e (lit< tt)).1)) (base_enclosed inside p e)

  pub base_by_remainder : {b n k : ℕ} {r : Maybe ℕ} → Peeked s at b n → b ≡ ch "R" → Lays operand_elms s n t l (remainder_of inside (drop n s)) r u k
      → Lays operand_elms s at t l (base inside (drop at s)) r u k
  base_by_remainder p e x = lays_from x (omega (arith, (hit p e (lit< tt)).1)) (base_remainder inside p e)

  pub pair_lays : (c : ℕ) {w : Bytes} {n m k : ℕ} {r : Maybe ℕ} → Laid elms_in s at t l (up_to inside (ch ",") (drop at s)) n m u → l ≤ length t
      → Lays elms_in s n u m (up_to inside c (drop n s)) r w k → Lays pair_elms s at t l (pair inside c (drop at s)) r w k
  pair_lays c x h y =
      lays_from (lays_then elms_in elms_in pair_elms x h (omega arith) (λ e. (x.thing, e)) (λ e. refl) y) (omega arith)
      (pair_then inside c _ _ x.thing x.reads)

  pub remainder_lays : {w : Bytes} {b n m n' end : ℕ} → Peeked s at b n → b ≡ ch "(" → (x : Laid pair_elms s n t l (pair inside (ch ")") (drop n s)) n' m u)
      → l ≤ length t → lent.Laid (ch ";" ∷ ch "R" ∷ []) u end w m → Laid operand_elms s at t l (remainder_of inside (drop at s)) n' end w
  unfolding operand_elms bytes
  remainder_lays {w} {n = n} {m} {n'} {end} p e x h g =
      let k : n ≡ suc at = (hit p e (lit< tt)).1 in
      rw (remainder_pair inside p e)
      (laid_elm pair_elms operand_elms x (spelt (bytes "R") (Elm.binary Binary.rest)) h (elm_written (spelt (bytes "R") (Elm.binary Binary.rest)) refl g)
      (omega arith) (omega (arith, x.few, g.place)) (λ y. remainder y.0 y.1) refl)

  pub bracket_lays : {w : Bytes} {n m end from : ℕ} → from < at → (x : Laid pair_elms s at t l (pair inside (ch "]") (drop at s)) n m u)
      → l ≤ length t → lent.Laid (ch ";" ∷ ch "[" ∷ ch "]" ∷ []) u end w m → Laid bracket_elms s from t l (pair inside (ch "]") (drop at s)) n end w
  unfolding bytes
  bracket_lays {w} {n} {m} {end} {from} i x h g =
      rw (sym (follow_same (pair inside (ch "]") (drop at s))))
      (laid_elm pair_elms bracket_elms x (spelt (bytes "[]") Elm.substring) h (elm_written (spelt (bytes "[]") Elm.substring) refl g)
      (omega arith) (omega (arith, x.few, g.place)) (λ y. y) refl)

  pub operation_lays : {w : Bytes} {n m end from byte : ℕ} (o : Operator) → o.in_F ≡ byte ∷ [] → from < at
      → Laid operand_elms s at t l (operand inside (drop at s)) n m u
      → l ≤ length t → lent.Laid (ch ";" ∷ byte ∷ []) u end w m → Laid (operation_elms o) s from t l (operand inside (drop at s)) n end w
  operation_lays {w} {n} {m} {end} {from} o e i x h g =
      rw (sym (follow_same (operand inside (drop at s))))
      (laid_elm operand_elms (operation_elms o) x (spelt o.in_F (Elm.binary o.does)) h (elm_written (spelt o.in_F (Elm.binary o.does)) e g)
      (omega arith) (omega (arith, x.few, g.place)) (λ y. y) refl)

  pub operand_going : {n m : ℕ} → Laid operand_elms s at t l (base inside (drop at s)) n m u
      → Going operand_elms s at t l (operand inside (drop at s)) (brackets inside) n m u
  operand_going x = going_starts (brackets inside) x (operand_starts inside (drop at s))

  module _ {whole : Option (Operand × Bytes)} {n m b n' : ℕ} (c : Going operand_elms s at t l whole (brackets inside) n m u) (p : Peeked s n b n')
      (f : b ≡ ch "[") where
    -- one `[y,z]` more, or none that is read
    pub operand_on : {w : Bytes} {k end : ℕ} → l ≤ length t → Laid bracket_elms s n u m (pair inside (ch "]") (drop n' s)) k end w
        → Going operand_elms s at t l whole (brackets inside) k end w
    unfolding operand_elms
    operand_on h x =
        going_on (brackets inside) c (hit p f (lit< tt)).2 (λ y z. substring y z.0 z.1) (brackets_step inside p f) bracket_elms h x
        (λ y z. ap (λ (es : List Spelt). es ++ spelt (bytes "[]") Elm.substring ∷ []) (append_assoc (operand_elms y) (elms_in z.0) (elms_in z.1))
        ∙ append_assoc (operand_elms y) (elms_in z.0 ++ elms_in z.1) _)

    pub operand_ends : pair inside (ch "]") (drop n' s) ≡ none → whole ≡ none
    operand_ends = going_none (brackets inside) c (hit p f (lit< tt)).2 (λ y z. substring y z.0 z.1) (brackets_step inside p f)

  module _ {whole : Option (Expression × Bytes)} {n m n' byte : ℕ} (c : Going elms_in s at t l whole (operations inside) n m u)
      (o : Signed s n (operator (drop n s)) byte n') where
    -- one operator and operand more, or none that is read
    pub expression_on : {w : Bytes} {k end : ℕ} → l ≤ length t → Laid (operation_elms o.thing) s n u m (operand inside (drop n' s)) k end w
        → Going elms_in s at t l whole (operations inside) k end w
    unfolding elms_in
    expression_on h x =
        going_on (operations inside) c (omega (arith, o.forward, o.inside)) (λ y z. joined y o.thing z)
        (operations_step inside (drop n s) _ o.thing o.reads) (operation_elms o.thing) h x
        (λ y z. append_assoc (elms_in y) (operand_elms z) _)

    pub expression_ends : operand inside (drop n' s) ≡ none → whole ≡ none
    expression_ends =
        going_none (operations inside) c (omega (arith, o.forward, o.inside)) (λ y z. joined y o.thing z)
        (operations_step inside (drop n s) _ o.thing o.reads)

pub expression_going : (depth : ℕ) {s t u : Bytes} {at l n m : ℕ} → Laid operand_elms s at t l (operand (expression depth) (drop at s)) n m u
    → Going elms_in s at t l (expression (suc depth) (drop at s)) (operations (expression depth)) n m u
unfolding elms_in
expression_going depth {s} {at = at} x =
    going_starts (operations (expression depth)) (laid_as operand_elms elms_in alone (λ y. refl) x) (expression_starts depth (drop at s))

pub remainder_none : (inside : paper.Reader Expression) {s : Bytes} {at b n : ℕ} → Peeked s at b n → b ≡ ch "(" → pair inside (ch ")") (drop n s) ≡ none
    → remainder_of inside (drop at s) ≡ none
remainder_none inside p e f = remainder_pair inside p e ∙ rw f

-- where no operand is read, no expression is
pub operand_none : (inside : paper.Reader Expression) (bs : Bytes) → base inside bs ≡ none → operand inside bs ≡ none
operand_none inside bs e = operand_starts inside bs ∙ rw e

pub expression_none : (depth : ℕ) (bs : Bytes) → operand (expression depth) bs ≡ none → expression (suc depth) bs ≡ none
expression_none depth bs e = expression_starts depth bs ∙ rw e
