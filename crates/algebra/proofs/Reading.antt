-- Document 02, L4: what an A code's readers read is spelt as F reads it, elm by elm and with no mark, so that the F text of an expression is read
-- as its elms, and the check accepts it or refuses it with 7. For any fuel and depth of the readers. Assumes nothing.
use Rattle.std.specs.Prelude.{if◌then◌else◌}
use Prim.Native.Nat.{ℕ, zero, suc, ◌-◌, ◌≤◌}
use native.Mathlib.Omega.{arith}
use mathlib.Core.Path.{◌≡◌, refl, sym, ap, ◌∙◌}
use mathlib.Core.Bool.{Bool, true, false, true≢false}
use mathlib.Core.Logic.{◌⊎◌, inl, inr, ⊎_elim}
use mathlib.Core.List.{List, [], ◌∷◌, ◌++◌, append-nil, map}
use mathlib.Core.Option.{Option, some}
use lib.Dec.{eqb}
use lib.ListN.{length, take, length-append}
use lib.Seq.{take_at}
use borrow.Author.Tests.{le-leb, ne_eqb}
use Rattle.paper.specs.Bytes.{Bytes, ch, bytes, is_digit, any}
use Rattle.paper.specs.Sizes.{is_mark, value_mark, code_most}
use Rattle.paper.specs.Records.{join}
use Rattle.paper.specs.Codes.{Elm, Code}
use Rattle.paper.specs.Codes as F
use Rattle.paper.specs.Grammar.{Reader, ◌>>=◌, gives, fails, ahead, this, choose, multiply_elm, bracket_elm, operator_elm, elm}
use Rattle.paper.specs.Grammar.{function_code, code, all_read, read as read_F}
use Rattle.paper.specs.Refusals.{given, refused, stack_fault, ◌>>◌ as ◌then◌}
use Rattle.paper.specs.Checking.{lawful, judged, accepted, faulty, in_turn, judged_all, code_texts, check, all_stacked}
use Rattle.paper.proofs.Truths.{chosen}
use Rattle.paper.proofs.Refusing.{never_given}
use Rattle.paper.proofs.Predicates.{All, none_of, and_all, all_append, all_map}
use Rattle.paper.proofs.Splitting.{Without, any_without, without_any, Told, absent, present, told, split_last}
use Rattle.paper.proofs.Eating.{Eaten, ends, Texts, one, more, told_follow, closing, elm_eats, elms_joined}
use Rattle.algebra.specs.Expressions.{Operator, Expression, Operand, alone, joined}
use Rattle.algebra.specs.Expressions.{Spelt, spelt, elms_in, operand_elms, behind, f_text, f_elms}
use Rattle.algebra.specs.Grammar.{operator, or_else, if_there, as_operand, fetch, up_to, pair, enclosed, remainder_of, base, bracket, brackets}
use Rattle.algebra.specs.Grammar.{operand, operations, expression, algebra, read}
use Rattle.algebra.proofs.Pushing.{elms as elms_of, Entries, one_entry_more}

-- read whole as this elm, and no mark in it
pub record Fine (t : Spelt) : Type 0 where
  pub reads : elm t.text ≡ some (t.elm, [])
  pub unmarked : any is_mark t.text ≡ false

fine : {t : Spelt} → elm t.text ≡ some (t.elm, []) → any is_mark t.text ≡ false → Fine t
fine r u = record { reads = r; unmarked = u }

-- Readers of bytes with no mark: what is read has P, and no mark is in what is left.

abbrev Unmarked : Bytes → Type 0
Unmarked bs = Without is_mark bs

abbrev Found : {A : Type 0} → (A → Type 0) → Option (A × Bytes) → Type 0
Found P o = Told (λ x. P x.0 × Unmarked x.1) o

record Finds {A : Type 0} (P : A → Type 0) (r : Reader A) : Type 0 where
  at : (bs : Bytes) → Unmarked bs → Found P (r bs)

unmarked_parts : (xs : Bytes) {ys : Bytes} → Unmarked (xs ++ ys) → Unmarked xs × Unmarked ys
unmarked_parts [] h = (none_of, h)
unmarked_parts (x ∷ xs) (and_all h hs) = let (p, q) = unmarked_parts xs hs in (and_all h p, q)

finds_then : {A B : Type 0} {P : A → Type 0} {Q : B → Type 0} {r : Reader A} {k : A → Reader B} → Finds P r → ((a : A) → P a → Finds Q (k a))
    → Finds Q (r >>= k)
finds_then {k = k} f g = record { at = λ bs h. told_follow k (f.at bs h) (λ x (p, rest). (g x.0 p).at x.1 rest) }

finds_gives : {A : Type 0} {P : A → Type 0} {a : A} → P a → Finds P (gives a)
finds_gives p = record { at = λ bs h. present (p, h) }

finds_fails : {A : Type 0} {P : A → Type 0} → Finds P fails
finds_fails = record { at = λ bs h. absent }

finds_ahead : {A : Type 0} {P : A → Type 0} (p : ℕ → Bool) {k : ℕ → Reader A} {other : Reader A} → ((b : ℕ) → Finds P (k b)) → Finds P other
    → Finds P (ahead p k other)
finds_ahead {A} {P} p {k} {other} f g = record { at = go }
  where
    either : (t : Bool) (b : ℕ) (bs : Bytes) → Unmarked (b ∷ bs) → Found P (if t then k b bs else other (b ∷ bs))
    either true b bs (and_all h hs) = (f b).at bs hs
    either false b bs h = g.at (b ∷ bs) h

    go : (bs : Bytes) → Unmarked bs → Found P (ahead p k other bs)
    go [] h = g.at [] h
    go (b ∷ bs) h = either (p b) b bs h

finds_if_there : {A B : Type 0} {P : A → Type 0} {Q : B → Type 0} {r : Reader A} {k : A → Reader B} {other : Reader B} → Finds P r
    → ((a : A) → P a → Finds Q (k a)) → Finds Q other → Finds Q (if_there r k other)
finds_if_there {A} {B} {P} {Q} {r} {k} {other} f g h = record { at = λ bs c. go (f.at bs c) (h.at bs c) }
  where
    go : {o : Option (A × Bytes)} {other : Option (B × Bytes)} → Found P o → Found Q other → Found Q (or_else o k other)
    go absent t = t
    go (present {a = x} (p, rest)) t = (g x.0 p).at x.1 rest

finds_this : (c : ℕ) → Finds (λ _. Unit {0}) (this c)
unfolding this
finds_this c = finds_ahead _ (λ _. finds_gives tt) finds_fails

-- The readers of an A code.

abbrev FineOperator : Operator → Type 0
FineOperator o = Fine (spelt o.in_F (Elm.binary o.does))

abbrev FineOperand : Operand → Type 0
FineOperand x = All Fine (operand_elms x)

abbrev FineExpression : Expression → Type 0
FineExpression e = All Fine (elms_in e)

finds_operator : Finds FineOperator operator
unfolding operator bytes elm operator_elm choose multiply_elm bracket_elm is_digit any is_mark
finds_operator = search (finds_ahead, finds_gives, finds_fails, fine) depth 30

finds_fetch : Finds FineOperand fetch
unfolding fetch operand_elms
finds_fetch = record { at = λ bs h. told_follow _ (elm_eats.at bs) (λ x. go bs h x) }
  where
    push : (text : Bytes) (e : Elm) → Fine (spelt text e) → Finds FineOperand (as_operand text e)
    push text (Elm.push (F.Operand.attribute n r)) f = finds_gives (and_all f none_of)
    push text (Elm.push (F.Operand.literal bs)) f = finds_gives (and_all f none_of)
    push text (Elm.push F.Operand.previous) f = finds_fails
    push text (Elm.binary o) f = finds_fails
    push text Elm.substring f = finds_fails
    push text Elm.exchange f = finds_fails
    push text Elm.duplicate f = finds_fails
    push text (Elm.convert c) f = finds_fails

    go : (bs : Bytes) → Unmarked bs → (x : Elm × Bytes) → Eaten closing elm bs x
        → Found FineOperand (as_operand (take (length bs - length x.1) bs) x.0 x.1)
    go bs h x (eaten, s, f) = rw spelling ((push eaten x.0 (fine (rw append-nil at (f [] ends)) (without_any is_mark parts.0))).at x.1 parts.1)
      where
        spelling : take (length bs - length x.1) bs ≡ eaten
        spelling = rw s (take_at eaten x.1 (length (eaten ++ x.1) - length x.1) (omega (arith, length-append eaten x.1)))

        parts : Unmarked eaten × Unmarked x.1
        parts = unmarked_parts eaten (rw s at h)

-- Over the reader of an expression inside an operand.
module _ {inside : Reader Expression} (finds : Finds FineExpression inside) where
  finds_up_to : (c : ℕ) → Finds FineExpression (up_to inside c)
  unfolding up_to
  finds_up_to c = finds_then finds (λ e p. finds_then (finds_this c) (λ _ _. finds_gives p))

  finds_pair : (close : ℕ) → Finds (λ p. FineExpression p.0 × FineExpression p.1) (pair inside close)
  unfolding pair
  finds_pair close = finds_then (finds_up_to (ch ",")) (λ x p. finds_then (finds_up_to close) (λ y q. finds_gives (p, q)))

  finds_enclosed : Finds FineOperand (enclosed inside)
  unfolding enclosed operand_elms
  finds_enclosed = finds_then (finds_up_to (ch ")")) (λ e p. finds_gives p)

  finds_remainder : Finds FineOperand (remainder_of inside)
  unfolding remainder_of operand_elms bytes elm operator_elm choose is_digit any is_mark
  finds_remainder =
      finds_then (finds_this (ch "("))
      (λ _ _. finds_then (finds_pair (ch ")")) (λ p (q, r). finds_gives (all_append (all_append q r) (and_all (fine refl refl) none_of))))

  finds_base : Finds FineOperand (base inside)
  unfolding base
  finds_base = finds_ahead _ (λ _. finds_enclosed) (finds_ahead _ (λ _. finds_remainder) finds_fetch)

  finds_bracket : (x : Operand) → FineOperand x → Finds FineOperand (bracket inside x)
  unfolding bracket operand_elms bytes elm operator_elm choose bracket_elm is_digit any is_mark
  finds_bracket x p =
      finds_then (finds_pair (ch "]"))
      (λ y (q, r). finds_gives (all_append (all_append (all_append p q) r) (and_all (fine refl refl) none_of)))

  finds_brackets : (fuel : ℕ) (x : Operand) → FineOperand x → Finds FineOperand (brackets inside fuel x)
  unfolding brackets
  finds_brackets zero x p = finds_gives p
  finds_brackets (suc fuel) x p = finds_ahead _ (λ _. finds_then (finds_bracket x p) (finds_brackets fuel)) (finds_gives p)

  finds_operand : Finds FineOperand (operand inside)
  unfolding operand
  finds_operand = finds_then finds_base (λ x p. record { at = λ bs. (finds_brackets (length bs) x p).at bs })

  finds_operations : (fuel : ℕ) (e : Expression) → FineExpression e → Finds FineExpression (operations inside fuel e)
  unfolding operations elms_in
  finds_operations zero e p = finds_gives p
  finds_operations (suc fuel) e p =
      finds_if_there finds_operator
      (λ o q. finds_then finds_operand (λ x r. finds_operations fuel (joined e o x) (all_append (all_append p r) (and_all q none_of))))
      (finds_gives p)

finds_expression : (depth : ℕ) → Finds FineExpression (expression depth)
unfolding expression elms_in
finds_expression zero = finds_fails
finds_expression (suc depth) =
    let finds = finds_expression depth in
    finds_then (finds_operand finds) (λ x p. record { at = λ bs. (finds_operations finds (length bs) (alone x) p).at bs })

finds_algebra : Finds FineExpression algebra
unfolding algebra
finds_algebra = finds_then (finds_this (ch "A")) (λ _ _. record { at = λ bs. (finds_expression (length bs)).at bs })

all_read_told : {A : Type 0} {P : A → Type 0} {o : Option (A × Bytes)} → Found P o → Told P (all_read o)
all_read_told absent = absent
all_read_told {P = P} (present {a = x} (p, rest)) = chosen (Told P) (eqb (length x.1) 0) (λ _. present p) (λ _. absent)

-- Each elm of an expression that was read is spelt so that F reads it, with no mark.
pub read_fine : (code : Bytes) (e : Expression) → read code ≡ some e → All Fine (elms_in e)
unfolding read
read_fine code e h = told (rw h at read_told)
  where
    read_told : Told FineExpression (read code)
    read_told =
        chosen (Told FineExpression) (any is_mark code) (λ _. absent) (λ m. all_read_told (finds_algebra.at code (any_without is_mark code m)))

-- The F text.

-- an elm at least, since they leave an entry
some_elm : (e : Expression) → 1 ≤ length (elms_in e)
unfolding f_elms all_stacked
some_elm e = go (elms_in e) (one_entry_more e 0)
  where
    go : (ts : List Spelt) → Entries 1 (all_stacked (elms_of ts) 0) → 1 ≤ length ts
    go [] (inl h) = let z : ◌≡◌ {A = ℕ} 0 1 = cc in absurd (omega arith)
    go [] (inr h) = never_given (sym h)
    go (t ∷ ts) h = omega arith

abbrev texts : List Spelt → List Bytes
texts ts = map (λ (t : Spelt). t.text) ts

behind_joined : (ts : List Spelt) → 1 ≤ length ts → behind ts ≡ ch ";" ∷ join (ch ";") (texts ts)
unfolding behind join
behind_joined [] h = absurd (omega arith)
behind_joined (t ∷ []) h = rw append-nil
behind_joined (t ∷ u ∷ ts) h = rw (behind_joined (u ∷ ts) (omega arith))

read_texts : {ts : List Spelt} → 1 ≤ length ts → All Fine ts → Texts elm (texts ts) (elms_of ts)
read_texts h none_of = absurd (omega arith)
read_texts h (and_all f none_of) = one f.reads
read_texts h (and_all f (and_all g gs)) = more f.reads (read_texts (omega arith) (and_all g gs))

unmarked_behind : {ts : List Spelt} → All Fine ts → Unmarked (behind ts)
unfolding behind is_mark
unmarked_behind none_of = none_of
unmarked_behind (and_all {a = t} f fs) = and_all refl (all_append (any_without is_mark t.text f.unmarked) (unmarked_behind fs))

unmarked_text : (e : Expression) → All Fine (elms_in e) → Unmarked (f_text e)
unfolding f_text is_mark
unmarked_text e fs = and_all refl (unmarked_behind fs)

-- It is read as the elms of the expression.
pub text_read : (e : Expression) → All Fine (elms_in e) → read_F (f_text e) ≡ some (Code.function (f_elms e))
unfolding read_F code function_code this f_text f_elms
text_read e fs =
    rw (without_any is_mark (unmarked_text e fs), behind_joined (elms_in e) (some_elm e), elms_joined (read_texts (some_elm e) fs))

-- no mark is no value mark
not_value_mark : (b : ℕ) → is_mark b ≡ false → eqb b value_mark ≡ false
unfolding is_mark
not_value_mark b e = ne_eqb b value_mark (λ x. true≢false (ap is_mark (sym x) ∙ e))

-- one code, in the grammar
module _ (e : Expression) (fs : All Fine (elms_in e)) (short : length (f_text e) ≤ code_most) where
  text_judged : check (f_text e) ≡ in_turn 1 (lawful (Code.function (f_elms e)) then given (Code.function (f_elms e))) (accepted [])
  unfolding check judged_all judged code_texts f_text
  text_judged = rw (le-leb (length (f_text e)) code_most short, split_last value_mark (all_map not_value_mark (unmarked_text e fs)), text_read e fs)

  pub text_accepted : all_stacked (f_elms e) 0 ≡ given 1 → check (f_text e) ≡ accepted (Code.function (f_elms e) ∷ [])
  unfolding lawful
  text_accepted room = text_judged ∙ rw room

  pub text_faulty : all_stacked (f_elms e) 0 ≡ refused stack_fault → check (f_text e) ≡ faulty stack_fault 1
  unfolding lawful
  text_faulty full = text_judged ∙ rw full

  -- The check accepts it, or refuses it with 7: by `entries_exactly` exactly where `deepest`, the most entries that its elms hold, is more than 16. So it is
  -- never 18 (document 02, L5).
  pub text_checked : (check (f_text e) ≡ accepted (Code.function (f_elms e) ∷ [])) ⊎ (check (f_text e) ≡ faulty stack_fault 1)
  text_checked = ⊎_elim (λ room. inl (text_accepted room)) (λ full. inr (text_faulty full)) (one_entry_more e 0)
