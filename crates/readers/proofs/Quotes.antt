-- A literal's closing quote: found from place to place, and where the paper's reader stops. The law of every literal is stated once here.
use Rattle.std.specs.Prelude.{if◌then◌else◌, cond, Some, None}
use Rattle.std.specs.Prelude.{Option as Maybe}
use Rattle.std.specs.List.{position_from}
use Prim.Native.Nat.{ℕ, suc, ◌<◌, ◌≤◌, ◌+◌, ◌-◌}
use mathlib.Core.Path.{◌≡◌, refl, sym, ap, ◌∙◌}
use mathlib.Core.Bool.{Bool, true, false}
use mathlib.Core.List.{[], ◌∷◌}
use mathlib.Core.Option.{Option, none, some}
use lib.ListN.{length, get_or, take, drop, length-drop, drop_of_length-le}
use lib.Seq.{drop-cons, drop-drop}
use lib.Dec.{eqb}
use native.Mathlib.Numerals.{add-one}
use native.Mathlib.Omega.{arith}
use borrow.Author.Tests.{eq-eqb, ne_eqb}
use Rattle.paper.specs.Answers.{maybe_by}
use Rattle.paper.specs.Bytes.{Bytes}
use Rattle.paper.specs.Grammar as paper
use Rattle.paper.proofs.Predicates.{Reads, reads, reads_not}
use Rattle.readers.specs.Places.{follow, gives, closing, enclosed, quoted, literal}
use Rattle.readers.proofs.Agreement.{Agree, neither, both, Agrees}

closing_first : (q : ℕ) (bs : Bytes) (i at : ℕ) → closing q bs (at + i) ≡ maybe_by (λ k. at + k) (position_from (λ b. eqb b q) i bs)
unfolding closing
closing_first q [] i at = refl
closing_first q (b ∷ bs) i at = here (eqb b q) (closing_first q bs (i + 1) at)
  where
    here : (t : Bool) → closing q bs (at + (i + 1)) ≡ maybe_by (λ k. at + k) (position_from (λ b. eqb b q) (i + 1) bs)
        → (if t then some (at + i) else closing q bs (suc (at + i))) ≡ maybe_by (λ k. at + k) (cond t (Some i) (position_from (λ b. eqb b q) (i + 1) bs))
    here true e = refl
    here false e = let onward : suc (at + i) ≡ at + (i + 1) = omega arith in rw (onward, e)

-- the first quote from a place on, as `position` tells it: how many bytes stand before it, and the place after it
pub found_quote : (q : ℕ) (s : Bytes) (at : ℕ) (r : Maybe ℕ) → r ≡ position_from (λ b. eqb b q) 0 (drop at s) → quoted q s at ≡ maybe_by (λ k. (k, at + k + 1)) r
unfolding quoted
found_quote q s at r e =
    let first : closing q (drop at s) at ≡ maybe_by (λ k. at + k) r = rw e (ap (closing q (drop at s)) (zeroth at) ∙ closing_first q (drop at s) 0 at) in
    ap (enclosed at) first ∙ placed r
  where
    zeroth : (n : ℕ) → n ≡ n + 0
    zeroth n = omega arith

    placed : (r : Maybe ℕ) → enclosed at (maybe_by (λ k. at + k) r) ≡ maybe_by (λ k. (k, at + k + 1)) r
    placed None = refl
    placed (Some k) = let len : at + k - at ≡ k = omega arith in rw len

-- The bytes before a quote: where the quote is found, what the paper's reader takes and leaves.
data Closed (q : ℕ) (bs : Bytes) (at : ℕ) : Option ℕ → Option (Bytes × Bytes) → Type 0 where
  unclosed : Closed q bs at none none
  closed : (k n : ℕ) → n ≡ at + k → k < length bs → Closed q bs at (some n) (some (take k bs, drop (suc k) bs))

closings : (q : ℕ) (bs : Bytes) (at : ℕ) → Closed q bs at (closing q bs at) (paper.quoted q bs)
unfolding closing paper.quoted
closings q [] at = unclosed
closings q (b ∷ bs) at = go (eqb b q) (closings q bs (suc at))
  where
    onward : {o : Option ℕ} {r : Option (Bytes × Bytes)} → Closed q bs (suc at) o r → Closed q (b ∷ bs) at o (paper.onto b r)
    onward unclosed = unclosed
    onward (closed k n e h) = closed (suc k) n (omega arith) (omega arith)

    go : (t : Bool) → Closed q bs (suc at) (closing q bs (suc at)) (paper.quoted q bs)
        → Closed q (b ∷ bs) at (if t then some at else closing q bs (suc at)) (if t then some ([], bs) else paper.onto b (paper.quoted q bs))
    go true c = closed 0 at (omega arith) (omega arith)
    go false c = onward c

-- A literal, whatever is made of its place and length and, in the paper, of its bytes.
pub literal_agrees : {A B : Type 0} {f : A → B} {s : Bytes} {low : ℕ} (make : ℕ → ℕ → A) (make' : Bytes → B) (q : ℕ)
    → ((start len : ℕ) → f (make start len) ≡ make' (take len (drop start s)))
    → Agrees f s low (literal make q) (λ bs. paper.follow (paper.quoted q bs) (λ t. paper.gives (make' t)))
unfolding quoted
literal_agrees {A} {B} {f} {s} {low} make make' q made = record { at = λ n l u. go n l u (closings q (drop n s) n) }
  where
    go : (at : ℕ) → low ≤ at → at ≤ length s → {o : Option ℕ} {r : Option (Bytes × Bytes)} → Closed q (drop at s) at o r
        → Agree f s low (follow (enclosed at o) (λ len. gives (make at len)) s) (paper.follow r (λ t. paper.gives (make' t)))
    go at l u unclosed = neither
    go at l u (closed k n e h) =
        let x : at + suc k ≡ n + 1 = omega arith in
        let y : k ≡ n - at = omega arith in
        let z : n + 1 ≤ length s = omega (arith, length-drop at s) in
        rw (drop-drop, x, y, ← made at (n - at)) (both (make at (n - at)) (n + 1) (omega arith) z)

-- a quote closes at a byte from here on
closes : (q : ℕ) (bs : Bytes) (at close : ℕ) → closing q bs at ≡ some close → (at ≤ close) × (close < at + length bs)
unfolding closing
closes q [] at close e = let z : ◌≡◌ {A = ℕ} 0 1 = cc in absurd (omega arith)
closes q (b ∷ bs) at close e = here (eqb b q) e (closes q bs (suc at) close)
  where
    here : (t : Bool) → (if t then some at else closing q bs (suc at)) ≡ some close
        → (closing q bs (suc at) ≡ some close → (suc at ≤ close) × (close < suc at + length bs)) → (at ≤ close) × (close < at + length (b ∷ bs))
    here true e again = let same : at ≡ close = cc in omega arith
    here false e again = let h = again e in omega arith

-- so what was read of a literal lies within its code
pub quoted_inside : (q : ℕ) (s : Bytes) (n : ℕ) → Reads (λ len. n + len ≤ length s) (quoted q s n)
unfolding quoted
quoted_inside q s n = placed (closing q (drop n s) n) refl
  where
    placed : (o : Option ℕ) → closing q (drop n s) n ≡ o → Reads (λ len. n + len ≤ length s) (enclosed n o)
    placed none e = reads_not
    placed (some close) e =
        let h = closes q (drop n s) n close e in
        reads {r = (close - n, close + 1)} (omega (arith, length-drop n s))
