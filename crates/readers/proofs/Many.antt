-- One or more things that the paper reads with fuel are this thing and those behind it, where each eats a byte; and the byte ahead at a place.
use Prim.Native.Nat.{ℕ, ◌<◌}
use mathlib.Core.Path.{◌≡◌, refl, sym, ap, ◌∙◌}
use mathlib.Core.Logic.{⊎_elim}
use mathlib.Core.List.{[], ◌∷◌}
use mathlib.Core.Option.{Option, none, some}
use lib.ListN.{length, drop, length-drop, drop_of_length-le}
use lib.Dec.{eqb}
use native.Mathlib.Omega.{arith}
use borrow.Author.Tests.{eq-eqb, ne_eqb}
use Rattle.paper.specs.Bytes.{Bytes}
use Rattle.paper.specs.Grammar as paper
use Rattle.paper.proofs.Fuel.{Shortens, onto, many_of, another, another_grows, close, close_grows}
use Rattle.paper.proofs.Truths.{ltb_or}
use Rattle.readers.specs.Places.{Peeked}
use Rattle.readers.proofs.Bytes.{byte_past, peeked_drop}
use Rattle.readers.proofs.Taken.{some_one}
use Rattle.readers.proofs.Agreement.{Agree, neither, both}

-- what is read is shorter by a byte at least, as a reader by place tells that agrees with it
pub shorter : {A B : Type 0} {f : A → B} {bs : Bytes} {o : Option (A × ℕ)} {o' : Option (B × Bytes)} {x : B} {rest : Bytes} → Agree f bs 1 o o'
    → o' ≡ some (x, rest) → length rest < length bs
shorter neither e = let z : ◌≡◌ {A = ℕ} 0 1 = cc in absurd (omega arith)
shorter {A} {B} {f} {bs} (both a n l u) e = omega (arith, ap (λ (r : B × Bytes). length r.1) (some_one e refl), length-drop n bs)

-- Parted by the byte c, and closed by it.
module _ {A : Type 0} (c : ℕ) (r : paper.Reader A) (eats : Shortens r) where
  pub parted_of : (bs : Bytes) (x : A) (rest : Bytes) → r bs ≡ some (x, rest)
      → paper.parted (length bs) c r bs ≡ paper.ahead (eqb c) (λ _ t. onto x (paper.parted (length t) c r t)) (paper.gives (x ∷ [])) rest
  unfolding paper.parted
  parted_of bs x t e = many_of r (another c) (λ n. paper.parted n c r) (λ bs. refl) (λ n bs. refl) eats (another_grows c) (length bs) bs (omega arith) ∙ rw e

  pub parted_none : (bs : Bytes) → r bs ≡ none → paper.parted (length bs) c r bs ≡ none
  unfolding paper.parted
  parted_none bs e = many_of r (another c) (λ n. paper.parted n c r) (λ bs. refl) (λ n bs. refl) eats (another_grows c) (length bs) bs (omega arith) ∙ rw e

  pub closed_of : (bs : Bytes) (x : A) (rest : Bytes) → r bs ≡ some (x, rest)
      → paper.closed_by (length bs) c r bs ≡ paper.ahead (eqb c) (λ _. paper.gives (x ∷ [])) (λ t. onto x (paper.closed_by (length t) c r t)) rest
  unfolding paper.closed_by
  closed_of bs x t e = many_of r (close c) (λ n. paper.closed_by n c r) (λ bs. refl) (λ n bs. refl) eats (close_grows c) (length bs) bs (omega arith) ∙ rw e

  pub closed_none : (bs : Bytes) → r bs ≡ none → paper.closed_by (length bs) c r bs ≡ none
  unfolding paper.closed_by
  closed_none bs e = many_of r (close c) (λ n. paper.closed_by n c r) (λ bs. refl) (λ n bs. refl) eats (close_grows c) (length bs) bs (omega arith) ∙ rw e

-- The paper's byte ahead at a place, by the byte that was peeked there: the byte c, or another or none.
module _ {A : Type 0} (c : ℕ) {s : Bytes} {n b m : ℕ} (k : ℕ → paper.Reader A) (other : paper.Reader A) (p : Peeked s n b m) where
  pub ahead_hit : b ≡ c → c < 255 → paper.ahead (eqb c) k other (drop n s) ≡ k b (drop m s)
  ahead_hit e l =
      ⊎_elim (λ h. rw (peeked_drop h p, eq-eqb c b (sym e))) (λ u. absurd (omega (arith, byte_past s n u, p.stands))) (ltb_or n (length s))

  pub ahead_miss : (b ≡ c → ⊥) → paper.ahead (eqb c) k other (drop n s) ≡ other (drop n s)
  ahead_miss e =
      ⊎_elim (λ h. rw (peeked_drop h p, ne_eqb c b (λ z. e (sym z)))) (λ u. rw (drop_of_length-le s {i = n} u)) (ltb_or n (length s))
