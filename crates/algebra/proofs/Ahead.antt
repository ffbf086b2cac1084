-- What the byte ahead tells of the paper's readers: it is the byte that they look for, or it is not. Assumes nothing.
use Prim.Native.Nat.{ℕ, suc, ◌≤◌, ◌<◌}
use native.Mathlib.Omega.{arith}
use mathlib.Core.Path.{◌≡◌, refl, sym, ap, ◌∙◌}
use mathlib.Core.Logic.{⊎_elim}
use mathlib.Core.List.{List, [], ◌∷◌}
use mathlib.Core.Option.{none}
use lib.ListN.{length, drop, length-drop}
use lib.Dec.{eqb}
use borrow.Author.Tests.{ne_eqb}
use Rattle.paper.specs.Bytes.{Bytes}
use Rattle.paper.specs.Grammar as paper
use Rattle.paper.proofs.Truths.{ltb_or}
use Rattle.readers.specs.Places.{Peeked}
use Rattle.readers.proofs.Taken.{Unnamed, first_of}
use Rattle.readers.proofs.Bytes.{peeked_drop, byte_past, after_inside}

module _ {s : Bytes} {at b n : ℕ} (p : Peeked s at b n) where
  -- the byte ahead is c, which is no segment mark
  pub hit : {c : ℕ} → b ≡ c → c < 255 → (drop at s ≡ c ∷ drop n s) × (n ≡ suc at) × (at < length s)
  hit {c} e l = ⊎_elim inside past (ltb_or at (length s))
    where
      inside : at < length s → (drop at s ≡ c ∷ drop n s) × (n ≡ suc at) × (at < length s)
      inside h = (peeked_drop h p ∙ ap (λ (x : ℕ). x ∷ drop n s) e, omega (arith, p.leads, after_inside s at h), h)

      past : length s ≤ at → (drop at s ≡ c ∷ drop n s) × (n ≡ suc at) × (at < length s)
      past h = absurd (omega (arith, p.stands, byte_past s at h))

  -- the byte ahead is not c
  pub miss : {A : Type 0} {c : ℕ} (k : ℕ → paper.Reader A) (other : paper.Reader A) → (b ≡ c → ⊥)
      → paper.ahead (eqb c) k other (drop at s) ≡ other (drop at s)
  miss {A} {c} k other f = go (drop at s) refl
    where
      go : (bs : Bytes) → drop at s ≡ bs → paper.ahead (eqb c) k other bs ≡ other bs
      go [] e = refl
      go (x ∷ bs) e =
          let h : at < length s = omega (arith, length-drop at s, ap length e) in
          let same : x ≡ b = cc (e, peeked_drop h p) in
          rw (ne_eqb c x (λ (z : c ≡ x). f (sym (z ∙ same)))) refl

-- the byte ahead names none of these readers
pub unnamed : {A : Type 0} (N : Type 0) (cs : List (ℕ × paper.Reader A)) {s : Bytes} {at b n : ℕ} → Peeked s at b n → Unnamed N cs b
    → paper.choose cs (drop at s) ≡ none
unfolding paper.choose
unnamed N [] p u = refl
unnamed N (c ∷ cs) {b = b} p u =
    miss p (λ _. c.1) (paper.choose cs) (first_of (N × (b ≡ c.0 → ⊥)) cs b u).1 ∙ unnamed (N × (b ≡ c.0 → ⊥)) cs p u
