-- A thing read and any number of others behind it, one turn of a loop for each. Assumes nothing.
use Prim.Native.Nat.{ℕ, zero, suc, ◌+◌, ◌≤◌, ◌<◌}
use native.Mathlib.Omega.{arith}
use mathlib.Core.Path.{◌≡◌, refl, sym, ap, ◌∙◌}
use mathlib.Core.List.{List, ◌++◌}
use mathlib.Core.Option.{Option, none, some}
use lib.ListN.{length, drop, length-drop}
use Rattle.paper.specs.Bytes.{Bytes}
use Rattle.paper.specs.Grammar as paper
use Rattle.algebra.specs.Expressions.{Spelt}
use Rattle.algebra.specs.Laying.{Laid}
use Rattle.algebra.proofs.Laying.{laid_then}

-- `more` is what the definition reads from here, with fuel left.
pub record Going {A : Type 0} (elms : A → List Spelt) (s : Bytes) (at : ℕ) (t : Bytes) (l : ℕ) (whole : Option (A × Bytes)) (more : ℕ → A → paper.Reader A)
    (n m : ℕ) (u : Bytes) : Type 0 where
  pub so_far : Option (A × Bytes)
  pub fuel : ℕ
  pub read : Laid elms s at t l so_far n m u
  pub enough : length s ≤ n + fuel
  pub same : whole ≡ paper.follow so_far (more fuel)

pub follow_gives : {A B C : Type 0} (o : Option (A × Bytes)) (g : A → B) (k : B → paper.Reader C)
    → paper.follow (paper.follow o (λ x. paper.gives (g x))) k ≡ paper.follow o (λ x. k (g x))
follow_gives none g k = refl
follow_gives (some x) g k = refl

module _ {A : Type 0} {elms : A → List Spelt} {s : Bytes} {at : ℕ} {t : Bytes} {l : ℕ} {whole : Option (A × Bytes)} (more : ℕ → A → paper.Reader A) where
  pub going_starts : {o : Option (A × Bytes)} {n m : ℕ} {u : Bytes} → Laid elms s at t l o n m u → whole ≡ paper.follow o (λ x bs. more (length bs) x bs)
      → Going elms s at t l whole more n m u
  going_starts {o} {n} x e = record { so_far = o; fuel = length (drop n s); read = x; enough = omega (arith, length-drop n s); same = e ∙ rw x.reads }

  module _ {u : Bytes} {n m : ℕ} (c : Going elms s at t l whole more n m u) where
    pub going_stops : ((f : ℕ) (x : A) → more f x (drop n s) ≡ some (x, drop n s)) → Laid elms s at t l whole n m u
    going_stops h =
        let x = c.read in
        record {
          thing = x.thing;
          reads = c.same ∙ ap (λ (o : Option (A × Bytes)). paper.follow o (more c.fuel)) x.reads ∙ h c.fuel x.thing;
          forward = x.forward;
          inside = x.inside;
          few = x.few;
          written = x.written;
        }

    module _ {B : Type 0} (inside : n < length s) {p : Option (B × Bytes)} (g : A → B → A)
        (step : (f : ℕ) (x : A) → more (suc f) x (drop n s) ≡ paper.follow p (λ y. more f (g x y))) where
      -- one more: its own elms behind those laid, and `g` makes the new thing of both
      pub going_on : (two : B → List Spelt) {w : Bytes} {n' m' : ℕ} → l ≤ length t → Laid two s n u m p n' m' w
          → ((x : A) (y : B) → elms (g x y) ≡ elms x ++ two y) → Going elms s at t l whole more n' m' w
      going_on two {w} {n'} {m'} h y q = go c.fuel c.enough c.same
        where
          go : (f : ℕ) → length s ≤ n + f → whole ≡ paper.follow c.so_far (more f) → Going elms s at t l whole more n' m' w
          go zero b i = absurd (omega arith)
          go (suc f) b i =
              record {
                so_far = paper.follow p (λ y. paper.gives (g c.read.thing y));
                fuel = f;
                read = laid_then elms two elms c.read h (omega arith) (g c.read.thing) (q c.read.thing) y;
                enough = omega (arith, y.forward);
                same = i ∙ ap (λ (o : Option (A × Bytes)). paper.follow o (more (suc f))) c.read.reads
                    ∙ (step f c.read.thing ∙ sym (follow_gives p (g c.read.thing) (more f)));
              }

      -- or what follows is not read, and then neither is the whole
      pub going_none : p ≡ none → whole ≡ none
      going_none e = go c.fuel c.enough c.same
        where
          go : (f : ℕ) → length s ≤ n + f → whole ≡ paper.follow c.so_far (more f) → whole ≡ none
          go zero b i = absurd (omega arith)
          go (suc f) b i = i ∙ ap (λ (o : Option (A × Bytes)). paper.follow o (more (suc f))) c.read.reads ∙ step f c.read.thing ∙ rw e

pub follow_same : {A : Type 0} (o : Option (A × Bytes)) → paper.follow o paper.gives ≡ o
follow_same none = refl
follow_same (some x) = refl
