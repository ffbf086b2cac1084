-- Skimming from thing to thing: what is counted so far and what is still to be read stay the same.
use Prim.Native.Nat.{ℕ, ◌+◌, ◌-◌, ◌≤◌}
use mathlib.Core.Path.{◌≡◌, refl, ap}
use mathlib.Core.List.{List, ◌∷◌}
use mathlib.Core.Option.{Option, none, some}
use lib.ListN.{length, drop, length-drop}
use native.Mathlib.Omega.{arith}
use Rattle.paper.specs.Bytes.{Bytes}
use Rattle.paper.proofs.Fuel.{onto}
use Rattle.readers.specs.Reading.{skimmed}
use Rattle.readers.proofs.Taken.{some_one, none_some}

-- k more than was counted
abbrev pub raised : ℕ → Option (ℕ × ℕ) → Option (ℕ × ℕ)
raised k none = none
raised k (some r) = some (k + r.0, r.1)

module _ {A : Type 0} (size : A → ℕ) (s : Bytes) (k : ℕ) where
  pub skimmed_none : {o : Option (A × Bytes)} → o ≡ none → raised k (skimmed size s o) ≡ none
  unfolding skimmed
  skimmed_none e = rw e

  pub skimmed_last : {o : Option (A × Bytes)} (x : A) (v n : ℕ) → o ≡ some (x, drop n s) → size x ≡ v → n ≤ length s
      → raised k (skimmed size s o) ≡ some (k + v, n)
  unfolding skimmed
  skimmed_last x v n e f h =
      let z : length s - length (drop n s) ≡ n = omega (arith, length-drop n s) in
      rw (e, f, z)

-- what was not skimmed was not read, and what was skimmed was
pub unskimmed : {A : Type 0} (size : A → ℕ) (s : Bytes) (o : Option (A × Bytes)) → skimmed size s o ≡ none → o ≡ none
unfolding skimmed
unskimmed size s none e = refl
unskimmed size s (some r) e = absurd (none_some e refl)

pub skimmed_some : {A : Type 0} (size : A → ℕ) (s : Bytes) (o : Option (A × Bytes)) (v n : ℕ) → skimmed size s o ≡ some (v, n)
    → (x : A) × (rest : Bytes) × (o ≡ some (x, rest)) × (size x ≡ v) × (length s - length rest ≡ n)
unfolding skimmed
skimmed_some size s none v n e = let z : ◌≡◌ {A = ℕ} 0 1 = cc in absurd (omega arith)
skimmed_some size s (some r) v n e = let f = some_one refl e in (r.0, r.1, refl, ap (λ x. x.0) f, ap (λ x. x.1) f)

-- one thing, and then those that are still to be skimmed
pub skimmed_more : {A : Type 0} (size : List A → ℕ) (s : Bytes) (k v : ℕ) (x : A) {here : Option (List A × Bytes)} (o : Option (List A × Bytes))
    → here ≡ onto x o → ((xs : List A) → size (x ∷ xs) ≡ v + size xs) → raised k (skimmed size s here) ≡ raised (k + v) (skimmed size s o)
unfolding skimmed
skimmed_more size s k v x none e h = rw e
skimmed_more size s k v x (some r) e h = rw e (ap (λ (n : ℕ). some (n, length s - length r.1)) (omega (arith, h r.0)))
