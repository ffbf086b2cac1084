-- A byte at the front of a buffer, and a part that ends where its text does, over plain lists. Assumes nothing.
use mathlib.Core.Path.{◌≡◌, refl, sym, ap, ◌∙◌}
use mathlib.Core.List.{[], ◌∷◌, ◌++◌}
use mathlib.Core.Logic.{⊎_elim}
use Prim.Native.Nat.{ℕ, ◌+◌, ◌-◌, ◌<◌, min}
use native.Mathlib.Nat.{not-suc-le-zero}
use native.Mathlib.Omega.{arith}
use lib.ListN.{length, take, drop, set, length-take, length-drop, drop_of_length-le}
use lib.Seq.{take_all}
use Rattle.paper.specs.Bytes.{Bytes}
use Rattle.paper.proofs.Truths.{ltb_or}

pub first_byte : (b : ℕ) (d : Bytes) → 0 < length d → set d 0 b ≡ (b ∷ []) ++ drop 1 d
first_byte b [] h = absurd (not-suc-le-zero h)
first_byte b (x ∷ xs) h = refl

-- a place past the end, and a count past it, count as the end
drop_least : (m : ℕ) (s : Bytes) → drop (min m (length s)) s ≡ drop m s
drop_least m s =
    ⊎_elim (λ l. let k : min m (length s) ≡ m = omega arith in rw k)
    (λ l. drop_of_length-le s {i = min m (length s)} (omega arith) ∙ sym (drop_of_length-le s l)) (ltb_or m (length s))

take_least : (n : ℕ) (s : Bytes) → take (min n (length s)) s ≡ take n s
take_least n s =
    ⊎_elim (λ l. let k : min n (length s) ≡ n = omega arith in rw k)
    (λ l. take_all (min n (length s)) s (omega arith) ∙ sym (take_all n s l)) (ltb_or n (length s))

module _ (m n from size : ℕ) (s : Bytes) (f : from ≡ min m (length s)) (l : size ≡ min n (length s - from)) where
  pub clipped : take (from + size - from) (drop from s) ≡ take n (drop m s)
  clipped =
      let k : from + size - from ≡ min n (length (drop from s)) = omega (arith, length-drop from s) in
      ap (λ (k : ℕ). take k (drop from s)) k ∙ take_least n (drop from s) ∙ ap (take n) (ap (λ (k : ℕ). drop k s) f ∙ drop_least m s)

  pub clipped_length : size ≡ length (take n (drop m s))
  clipped_length = omega (arith, ap length clipped, length-take (from + size - from) (drop from s), length-drop from s)
