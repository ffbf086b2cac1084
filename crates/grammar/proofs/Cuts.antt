-- Where a code of a string ends, and what is left behind it.
use Rattle.std.specs.Prelude.{if◌then◌else◌}
use Prim.Native.Nat.{ℕ, suc, ◌<◌, ◌≤◌, ◌+◌, ◌-◌}
use mathlib.Core.Path.{◌≡◌, refl, sym, ap, ◌∙◌}
use mathlib.Core.Bool.{Bool, true, false}
use mathlib.Core.List.{List, [], ◌∷◌}
use lib.ListN.{length, take, drop, length-drop}
use lib.Seq.{take_all, drop-drop}
use lib.Dec.{eqb}
use native.Mathlib.Omega.{arith}
use Rattle.paper.specs.Bytes.{Bytes}
use Rattle.paper.specs.Records.{opened, split}
use Rattle.lent.specs.Scan.{upto}
use Rattle.grammar.specs.Heads.{code_end}
use Rattle.paper.proofs.Ranges.{within_one}

-- a code ends at the first byte 253
pub end_upto : (bs : Bytes) (at : ℕ) → code_end bs at ≡ at + length (upto 253 253 bs)
unfolding code_end upto
end_upto [] at = omega arith
end_upto (b ∷ bs) at = rw (within_one 253 b) (go (end_upto bs (suc at)) (eqb b 253))
  where
    go : code_end bs (suc at) ≡ suc at + length (upto 253 253 bs) → (t : Bool) → (if t then at else code_end bs (suc at)) ≡ at + length (if t then [] else (b ∷ upto 253 253 bs))
    go ih true = omega arith
    go ih false = omega arith

-- these bytes are one code, or a byte 253 parts them
data Cut (bs : Bytes) (at end : ℕ) (pieces : List Bytes) : Type 0 where
  uncut : end ≡ at + length bs → pieces ≡ bs ∷ [] → Cut bs at end pieces
  cut : (k : ℕ) → end ≡ at + k → k < length bs → pieces ≡ take k bs ∷ split 253 (drop (suc k) bs) → Cut bs at end pieces

cuts : (bs : Bytes) (at : ℕ) → Cut bs at (code_end bs at) (split 253 bs)
unfolding code_end split
cuts [] at = uncut (omega arith) refl
cuts (b ∷ bs) at = go (eqb b 253) (cuts bs (suc at))
  where
    onward : {end : ℕ} {pieces : List Bytes} → Cut bs (suc at) end pieces → Cut (b ∷ bs) at end (opened false b pieces)
    onward (uncut e f) = uncut (omega arith) (ap (opened false b) f)
    onward (cut k e h f) = cut (suc k) (omega arith) (omega arith) (ap (opened false b) f)

    go : (t : Bool) → Cut bs (suc at) (code_end bs (suc at)) (split 253 bs) → Cut (b ∷ bs) at (if t then at else code_end bs (suc at)) (opened t b (split 253 bs))
    go true c = cut 0 (omega arith) (omega arith) refl
    go false c = onward c

module _ (s : Bytes) (at : ℕ) (h : at ≤ length s) {end : ℕ} (e : end ≡ code_end (drop at s) at) where
  at_end : Cut (drop at s) at end (split 253 (drop at s))
  at_end = rw e (cuts (drop at s) at)

  pub end_within : (at ≤ end) × (end ≤ length s)
  end_within = go at_end
    where
      go : Cut (drop at s) at end (split 253 (drop at s)) → (at ≤ end) × (end ≤ length s)
      go (uncut f g) = omega (arith, length-drop at s)
      go (cut k f l g) = omega (arith, length-drop at s)

  -- the last code, and one before others
  pub split_last : end ≡ length s → split 253 (drop at s) ≡ take (end - at) (drop at s) ∷ []
  split_last n = go at_end
    where
      go : Cut (drop at s) at end (split 253 (drop at s)) → split 253 (drop at s) ≡ take (end - at) (drop at s) ∷ []
      go (uncut f g) = g ∙ ap (λ (p : Bytes). p ∷ []) (sym (take_all (end - at) (drop at s) (omega arith)))
      go (cut k f l g) = absurd (omega (arith, length-drop at s))

  pub split_more : (end ≡ length s → ⊥) → split 253 (drop at s) ≡ take (end - at) (drop at s) ∷ split 253 (drop (end + 1) s)
  split_more n = go at_end
    where
      go : Cut (drop at s) at end (split 253 (drop at s)) → split 253 (drop at s) ≡ take (end - at) (drop at s) ∷ split 253 (drop (end + 1) s)
      go (uncut f g) = absurd (n (omega (arith, length-drop at s)))
      go (cut k f l g) =
          let x : k ≡ end - at = omega arith in
          let y : at + suc k ≡ end + 1 = omega arith in
          g ∙ rw (drop-drop, y, x)
