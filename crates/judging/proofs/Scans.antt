-- The scan of a code string for marks: where a code ends, and that up to the first mark it has none.
use Rattle.std.specs.Prelude.{if◌then◌else◌}
use Prim.Native.Nat.{ℕ, suc, ◌<◌, ◌≤◌, ◌+◌, ◌-◌}
use mathlib.Core.Path.{◌≡◌, refl, sym, ap, ◌∙◌}
use mathlib.Core.Bool.{Bool, true, false, true≢false}
use mathlib.Core.Logic.{◌⊎◌, inl, inr}
use mathlib.Core.List.{[], ◌∷◌}
use lib.ListN.{length, get_or, take}
use lib.Dec.{eqb}
use native.Mathlib.Omega.{arith}
use borrow.Author.Tests.{eq-eqb, ne_eqb}
use Rattle.paper.specs.Bytes.{Bytes, any, within}
use Rattle.paper.specs.Sizes.{is_mark}
use Rattle.lent.specs.Scan.{upto}
use Rattle.lent.proofs.Scans.{length_upto}
use Rattle.grammar.specs.Heads.{code_end}
use Rattle.paper.proofs.Ranges.{within_yes}
use Rattle.grammar.proofs.Cuts.{end_upto}

-- byte 253 is a mark
no_value : (b : ℕ) → within 251 255 b ≡ false → eqb b 253 ≡ false
no_value b e = ne_eqb b 253 (λ z. let f : b ≡ 253 = z in true≢false (sym (within_yes 251 255 b (omega arith) (omega arith)) ∙ e))

-- the bytes before the first mark
abbrev pub clear : Bytes → ℕ
clear bs = length (upto 251 255 bs)

pub clear_fits : (bs : Bytes) → clear bs ≤ length bs
clear_fits bs = length_upto 251 255 bs

-- where that mark is byte 253, or there is none, it ends the code, which has no mark
pub clear_code : (bs : Bytes) (at : ℕ) → (clear bs ≡ length bs) ⊎ (get_or bs (clear bs) 0 ≡ 253)
    → (code_end bs at ≡ at + clear bs) × (any is_mark (take (clear bs) bs) ≡ false)
unfolding code_end upto any is_mark
clear_code [] at p = (omega arith, refl)
clear_code (b ∷ bs) at p = go (clear_code bs (suc at)) (within 251 255 b) refl p
  where
    go : ((clear bs ≡ length bs) ⊎ (get_or bs (clear bs) 0 ≡ 253) → (code_end bs (suc at) ≡ suc at + clear bs) × (any is_mark (take (clear bs) bs) ≡ false))
        → (t : Bool) → within 251 255 b ≡ t
        → (length (if t then [] else (b ∷ upto 251 255 bs)) ≡ suc (length bs)) ⊎ (get_or (b ∷ bs) (length (if t then [] else (b ∷ upto 251 255 bs))) 0 ≡ 253)
        → ((if eqb b 253 then at else code_end bs (suc at)) ≡ at + length (if t then [] else (b ∷ upto 251 255 bs)))
        × (any is_mark (take (length (if t then [] else (b ∷ upto 251 255 bs))) (b ∷ bs)) ≡ false)
    go ih true e (inl n) = absurd (omega arith)
    go ih true e (inr v) = (rw (eq-eqb b 253 v) (omega arith), refl)
    go ih false e (inl n) = let r = ih (inl (omega arith)) in (rw (no_value b e) (omega (arith, r.0)), rw e r.1)
    go ih false e (inr v) = let r = ih (inr v) in (rw (no_value b e) (omega (arith, r.0)), rw e r.1)

-- where it is another, the code has it
pub stray_code : (bs : Bytes) (at : ℕ) → clear bs < length bs → (get_or bs (clear bs) 0 ≡ 253 → ⊥) → any is_mark (take (code_end bs at - at) bs) ≡ true
unfolding code_end upto any is_mark
stray_code [] at h k = absurd (omega arith)
stray_code (b ∷ bs) at h k = go (stray_code bs (suc at)) (within 251 255 b) refl h k
  where
    taken : (n : ℕ) → suc at ≤ n → take (n - at) (b ∷ bs) ≡ b ∷ take (n - suc at) bs
    taken n l = let e : n - at ≡ suc (n - suc at) = omega arith in ap (λ (i : ℕ). take i (b ∷ bs)) e

    later : suc at ≤ code_end bs (suc at)
    later = omega (arith, end_upto bs (suc at))

    go : (clear bs < length bs → (get_or bs (clear bs) 0 ≡ 253 → ⊥) → any is_mark (take (code_end bs (suc at) - suc at) bs) ≡ true)
        → (t : Bool) → within 251 255 b ≡ t → length (if t then [] else (b ∷ upto 251 255 bs)) < suc (length bs)
        → (get_or (b ∷ bs) (length (if t then [] else (b ∷ upto 251 255 bs))) 0 ≡ 253 → ⊥)
        → any is_mark (take ((if eqb b 253 then at else code_end bs (suc at)) - at) (b ∷ bs)) ≡ true
    go ih true e l n = rw (ne_eqb b 253 n, taken (code_end bs (suc at)) later, e)
    go ih false e l n = rw (no_value b e, taken (code_end bs (suc at)) later, e) (ih (omega arith) n)
