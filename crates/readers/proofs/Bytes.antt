-- The byte at a place and the place after it.
use Prim.Native.Nat.{ℕ, zero, suc, ◌<◌, ◌≤◌, ◌+◌}
use mathlib.Core.Path.{◌≡◌, refl, sym, ap, ◌∙◌}
use mathlib.Core.Logic.{⊎_elim}
use mathlib.Core.Bool.{Bool, true, false}
use mathlib.Core.List.{[], ◌∷◌}
use lib.ListN.{length, get_or, drop, length-drop, get_or-eq_default}
use lib.Dec.{eqb}
use lib.Seq.{drop-cons}
use native.Mathlib.Numerals.{add-one}
use native.Mathlib.Omega.{arith}
use borrow.Author.Tests.{lt-ltb, le-ltb, eq-eqb, ne_eqb, eqb-true, eqb-false}
use Rattle.paper.specs.Bytes.{Bytes}
use Rattle.paper.proofs.Truths.{ltb_or}
use Rattle.readers.specs.Places.{byte_at, after, Peeked}

getD_inside : (s : Bytes) (at d e : ℕ) → at < length s → get_or s at d ≡ get_or s at e
getD_inside [] at d e h = omega arith
getD_inside (b ∷ s) zero d e h = refl
getD_inside (b ∷ s) (suc at) d e h = getD_inside s at d e (omega arith)

-- inside: the byte itself, and one place on
pub byte_inside : (s : Bytes) (at d : ℕ) → at < length s → get_or s at d ≡ byte_at s at
unfolding byte_at
byte_inside s at d h = getD_inside s at d 255 h

pub after_inside : (s : Bytes) (at : ℕ) → at < length s → at + 1 ≡ after s at
unfolding after
after_inside s at h = simp (lt-ltb at (length s) h)

pub ahead_of : (s : Bytes) (at : ℕ) → at < length s → drop at s ≡ byte_at s at ∷ drop (after s at) s
ahead_of s at h =
    let a : after s at ≡ suc at = sym (after_inside s at h) ∙ add-one at in
    rw a (drop-cons s at 255 h ∙ ap (λ (b : ℕ). b ∷ drop (suc at) s) (byte_inside s at 255 h))

-- past the end: the segment mark, and no place on
pub byte_past : (s : Bytes) (at : ℕ) → length s ≤ at → 255 ≡ byte_at s at
unfolding byte_at
byte_past s at h = sym (get_or-eq_default s 255 h)

pub after_past : (s : Bytes) (at : ℕ) → length s ≤ at → at ≡ after s at
unfolding after
after_past s at h = simp (le-ltb at (length s) h)

pub peeked_inside : (s : Bytes) (at : ℕ) → at < length s → Peeked s at (get_or s at 0) (at + 1)
peeked_inside s at h = record { stands = byte_inside s at 0 h; leads = after_inside s at h }

pub peeked_drop : {s : Bytes} {at b n : ℕ} → at < length s → Peeked s at b n → drop at s ≡ b ∷ drop n s
peeked_drop {s} {at} h p = rw (p.stands, p.leads) (ahead_of s at h)

pub peeked_within : {s : Bytes} {at b n : ℕ} → at ≤ length s → Peeked s at b n → (at ≤ n) × (n ≤ length s)
peeked_within {s} {at} h p =
    ⊎_elim (λ l. (omega (arith, p.leads, after_inside s at l), omega (arith, p.leads, after_inside s at l)))
    (λ u. (omega (arith, p.leads, after_past s at u), omega (arith, p.leads, after_past s at u)))
    (ltb_or at (length s))

-- all of the bytes: none are left, or the place is their end
pub left_none : (s : Bytes) (n : ℕ) → n ≤ length s → eqb (length (drop n s)) 0 ≡ eqb n (length s)
left_none s n h = go (eqb n (length s)) refl
  where
    go : (t : Bool) → eqb n (length s) ≡ t → eqb (length (drop n s)) 0 ≡ eqb n (length s)
    go true e = let f = eqb-true n (length s) e in eq-eqb (length (drop n s)) 0 (omega (arith, length-drop n s)) ∙ sym e
    go false e = let f = eqb-false n (length s) e in ne_eqb (length (drop n s)) 0 (λ z. f (omega (arith, length-drop n s))) ∙ sym e
