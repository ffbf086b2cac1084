-- What one turn of each loop does, over plain lists: what the rest gives from the next place is what it gives from this one.
use Rattle.std.specs.Prelude.{if◌then◌else◌, cond}
use Rattle.std.specs.List.{count_by}
use Rattle.std.proofs.lemmas.List.Recursion.{is_count_by}
use mathlib.Core.Path.{◌≡◌, refl, ap, ◌∙◌}
use mathlib.Core.Bool.{Bool, true, false, true≢false, ◌||◌}
use mathlib.Core.List.{[], ◌∷◌, ◌++◌}
use Prim.Native.Nat.{ℕ, suc, ◌+◌, ◌-◌, ◌≤◌, ◌<◌}
use native.Mathlib.Numerals.{add-one}
use native.Mathlib.Omega.{arith}
use lib.ListN.{length, drop, get_or, drop_of_length-le}
use lib.Dec.{eqb, leb}
use borrow.Author.Tests.{eq-eqb, ne_eqb, leb-false}
use Rattle.paper.specs.Bytes.{Bytes, any, within}
use Rattle.paper.specs.Sizes.{attribute_mark}
use Rattle.lent.specs.Scan.{range}
use Rattle.lent.proofs.Scans.{next}
use Rattle.lent.proofs.Blocks.{drop_parts, length_range}
use Rattle.records.specs.Scan.{tally, skip}

-- ---- how many bytes are a mark

pub tally_counted : (m : ℕ) (bs : Bytes) → tally m bs ≡ count_by (λ b. eqb b m) bs
unfolding tally
tally_counted m = is_count_by (tally m) (λ b. eqb b m) refl (λ b bs. go (eqb b m) (tally m bs))
  where
    go : (t : Bool) (n : ℕ) → (if t then 1 else 0) + n ≡ cond t (1 + n) n
    go true n = refl
    go false n = omega arith

-- ---- past the marks

pub skip_none : (m : ℕ) (bs : Bytes) (at : ℕ) → skip m bs at 0 ≡ record { at = at; left = 0 }
unfolding skip
skip_none m [] at = refl
skip_none m (b ∷ bs) at = refl

-- a turn, with what is left seen as a successor
pub skip_cons : (m b : ℕ) (bs : Bytes) (at n k : ℕ) → n ≡ suc k
    → skip m (b ∷ bs) at n ≡ (if within (suc m) attribute_mark b then record { at = at; left = n } else skip m bs (at + 1) (if eqb b m then k else n))
unfolding skip
skip_cons m b bs at n k e = rw (e, add-one)

module _ (m : ℕ) (text : Bytes) (i at left : ℕ) where
  pub skip_end : length text ≤ i → skip m (drop i text) at left ≡ record { at = at; left = left }
  unfolding skip
  skip_end h = ap (λ (l : Bytes). skip m l at left) (drop_of_length-le text h)

  skip_turn : i < length text → 0 < left
      → skip m (drop i text) at left ≡ (if within (suc m) attribute_mark (get_or text i 0) then record { at = at; left = left } else skip m (drop (i + 1) text) (at + 1) (if eqb (get_or text i 0) m then (left - 1) else left))
  skip_turn h l = ap (λ (bs : Bytes). skip m bs at left) (next text i h) ∙ skip_cons m (get_or text i 0) (drop (i + 1) text) at left (left - 1) (omega arith)

  pub skip_closed : i < length text → 0 < left → within (suc m) attribute_mark (get_or text i 0) ≡ true → skip m (drop i text) at left ≡ record { at = at; left = left }
  skip_closed h l t = skip_turn h l ∙ rw t

  pub skip_mark : i < length text → 0 < left → within (suc m) attribute_mark (get_or text i 0) ≡ false → get_or text i 0 ≡ m
      → skip m (drop i text) at left ≡ skip m (drop (i + 1) text) (at + 1) (left - 1)
  skip_mark h l t e = skip_turn h l ∙ rw (t, eq-eqb (get_or text i 0) m e)

  pub skip_other : i < length text → 0 < left → within (suc m) attribute_mark (get_or text i 0) ≡ false → (get_or text i 0 ≡ m → ⊥)
      → skip m (drop i text) at left ≡ skip m (drop (i + 1) text) (at + 1) left
  skip_other h l t e = skip_turn h l ∙ rw (t, ne_eqb (get_or text i 0) m e)

module _ (m : ℕ) where
  -- one byte of a block that ends neither the piece nor the marks to pass
  front_byte : (p q : Bytes) (at left k n : ℕ) (t u : Bool) → left ≡ suc k → t || any (within (suc m) attribute_mark) p ≡ false → left ≡ (if u then 1 else 0) + tally m p + n
      → ((j : ℕ) → any (within (suc m) attribute_mark) p ≡ false → j ≡ tally m p + n → skip m (p ++ q) (at + 1) j ≡ skip m q (at + 1 + length p) n)
      → (if t then record { at = at; left = left } else skip m (p ++ q) (at + 1) (if u then k else left)) ≡ skip m q (at + suc (length p)) n
  front_byte p q at left k n true u e c h ih = absurd (true≢false c)
  front_byte p q at left k n false true e c h ih =
      let place : at + suc (length p) ≡ at + 1 + length p = omega arith in
      rw place (ih k c (omega arith))
  front_byte p q at left k n false false e c h ih =
      let place : at + suc (length p) ≡ at + 1 + length p = omega arith in
      rw place (ih left c (omega arith))

  skip_front : (p q : Bytes) (at left n : ℕ) → any (within (suc m) attribute_mark) p ≡ false → left ≡ tally m p + n → 0 < n → skip m (p ++ q) at left ≡ skip m q (at + length p) n
  unfolding tally any
  skip_front [] q at left n e h l =
      let place : at + 0 ≡ at = omega arith in
      let same : left ≡ n = omega arith in
      rw (place, same)
  skip_front (b ∷ p) q at left n e h l =
      let one : left ≡ suc (left - 1) = omega arith in
      skip_cons m b (p ++ q) at left (left - 1) one
      ∙ front_byte p q at left (left - 1) n (within (suc m) attribute_mark b) (eqb b m) one e h (λ j c k. skip_front p q (at + 1) j n c k l)

  -- a block in which no mark ends the piece, and with fewer marks, n, than are to be passed
  pub skip_block : (item : Bytes) (at end left n : ℕ) → at ≤ end → end ≤ length item → any (within (m + 1) attribute_mark) (range item at end) ≡ false → n ≡ tally m (range item at end) → n < left
      → skip m (drop at item) at left ≡ skip m (drop end item) end (left - n)
  skip_block item at end left n order inside e t h =
      let place : at + length (range item at end) ≡ end = omega (arith, length_range item at end order inside) in
      ap (λ (l : Bytes). skip m l at left) (drop_parts item at end order)
      ∙ skip_front (range item at end) (drop end item) at left (left - n) (rw add-one at e) (omega arith) (omega arith)
      ∙ ap (λ (k : ℕ). skip m (drop end item) k (left - n)) place

-- a test of the two at once
pub neither : (l n : ℕ) (closed : Bool) → leb l n || closed ≡ false → (n < l) × (closed ≡ false)
neither l n closed e = go (leb l n) refl e
  where
    go : (t : Bool) → leb l n ≡ t → t || closed ≡ false → (n < l) × (closed ≡ false)
    go true h e = absurd (true≢false e)
    go false h e = (leb-false l n h, e)
