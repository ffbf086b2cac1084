-- Pieces laid in turn, each where the last one ended or so that it ends where the last one began: their join, every other byte as it was.
-- And a loop that lays one byte a turn, from the front or from the back.
use mathlib.Core.Path.{◌≡◌, refl, sym, ◌∙◌, subst}
use mathlib.Core.List.{List, [], ◌∷◌, ◌++◌, append_assoc}
use Prim.Native.Nat.{ℕ, suc, ◌+◌, ◌-◌, ◌≤◌, ◌<◌}
use native.Mathlib.Nat.{add-zero, le_refl}
use native.Mathlib.Numerals.{add-one}
use native.Mathlib.Omega.{arith}
use lib.ListN.{length, take, drop, get_or, set, replicate, length-append, length-set, length-replicate}
use lib.Seq.{take-length, take-append_seam, take-suc, drop_at, drop-append-le, slice, slice_empty, slice-cons, length-take-le}
use Rattle.lent.specs.Over.{over, Laid}
use Rattle.lent.proofs.Laws.{over_none, over_one, over_over, over_ahead, before_over, behind_over}

pub laid_at : {s d now : List ℕ} {at end : ℕ} → now ≡ over d at s → end ≡ at + length s → Laid s d end now at
laid_at h e = record { place = sym e; bytes = h }

pub laid_fill : {d now : List ℕ} {at : ℕ} (n b : ℕ) → now ≡ over d at (replicate n b) → Laid (replicate n b) d (at + n) now at
laid_fill n b h = laid_at h (rw length-replicate)

pub laid_none : (d : List ℕ) (at : ℕ) → Laid [] d at d at
laid_none d at = record { place = add-zero at; bytes = sym (over_none d at) }

pub laid_one : (d : List ℕ) (at b : ℕ) {end : ℕ} → at + 1 ≡ end → at < length d → Laid (b ∷ []) d end (set d at b) at
laid_one d at b e h = record { place = e; bytes = over_one d at b h }

pub laid_as : {p q before after : List ℕ} {at r : ℕ} → p ≡ q → Laid p before at after r → Laid q before at after r
laid_as {before = before} {after = after} {at = at} {r = r} e laid = subst (λ (b : List ℕ). Laid b before at after r) e laid

-- t behind s, and s ahead of t: both in one
module _ {s t d mid after : List ℕ} {at seam end : ℕ} where
  pub laid_behind : Laid s d seam mid at → Laid t mid end after seam → at ≤ length d → Laid (s ++ t) d end after at
  laid_behind first next h = record {
    place = omega (arith, length-append s t, first.place, next.place);
    bytes = next.bytes ∙ rw (first.bytes, ← first.place) (over_over d at s t h);
  }

  pub laid_ahead : Laid t d end mid seam → Laid s mid seam after at → end ≤ length d → Laid (s ++ t) d end after at
  laid_ahead first next h = record {
    place = omega (arith, length-append s t, first.place, next.place);
    bytes = next.bytes ∙ rw (first.bytes, ← next.place) (over_ahead d at s t (omega (arith, first.place, next.place)));
  }

-- a piece read where it was laid
pub laid_read : {piece before after : List ℕ} {at r : ℕ} → at ≤ length before → Laid piece before at after r → take (at - r) (drop r after) ≡ piece
unfolding over
laid_read {piece} {before} {after} {at} {r} h laid =
    let size : at - r ≡ length piece = omega (arith, laid.place) in
    let long : length (take r before) ≡ r = length-take-le r before (omega (arith, laid.place)) in
    rw (laid.bytes, append_assoc, drop_at (take r before) (piece ++ drop (r + length piece) before) r long, size, take-append_seam)

-- After some turns of a loop: of the n bytes s those from i up to j are laid, each at its place from `at` on.
pub record Laying (d : List ℕ) (at : ℕ) (s : List ℕ) (n i j : ℕ) (now : List ℕ) : Type 0 where
  pub long : length s ≡ n
  pub room : at + n ≤ length d
  pub ordered : i ≤ j
  pub within : j ≤ n
  pub same : length now ≡ length d
  pub laid : Laid (slice i j s) d (at + j) now (at + i)

pub laying_none : (d : List ℕ) (at : ℕ) (s : List ℕ) (n i : ℕ) → length s ≡ n → at + n ≤ length d → i ≤ n → Laying d at s n i i d
laying_none d at s n i l r h =
    record { long = l; room = r; ordered = le_refl i; within = h; same = refl; laid = laid_as (sym (slice_empty i s)) (laid_none d (at + i)) }

module _ {d s now : List ℕ} {at n i j : ℕ} (l : Laying d at s n i j now) where
  -- the next byte
  pub laying_more : (x : ℕ) → j < n → x ≡ get_or s j 0 → Laying d at s n i (j + 1) (set now (at + j) x)
  laying_more x h e =
      record {
        long = l.long;
        room = l.room;
        ordered = omega arith;
        within = omega arith;
        same = length-set now (at + j) x ∙ l.same;
        laid = laid_as longer (laid_behind l.laid (laid_one now (at + j) x (omega arith) (omega arith)) (omega arith));
      }
    where
      longer : slice i j s ++ x ∷ [] ≡ slice i (j + 1) s
      longer = rw (e, add-one j, take-suc s j 0 (omega arith)) (sym (drop-append-le i (take j s) (get_or s j 0 ∷ []) (omega (arith, length-take-le j s (omega arith)))))

  -- the byte before
  pub laying_less : (k x : ℕ) → i ≡ suc k → x ≡ get_or s k 0 → Laying d at s n k j (set now (at + k) x)
  laying_less k x ei e =
      record {
        long = l.long;
        room = l.room;
        ordered = omega arith;
        within = l.within;
        same = length-set now (at + k) x ∙ l.same;
        laid = laid_as longer (laid_ahead l.laid (laid_one now (at + k) x (omega arith) (omega arith)) (omega arith));
      }
    where
      longer : x ∷ [] ++ slice i j s ≡ slice k j s
      longer = rw (e, ei) (sym (slice-cons k j s 0 (omega arith) (omega arith)))

  pub laying_all : i ≤ 0 → n ≤ j → now ≡ over d at s
  laying_all h k =
      let none : i ≡ 0 = omega arith in
      let all : j ≡ length s = omega arith in
      l.laid.bytes ∙ rw (none, all, add-zero, take-length)

  -- what stands before the laid bytes, and what stands behind them, is what stood there
  pub before_laying : (k : ℕ) → k < at + i → get_or now k 0 ≡ get_or d k 0
  before_laying k h = rw l.laid.bytes (before_over d (at + i) (slice i j s) k (omega arith) h)

  pub behind_laying : (k : ℕ) → at + j ≤ k → get_or now k 0 ≡ get_or d k 0
  behind_laying k h = rw l.laid.bytes (behind_over d (at + i) (slice i j s) k (omega arith) (omega (arith, l.laid.place)))
