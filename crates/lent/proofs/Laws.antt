-- The laws of `over`.
use mathlib.Core.Path.{◌≡◌, sym, ◌∙◌, subst}
use mathlib.Core.List.{List, [], ◌∷◌, ◌++◌, append_assoc, append-nil}
use Prim.Native.Nat.{ℕ, suc, ◌+◌, ◌-◌, ◌≤◌, ◌<◌}
use native.Mathlib.Nat.{add_assoc, add-zero, zero-add}
use native.Mathlib.Numerals.{add-one}
use native.Mathlib.Omega.{arith}
use lib.ListN.{length, take, drop, get_or, set, length-append, length-drop, take-append-drop, get_or-append}
use lib.Seq.{drop-length, drop-drop, drop_at, set_split, get_or-append-add, get_or-drop, get_or-take, take-append-le, take-append_seam, drop-append-add, take-take, append_snoc, length-take-le}
use borrow.Rule.Slice.PartMut.{put_mid}
use Rattle.lent.specs.Over.{over}

-- bytes between what stood before them and what stood behind them, by their number
pub over_as : (d : List ℕ) (at : ℕ) (s : List ℕ) {k : ℕ} → length s ≡ k → take at d ++ s ++ drop (at + k) d ≡ over d at s
unfolding over
over_as d at s e = rw (← e)

-- nothing laid changes nothing; one byte laid is one byte set
pub over_none : (d : List ℕ) (at : ℕ) → over d at [] ≡ d
unfolding over
over_none d at = simp (append-nil, add-zero, take-append-drop)

pub over_one : (d : List ℕ) (at b : ℕ) → at < length d → set d at b ≡ over d at (b ∷ [])
unfolding over
over_one d at b h = set_split d at b h ∙ sym (rw (add-one at) (append_snoc (take at d) b (drop (suc at) d)))

pub length_over : (d : List ℕ) (at : ℕ) (s : List ℕ) → at + length s ≤ length d → length (over d at s) ≡ length d
unfolding over
length_over d at s h = simp (length-append, length-take-le at d (omega arith), length-drop) (omega arith)

-- from the front: the bytes, and then what was behind them
pub over_front : (d s : List ℕ) → over d 0 s ≡ s ++ drop (length s) d
unfolding over
over_front d s = rw zero-add

-- the whole buffer: the bytes alone
pub over_all : (d s : List ℕ) → length s ≡ length d → over d 0 s ≡ s
over_all d s e = over_front d s ∙ rw (e, drop-length, append-nil)

-- a part of the buffer written, as `fill` and `copy_from_slice` leave it
pub over_part : (d : List ℕ) (at k : ℕ) (s : List ℕ) → length s ≡ k → put_mid at k d s ≡ over d at s
unfolding over
over_part d at k s e = rw (← e, drop-drop (length s) at d) (sym (append_assoc (take at d) s (drop (at + length s) d)))

-- bytes laid behind bytes that were laid, whatever room there is: both at once
pub over_over : (d : List ℕ) (at : ℕ) (s t : List ℕ) → at ≤ length d → over (over d at s) (at + length s) t ≡ over d at (s ++ t)
unfolding over
over_over d at s t h =
    let long : length (take at d ++ s) ≡ at + length s = simp (length-append, length-take-le at d h) in
    rw (← long, take-append_seam, drop-append-add, drop-drop, long, length-append s t, ← add_assoc, append_assoc (take at d) s t)

-- bytes laid ahead of bytes that were laid: both at once
pub over_ahead : (d : List ℕ) (at : ℕ) (s t : List ℕ) → at + length s ≤ length d → over (over d (at + length s) t) at s ≡ over d at (s ++ t)
unfolding over
over_ahead d at s t h =
    let m : ℕ = at + length s in
    let rest : List ℕ = t ++ drop (m + length t) d in
    let long : length (take m d) ≡ m = length-take-le m d h in
    rw (append_assoc (take m d) t (drop (m + length t) d), take-append-le at (take m d) rest (omega arith), take-take at m d (omega arith))
    (rw (drop_at (take m d) rest m long, length-append s t, ← add_assoc) (simp append_assoc))

-- bytes in front, and others behind them
pub over_behind : (d s t : List ℕ) (n : ℕ) → n ≡ length s → over (over d 0 s) n t ≡ s ++ t ++ drop (length (s ++ t)) d
over_behind d s t n e = rw (e, ← zero-add (length s)) (over_over d 0 s t (omega arith)) ∙ over_front d (s ++ t)

-- what stands before the laid bytes, and what stands behind them, is what stood there
pub before_over : (d : List ℕ) (at : ℕ) (s : List ℕ) (i : ℕ) → at ≤ length d → i < at → get_or (over d at s) i 0 ≡ get_or d i 0
unfolding over
before_over d at s i h k =
    rw (append_assoc (take at d) s (drop (at + length s) d), get_or-append (take at d) (s ++ drop (at + length s) d) 0 i (omega (arith, length-take-le at d h)))
    (get_or-take at d i 0 k)

pub behind_over : (d : List ℕ) (at : ℕ) (s : List ℕ) (i : ℕ) → at ≤ length d → at + length s ≤ i → get_or (over d at s) i 0 ≡ get_or d i 0
unfolding over
behind_over d at s i h k =
    let long : length (take at d ++ s) ≡ at + length s = simp (length-append, length-take-le at d h) in
    let split : at + length s + (i - (at + length s)) ≡ i = omega arith in
    subst (λ (j : ℕ). get_or (over d at s) j 0 ≡ get_or d j 0) split (rw (← long, get_or-append-add, get_or-drop))

-- the j-th of n elements from `from` on
pub nth_from : (d : List ℕ) (from n j : ℕ) → j < n → get_or (take n (drop from d)) j 0 ≡ get_or d (from + j) 0
nth_from d from n j h = get_or-take n (drop from d) j 0 h ∙ get_or-drop from d j 0

pub length_from : (d : List ℕ) (from n : ℕ) → from + n ≤ length d → length (take n (drop from d)) ≡ n
length_from d from n h = length-take-le n (drop from d) (omega (arith, length-drop from d))
