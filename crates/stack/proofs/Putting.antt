-- The laws of the slots: what is put into one is there, and every other slot holds what it held. Assumes nothing.
use mathlib.Core.Path.{◌≡◌, refl, sym, ap, ◌∙◌}
use mathlib.Core.Logic.{◌≢◌}
use mathlib.Core.List.{List, ◌∷◌, ◌++◌, append_assoc}
use Prim.Native.Nat.{ℕ, zero, suc, ◌+◌, ◌-◌, ◌*◌, ◌≤◌, ◌<◌}
use native.Mathlib.Nat.{suc-mul, mul-le-mul_right}
use native.Mathlib.Numerals.{add-one}
use native.Mathlib.Decide.{dec_lt}
use native.Mathlib.Omega.{arith}
use lib.ListN.{length, take, drop, get_or, set, length-append, length-drop, length-set, take-append-drop}
use lib.Seq.{drop-drop, take-append-le, drop-append-le, get_or-set_same, get_or-set_other, length-take-le, drop_at, take_at}
use Rattle.paper.specs.Bytes.{Bytes}
use Rattle.paper.specs.Sizes.{entry_most, scratch_least, stack_most}
use Rattle.lent.specs.Over.{over}
use Rattle.lent.proofs.Laws.{length_over, length_from}
use Rattle.stack.specs.Slots.{slots, element_slot, spare_slot, entry_at, stack_of, put_in, put_length, exchanged, exchanged_lengths, Slotted}

-- bytes laid over a list are seen by no part before them, and by none behind them
front_part : (d x : Bytes) (at p n : ℕ) → at ≤ length d → p + n ≤ at → take n (drop p (take at d ++ x)) ≡ take n (drop p (take at d))
front_part d x at p n h l =
    let long = length-take-le at d h in
    rw (drop-append-le p (take at d) x (omega arith), take-append-le n (drop p (take at d)) x (omega (arith, length-drop p (take at d))))

before_over : (d : Bytes) (at : ℕ) (s : Bytes) (p n : ℕ) → at ≤ length d → p + n ≤ at → take n (drop p (over d at s)) ≡ take n (drop p d)
unfolding over
before_over d at s p n h l =
    ap (λ (b : Bytes). take n (drop p b)) (append_assoc (take at d) s (drop (at + length s) d))
    ∙ front_part d _ at p n h l ∙ sym (front_part d (drop at d) at p n h l)
    ∙ ap (λ (b : Bytes). take n (drop p b)) (take-append-drop at d)

behind_over : (d : Bytes) (at : ℕ) (s : Bytes) (p : ℕ) → at ≤ length d → at + length s ≤ p → drop p (over d at s) ≡ drop p d
unfolding over
behind_over d at s p h l =
    let m = at + length s in
    let place : p ≡ m + (p - m) = omega arith in
    let long : length (take at d ++ s) ≡ m = length-append (take at d) s ∙ ap (λ (n : ℕ). n + length s) (length-take-le at d h) in
    ap (λ (n : ℕ). drop n ((take at d ++ s) ++ drop m d)) place ∙ sym (drop-drop (p - m) m ((take at d ++ s) ++ drop m d))
    ∙ ap (drop (p - m)) (drop_at (take at d ++ s) (drop m d) m long)
    ∙ drop-drop (p - m) m d ∙ ap (λ (n : ℕ). drop n d) (sym place)

-- a part just where the bytes were laid
part_laid : (d : Bytes) (at : ℕ) (s : Bytes) → at + length s ≤ length d → take (length s) (drop at (over d at s)) ≡ s
unfolding over
part_laid d at s h =
    ap (λ (b : Bytes). take (length s) (drop at b)) (append_assoc (take at d) s (drop (at + length s) d))
    ∙ ap (λ (b : Bytes). take (length s) b) (drop_at (take at d) (s ++ drop (at + length s) d) at (length-take-le at d (omega arith)))
    ∙ take_at s (drop (at + length s) d) (length s) refl

-- a part from one place to another, as the code cuts it
pub from_to : (d : Bytes) (from n : ℕ) → take (from + n - from) (drop from d) ≡ take n (drop from d)
from_to d from n =
    let e : from + n - from ≡ n = omega arith in
    ap (λ (m : ℕ). take m (drop from d)) e

slot_before : (j k : ℕ) → j < k → j * entry_most + entry_most ≤ k * entry_most
slot_before j k h = rw suc-mul at (mul-le-mul_right entry_most h)

pub slot_within : (k : ℕ) → k < slots → k * entry_most + entry_most ≤ scratch_least
unfolding entry_most scratch_least
slot_within k h = omega arith

-- what slot k holds ends within the scratch, and is as long as its length says
module _ {scratch : Bytes} {lens : List ℕ} (slotted : Slotted scratch lens) (k : ℕ) (here : k < slots) where
  pub slot_ends : k * entry_most + get_or lens k 0 ≤ length scratch
  slot_ends = omega (arith, slot_within k here, slotted.long, slotted.fits k)

  pub entry_length : length (entry_at scratch lens k) ≡ get_or lens k 0
  unfolding entry_at
  entry_length = length_from scratch (k * entry_most) (get_or lens k 0) slot_ends

  pub entry_fits : length (entry_at scratch lens k) ≤ entry_most
  entry_fits = omega (arith, entry_length, slotted.fits k)

  pub entry_read : {part : Bytes} → part ≡ entry_at scratch lens k → length part ≤ entry_most
  entry_read e = rw e entry_fits

module _ {scratch : Bytes} {lens : List ℕ} (slotted : Slotted scratch lens) (k : ℕ) (bs : Bytes) (here : k < slots) (fit : length bs ≤ entry_most) where
  pub room : k * entry_most + length bs ≤ length scratch
  room = omega (arith, slot_within k here, slotted.long)

  pub put_slotted : Slotted (put_in scratch k bs) (put_length lens k bs)
  unfolding put_in put_length
  put_slotted =
      record {
        long = omega (arith, length_over scratch (k * entry_most) bs room, slotted.long);
        each = length-set lens k (length bs) ∙ slotted.each;
        fits = λ j. fits_at j (dec_lt j k) (dec_lt k j);
      }
    where
      fits_at : (j : ℕ) → Dec (j < k) → Dec (k < j) → get_or (set lens k (length bs)) j 0 ≤ entry_most
      fits_at j (yes l) g = rw (get_or-set_other lens k j (length bs) 0 (omega arith)) (slotted.fits j)
      fits_at j (no l) (yes g) = rw (get_or-set_other lens k j (length bs) 0 (omega arith)) (slotted.fits j)
      fits_at j (no l) (no g) =
          let e : j ≡ k = omega arith in
          rw (e, get_or-set_same lens k (length bs) 0 (omega (arith, slotted.each))) fit

  -- the slot holds what was put
  pub put_same : entry_at (put_in scratch k bs) (put_length lens k bs) k ≡ bs
  unfolding entry_at put_in put_length
  put_same =
      rw (get_or-set_same lens k (length bs) 0 (omega (arith, slotted.each)))
      (part_laid scratch (k * entry_most) bs room)

  -- every other slot holds what it held
  pub put_other : (j : ℕ) → j ≢ k → entry_at (put_in scratch k bs) (put_length lens k bs) j ≡ entry_at scratch lens j
  unfolding entry_at put_in put_length
  put_other j ne = rw (get_or-set_other lens k j (length bs) 0 ne) (apart (dec_lt j k))
    where
      apart : Dec (j < k)
          → take (get_or lens j 0) (drop (j * entry_most) (over scratch (k * entry_most) bs)) ≡ take (get_or lens j 0) (drop (j * entry_most) scratch)
      apart (yes h) = before_over scratch (k * entry_most) bs (j * entry_most) (get_or lens j 0) (omega (arith, room)) (omega (arith, slot_before j k h, slotted.fits j))
      apart (no h) = ap (take (get_or lens j 0)) (behind_over scratch (k * entry_most) bs (j * entry_most) (omega (arith, room)) (omega (arith, slot_before k j (omega arith))))

-- what putting leaves, as the code says it
abbrev pub Put : Bytes → List ℕ → ℕ → Bytes → Bytes → List ℕ → Type 0
Put scratch lens k bs scratch' lens' = record { scratch_after : scratch' ≡ put_in scratch k bs; lens_after : lens' ≡ put_length lens k bs }

pub put_done : (scratch : Bytes) (lens : List ℕ) (k : ℕ) (bs : Bytes) → Put scratch lens k bs (put_in scratch k bs) (put_length lens k bs)
put_done scratch lens k bs = record { scratch_after = refl; lens_after = refl }

-- and what exchanging two slots leaves
abbrev pub Exchanged : Bytes → List ℕ → ℕ → Bytes → List ℕ → Type 0
Exchanged scratch lens k scratch' lens' = record { scratch_after : scratch' ≡ exchanged scratch lens k; lens_after : lens' ≡ exchanged_lengths scratch lens k }

module _ {scratch : Bytes} {lens : List ℕ} {scratch' : Bytes} {lens' : List ℕ} (slotted : Slotted scratch lens) (k : ℕ) (bs : Bytes)
    (here : k < slots) (fit : length bs ≤ entry_most) (put : Put scratch lens k bs scratch' lens') where
  pub after_slotted : Slotted scratch' lens'
  after_slotted = rw (put.scratch_after, put.lens_after) (put_slotted slotted k bs here fit)

  pub after_same : entry_at scratch' lens' k ≡ bs
  after_same = rw (put.scratch_after, put.lens_after) (put_same slotted k bs here fit)

  pub after_other : (j : ℕ) → j ≢ k → entry_at scratch' lens' j ≡ entry_at scratch lens j
  after_other j ne = rw (put.scratch_after, put.lens_after) (put_other slotted k bs here fit j ne)

  -- and so do the slots below, as a stack
  after_above : (n : ℕ) → n ≤ k → stack_of scratch' lens' n ≡ stack_of scratch lens n
  unfolding stack_of
  after_above zero h = refl
  after_above (suc n) h = rw (after_other n (omega arith), after_above n (omega arith))

  pub after_on_top : stack_of scratch' lens' (suc k) ≡ bs ∷ stack_of scratch lens k
  unfolding stack_of
  after_on_top = rw (after_same, after_above k (omega arith))

-- two slots exchanged by three copies
module _ {s₀ s₁ s₂ s₃ : Bytes} {l₀ l₁ l₂ l₃ : List ℕ} (slotted : Slotted s₀ l₀) (k : ℕ) (room : k + 1 < stack_most)
    (aside : Put s₀ l₀ spare_slot (entry_at s₀ l₀ k) s₁ l₁) (down : Put s₁ l₁ k (entry_at s₁ l₁ (k + 1)) s₂ l₂)
    (up : Put s₂ l₂ (k + 1) (entry_at s₂ l₂ spare_slot) s₃ l₃) where
  aside_slotted : Slotted s₁ l₁
  aside_slotted = after_slotted slotted spare_slot _ (omega arith) (entry_fits slotted k (omega arith)) aside

  lower : entry_at s₁ l₁ (k + 1) ≡ entry_at s₀ l₀ (k + 1)
  lower = after_other slotted spare_slot _ (omega arith) (entry_fits slotted k (omega arith)) aside (k + 1) (omega arith)

  spared : entry_at s₂ l₂ spare_slot ≡ entry_at s₀ l₀ k
  spared =
      after_other aside_slotted k _ (omega arith) (entry_fits aside_slotted (k + 1) (omega arith)) down spare_slot (omega arith)
      ∙ after_same slotted spare_slot _ (omega arith) (entry_fits slotted k (omega arith)) aside

  pub exchanged_by_copies : Exchanged s₀ l₀ k s₃ l₃
  unfolding exchanged exchanged_lengths
  exchanged_by_copies = record {
    scratch_after = up.scratch_after ∙ rw (spared, down.scratch_after, lower, aside.scratch_after);
    lens_after = up.lens_after ∙ rw (spared, down.lens_after, lower, aside.lens_after);
  }

-- after the exchange: the two entries in the other order on the same stack, and the element in its slot
module _ {s₀ s₁ s₂ s₃ : Bytes} {l₀ l₁ l₂ l₃ : List ℕ} (slotted : Slotted s₀ l₀) (k : ℕ) (room : k + 1 < stack_most)
    (aside : Put s₀ l₀ spare_slot (entry_at s₀ l₀ k) s₁ l₁) (down : Put s₁ l₁ k (entry_at s₀ l₀ (k + 1)) s₂ l₂)
    (up : Put s₂ l₂ (k + 1) (entry_at s₀ l₀ k) s₃ l₃) where
  fits : length (entry_at s₀ l₀ k) ≤ entry_most
  fits = entry_fits slotted k (omega arith)

  fits' : length (entry_at s₀ l₀ (k + 1)) ≤ entry_most
  fits' = entry_fits slotted (k + 1) (omega arith)

  slotted₁ : Slotted s₁ l₁
  slotted₁ = after_slotted slotted spare_slot _ (omega arith) fits aside

  slotted₂ : Slotted s₂ l₂
  slotted₂ = after_slotted slotted₁ k _ (omega arith) fits' down

  pub exchanged_element : entry_at s₃ l₃ element_slot ≡ entry_at s₀ l₀ element_slot
  exchanged_element =
      after_other slotted₂ (k + 1) _ (omega arith) fits up element_slot (omega arith)
      ∙ after_other slotted₁ k _ (omega arith) fits' down element_slot (omega arith)
      ∙ after_other slotted spare_slot _ (omega arith) fits aside element_slot (omega arith)

  pub exchanged_stack : stack_of s₃ l₃ (suc (suc k)) ≡ entry_at s₀ l₀ k ∷ entry_at s₀ l₀ (k + 1) ∷ stack_of s₀ l₀ k
  exchanged_stack =
      rw (← add-one k)
      (after_on_top slotted₂ (k + 1) _ (omega arith) fits up
      ∙ ap (λ (st : List Bytes). entry_at s₀ l₀ k ∷ st)
      (ap (λ (n : ℕ). stack_of s₂ l₂ n) (add-one k) ∙ after_on_top slotted₁ k _ (omega arith) fits' down
      ∙ ap (λ (st : List Bytes). entry_at s₀ l₀ (k + 1) ∷ st) (after_above slotted spare_slot _ (omega arith) fits aside k (omega arith))))
