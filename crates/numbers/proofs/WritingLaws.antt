-- Digits written from the last one backwards, and text at the front of a buffer, over plain lists. Assumes nothing.
use mathlib.Core.Path.{◌≡◌, refl, sym, ap, ◌∙◌}
use mathlib.Core.Bool.{true, false}
use mathlib.Core.List.{[], ◌∷◌, ◌++◌, append_assoc}
use mathlib.Core.Logic.{◌⊎◌, inl, inr}
use Prim.Native.Nat.{ℕ, zero, suc, ◌+◌, ◌-◌, ◌/◌, ◌%◌, ◌^◌, ◌≤◌, ◌<◌}
use native.Mathlib.Nat.{add-suc, add-zero, zero-add, le_refl, not-suc-le-zero}
use native.Mathlib.Numerals.{add-one, one-add}
use native.Mathlib.Omega.{arith}
use lib.ListN.{length, take, drop, set, length-set, take-append-drop}
use lib.Seq.{append_snoc, drop-cons, get_or-set_same, drop-set-lt, take-set-le, take-take}
use Rattle.std.specs.Prelude.{Option, None, Some}
use Rattle.std.specs.Option.{MatchOption, unwrap_or}
use Rattle.paper.specs.Bytes.{Bytes}
use Rattle.paper.specs.Sizes.{number_digits, number_most}
use Rattle.paper.specs.Numbers.{Number, digits, decimal, number_text}
use Rattle.paper.proofs.Numerals.{decimal_digits, length_digits, length_decimal}

drop_set : (d : Bytes) (m v : ℕ) → m < length d → drop m (set d m v) ≡ v ∷ drop (suc m) d
drop_set d m v h =
    drop-cons (set d m v) m 0 (rw (length-set d m v) h)
    ∙ ap (λ (b : ℕ). b ∷ drop (suc m) (set d m v)) (get_or-set_same d m v 0 h)
    ∙ ap (λ (r : Bytes). v ∷ r) (drop-set-lt (suc m) d m v (le_refl (suc m)))

-- a turn: the last of i digits goes to its place, and the digits before it are left
pub digit_back : (at i n : ℕ) (d : Bytes) → 0 < i → at + i ≤ length d
    → digits (i - 1) (n / 10) ++ drop (at + (i - 1)) (set d (at + (i - 1)) (48 + n % 10)) ≡ digits i n ++ drop (at + i) d
unfolding digits
digit_back at zero n d pos room = absurd (omega arith)
digit_back at (suc j) n d pos room =
    let e : suc j - 1 ≡ j = omega arith in
    rw (e, drop_set d (at + j) (48 + n % 10) (omega arith), add-suc at j)
    (sym (append_snoc (digits j (n / 10)) (48 + n % 10) (drop (suc (at + j)) d)))

pub take_back : (m n v : ℕ) (d d₀ : Bytes) → m ≤ n → take n d ≡ take n d₀ → take m (set d m v) ≡ take m d₀
take_back m n v d d₀ h e =
    take-set-le m d m v (le_refl m) ∙ sym (take-take m n d h) ∙ ap (λ (l : Bytes). take m l) e ∙ take-take m n d₀ h

pub all_back : (at i k n rest : ℕ) (d d₀ : Bytes) → i ≤ 0 → take (at + i) d ≡ take (at + i) d₀
    → digits i rest ++ drop (at + i) d ≡ digits k n ++ drop (at + k) d₀ → d ≡ take at d₀ ++ digits k n ++ drop (at + k) d₀
unfolding digits
all_back at zero k n rest d d₀ h e f =
    sym (take-append-drop at d)
    ∙ ap (λ (l : Bytes). l ++ drop at d) (simp add-zero at e)
    ∙ ap (λ (l : Bytes). take at d₀ ++ l) (simp add-zero at f)
    ∙ sym (append_assoc (take at d₀) (digits k n) (drop (at + k) d₀))
all_back at (suc i) k n rest d d₀ h e f = absurd (omega arith)

-- as many digits as a size has: k, if the size has more than k - 1 digits and no more than k
pub widened : (k n : ℕ) → 1 ≤ k → k ≤ number_digits → n < 10 ^ k → (k ≡ 1) ⊎ (10 ^ (k - 1) ≤ n) → decimal n ≡ digits k n
widened zero n l s h w = absurd (not-suc-le-zero l)
widened (suc k) n l s h w = let e : suc k - 1 ≡ k = omega arith in decimal_digits k n (omega arith) h (go (rw e at w))
  where
    go : (suc k ≡ 1) ⊎ (10 ^ k ≤ n) → (k ≡ 0) ⊎ (10 ^ k ≤ n)
    go (inl g) = inl (omega arith)
    go (inr g) = inr g

-- so is the first k under the limit whose power of ten is above the size, and the limit if there is none
pub width_found : (n : ℕ) (o : Option ℕ) → n ≤ number_most
    → MatchOption o ((k : ℕ) → 1 ≤ k → k < number_digits → 10 ^ k ≤ n)
    (λ i. (1 ≤ i) × (i < number_digits) × (n < 10 ^ i) × ((k : ℕ) → 1 ≤ k → k < i → 10 ^ k ≤ n))
    → decimal n ≡ digits (unwrap_or o number_digits) n
width_found n None h f = widened number_digits n (omega arith) (omega arith) (omega arith) (inr (f 14 (omega arith) (omega arith)))
width_found n (Some i) h (low, high, above, before) = widened i n low (omega arith) above (go i low before)
  where
    go : (i : ℕ) → 1 ≤ i → ((k : ℕ) → 1 ≤ k → k < i → 10 ^ k ≤ n) → (i ≡ 1) ⊎ (10 ^ (i - 1) ≤ n)
    go zero l f = absurd (not-suc-le-zero l)
    go (suc zero) l f = inl refl
    go (suc (suc j)) l f = let e : suc (suc j) - 1 ≡ suc j = omega arith in inr (rw e (f (suc j) (omega arith) (omega arith)))

pub wide : (k n : ℕ) → decimal n ≡ digits k n → k ≡ length (decimal n)
wide k n e = sym (ap length e ∙ length_digits k n)

pub decimal_placed : (k n at : ℕ) (d e : Bytes) → decimal n ≡ digits k n → e ≡ take at d ++ digits k n ++ drop (at + k) d
    → (k ≡ length (decimal n)) × (e ≡ take at d ++ decimal n ++ drop (at + length (decimal n)) d)
decimal_placed k n at d e w h = (wide k n w, h ∙ rw (← wide k n w, w))

-- a number's text at the front: a minus and then its size, or its size alone
after_byte : (b : ℕ) (bs d : Bytes) → 0 < length d
    → take 1 (set d 0 b) ++ bs ++ drop (1 + length bs) (set d 0 b) ≡ (b ∷ bs) ++ drop (suc (length bs)) d
after_byte b bs [] h = absurd (not-suc-le-zero h)
after_byte b bs (e ∷ es) h = rw (one-add (length bs))

module _ (x : Number) (r : ℕ) (d e : Bytes) where
  pub minus_written : x.negative ≡ true → 0 < length d → r ≡ length (decimal x.size)
      → e ≡ take 1 (set d 0 45) ++ decimal x.size ++ drop (1 + length (decimal x.size)) (set d 0 45)
      → (r + 1 ≡ length (number_text x)) × (e ≡ number_text x ++ drop (length (number_text x)) d)
  unfolding number_text
  minus_written t room l h = rw t (rw (l, add-one), h ∙ after_byte 45 (decimal x.size) d room)

  pub plain_written : x.negative ≡ false → r ≡ length (decimal x.size)
      → e ≡ take 0 d ++ decimal x.size ++ drop (0 + length (decimal x.size)) d
      → (r ≡ length (number_text x)) × (e ≡ number_text x ++ drop (length (number_text x)) d)
  unfolding number_text
  plain_written t l h = rw t (l, h ∙ rw zero-add)

-- a decimal text at its place
pub ruleset placed = (wide, decimal_placed, length_decimal)
