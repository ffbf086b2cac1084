-- Decimal text of the definitions: its digits, its length, and that reading it back gives the number. Assumes nothing.
use Rattle.std.specs.Prelude.{if◌then◌else◌}
use mathlib.Core.Path.{◌≡◌, refl, sym, ap, ◌∙◌}
use mathlib.Core.Bool.{Bool, true, false}
use mathlib.Core.List.{[], ◌∷◌, ◌++◌}
use mathlib.Core.Logic.{◌⊎◌, inl, inr, ⊎_elim}
use mathlib.Core.Option.{none, some}
use Prim.Native.Nat.{ℕ, zero, suc, ◌+◌, ◌-◌, ◌*◌, ◌/◌, ◌%◌, ◌^◌, ◌≤◌, ◌<◌}
use native.Mathlib.Nat.{zero-add, pow-suc, pow-succ', pow-le-pow_right, div-one, div-div-eq-div-mul, div-eq_of_lt, div-lt_iff_lt-mul, le-div_iff_mul-le}
use native.Mathlib.Nat.{not-suc-le-zero, le_of_suc-le-suc, eq-or-lt_of_le, lt_of_lt_of_le}
use native.Mathlib.Omega.{arith}
use lib.Dec.{eqb}
use lib.ListN.{length, length-append, get_or}
use borrow.Author.Tests.{eqb-true, le-leb, ne_eqb}
use Rattle.paper.specs.Bytes.{Bytes, is_digit, digit_value}
use Rattle.paper.specs.Sizes.{number_digits, number_most}
use Rattle.paper.specs.Refusals.{given}
use Rattle.paper.specs.Numbers.{Number, signed, natural, value, sign_and_digits, numeric, ranged, number, digits, trimmed, decimal, number_text}
use Rattle.paper.proofs.Truths.{chosen}
use Rattle.paper.proofs.Blanks.{numeric_bare}

-- a digit's byte
pub digit_byte : (d : ℕ) → d < 10 → is_digit (48 + d) ≡ true
unfolding is_digit
digit_byte d h = rw (le-leb 48 (48 + d) (omega arith), le-leb (48 + d) 57 (omega arith))

-- the digits before, and then the digits after
pub value_append : (n m : ℕ) (xs ys : Bytes) → value n xs ≡ some m → value n (xs ++ ys) ≡ value m ys
unfolding value
value_append n m [] ys h = ap (λ (k : ℕ). value k ys) (cc)
value_append n m (x ∷ xs) ys h = go (λ e. value_append (n * 10 + digit_value x) m xs ys e) (is_digit x) h
  where
    go : (value (n * 10 + digit_value x) xs ≡ some m → value (n * 10 + digit_value x) (xs ++ ys) ≡ value m ys)
        → (t : Bool) → if t then value (n * 10 + digit_value x) xs else none ≡ some m
        → if t then value (n * 10 + digit_value x) (xs ++ ys) else none ≡ value m ys
    go onward true e = onward e
    go onward false e = cc

pub value_digit : (n d : ℕ) → d < 10 → value n ((48 + d) ∷ []) ≡ some (n * 10 + d)
unfolding value digit_value
value_digit n d h = rw (digit_byte d h) (ap some (omega arith))

-- k digits after n
pub value_of_digits : (k m n : ℕ) → n < 10 ^ k → value m (digits k n) ≡ some (m * 10 ^ k + n)
unfolding digits value
value_of_digits zero m n h = ap some (omega arith)
value_of_digits (suc k) m n h =
    value_append m (m * 10 ^ k + n / 10) (digits k (n / 10)) ((48 + n % 10) ∷ []) (value_of_digits k m (n / 10) (omega arith))
    ∙ value_digit (m * 10 ^ k + n / 10) (n % 10) (omega arith)
    ∙ ap some (rw (pow-suc 10 k) (omega arith))

-- zeros in front add nothing
pub value_of_trimmed : (ds : Bytes) → value 0 (trimmed ds) ≡ value 0 ds
unfolding trimmed value is_digit digit_value
value_of_trimmed [] = refl
value_of_trimmed (d ∷ []) = refl
value_of_trimmed (d ∷ e ∷ ds) =
    chosen (λ l. value 0 l ≡ value 0 (d ∷ e ∷ ds)) (eqb d 48) (λ h. rw (eqb-true d 48 h) (value_of_trimmed (e ∷ ds))) (λ h. refl)

pub value_of_decimal : (n : ℕ) → n ≤ number_most → value 0 (decimal n) ≡ some n
unfolding decimal
value_of_decimal n h = value_of_trimmed (digits 15 n) ∙ value_of_digits 15 0 n (omega arith) ∙ ap some (zero-add n)

pub length_digits : (k n : ℕ) → length (digits k n) ≡ k
unfolding digits
length_digits zero n = refl
length_digits (suc k) n = length-append (digits k (n / 10)) ((48 + n % 10) ∷ []) ∙ omega (arith, length_digits k (n / 10))

pub length_trimmed : (ds : Bytes) → 1 ≤ length ds → (1 ≤ length (trimmed ds)) × (length (trimmed ds) ≤ length ds)
unfolding trimmed
length_trimmed [] h = omega arith
length_trimmed (d ∷ []) h = omega arith
length_trimmed (d ∷ e ∷ ds) h =
    let shorter = length_trimmed (e ∷ ds) (omega arith) in
    chosen (λ l. (1 ≤ length l) × (length l ≤ suc (suc (length ds)))) (eqb d 48) {x = trimmed (e ∷ ds)} {y = d ∷ e ∷ ds} (λ _. omega arith) (λ _. omega arith)

pub length_decimal : (n : ℕ) → (1 ≤ length (decimal n)) × (length (decimal n) ≤ number_digits)
unfolding decimal
length_decimal n = rw (length_digits 15 n) at (length_trimmed (digits 15 n) (omega (arith, length_digits 15 n)))

pub length_text : (x : Number) → (1 ≤ length (number_text x)) × (length (number_text x) ≤ number_digits + 1)
unfolding number_text
length_text x =
    let ds = decimal x.size in
    let size = length_decimal x.size in
    chosen (λ l. (1 ≤ length l) × (length l ≤ number_digits + 1)) x.negative {x = 45 ∷ ds} {y = ds} (λ _. omega arith) (λ _. omega arith)

-- each byte is a digit where digits have a value
digit_at : (m n : ℕ) (ds : Bytes) (i : ℕ) → i < length ds → value m ds ≡ some n → is_digit (get_or ds i 0) ≡ true
unfolding value
digit_at m n [] i l h = absurd (not-suc-le-zero l)
digit_at m n (d ∷ ds) i l h = go i l (λ j k e. digit_at (m * 10 + digit_value d) n ds j k e) (is_digit d) refl h
  where
    go : (i : ℕ) → i < suc (length ds)
        → ((j : ℕ) → j < length ds → value (m * 10 + digit_value d) ds ≡ some n → is_digit (get_or ds j 0) ≡ true)
        → (t : Bool) → is_digit d ≡ t → if t then value (m * 10 + digit_value d) ds else none ≡ some n → is_digit (get_or (d ∷ ds) i 0) ≡ true
    go zero l onward true f e = f
    go (suc j) l onward true f e = onward j (le_of_suc-le-suc l) e
    go i l onward false f e = cc

other_byte : (d b : ℕ) → is_digit d ≡ true → is_digit b ≡ false → d ≡ b → ⊥
other_byte d b h t e = let z : true ≡ false = sym h ∙ ap is_digit e ∙ t in let n : ◌≡◌ {A = ℕ} 0 1 = cc in omega arith

-- "an optional `+` or `-`, then one or more digits": digits alone, and digits after a minus; no digit is a blank
pub numeric_of_digits : (ds : Bytes) (n : ℕ) → 1 ≤ length ds → value 0 ds ≡ some n → numeric ds ≡ some (natural n)
unfolding sign_and_digits natural signed is_digit
numeric_of_digits [] n l h = absurd (not-suc-le-zero l)
numeric_of_digits (d ∷ ds) n l h =
    let first = digit_at 0 n (d ∷ ds) 0 l h in
    let end = suc (length ds) - 1 in
    let last = digit_at 0 n (d ∷ ds) end (omega arith) h in
    numeric_bare (d ∷ ds) (other_byte d 32 first refl) (other_byte (get_or (d ∷ ds) end 0) 32 last refl)
    ∙ rw (ne_eqb d 45 (other_byte d 45 first refl), ne_eqb d 43 (other_byte d 43 first refl), h) refl

pub numeric_of_minus : (ds : Bytes) (n : ℕ) → 1 ≤ length ds → value 0 ds ≡ some n → numeric (45 ∷ ds) ≡ some (signed true n)
unfolding sign_and_digits is_digit
numeric_of_minus [] n l h = absurd (not-suc-le-zero l)
numeric_of_minus (d ∷ ds) n l h =
    let end : suc (suc (length ds)) - 1 ≡ suc (length ds) = omega arith in
    let last = digit_at 0 n (d ∷ ds) (length ds) (omega arith) h in
    numeric_bare (45 ∷ d ∷ ds) (λ e. omega arith) (rw end (other_byte (get_or (d ∷ ds) (length ds) 0) 32 last refl)) ∙ rw h refl

pub numeric_of_text : (x : Number) → x.size ≤ number_most → x ≡ signed x.negative x.size → numeric (number_text x) ≡ some x
unfolding number_text natural
numeric_of_text x h canonical =
    let n = x.size in
    let some_digit = (length_decimal n).0 in
    chosen (λ l. numeric l ≡ some x) x.negative
    (λ e. numeric_of_minus (decimal n) n some_digit (value_of_decimal n h) ∙ ap some (ap (λ (t : Bool). signed t n) (sym e) ∙ sym canonical))
    (λ e. numeric_of_digits (decimal n) n some_digit (value_of_decimal n h) ∙ ap (λ (t : Bool). some (record { negative = t; size = n })) (sym e))

pub number_of_text : (x : Number) → x.size ≤ number_most → x ≡ signed x.negative x.size → number (number_text x) ≡ given x
unfolding number ranged
number_of_text x h canonical = rw (numeric_of_text x h canonical, le-leb x.size 999_999_999_999_999 h)

-- the first of k + 1 digits
pub digits_front : (k n : ℕ) → digits (suc k) n ≡ (48 + n / 10 ^ k % 10) ∷ digits k n
unfolding digits
digits_front zero n = ap (λ (q : ℕ). (48 + q % 10) ∷ []) (sym (div-one n))
digits_front (suc k) n =
    ap (λ (ds : Bytes). ds ++ (48 + n % 10) ∷ []) (digits_front k (n / 10))
    ∙ ap (λ (q : ℕ). (48 + q % 10) ∷ (digits k (n / 10) ++ (48 + n % 10) ∷ []))
    (div-div-eq-div-mul n 10 (10 ^ k) ∙ ap (λ (m : ℕ). n / m) (sym (pow-succ' 10 k)))

-- a zero in front is dropped, another digit is not
trimmed_zero : (k n : ℕ) → n < 10 ^ suc k → trimmed (digits (suc (suc k)) n) ≡ trimmed (digits (suc k) n)
unfolding trimmed
trimmed_zero k n h = rw (digits_front (suc k) n, digits_front k n, div-eq_of_lt h)

pub pow_pos : (k : ℕ) → 0 < 10 ^ k
pow_pos k = pow-le-pow_right {n = 10} (omega arith) {i = 0} {j = k} (omega arith)

trimmed_whole : (k n : ℕ) → 10 ^ suc k ≤ n → n < 10 ^ suc (suc k) → trimmed (digits (suc (suc k)) n) ≡ digits (suc (suc k)) n
unfolding trimmed
trimmed_whole k n l h =
    let one : 1 ≤ n / 10 ^ suc k = (le-div_iff_mul-le (pow_pos (suc k))).1 (omega arith) in
    let nine : n / 10 ^ suc k < 10 = (div-lt_iff_lt-mul (pow_pos (suc k))).1 (omega (arith, pow-succ' 10 (suc k))) in
    rw (digits_front (suc k) n, digits_front k n, ne_eqb (48 + n / 10 ^ suc k % 10) 48 (omega arith))

-- more digits than the number has
trimmed_more : (m k n : ℕ) → k ≤ m → n < 10 ^ suc k → trimmed (digits (suc m) n) ≡ trimmed (digits (suc k) n)
trimmed_more zero k n l h = ap (λ (i : ℕ). trimmed (digits (suc i) n)) (omega arith)
trimmed_more (suc m) k n l h =
    ⊎_elim (λ e. ap (λ (i : ℕ). trimmed (digits (suc i) n)) (sym e))
    (λ s. trimmed_zero m n (lt_of_lt_of_le h (pow-le-pow_right {n = 10} (omega arith) {i = suc k} {j = suc m} (omega arith)))
    ∙ trimmed_more m k n (omega arith) h) (eq-or-lt_of_le l)

-- as many digits as the number has
pub decimal_digits : (k n : ℕ) → k < number_digits → n < 10 ^ suc k → (k ≡ 0) ⊎ (10 ^ k ≤ n) → decimal n ≡ digits (suc k) n
unfolding decimal digits trimmed
decimal_digits k n s h w = trimmed_more 14 k n (omega arith) h ∙ go k h w
  where
    go : (k : ℕ) → n < 10 ^ suc k → (k ≡ 0) ⊎ (10 ^ k ≤ n) → trimmed (digits (suc k) n) ≡ digits (suc k) n
    go zero t w = refl
    go (suc k) t (inl e) = absurd (omega arith)
    go (suc k) t (inr l) = trimmed_whole k n l t
