-- What a reader by place gives once the byte ahead, or what was read first, is known: one law for each way to go on.
use Rattle.std.specs.Prelude.{if◌then◌else◌}
use Prim.Native.Nat.{ℕ, zero, suc, ◌<◌, ◌≤◌, ◌+◌, ◌-◌, ◌*◌, ◌^◌}
use mathlib.Core.Path.{◌≡◌, refl, sym, ap, ◌∙◌}
use mathlib.Core.Bool.{Bool, true, false, ◌||◌}
use mathlib.Core.List.{List, [], ◌∷◌}
use mathlib.Core.Option.{Option, none, some}
use lib.Dec.{T, eqb, ltb}
use mathlib.Core.Logic.{⊎_elim}
use native.Mathlib.Nat.{pow-suc, mul-le-mul_right, le-mul_of_pos_right}
use native.Mathlib.Numerals.{sub-one}
use native.Mathlib.Omega.{arith}
use borrow.Author.Tests.{lt-ltb, eq-eqb, ne_eqb}
use Rattle.paper.specs.Bytes.{Bytes, within, is_digit, digit_value}
use Rattle.readers.specs.Places.{Placed, Peeked, byte_at, after, choose_or, this, digit, more_digits}
use Rattle.paper.proofs.Truths.{ltb_or}
use Rattle.paper.proofs.Ranges.{within_yes, within_below, within_above}

-- none of the bytes that name a reader, as the default of a `match` tells it
abbrev pub Unnamed : {X : Type 0} → Type 0 → List (ℕ × X) → ℕ → Type 0
Unnamed N [] b = N
Unnamed N (c ∷ cs) b = Unnamed (N × (b ≡ c.0 → ⊥)) cs b

pub first_of : {X : Type 0} (N : Type 0) (cs : List (ℕ × X)) (b : ℕ) → Unnamed N cs b → N
first_of N [] b u = u
first_of N (c ∷ cs) b u = (first_of (N × (b ≡ c.0 → ⊥)) cs b u).0

-- a digit
pub digit_yes : {s : Bytes} {at b n : ℕ} → Peeked s at b n → 48 ≤ b → b < 58 → digit s at ≡ some (b - 48, n)
unfolding digit is_digit digit_value
digit_yes {s} {at} {b} {n} p l u = rw (← p.stands, ← p.leads, within_yes 48 57 b l (omega arith))

pub digit_below : {s : Bytes} {at b n : ℕ} → Peeked s at b n → b < 48 → digit s at ≡ none
unfolding digit is_digit digit_value
digit_below {s} {at} {b} p h = rw (← p.stands, within_below 48 57 b h)

pub digit_above : {s : Bytes} {at b n : ℕ} → Peeked s at b n → 58 ≤ b → digit s at ≡ none
unfolding digit is_digit digit_value
digit_above {s} {at} {b} p h = rw (← p.stands, within_above 48 57 b (omega arith))

pub none_some : {A : Type 0} {o : Option A} {a : A} → o ≡ none → o ≡ some a → ⊥
none_some e f = let z : ◌≡◌ {A = ℕ} 0 1 = cc in omega arith

pub some_one : {A : Type 0} {o : Option A} {a b : A} → o ≡ some a → o ≡ some b → a ≡ b
some_one e f = cc

pub digit_small : (s : Bytes) (at : ℕ) {d n : ℕ} → digit s at ≡ some (d, n) → d ≤ 9
digit_small s at {d} {n} e =
    ⊎_elim (λ h. absurd (none_some (digit_below here h) e))
    (λ l. ⊎_elim (λ u. omega (arith, ap (λ r. r.0) (some_one e (digit_yes here l u)))) (λ h. absurd (none_some (digit_above here h) e)) (ltb_or (byte_at s at) 58))
    (ltb_or (byte_at s at) 48)
  where
    here : Peeked s at (byte_at s at) (after s at)
    here = record { stands = refl; leads = refl }

-- the digits of a number: one more, no more, and none left to read
pub digits_more : (s : Bytes) (at left rest v d n : ℕ) → left ≡ suc rest → digit s at ≡ some (d, n) → more_digits left v s at ≡ more_digits rest (v * 10 + d) s n
unfolding more_digits
digits_more s at left rest v d n h e = rw (h, e)

pub digits_stop : (s : Bytes) (at left v : ℕ) → 0 < left → digit s at ≡ none → more_digits left v s at ≡ some (v, at)
unfolding more_digits
digits_stop s at zero v h e = absurd (omega arith)
digits_stop s at (suc left) v h e = rw e

pub digits_done : (s : Bytes) (at left v : ℕ) → left ≤ 0 → more_digits left v s at ≡ some (v, at)
unfolding more_digits
digits_done s at zero v h = refl
digits_done s at (suc left) v h = absurd (omega arith)

-- no number of five digits passes 99,999: v with `left` digits to come
ten_pos : (k : ℕ) → 0 < 10 ^ k
ten_pos zero = omega arith
ten_pos (suc k) = let h = ten_pos k in rw pow-suc (omega arith)

pub digits_room : (v left : ℕ) → (v + 1) * 10 ^ left ≤ 100_000 → v < 100_000
digits_room v left h = omega (arith, le-mul_of_pos_right (v + 1) (ten_pos left))

pub digits_step : (v left rest d : ℕ) → left ≡ suc rest → d ≤ 9 → (v + 1) * 10 ^ left ≤ 100_000 → (v * 10 + d + 1) * 10 ^ rest ≤ 100_000
digits_step v left rest d e h r =
    let m = mul-le-mul_right (10 ^ rest) (step v d h) in
    let p : (v + 1) * 10 ^ left ≡ (v + 1) * 10 ^ suc rest = ap (λ k. (v + 1) * 10 ^ k) e in
    omega (arith, ap (λ k. (v + 1) * k) (pow-suc 10 rest))
  where
    step : (v d : ℕ) → d ≤ 9 → v * 10 + d + 1 ≤ (v + 1) * 10
    step v d h = omega arith
