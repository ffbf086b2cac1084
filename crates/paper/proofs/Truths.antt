-- What tests tell: two together, one that refuses, one at every number below a bound, and a number against another. Assumes nothing.
use Rattle.std.specs.Prelude.{if◌then◌else◌}
use mathlib.Core.Path.{◌≡◌, refl, sym}
use mathlib.Core.Bool.{Bool, true, false, ◌&&◌, ◌||◌}
use mathlib.Core.Logic.{◌⊎◌, inl, inr, ⊎_elim}
use Prim.Native.Nat.{ℕ, zero, suc, ◌≤◌, ◌<◌}
use native.Mathlib.Nat.{not-suc-le-zero, eq-or-lt_of_le, le_of_suc-le-suc}
use native.Mathlib.Omega.{arith}
use lib.Dec.{ltb, eqb}
use borrow.Author.Tests.{eq-eqb, ltb-true, ltb-false}
use Rattle.paper.specs.Refusals.{given, refuse◌unless◌, refuse◌when◌}

-- both pass
pub both : (a b : Bool) → (a && b) ≡ true → (a ≡ true) × (b ≡ true)
both true b e = (refl, e)
both false b e = (e, cc)

-- neither passes
pub neither : (a b : Bool) → (a || b) ≡ false → (a ≡ false) × (b ≡ false)
neither true b e = (e, cc)
neither false b e = (refl, e)

-- not both pass, and the first does
pub second_fails : (a b : Bool) → (a && b) ≡ false → a ≡ true → b ≡ false
second_fails true b e h = e
second_fails false b e h = cc

-- tests that pass together
pub alike : (a b : Bool) → (a ≡ true → b ≡ true) → (b ≡ true → a ≡ true) → a ≡ b
alike true b f g = sym (f refl)
alike false true f g = g refl
alike false false f g = refl

-- what each choice has, the chosen one has
pub chosen : {A : Type 0} (P : A → Type 0) (t : Bool) {x y : A} → (t ≡ true → P x) → (t ≡ false → P y) → P (if t then x else y)
chosen P true f g = f refl
chosen P false f g = g refl

-- passing is absurd
pub fails : (t : Bool) → (t ≡ true → ⊥) → t ≡ false
fails true h = absurd (h refl)
fails false h = refl

-- "Given exactly when": a test that refuses let the answer through
pub unless_passed : (n : ℕ) (t : Bool) → (refuse n unless t) ≡ given tt → t ≡ true
unless_passed n true e = refl
unless_passed n false e = cc

pub when_passed : (n : ℕ) (t : Bool) → (refuse n when t) ≡ given tt → t ≡ false
when_passed n true e = cc
when_passed n false e = refl

-- one order or the other
pub ltb_or : (a b : ℕ) → (a < b) ⊎ (b ≤ a)
ltb_or a b = go (ltb a b) refl
  where
    go : (t : Bool) → ltb a b ≡ t → (a < b) ⊎ (b ≤ a)
    go true h = inl (ltb-true a b h)
    go false h = inr (ltb-false a b h)

-- no number stands below one that is 0: "v = 0 with s > 0", "a = 0 with v > 0" were refused
pub zero_too : (a b : ℕ) → (eqb a 0 && ltb 0 b) ≡ false → a ≡ 0 → b ≡ 0
zero_too a b e z = omega (arith, ltb-false 0 b (second_fails (eqb a 0) (ltb 0 b) e (eq-eqb a 0 z)))

-- the test passes at every number below n: the rule of a table, by one test that is computed
abbrev pub below : (ℕ → Bool) → ℕ → Bool
below f zero = true
below f (suc n) = f n && below f n

pub passed : (f : ℕ → Bool) (n k : ℕ) → below f n ≡ true → k < n → f k ≡ true
passed f zero k t h = absurd (not-suc-le-zero h)
passed f (suc n) k t h =
    let p = both (f n) (below f n) t in
    ⊎_elim (λ e. rw e p.0) (λ l. passed f n k p.1 l) (eq-or-lt_of_le (le_of_suc-le-suc h))
