-- A number against two bounds: what the tests of it say. Assumes nothing.
use mathlib.Core.Path.{◌≡◌}
use mathlib.Core.Bool.{true, false, and-false}
use Prim.Native.Nat.{ℕ, suc, ◌≤◌, ◌<◌}
use native.Mathlib.Omega.{arith}
use lib.Dec.{leb, eqb}
use borrow.Author.Tests.{le-leb, lt-leb, leb-true, eqb-true, eq-eqb}
use Rattle.paper.specs.Bytes.{within}
use Rattle.paper.proofs.Truths.{both, alike, fails}
pub use Rattle.paper.proofs.Truths.{ltb_or}

module _ (low high b : ℕ) where
  pub within_yes : low ≤ b → b < suc high → within low high b ≡ true
  within_yes h k = rw (le-leb low b h, le-leb b high (omega arith))

  pub within_below : b < low → within low high b ≡ false
  within_below h = rw (lt-leb low b h)

  pub within_above : high < b → within low high b ≡ false
  within_above h = rw (lt-leb b high h) (and-false (leb low b))

  pub within_true : within low high b ≡ true → (low ≤ b) × (b ≤ high)
  within_true e = let p = both (leb low b) (leb b high) e in (leb-true low b p.0, leb-true b high p.1)

  pub not_within : (low ≤ b → b ≤ high → ⊥) → within low high b ≡ false
  not_within out = fails (within low high b) (λ e. let p = within_true e in out p.0 p.1)

-- one number, as a range
pub within_one : (m b : ℕ) → within m m b ≡ eqb b m
within_one m b =
    alike (within m m b) (eqb b m) (λ e. let p = within_true m m b e in eq-eqb b m (omega arith))
    (λ e. let p = eqb-true b m e in within_yes m m b (omega arith) (omega arith))
