-- Rounding and scaling within the range. Assumes nothing.
use mathlib.Core.Path.{◌≡◌, sym, ap, ◌∙◌}
use Prim.Native.Nat.{ℕ, ◌-◌, ◌*◌, ◌/◌, ◌^◌, ◌≤◌, ◌<◌}
use native.Mathlib.Nat.{mul-one, mod-one, div-one, pow-le-pow_right, le-div_iff_mul-le, div-lt_iff_lt-mul}
use native.Mathlib.Omega.{arith}
use borrow.Author.Tests.{le-leb, lt-leb}
use Rattle.paper.specs.Sizes.{number_most}
use Rattle.paper.specs.Refusals.{given, refused, out_of_range}
use Rattle.paper.specs.Masks.{rounded, scaled_size}
use Rattle.paper.proofs.Numerals.{pow_pos}
use Rattle.paper.proofs.Symmetry.{rounded_below}
use Rattle.masks.specs.Scaling.{in_range}

-- nothing is dropped over one
rounded_one : (size : ℕ) → rounded size 1 ≡ size
unfolding rounded
rounded_one size = rw (mod-one size, div-one size)

pub power_within : (k : ℕ) → k ≤ 9 → (0 < 10 ^ k) × (10 ^ k ≤ number_most)
power_within k h = (pow_pos k, omega (arith, pow-le-pow_right {n = 10} (omega arith) {i = k} {j = 9} h))

-- a size times a power of ten is in range by the quotient
pub times_within : (size times k : ℕ) → times ≡ 10 ^ k → size ≤ number_most / times → size * times ≤ number_most
times_within size times k e h = let some : 0 < times = rw e (pow_pos k) in (le-div_iff_mul-le some).0 h

times_beyond : (size times k : ℕ) → times ≡ 10 ^ k → number_most / times < size → number_most < size * times
times_beyond size times k e h = let some : 0 < times = rw e (pow_pos k) in (div-lt_iff_lt-mul some).0 h

sized : (n : ℕ) → n ≤ number_most → given n ≡ in_range n
sized n h = rw (le-leb n number_most h)

too_large : (n : ℕ) → number_most < n → refused out_of_range ≡ in_range n
too_large n h = rw (lt-leb n number_most h)

module _ (size decimals scale : ℕ) where
  -- m at least n: digits are dropped
  pub scaled_down : (r over : ℕ) → size ≤ number_most → decimals ≤ scale → over ≡ 10 ^ (scale - decimals) → r ≡ rounded size over
      → given r ≡ in_range (scaled_size decimals scale size)
  unfolding scaled_size
  scaled_down r over ranged h e f =
      let none : decimals - scale ≡ 0 = omega arith in
      let below : rounded size (10 ^ (scale - decimals)) ≤ size = rounded_below size (10 ^ (scale - decimals)) (pow_pos (scale - decimals)) in
      let same : r ≡ rounded size (10 ^ (scale - decimals)) = f ∙ ap (rounded size) e in
      rw (same, none, mul-one size) (sized (rounded size (10 ^ (scale - decimals))) (omega arith))

  -- n over m: digits are added
  added : (times : ℕ) → scale ≤ decimals → times ≡ 10 ^ (decimals - scale) → size * times ≡ scaled_size decimals scale size
  unfolding scaled_size
  added times h e =
      let none : scale - decimals ≡ 0 = omega arith in
      rw (none, e) (sym (rounded_one (size * 10 ^ (decimals - scale))))

  pub scaled_up : (times : ℕ) → scale ≤ decimals → times ≡ 10 ^ (decimals - scale) → size ≤ number_most / times
      → given (size * times) ≡ in_range (scaled_size decimals scale size)
  scaled_up times h e within = sized (size * times) (times_within size times (decimals - scale) e within) ∙ ap in_range (added times h e)

  pub scaled_beyond : (times : ℕ) → scale ≤ decimals → times ≡ 10 ^ (decimals - scale) → number_most / times < size
      → refused out_of_range ≡ in_range (scaled_size decimals scale size)
  scaled_beyond times h e beyond = too_large (size * times) (times_beyond size times (decimals - scale) e beyond) ∙ ap in_range (added times h e)

-- digits dropped, a size out of range, digits added
pub ruleset scaling = (power_within, times_within, scaled_down, scaled_up, scaled_beyond)
