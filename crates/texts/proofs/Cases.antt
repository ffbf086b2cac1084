-- The case of a letter is one bit of its byte: proved by one test that antt computes at every byte.
use Rattle.std.specs.Prelude.{if◌then◌else◌}
use mathlib.Core.Path.{◌≡◌, refl}
use mathlib.Core.Bool.{Bool, true, false, ◌&&◌}
use Prim.Native.Nat.{ℕ, ◌<◌}
use lib.Bits.{bit_and, bit_or}
use lib.Dec.{eqb}
use borrow.Author.Tests.{eqb-true}
use native.Mathlib.Omega.{arith}
use Rattle.std.specs.Char.{to_ascii_uppercase, to_ascii_lowercase}
use Rattle.std.proofs.lemmas.Bool.Decides.{nat_tests}
use Rattle.paper.specs.Bytes.{is_letter, is_upper, is_lower}
use Rattle.paper.specs.Texts.{raised, lowered}
use Rattle.paper.proofs.Truths.{both, below, passed}

-- set in a small letter, clear in a capital; any other byte has one form
cased_by_bit : ℕ → Bool
cased_by_bit b = if is_letter b then (eqb (bit_or b 32) (lowered b) && eqb (bit_and b 223) (raised b)) else (eqb b (lowered b) && eqb b (raised b))

all_bytes : below cased_by_bit 256 ≡ true
unfolding cased_by_bit is_letter is_upper is_lower lowered raised
all_bytes = refl

module _ (b : ℕ) (byte : b < 256) where
  cases : (is_letter b ≡ true → (bit_or b 32 ≡ lowered b) × (bit_and b 223 ≡ raised b)) × (is_letter b ≡ false → (b ≡ lowered b) × (b ≡ raised b))
  unfolding cased_by_bit
  cases =
      let tested = passed cased_by_bit 256 b all_bytes byte in
      (λ t. same (bit_or b 32) (bit_and b 223) (rw t at tested), λ t. same b b (rw t at tested))
    where
      same : (x y : ℕ) → (eqb x (lowered b) && eqb y (raised b)) ≡ true → (x ≡ lowered b) × (y ≡ raised b)
      same x y e = let (l, r) = both (eqb x (lowered b)) (eqb y (raised b)) e in (eqb-true x (lowered b) l, eqb-true y (raised b) r)

  pub bit_set : is_letter b ≡ true → bit_or b 32 ≡ lowered b
  bit_set t = (cases.0 t).0

  pub bit_clear : is_letter b ≡ true → bit_and b 223 ≡ raised b
  bit_clear t = (cases.0 t).1

  pub other_case : (after_letter : Bool) → is_letter b ≡ false → b ≡ if after_letter then lowered b else raised b
  other_case true t = (cases.1 t).0
  other_case false t = (cases.1 t).1

-- std's change of case is the definitions'
pub uppercased : (b : ℕ) → to_ascii_uppercase b ≡ raised b
unfolding raised is_lower
uppercased b = grind (arith, nat_tests)

pub lowercased : (b : ℕ) → to_ascii_lowercase b ≡ lowered b
unfolding lowered is_upper
lowercased b = grind (arith, nat_tests)

-- the cases of a letter by its bit, and of any other byte
pub ruleset letter_bits = (bit_set, bit_clear, other_case)
