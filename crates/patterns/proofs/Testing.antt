-- A test of the code in its three ways: what moved the flags on is what the paper's test moves them on by. Assumes nothing.
use Prim.Native.Nat.{ℕ, ◌+◌, ◌≤◌}
use mathlib.Core.Path.{◌≡◌}
use mathlib.Core.Bool.{Bool}
use lib.ListN.{length, take, drop}
use Rattle.paper.specs.Bytes.{Bytes}
use Rattle.paper.specs.Codes as paper
use Rattle.paper.proofs.Patterns.{cut_by}
use Rattle.codes.specs.declared.Class.{Class}
use Rattle.codes.specs.declared.Test.{Test}
use Rattle.codes.specs.Meaning.{class_of, test_of}
use Rattle.patterns.specs.Reach.{Marks, Moved, TestWithin}

module _ {test : Test} (code : Bytes) {e flags flags' : Bytes} where
  pub any_test : {n : ℕ} {c : Class} → test ≡ Test.SoMany n c → n ≡ 0 → Moved (paper.so_many 0 (class_of c)) e flags flags'
      → Moved (test_of code test) e flags flags'
  unfolding test_of
  any_test t z m = rw (t, z) m

  pub run_test : {n : ℕ} {c : Class} → test ≡ Test.SoMany n c → Moved (paper.so_many n (class_of c)) e flags flags' → Moved (test_of code test) e flags flags'
  unfolding test_of
  run_test t m = rw t m

  pub literal_test : {start len : ℕ} (n : ℕ) → test ≡ Test.Literal start len → n ≡ len → Moved (paper.literal (take n (drop start code))) e flags flags'
      → Moved (test_of code test) e flags flags'
  unfolding test_of
  literal_test n t l m = rw (t, ← l) m

-- what is told of the literal is told of the test
pub literal_told : {test : Test} (code : Bytes) {e flags : Bytes} {r : Bool} {start len : ℕ} (n : ℕ) → test ≡ Test.Literal start len → n ≡ len
    → ((before : Bytes → Bool) → Marks before e flags → r ≡ cut_by before (paper.literal (take n (drop start code))) e)
    → (before : Bytes → Bool) → Marks before e flags → r ≡ cut_by before (test_of code test) e
unfolding test_of
literal_told code n t l told before x = rw (t, ← l) (told before x)

pub literal_ends : (code : Bytes) {test : Test} {start len : ℕ} → test ≡ Test.Literal start len → TestWithin code test → start + len ≤ length code
literal_ends code t h = rw t at h
