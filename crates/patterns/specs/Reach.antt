-- Places of an element that the tests so far can end at, as flags: a byte for each place, 1 where the bytes in front of it pass, else 0.
use Rattle.std.specs.Prelude.{ℕ, ◌+◌, ◌≤◌, ◌<◌, ◌≡◌, Bool, length, get_or, take, drop, leb, if◌then◌else◌}
use Rattle.paper.specs.Bytes.{Bytes, same_bytes}
use Rattle.paper.specs.Codes as paper
use Rattle.paper.proofs.Patterns.{cut_by, run}
use Rattle.codes.specs.declared.Test.{Test}

abbrev pub flag : Bool → ℕ
flag t = if t then 1 else 0

-- the flags of the places where `before` holds of the bytes in front
pub record Marks (before : Bytes → Bool) (e flags : Bytes) : Type 0 where
  pub marks : (j : ℕ) → j ≤ length e → get_or flags j 0 ≡ flag (before (take j e))

-- a test moves the flags on: from what may stand before it, to what it can end at
pub record Moved (t : paper.Test) (e flags flags' : Bytes) : Type 0 where
  pub size : length flags' ≡ length flags
  pub moves : (before : Bytes → Bool) → Marks before e flags → Marks (cut_by before t) e flags'

-- the flags of the places from i on, each carried over `count` bytes where those that follow it are good; the places in front of these are as they were
pub record Carried (good : Bytes → Bool) (count : ℕ) (e : Bytes) (i : ℕ) (flags flags' : Bytes) : Type 0 where
  pub size : length flags' ≡ length flags
  pub kept : (k : ℕ) → k < i + count → get_or flags' k 0 ≡ get_or flags k 0
  pub carried : (k : ℕ) → i ≤ k → k + count ≤ length e → get_or flags' (k + count) 0 ≡ (if good (drop k e) then get_or flags k 0 else 0)

-- so many bytes of the class go on; the literal's bytes do
abbrev pub goes_on : paper.Class → ℕ → Bytes → Bool
goes_on c count rest = leb count (run c rest)

abbrev pub starts : Bytes → Bytes → Bool
starts text rest = same_bytes (take (length text) rest) text

-- a literal stands within the code
abbrev pub TestWithin : Bytes → Test → Type 0
TestWithin code (Test.SoMany count class) = Unit {0}
TestWithin code (Test.Literal start len) = start + len ≤ length code
