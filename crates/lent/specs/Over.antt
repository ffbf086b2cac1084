-- A buffer with bytes laid over it: exactly these bytes change.
use Rattle.std.specs.Prelude.{ℕ, ◌+◌, ◌≡◌, List, ◌++◌, length, take, drop}

-- d with the bytes s from place `at` on
unfoldable pub over : List ℕ → ℕ → List ℕ → List ℕ
over d at s = take at d ++ s ++ drop (at + length s) d

-- a piece laid so that it ends at `at`: it begins at r, and no other byte has changed
pub record Laid (piece before : List ℕ) (at : ℕ) (after : List ℕ) (r : ℕ) : Type 0 where
  pub place : r + length piece ≡ at
  pub bytes : after ≡ over before r piece
