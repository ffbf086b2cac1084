-- What the grammar keeps a mask within.
use Rattle.std.specs.Prelude.{ℕ, ◌≤◌}
use Rattle.std.proofs.Math.Option.{Option, none, some}
use Rattle.paper.specs.Codes.{Mask}

-- the width of `(fill num)`; 0 where there is none
unfoldable pub field_width : Option (ℕ × ℕ) → ℕ
field_width none = 0
field_width (some fill) = fill.1

-- n and m are a digit each, and "this num 1 to 99"
pub record Bounded (k : Mask) : Type 0 where
  pub decimals : k.decimals ≤ 9
  pub scale : k.scale ≤ 9
  pub width : field_width k.filled ≤ 99
