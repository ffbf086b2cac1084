-- What a scaled size comes to before it has its sign.
use Rattle.std.specs.Prelude.{ℕ, leb}
use Rattle.paper.specs.Sizes.{number_most}
use Rattle.paper.specs.Refusals.{Res, given, ◌>>◌, refuse◌unless◌, out_of_range}

-- a size in range, or 10
abbrev pub in_range : ℕ → Res ℕ
in_range n = do
  refuse out_of_range unless leb n number_most
  given n
