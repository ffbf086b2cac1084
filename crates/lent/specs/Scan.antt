-- A scan of some of the bytes for one within two bounds, and the pieces that marks part.
use Rattle.std.specs.Prelude.{ℕ, ◌+◌, ◌-◌, [], ◌∷◌, length, take, drop, if◌then◌else◌}
use Rattle.paper.specs.Bytes.{Bytes, within}
use Rattle.paper.specs.Records.{split, nth, or_empty}

-- the bytes from place `from` up to place `to`
unfoldable pub range : Bytes → ℕ → ℕ → Bytes
range text from to = take (to - from) (drop from text)

-- the bytes before the first that is within low .. high; all of them where none is
unfoldable pub upto : ℕ → ℕ → Bytes → Bytes
upto low high [] = []
upto low high (b ∷ bs) = if within low high b then [] else (b ∷ upto low high bs)

-- the first place from `from` up to `to` with a byte within low .. high, or `to`
abbrev pub first_place : ℕ → ℕ → Bytes → ℕ → ℕ → ℕ
first_place low high text from to = from + length (upto low high (range text from to))

-- the k-th piece between marks m, counted from 0; empty where it is missing
abbrev pub piece : ℕ → ℕ → Bytes → Bytes
piece m k bs = or_empty (nth k (split m bs))
