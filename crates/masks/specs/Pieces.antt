-- Pieces of a text that may be left out or blank: proof furniture.
use Rattle.std.specs.Prelude.{ℕ, Bool, Option, None, Some, [], ◌∷◌, if◌then◌else◌}
use Rattle.paper.specs.Bytes.{Bytes, ch}

-- one byte or none
abbrev pub alone : Option ℕ → Bytes
alone None = []
alone (Some b) = b ∷ []

-- one byte where it is asked for
unfoldable pub when : Bool → ℕ → Bytes
when on b = if on then b ∷ [] else []

-- one byte or a blank
unfoldable pub or_blank : Bool → ℕ → ℕ
or_blank on b = if on then b else ch " "
