-- How the code walks a record, byte by byte. Furniture for the proofs: proofs/Spots.antt ties each to the definitions of `paper`.
use Rattle.std.specs.Prelude.{ℕ, zero, suc, ◌+◌, ◌-◌, Bool, ◌||◌, [], ◌∷◌, ◌++◌, length, take, drop, replicate, eqb, if◌then◌else◌}
use Rattle.paper.specs.Bytes.{Bytes, within}
use Rattle.paper.specs.Sizes.{attribute_mark, value_mark, subvalue_mark}
use Rattle.lent.specs.Scan.{upto}
use Rattle.records.specs.declared.Stop.{Stop}
use Rattle.records.specs.declared.Spot.{Spot}

-- how many bytes are m
unfoldable pub tally : ℕ → Bytes → ℕ
tally m [] = 0
tally m (b ∷ bs) = (if eqb b m then 1 else 0) + tally m bs

-- one of two bytes
unfoldable pub is_either : ℕ → ℕ → ℕ → Bool
is_either x y b = eqb b x || eqb b y

-- past n marks m, from place `at` on, until a mark above m ends the piece that holds them
unfoldable pub skip : ℕ → Bytes → ℕ → ℕ → Stop
skip m [] at n = record { at = at; left = n }
skip m (b ∷ bs) at zero = record { at = at; left = 0 }
skip m (b ∷ bs) at (suc n) = if within (suc m) attribute_mark b then record { at = at; left = suc n } else skip m bs (suc at) (if eqb b m then n else suc n)

-- the piece that begins at a place, by the mark m and those above it, and the marks still to be made in front of it
unfoldable pub spot_at : ℕ → Bytes → ℕ → ℕ → ℕ → ℕ → Spot
spot_at m item at l₁ l₂ l₃ = record { start = at; end = at + length (upto m attribute_mark (drop at item)); attributes = l₁; values = l₂; subvalues = l₃ }

-- where attribute a begins, or is to be made, and how many marks are missing in front of it
unfoldable pub attribute : Bytes → ℕ → Stop
attribute item a = skip attribute_mark item 0 a

-- subvalue s of the value that begins where q says, or all of it; l₁ attribute marks are missing
unfoldable pub in_value : Bytes → ℕ → Stop → ℕ → Spot
in_value item l₁ q zero = spot_at value_mark item q.at l₁ q.left 0
in_value item l₁ q (suc s) =
    let r = skip subvalue_mark (drop q.at item) q.at s in
    spot_at subvalue_mark item r.at l₁ q.left r.left

-- value v, and subvalue s of it, of the attribute that begins where p says, or all of it
unfoldable pub in_attribute : Bytes → Stop → ℕ → ℕ → Spot
in_attribute item p zero s = spot_at attribute_mark item p.at p.left 0 0
in_attribute item p (suc v) s = in_value item p.left (skip value_mark (drop p.at item) p.at v) s

-- the place of an address, found or to be made: the attribute, and then inside it
unfoldable pub spot : Bytes → ℕ → ℕ → ℕ → Spot
spot item a v s = in_attribute item (attribute item a) v s

-- the marks that make a missing place
unfoldable pub marks : Spot → Bytes
marks p = replicate p.attributes attribute_mark ++ replicate p.values value_mark ++ replicate p.subvalues subvalue_mark

-- how many they are
abbrev pub made : Spot → ℕ
made p = p.attributes + p.values + p.subvalues

-- the record with the new bytes at the spot
unfoldable pub changed : Bytes → Spot → Bytes → Bytes
changed item p new = take p.start item ++ marks p ++ new ++ drop p.end item

-- how long that is
abbrev pub changed_length : ℕ → Spot → ℕ → ℕ
changed_length size p count = p.start + made p + count + (size - p.end)
