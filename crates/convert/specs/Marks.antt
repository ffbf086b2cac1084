-- The marks that part elements, counted: how many elements there are. Furniture for the proofs: proofs/Counting.antt ties it to the paper's `elements`.
use Rattle.std.specs.Prelude.{ℕ, ◌+◌, [], ◌∷◌, if◌then◌else◌}
use Rattle.paper.specs.Bytes.{Bytes}
use Rattle.paper.specs.Sizes.{is_inner_mark}

-- how many bytes part elements
unfoldable pub inner_marks : Bytes → ℕ
inner_marks [] = 0
inner_marks (b ∷ bs) = (if is_inner_mark b then 1 else 0) + inner_marks bs
