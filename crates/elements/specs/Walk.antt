-- The elements of an address as one walk from left to right sees them: what `walk` promises is said of it, and proofs/Walking.antt ties it to the
-- paper's `elements`.
use Rattle.std.specs.Prelude.{ℕ, suc, List, [], ◌∷◌, eqb, if◌then◌else◌}
use Rattle.paper.specs.Bytes.{Bytes}
use Rattle.paper.specs.Sizes.{value_mark, subvalue_mark}
use Rattle.paper.specs.Converting.{Element}

abbrev pub element : Bytes → ℕ → ℕ → Bytes → Element
element before v s text = record { before = before; v = v; s = s; text = text }

-- a byte goes in front of the first element's
abbrev pub in_front : ℕ → List Element → List Element
in_front b [] = []
in_front b (e ∷ es) = element e.before e.v e.s (b ∷ e.text) ∷ es

-- each element with the mark before it: a value mark opens the next value, a subvalue mark the next subvalue
unfoldable pub walked : Bytes → ℕ → ℕ → Bytes → List Element
walked before v s [] = element before v s [] ∷ []
walked before v s (b ∷ bs) =
    if eqb b value_mark then element before v s [] ∷ walked (value_mark ∷ []) (suc v) 1 bs
    else (if eqb b subvalue_mark then element before v s [] ∷ walked (subvalue_mark ∷ []) v (suc s) bs
    else in_front b (walked before v s bs))
