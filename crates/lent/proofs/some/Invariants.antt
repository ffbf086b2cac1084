use Prim.Native.Nat.{ℕ}
use mathlib.Core.Path.{◌≡◌}
use mathlib.Core.Bool.{Bool, ◌||◌, not}
use lib.ListN.{drop}
use lib.Dec.{eqb}
use Rattle.paper.specs.Bytes.{any}
use Rattle.lent.proofs.some.Given as goal

abbrev pub invariant-loop-b : goal.invariant-loop-b
invariant-loop-b g l = (p : ℕ → Bool) → ((b : ℕ) (r : Bool) → goal.F-post g l.test b r → r ≡ p b) → any p l.text ≡ not (eqb l.found 0) || any p (drop l.b-index l.text)
