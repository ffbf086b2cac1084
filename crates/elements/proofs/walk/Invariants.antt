use Prim.Native.Nat.{◌-◌}
use mathlib.Core.Path.{◌≡◌}
use lib.ListN.{length}
use Rattle.elements.specs.Running.{elements_outcome}
use Rattle.elements.proofs.Looping.{Turn}
use Rattle.elements.proofs.walk.Given as goal

abbrev pub invariant-loop-added : goal.invariant-loop-added
invariant-loop-added l =
    Turn l.item l.code l.text l.budget (elements_outcome l.item l.code l.initial.place l.budget l.text) (length l.initial.out) l.at l.place l.steps l.so_far l.out
    × (length l.work ≡ length l.initial.work)

abbrev pub decreases-loop-added : goal.decreases-loop-added
decreases-loop-added l = length l.text - l.at
