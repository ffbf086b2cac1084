use Prim.Native.Nat.{◌-◌, ◌≤◌}
use mathlib.Core.Path.{◌≡◌}
use lib.ListN.{length, drop}
use Rattle.cases.specs.Tables.{spelled}
use Rattle.cases.proofs.Laying.{spread}
use Rattle.cases.proofs.spelled.Given as goal

abbrev pub invariant-loop-at : goal.invariant-loop-at
invariant-loop-at l =
    (l.n ≤ length l.out) × (length l.out ≡ length l.initial.out) × (l.at ≤ length l.text) × (spread l.initial.out 0 (spelled l.marks l.text) ≡ spread l.out l.n (spelled l.marks (drop l.at l.text)))

abbrev pub decreases-loop-at : goal.decreases-loop-at
decreases-loop-at l = length l.text - l.at
