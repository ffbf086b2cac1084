use mathlib.Core.Path.{◌≡◌}
use Prim.Native.Nat.{◌-◌}
use lib.ListN.{length}
use Rattle.machine.proofs.Turns.{Turn}
use Rattle.machine.proofs.running.run_elms.Given as goal

abbrev pub invariant-loop-taken : goal.invariant-loop-taken
invariant-loop-taken l =
    Turn l.item l.code l.first l.here.place l.here.meter l.initial.slots.scratch.now l.initial.slots.lens l.at l.held l.steps l.slots.scratch.now l.slots.lens l.work
    × (length l.work ≡ length l.initial.work)

abbrev pub decreases-loop-taken : goal.decreases-loop-taken
decreases-loop-taken l = length l.code - l.at
