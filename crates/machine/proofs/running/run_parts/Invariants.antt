use mathlib.Core.Path.{◌≡◌}
use Prim.Native.Nat.{◌-◌}
use lib.ListN.{length}
use Rattle.machine.proofs.Parts.{Part}
use Rattle.machine.proofs.running.run_parts.Given as goal

abbrev pub invariant-loop-counted : goal.invariant-loop-counted
invariant-loop-counted l =
    Part l.item l.string l.here.place l.here.meter l.initial.slots.scratch.now l.initial.slots.lens l.at l.steps l.slots.scratch.now l.slots.lens l.work
    × (length l.work ≡ length l.initial.work)

abbrev pub decreases-loop-counted : goal.decreases-loop-counted
decreases-loop-counted l = length l.string - l.at
