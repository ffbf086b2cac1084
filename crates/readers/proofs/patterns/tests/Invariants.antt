use Prim.Native.Nat.{◌-◌, ◌≤◌}
use mathlib.Core.Path.{◌≡◌}
use lib.ListN.{length, drop}
use Rattle.paper.specs.Grammar as paper
use Rattle.readers.specs.Reading.{skimmed}
use Rattle.readers.proofs.Skimming.{raised}
use Rattle.readers.proofs.patterns.tests.Given as goal

abbrev pub invariant-loop-at : goal.invariant-loop-at
invariant-loop-at l =
    (l.count ≤ l.at) × (raised l.count (skimmed length l.code (paper.tests (drop l.at l.code))) ≡ skimmed length l.code (paper.tests (drop l.from l.code)))

abbrev pub decreases-loop-at : goal.decreases-loop-at
decreases-loop-at l = length l.code - l.at
