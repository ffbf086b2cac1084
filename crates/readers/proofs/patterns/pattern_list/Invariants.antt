use Prim.Native.Nat.{◌-◌, ◌≤◌}
use mathlib.Core.Path.{◌≡◌}
use lib.ListN.{length, drop}
use Rattle.paper.specs.Grammar as paper
use Rattle.paper.specs.Patterns.{tests_in}
use Rattle.readers.specs.Reading.{skimmed}
use Rattle.readers.proofs.Skimming.{raised}
use Rattle.readers.proofs.patterns.pattern_list.Given as goal

abbrev pub invariant-loop-tests : goal.invariant-loop-tests
invariant-loop-tests l =
    (l.total ≤ l.at) × (raised l.total (skimmed tests_in l.code (paper.pattern_list (drop l.at l.code))) ≡ skimmed tests_in l.code (paper.pattern_list (drop l.from l.code)))

abbrev pub decreases-loop-tests : goal.decreases-loop-tests
decreases-loop-tests l = length l.code - l.at
