use Prim.Native.Nat.{◌-◌}
use lib.ListN.{length}
use Rattle.patterns.proofs.Choosing.{Choosing}
use Rattle.patterns.proofs.trying.some_passes.Given as goal

abbrev pub invariant-loop-open : goal.invariant-loop-open
invariant-loop-open l = Choosing l.code l.e l.start l.at

abbrev pub decreases-loop-open : goal.decreases-loop-open
decreases-loop-open l = length l.code - l.at
