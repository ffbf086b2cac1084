use Prim.Native.Nat.{◌-◌, ◌≤◌}
use lib.ListN.{length}
use Rattle.patterns.proofs.Choosing.{Trying}
use Rattle.patterns.proofs.trying.try_pattern.Given as goal

abbrev pub invariant-loop-read : goal.invariant-loop-read
invariant-loop-read l = record { onward : l.from ≤ l.at; tries : Trying l.code l.e l.from l.at l.reach }

abbrev pub decreases-loop-read : goal.decreases-loop-read
decreases-loop-read l = length l.code - l.at
