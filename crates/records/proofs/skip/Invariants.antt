use Prim.Native.Nat.{◌+◌, ◌-◌}
use mathlib.Core.Path.{◌≡◌}
use lib.ListN.{length, take, drop}
use Rattle.records.specs.Scan.{skip}
use Rattle.records.proofs.skip.Given as goal

abbrev pub invariant-loop-passed : goal.invariant-loop-passed
invariant-loop-passed l =
    skip l.mark.byte (drop l.from l.item) l.from l.n ≡ skip l.mark.byte (drop l.passed (take (length l.item - l.from) (drop l.from l.item))) (l.from + l.passed) l.left
