use Prim.Native.Nat.{◌-◌, ◌≤◌, ◌+◌, ◌*◌}
use mathlib.Core.Path.{◌≡◌}
use lib.ListN.{length, drop}
use Rattle.paper.specs.Records.{split}
use Rattle.paper.specs.Checking.{judged_all}
use Rattle.judging.specs.Tallies.{steps}
use Rattle.judging.specs.Verdicts.{summed, verdict_of}
use Rattle.judging.proofs.strings.check_codes.Given as goal

abbrev pub invariant-loop-counts : goal.invariant-loop-counts
invariant-loop-counts l =
    (l.at ≤ length l.code) × (2 * steps l.counts ≤ l.at) × (l.number ≤ l.at + 1)
    × (summed l.counts (judged_all l.number (split 253 (drop l.at l.code))) ≡ verdict_of (judged_all 1 (split 253 l.code)))

abbrev pub decreases-loop-counts : goal.decreases-loop-counts
decreases-loop-counts l = length l.code - l.at
