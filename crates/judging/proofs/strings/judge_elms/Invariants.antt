use Prim.Native.Nat.{◌*◌, ◌-◌, ◌≤◌}
use mathlib.Core.Path.{◌≡◌}
use lib.ListN.{length}
use Rattle.paper.specs.Answers.{length_in}
use Rattle.grammar.specs.Heads.{elms_from}
use Rattle.judging.specs.Tallies.{steps, none_yet}
use Rattle.judging.specs.Verdicts.{finished}
use Rattle.judging.proofs.strings.judge_elms.Given as goal

abbrev pub invariant-loop-read : goal.invariant-loop-read
invariant-loop-read l =
    (l.at ≤ length l.code) × (length_in l.tally.held ≤ 16) × (2 * steps l.tally.counts ≤ l.at)
    × (finished (elms_from l.code l.at) l.tally ≡ finished (elms_from l.code l.first) none_yet)

abbrev pub decreases-loop-read : goal.decreases-loop-read
decreases-loop-read l = length l.code - l.at
