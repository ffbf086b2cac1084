-- `records::holds` meets its contract: its test is that of the two marks.
use Rattle.std.proofs.Common.{rules, tests}
use Rattle.records.specs.Scan.{is_either}
use Rattle.records.proofs.holds.Goals as goal

pub returns : goal.returns
unfolding is_either
returns c = c.some.ensures (is_either c.args.x.byte c.args.y.byte) (λ b r q. search (rules, tests))
