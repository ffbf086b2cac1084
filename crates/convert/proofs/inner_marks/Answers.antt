-- `convert::inner_marks` meets its contract: its test is that of a mark that parts elements.
use mathlib.Core.Path.{sym, ◌∙◌}
use Rattle.std.proofs.Common.{rules, tests}
use Rattle.paper.specs.Sizes.{is_inner_mark}
use Rattle.convert.proofs.Counting.{marks_counted}
use Rattle.convert.proofs.inner_marks.Goals as goal

pub returns : goal.returns
unfolding is_inner_mark
returns c = c.count.ensures is_inner_mark (λ b r q. search (rules, tests)) ∙ sym (marks_counted c.args.text.now)
