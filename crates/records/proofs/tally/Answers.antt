-- `records::tally` meets its contract: its test is that of the mark.
use mathlib.Core.Path.{sym, ◌∙◌}
use lib.Dec.{eqb}
use Rattle.std.proofs.Common.{rules, tests}
use Rattle.records.proofs.Turns.{tally_counted}
use Rattle.records.proofs.tally.Goals as goal

pub returns : goal.returns
returns c =
    let m = c.args.mark.byte in
    c.count.ensures (λ b. eqb b m) (λ b r q. search (rules, tests)) ∙ sym (tally_counted m c.args.text.now)
