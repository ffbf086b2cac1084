-- `group` gives the fields asked for, as one part of the element.
use mathlib.Core.Path.{ap, ◌∙◌}
use native.Mathlib.Omega.{arith}
use lib.ListN.{length}
use borrow.Author.Rules.{rules}
use Rattle.texts.specs.Scans.{first_fields}
use Rattle.texts.proofs.Fields.{group_gives, group_fits}
use Rattle.texts.proofs.group.Goals as goal

pub give-requires : goal.give-requires
give-requires c =
    let a = c.args in
    let l = ap length (c.take_fields.ensures ∙ ap (first_fields a.separator a.take) c.skip_fields-rest.ensures) in
    (omega (arith, l, group_fits a.skip a.separator a.take a.e.now), search rules)

pub returns : goal.returns
returns c =
    let a = c.args in
    rw (group_gives a.skip a.separator a.take a.e.now)
    (rw (c.take_fields.ensures, c.skip_fields-rest.ensures) at c.give.ensures)
