-- `lines::zeros` meets its contract: what is left decides as long as only zeros were passed.
use mathlib.Core.Path.{sym, ◌∙◌}
use borrow.Author.Tests.{ne_eqb}
use lib.ListN.{drop_of_length-le}
use Rattle.lent.proofs.Scans.{next}
use Rattle.cases.specs.Tables.{all_zeros}
use Rattle.cases.proofs.lines.zeros.Goals as goal

pub returns-then-text-at-ne0 : goal.returns-then-text-at-ne0
unfolding all_zeros
returns-then-text-at-ne0 c = sym (c.loop-at.invariant ∙ rw (next _ _ c.loop-at-test.true, ne_eqb _ 0 c.if-text-at-ne0.true))

pub loop-at-preserved : goal.loop-at-preserved
unfolding all_zeros
loop-at-preserved c = c.loop-at.invariant ∙ rw (next _ _ c.loop-at-test.true, c.if-text-at-ne0.false)

pub returns : goal.returns
unfolding all_zeros
returns c = sym (c.loop-at.invariant ∙ rw (drop_of_length-le _ c.loop-at-test.false))
