-- `cases::drawn` meets its contract: a zero, and any other byte as the paper draws it.
use borrow.Author.Tests.{ne_eqb}
use Rattle.cases.specs.Tables.{shown_byte}
use Rattle.cases.proofs.drawn.Goals as goal

pub returns-then-b-eq0 : goal.returns-then-b-eq0
unfolding shown_byte
returns-then-b-eq0 c = rw c.if-b-eq0.true

pub returns-else-b-eq0 : goal.returns-else-b-eq0
unfolding shown_byte
returns-else-b-eq0 c = rw (ne_eqb _ 0 c.if-b-eq0.false) c.drawn.ensures
