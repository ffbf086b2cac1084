-- `operators::or_equal` meets its contract.
use Rattle.algebra.proofs.Signs.{ordered_yes, ordered_no}
use Rattle.algebra.proofs.operators.or_equal.Goals as goal

pub returns-then-ahead-eq61 : goal.returns-then-ahead-eq61
returns-then-ahead-eq61 c = ordered_yes _ _ c.peek-ahead.ensures c.if-ahead-eq61.true

pub returns-else-ahead-eq61 : goal.returns-else-ahead-eq61
returns-else-ahead-eq61 c = ordered_no _ _ c.peek-ahead.ensures c.if-ahead-eq61.false
