-- `ends_with` tells whether the literal ends at the element's end: one place is looked at, as far in front of it as the literal is long.
use native.Mathlib.Omega.{arith}
use Rattle.patterns.proofs.Marking.{end_short, end_unreached, end_compared}
use Rattle.patterns.proofs.moving.ends_with.Goals as goal

pub returns-then-e-count : goal.returns-then-e-count
returns-then-e-count c = λ before x. end_short _ _ before x c.if-e-count.true

pub returns-then-reach-e-eq1 : goal.returns-then-reach-e-eq1
returns-then-reach-e-eq1 c = λ before x. end_compared _ _ before x _ (omega arith) c.if-reach-e-eq1.true c.ends_with.ensures.value

pub returns-else-reach-e-eq1 : goal.returns-else-reach-e-eq1
returns-else-reach-e-eq1 c = λ before x. end_unreached _ _ before x _ (omega arith) c.if-reach-e-eq1.false
