-- `some_passes` goes from pattern to pattern: those still to be read tell what all tell, since none so far has passed.
use native.Mathlib.Omega.{arith}
use Rattle.patterns.proofs.Choosing.{read_there, read_nowhere, choosing_none, choosing_passed, choosing_last, choosing_next, this_on}
use Rattle.patterns.proofs.trying.some_passes.Goals as goal

pub returns-then-pattern : goal.returns-then-pattern
returns-then-pattern c = choosing_passed c.loop-open.invariant (read_there _ c.in-Ok.ensures) c.if-pattern.true c.try_pattern-pattern.ensures.judged

pub returns-in_default-this : goal.returns-in_default-this
returns-in_default-this c =
    choosing_last c.loop-open.invariant (read_there _ c.in-Ok.ensures) c.if-pattern.false c.try_pattern-pattern.ensures.judged
    (read_nowhere _ c.in_default-this.ensures)

pub loop-open-smaller : goal.loop-open-smaller
loop-open-smaller c =
    omega (
      arith,
      this_on 40 c.args.code.now c.loop-open.at (omega arith) (read_there _ c.in-Ok.ensures),
      c.try_pattern-pattern.ensures.from_le_next,
      this_on 59 c.args.code.now c.try_pattern-pattern.result.next (omega arith) (read_there _ c.in-Ok-this.ensures),
    )

pub loop-open-preserved : goal.loop-open-preserved
loop-open-preserved c =
    choosing_next c.loop-open.invariant (read_there _ c.in-Ok.ensures) c.if-pattern.false c.try_pattern-pattern.ensures.judged
    (read_there _ c.in-Ok-this.ensures)

pub returns : goal.returns
returns c = choosing_none c.loop-open.invariant _ (read_nowhere _ c.in_default.ensures)
