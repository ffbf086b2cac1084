-- `run_on` moves the flags on over so many bytes of a class: none where the element is shorter.
use native.Mathlib.Omega.{arith}
use Rattle.patterns.proofs.Marking.{run_short, run_moves, wiped_by}
use Rattle.patterns.proofs.moving.run_on.Goals as goal

pub returns-then-n-count : goal.returns-then-n-count
returns-then-n-count c =
    run_short c.args.count _ c.args.e.now c.requires.0 (omega arith) c.if-n-count.true (wiped_by _ _ (omega arith) (c.fill.ensures.after (λ y e. e)))

pub returns : goal.returns
returns c =
    run_moves c.args.count _ c.args.e.now c.requires.0 (omega arith) c.if-n-count.false c.carry_run.ensures
    (wiped_by _ _ (omega (arith, c.carry_run.ensures.size)) (c.fill-2.ensures.after (λ y e. e)))
