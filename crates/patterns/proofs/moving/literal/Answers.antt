-- `literal` moves the flags on over the bytes of a literal: none where the element is shorter, and as they are where it is empty.
use native.Mathlib.Omega.{arith}
use Rattle.patterns.proofs.Marking.{empty_moves, text_short, text_moves, wiped_by}
use Rattle.patterns.proofs.moving.literal.Goals as goal

pub returns-then-count-eq0 : goal.returns-then-count-eq0
returns-then-count-eq0 c = empty_moves _ _ _ c.if-count-eq0.true

pub returns-then-n-count : goal.returns-then-n-count
returns-then-n-count c =
    text_short c.args.text.now c.args.e.now c.requires c.if-n-count.true (wiped_by _ _ (omega arith) (c.fill.ensures.after (λ y e. e)))

pub returns : goal.returns
returns c =
    text_moves c.args.text.now c.args.e.now c.requires c.if-n-count.false c.carry_text.ensures
    (wiped_by _ _ (omega (arith, c.carry_text.ensures.size)) (c.fill-2.ensures.after (λ y e. e)))
