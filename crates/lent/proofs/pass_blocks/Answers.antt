-- `lent::pass_blocks` meets its contract: from block to block the answer stays the same.
use Prim.Native.Nat.{◌+◌}
use mathlib.Core.Path.{refl, sym, ◌∙◌}
use native.Mathlib.Omega.{arith}
use Rattle.lent.specs.Scan.{range}
use Rattle.lent.proofs.Blocks.{block_parts, first_clear}
use Rattle.lent.proofs.pass_blocks.Goals as goal

pub loop-block-init : goal.loop-block-init
unfolding range
loop-block-init c = record { inside = omega arith; size = cc; rest = cc; same = refl }

pub loop-block-preserved : goal.loop-block-preserved
loop-block-preserved c =
    let a = c.args in
    let l = c.loop-block in
    let turn = c.in-Some.ensures.steps in
    let parts = block_parts a.text.now l.at a.to 16 l.invariant.inside c.requires.1 (sym l.invariant.rest ∙ turn.1.0) (turn.1.1 ∙ l.invariant.size) in
    let clear = sym (rw parts.1 at c.some_within.ensures) ∙ c.if-some_within.false in
    record {
      inside = parts.0;
      size = turn.0 ∙ l.invariant.size;
      rest = parts.2;
      same = l.invariant.same ∙ first_clear a.low a.high a.text.now l.at (l.at + 16) a.to (omega arith) parts.0 c.requires.1 clear;
    }
