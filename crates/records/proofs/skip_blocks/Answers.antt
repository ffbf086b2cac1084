-- `records::skip_blocks` meets its contract: from block to block the scan of what is left stays the same.
use Prim.Native.Nat.{◌+◌, ◌<◌}
use mathlib.Core.Path.{◌≡◌, refl, sym, ◌∙◌}
use mathlib.Core.Bool.{false}
use native.Mathlib.Omega.{arith}
use lib.ListN.{length}
use Rattle.lent.specs.Scan.{range}
use Rattle.lent.proofs.Blocks.{block_parts}
use Rattle.records.proofs.Turns.{skip_block, neither}
use Rattle.records.proofs.skip_blocks.Goals as goal

pub loop-block-init : goal.loop-block-init
unfolding range
loop-block-init c = record { inside = omega arith; size = cc; rest = cc; same = refl }

pub overflow_sub-left : goal.overflow_sub-left
overflow_sub-left c =
    let passed : (c.tally-passed.result < c.loop-block.left) × (c.some_within-closed.result ≡ false) = neither _ _ _ c.if-left-passed.false in
    omega (arith, (passed).0)

pub loop-block-preserved : goal.loop-block-preserved
loop-block-preserved c =
    let a = c.args in
    let l = c.loop-block in
    let t = c.tally-passed in
    let s = c.some_within-closed in
    let passed : (t.result < l.left) × (s.result ≡ false) = neither _ _ _ c.if-left-passed.false in
    let turn = c.in-Some.ensures.steps in
    let parts = block_parts a.item.now l.at (length a.item.now) 16 l.invariant.inside (omega arith) (sym l.invariant.rest ∙ turn.1.0) (turn.1.1 ∙ l.invariant.size) in
    record {
      inside = parts.0;
      size = turn.0 ∙ l.invariant.size;
      rest = parts.2;
      same =
          l.invariant.same
          ∙ skip_block a.mark.byte a.item.now l.at (l.at + 16) l.left t.result (omega arith) parts.0 (sym (rw parts.1 at s.ensures) ∙ passed.1)
          (rw parts.1 at t.ensures) passed.0;
    }
