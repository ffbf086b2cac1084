-- `algebra::hand_over` meets its contract: the answer and then zeros, or zeros.
use Prim.Native.Nat.{◌-◌}
use mathlib.Core.Path.{◌∙◌, ap}
use native.Mathlib.Omega.{arith}
use lib.ListN.{length, replicate}
use Rattle.paper.specs.Bytes.{Bytes}
use Rattle.lent.specs.Over.{over}
use Rattle.algebra.proofs.Telling.{handed_short, handed_whole}
use Rattle.algebra.proofs.hand_over.Goals as goal

pub returns-then-room-len : goal.returns-then-room-len
returns-then-room-len c = handed_short _ _ c.if-room-len.true c.clear.ensures

pub returns : goal.returns
returns c =
    let text = c.args.text.now in
    let before = c.args.out.now in
    handed_whole text before (omega (arith, c.if-room-len.false))
    (c.fill.ensures ∙ ap (λ (d : Bytes). over d (length text) (replicate (length before - length text) 0))
    c.copy_in.ensures)
