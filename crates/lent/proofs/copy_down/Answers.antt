-- `lent::copy_down` meets its contract: each turn lays one byte more of what stood at `from`, and reads it behind what it has laid.
use Prim.Native.Nat.{◌+◌}
use native.Mathlib.Omega.{arith}
use mathlib.Core.Path.{sym, ◌∙◌}
use Rattle.lent.proofs.Laws.{nth_from, length_from}
use Rattle.lent.proofs.Laying.{laying_none, laying_more, laying_all, behind_laying}
use Rattle.lent.proofs.copy_down.Goals as goal

pub loop-j-init : goal.loop-j-init
loop-j-init c = laying_none _ _ _ _ 0 (length_from _ _ _ c.requires.0) (omega arith) (omega arith)

pub loop-j-preserved : goal.loop-j-preserved
loop-j-preserved c =
    let a = c.args in
    let l = c.loop-j in
    laying_more l.invariant _ c.loop-j-test.true
    (behind_laying l.invariant (a.from + l.j) (omega arith) ∙ sym (nth_from a.buf.now a.from a.count l.j c.loop-j-test.true))

pub returns : goal.returns
returns c = laying_all c.loop-j.invariant (omega arith) c.loop-j-test.false
