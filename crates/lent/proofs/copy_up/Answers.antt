-- `lent::copy_up` meets its contract: each turn lays one byte more of what stood at `from`, from the back, and reads it before what it has laid.
use Prim.Native.Nat.{◌+◌, ◌-◌}
use native.Mathlib.Nat.{le_refl}
use native.Mathlib.Omega.{arith}
use mathlib.Core.Path.{sym, ◌∙◌}
use Rattle.lent.proofs.Laws.{nth_from, length_from}
use Rattle.lent.proofs.Laying.{laying_none, laying_less, laying_all, before_laying}
use Rattle.lent.proofs.copy_up.Goals as goal

pub loop-j-init : goal.loop-j-init
loop-j-init c = let a = c.args in laying_none _ _ _ _ _ (length_from a.buf.now a.from a.count (omega arith)) c.requires.0 (le_refl _)

pub loop-j-preserved : goal.loop-j-preserved
loop-j-preserved c =
    let a = c.args in
    let l = c.loop-j in
    laying_less l.invariant (l.j - 1) _ (omega arith)
    (before_laying l.invariant (a.from + (l.j - 1)) (omega arith) ∙ sym (nth_from a.buf.now a.from a.count (l.j - 1) (omega arith)))

pub returns : goal.returns
returns c = laying_all c.loop-j.invariant c.loop-j-test.false (le_refl _)
