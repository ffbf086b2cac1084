-- `lent::copy_in` meets its contract: each turn lays one byte more of `src`.
use native.Mathlib.Omega.{arith}
use mathlib.Core.Path.{refl}
use Rattle.lent.proofs.Laying.{laying_none, laying_more, laying_all}
use Rattle.lent.proofs.copy_in.Goals as goal

pub loop-j-init : goal.loop-j-init
loop-j-init c = laying_none _ _ _ _ 0 refl c.requires (omega arith)

pub loop-j-preserved : goal.loop-j-preserved
loop-j-preserved c = laying_more c.loop-j.invariant _ c.loop-j-test.true refl

pub returns : goal.returns
returns c = laying_all c.loop-j.invariant (omega arith) c.loop-j-test.false
