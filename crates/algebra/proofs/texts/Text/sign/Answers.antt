-- `Text::sign` meets its contract: two bytes, one behind the other.
use Prim.Native.Nat.{◌+◌}
use mathlib.Core.Path.{refl}
use native.Mathlib.Omega.{arith}
use lib.ListN.{length-set}
use Rattle.lent.proofs.Laying.{laid_one, laid_behind}
use Rattle.algebra.proofs.texts.Text.sign.Goals as goal

pub returns : goal.returns
returns c =
    let t = c.args.self.now in
    laid_behind (laid_one t.bytes t.len 59 refl (omega (arith, c.requires)))
    (laid_one _ (t.len + 1) c.args.byte (omega arith) (omega (arith, c.requires, length-set t.bytes t.len 59)))
    (omega (arith, c.requires))
