-- `Text::spell` meets its contract: a byte, and the spelling copied behind it.
use mathlib.Core.Path.{refl}
use native.Mathlib.Omega.{arith}
use Rattle.lent.proofs.Laying.{laid_one, laid_behind}
use Rattle.algebra.proofs.texts.Text.spell.Goals as goal

pub returns : goal.returns
returns c =
    let t = c.args.self.now in
    laid_behind (laid_one t.bytes t.len 59 refl (omega (arith, c.requires)))
    (record { place = refl; bytes = c.copy_in.ensures }) (omega (arith, c.requires))
