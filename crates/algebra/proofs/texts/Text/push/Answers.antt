-- `Text::push` meets its contract: a byte is set.
use mathlib.Core.Path.{refl}
use Rattle.lent.proofs.Laws.{over_one}
use Rattle.algebra.proofs.texts.Text.push.Goals as goal

pub returns : goal.returns
returns c = let t = c.args.self.now in record { place = refl; bytes = over_one t.bytes t.len c.args.byte c.requires }
