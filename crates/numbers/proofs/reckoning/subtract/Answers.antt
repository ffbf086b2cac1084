-- `reckoning::subtract` meets its contract: a number turned round is as large as it was.
use mathlib.Core.Path.{ap}
use native.Mathlib.Omega.{arith}
use Rattle.paper.specs.Numbers.{Number, signed, negated}
use Rattle.numbers.proofs.reckoning.subtract.Goals as goal

pub plus-requires : goal.plus-requires
unfolding negated signed
plus-requires c = omega (arith, ap (λ (w : Number). w.size) c.negated.ensures)
