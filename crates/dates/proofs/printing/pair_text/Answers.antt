-- `printing::pair_text` lays two digits and a byte over the front.
use mathlib.Core.Path.{refl, ◌∙◌}
use native.Mathlib.Omega.{arith}
use Rattle.paper.specs.Numbers.{digits}
use Rattle.lent.proofs.Laying.{laid_at, laid_one, laid_behind}
use Rattle.dates.proofs.PrintingLaws.{digits_laid}
use Rattle.dates.proofs.printing.pair_text.Goals as goal

pub returns : goal.returns
unfolding digits
returns c = (laid_behind (laid_at (c.digits.ensures ∙ digits_laid _ 0 2 _) refl) (laid_one _ 2 _ refl (omega arith)) (omega arith)).bytes
