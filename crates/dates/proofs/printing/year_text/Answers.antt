-- `printing::year_text` lays the year's text of the definition over the buffer.
use mathlib.Core.Path.{◌∙◌}
use native.Mathlib.Omega.{arith}
use lib.ListN.{length-set}
use Rattle.dates.proofs.PrintingLaws.{year_none, year_laid}
use Rattle.dates.proofs.printing.year_text.Goals as goal

pub returns-then-n-eq0 : goal.returns-then-n-eq0
returns-then-n-eq0 c = year_none _ _ _ _ _ c.if-n-eq0.true

pub returns : goal.returns
returns c = year_laid _ _ _ _ _ _ c.requires.0 c.requires.1 c.if-n-eq0.false c.digits.ensures
