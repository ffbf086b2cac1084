-- `extract` gives the bytes from its start on, as one part of the element.
use mathlib.Core.Path.{ap, ◌∙◌}
use native.Mathlib.Omega.{arith}
use lib.ListN.{length, take}
use borrow.Author.Rules.{rules}
use Rattle.paper.specs.Texts.{plain_gives}
use Rattle.texts.proofs.Laws.{part_fits}
use Rattle.texts.proofs.extract.Goals as goal

pub returns : goal.returns
unfolding plain_gives
returns c = rw (c.front.ensures, c.after-rest.ensures, c.index.ensures) at c.give.ensures
