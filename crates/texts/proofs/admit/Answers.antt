-- `admit` gives the element or nothing.
use mathlib.Core.Path.{ap}
use native.Mathlib.Omega.{arith}
use lib.ListN.{length}
use borrow.Author.Rules.{rules}
use Rattle.paper.specs.Bytes.{within}
use Rattle.paper.specs.Texts.{plain_gives}
use Rattle.texts.proofs.Laws.{either_fits}
use Rattle.texts.proofs.admit.Goals as goal

pub returns : goal.returns
unfolding plain_gives
returns c = rw c.admitted.ensures at c.give.ensures
