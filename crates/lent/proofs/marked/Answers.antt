-- `lent::marked` meets its contract: the marks are the bytes within the two.
use Rattle.paper.specs.Sizes.{is_mark}
use Rattle.lent.proofs.marked.Goals as goal

pub returns : goal.returns
unfolding is_mark
returns c = c.some_within.ensures
