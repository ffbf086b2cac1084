-- `tallies::tally_after` meets its contract: shape, entries and steps are each what the tally has.
use Rattle.judging.proofs.Tallying.{after_is}
use Rattle.judging.proofs.tallies.tally_after.Goals as goal

pub returns : goal.returns
returns c = λ string counted. after_is _ _ (c.shape-shape.ensures.value string counted) c.entries-held.ensures c.one_step.ensures c.add-counts.ensures
