-- `places::numeral` meets its contract: a digit before the others is at most 9.
use Rattle.readers.proofs.Answering.{read_some}
use Rattle.readers.proofs.Taken.{digit_small}
use Rattle.readers.proofs.places.numeral.Goals as goal

pub more_digits-requires : goal.more_digits-requires
more_digits-requires c = (digit_small _ _ (read_some c.in_ok-first.ensures), c.requires)
