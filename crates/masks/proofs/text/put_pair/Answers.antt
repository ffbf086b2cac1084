-- `text::put_pair` meets its contract: two bytes, the second laid first.
use Rattle.lent.proofs.Laying.{laid_as, laid_ahead}
use Rattle.masks.proofs.text.put_pair.Goals as goal

pub returns : goal.returns
returns c =
    laid_as
    (rw (c.or_blank-2.ensures, c.or_blank.ensures))
    (laid_ahead c.put-last.ensures c.put.ensures c.requires.1)
