-- `printing::date_text` lays the text of the definition over the front, piece by piece.
use Rattle.dates.specs.Dated.{paper_date}
use Rattle.dates.proofs.PrintingLaws.{lettered_laid, numbered_laid}
use Rattle.dates.proofs.printing.date_text.Goals as goal

pub returns-in-None : goal.returns-in-None
returns-in-None c =
    rw c.in-None.is
    (lettered_laid _ _ _ _ _ _ (paper_date c.args.d) c.requires.2 c.requires.3 c.pair_text.ensures c.name_text.ensures c.year_text.ensures.out_after
    c.year_text.ensures.value)

pub returns-in-Some : goal.returns-in-Some
returns-in-Some c =
    rw c.in-Some.is
    (numbered_laid _ _ _ _ _ _ _ (paper_date c.args.d) c.pair_text-in-Some.ensures c.digits.ensures c.year_text-in-Some.ensures.out_after
    c.year_text-in-Some.ensures.value)
