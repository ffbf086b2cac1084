-- `printing::number_dated` prints the date of a day in range.
use mathlib.Core.Path.{sym, ap}
use Rattle.dates.specs.Dated.{paper_date}
use Rattle.dates.proofs.PrintingLaws.{dated_given}
use Rattle.dates.proofs.printing.number_dated.Goals as goal

pub returns : goal.returns
returns c =
    dated_given _ _ _ _ _ _ _ (paper_date c.date_of.result) (sym c.in_ok-day.ensures) (ap paper_date c.date_of.ensures) c.date_text.ensures.value c.date_text.ensures.out_after
