-- `calendar::date_of` gives the date of the definition.
use mathlib.Core.Path.{◌∙◌}
use native.Mathlib.Omega.{arith}
use Rattle.paper.specs.Dates.{year_of, date_of}
use Rattle.paper.proofs.Calendar.{year_of_in, year_most, twelve, year_fills}
use Rattle.dates.proofs.calendar.date_of.Goals as goal

pub days_before_year-requires : goal.days_before_year-requires
days_before_year-requires c =
    let n = c.args.n in
    rw c.year_of-year.ensures ((year_of_in n).first, omega (arith, year_most n c.requires))

pub overflow_sub-n : goal.overflow_sub-n
overflow_sub-n c = rw (c.days_before_year.ensures, c.year_of-year.ensures) (year_of_in c.args.n).from

pub month_day-requires : goal.month_day-requires
month_day-requires c =
    let n = c.args.n in
    rw (c.days_before_year.ensures, c.year_of-year.ensures, ← (twelve (year_of n))) (year_fills n (year_of n) (year_of_in n))

pub returns : goal.returns
unfolding date_of
returns c = c.month_day.ensures ∙ rw (c.days_before_year.ensures, c.year_of-year.ensures)
