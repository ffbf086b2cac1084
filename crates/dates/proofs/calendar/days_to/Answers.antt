-- `calendar::days_to` sums the days of the definition.
use Prim.Native.Nat.{◌+◌, ◌-◌, ◌≤◌}
use mathlib.Core.Path.{◌≡◌}
use native.Mathlib.Omega.{arith}
use Rattle.paper.specs.Dates.{days_to}
use Rattle.paper.proofs.Calendar.{InCalendar, calendar_parts, days_to_most}
use Rattle.dates.specs.Dated.{paper_date}
use Rattle.dates.proofs.CalendarLaws.{days_sum}
use Rattle.dates.proofs.calendar.days_to.Goals as goal

pub days_before_year-requires : goal.days_before_year-requires
days_before_year-requires c =
    let parts : InCalendar (paper_date c.args.d) = calendar_parts (paper_date c.args.d) c.requires.0 in
    omega (arith, parts)

pub overflow_sub-d : goal.overflow_sub-d
overflow_sub-d c =
    let parts : InCalendar (paper_date c.args.d) = calendar_parts (paper_date c.args.d) c.requires.0 in
    omega (arith, parts)

pub days_before_month-requires : goal.days_before_month-requires
days_before_month-requires c =
    let parts : InCalendar (paper_date c.args.d) = calendar_parts (paper_date c.args.d) c.requires.0 in
    omega (arith, parts)

pub overflow_add-result : goal.overflow_add-result
overflow_add-result c =
    let summed : c.days_before_year.result + c.days_before_month.result + (c.args.d.day - 1) ≡ days_to (paper_date c.args.d) = days_sum (paper_date c.args.d) c.days_before_year.result c.days_before_month.result c.days_before_year.ensures c.days_before_month.ensures in
    let most : days_to (paper_date c.args.d) ≤ 3_652_058 = days_to_most (paper_date c.args.d) c.requires.0 c.requires.1 in
    omega (arith, summed, most)

pub overflow_sub-result : goal.overflow_sub-result
overflow_sub-result c =
    let parts : InCalendar (paper_date c.args.d) = calendar_parts (paper_date c.args.d) c.requires.0 in
    omega (arith, parts)

pub overflow_add-result-2 : goal.overflow_add-result-2
overflow_add-result-2 c =
    let summed : c.days_before_year.result + c.days_before_month.result + (c.args.d.day - 1) ≡ days_to (paper_date c.args.d) = days_sum (paper_date c.args.d) c.days_before_year.result c.days_before_month.result c.days_before_year.ensures c.days_before_month.ensures in
    let most : days_to (paper_date c.args.d) ≤ 3_652_058 = days_to_most (paper_date c.args.d) c.requires.0 c.requires.1 in
    omega (arith, summed, most)

pub returns : goal.returns
returns c =
    let summed : c.days_before_year.result + c.days_before_month.result + (c.args.d.day - 1) ≡ days_to (paper_date c.args.d) = days_sum (paper_date c.args.d) c.days_before_year.result c.days_before_month.result c.days_before_year.ensures c.days_before_month.ensures in
    summed
