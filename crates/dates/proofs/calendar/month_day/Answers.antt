-- `calendar::month_day` gives the date of the definition: the formula turned round finds the month.
use Prim.Native.Nat.{◌+◌, ◌-◌, ◌*◌, ◌/◌}
use native.Mathlib.Omega.{arith}
use lib.Dec.{leb}
use Rattle.dates.proofs.CalendarLaws.{year_days_most, counted_most}
use Rattle.dates.proofs.MonthLaws.{InMonth, month_found, month_dated}
use Rattle.dates.proofs.calendar.month_day.Goals as goal

pub overflow_add-d : goal.overflow_add-d
overflow_add-d c = omega (arith, c.requires, year_days_most c.args.year, c.from.ensures, counted_most (leb c.days_before_month.result c.args.n))

pub overflow_mul-month : goal.overflow_mul-month
overflow_mul-month c = omega (arith, c.requires, year_days_most c.args.year, c.from.ensures, counted_most (leb c.days_before_month.result c.args.n))

pub overflow_add-month : goal.overflow_add-month
overflow_add-month c = omega (arith, c.requires, year_days_most c.args.year, c.from.ensures, counted_most (leb c.days_before_month.result c.args.n))

pub days_before_month-requires-2 : goal.days_before_month-requires-2
days_before_month-requires-2 c =
    let found : InMonth c.args.year c.args.n ((12 * (c.args.n + 2 * c.from.result - c.from-2.result) + 6) / 367)
    = month_found c.args.year c.args.n _ _ c.requires (rw c.days_before_month.ensures at c.from.ensures) (rw (c.leap.ensures, c.days_before_month.ensures) at c.from-2.ensures) in
    omega (arith, found.of_twelve)

pub overflow_sub-result : goal.overflow_sub-result
overflow_sub-result c =
    let found : InMonth c.args.year c.args.n ((12 * (c.args.n + 2 * c.from.result - c.from-2.result) + 6) / 367)
    = month_found c.args.year c.args.n _ _ c.requires (rw c.days_before_month.ensures at c.from.ensures) (rw (c.leap.ensures, c.days_before_month.ensures) at c.from-2.ensures) in
    rw c.days_before_month-2.ensures found.from

pub overflow_add-result-2 : goal.overflow_add-result-2
overflow_add-result-2 c = omega (arith, c.requires, year_days_most c.args.year, c.from.ensures, counted_most (leb c.days_before_month.result c.args.n))

pub returns : goal.returns
returns c =
    let found : InMonth c.args.year c.args.n ((12 * (c.args.n + 2 * c.from.result - c.from-2.result) + 6) / 367)
    = month_found c.args.year c.args.n _ _ c.requires (rw c.days_before_month.ensures at c.from.ensures) (rw (c.leap.ensures, c.days_before_month.ensures) at c.from-2.ensures) in
    month_dated _ _ _ _ found c.days_before_month-2.ensures
