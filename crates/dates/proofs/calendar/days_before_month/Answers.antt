-- `calendar::days_before_month` counts the days of the definition: the law of its formula, at both kinds of year.
use Prim.Native.Nat.{◌+◌, ◌*◌}
use mathlib.Core.Path.{◌≡◌}
use native.Mathlib.Omega.{arith}
use Rattle.paper.specs.Dates.{days_in, month_lengths}
use Rattle.dates.proofs.MonthLaws.{evenly, days_before}
use Rattle.dates.proofs.calendar.days_before_month.Goals as goal

pub returns : goal.returns
returns c =
    let counted : days_in c.args.month (month_lengths c.args.year) + 2 * c.from-2.result ≡ evenly c.args.month + c.from.result
    = rw (c.from-2.ensures, c.from.ensures, c.leap.ensures) (days_before c.args.year c.args.month c.requires) in
    omega (arith, counted)
