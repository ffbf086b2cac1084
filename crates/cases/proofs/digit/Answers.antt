-- `cases::digit` meets its contract: the arm that the byte took says which.
use native.Mathlib.Omega.{arith}
use Rattle.paper.specs.Bytes.{is_digit, digit_value}
use Rattle.paper.proofs.Ranges.{within_yes, within_below, within_above}
use Rattle.cases.specs.Tables.{digit}
use Rattle.cases.proofs.digit.Goals as goal

pub returns-in-48-to-57 : goal.returns-in-48-to-57
unfolding digit is_digit digit_value
returns-in-48-to-57 c = (omega arith, rw (within_yes 48 57 _ c.in-48-to-57.if-b-lt48-own.false c.in-48-to-57.if-b-lt58-own.true) c.from.ensures)

pub returns-in_default : goal.returns-in_default
unfolding digit is_digit digit_value
returns-in_default c = (omega arith, rw (within_below 48 57 _ c.in_default.if-b-lt48-own.true))

pub returns-in_default-2 : goal.returns-in_default-2
unfolding digit is_digit digit_value
returns-in_default-2 c = (omega arith, rw (within_above 48 57 _ c.in_default.if-b-lt58-own.false))
