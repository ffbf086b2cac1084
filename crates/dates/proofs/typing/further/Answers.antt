-- `typing::further` reads one digit more where the definition does.
use Prim.Native.Nat.{◌<◌}
use mathlib.Core.Path.{◌≡◌}
use mathlib.Core.Bool.{false}
use mathlib.Core.Logic.{⊎_elim}
use native.Mathlib.Omega.{arith}
use lib.ListN.{drop_of_length-le}
use Rattle.paper.specs.Bytes.{is_digit, digit_value}
use Rattle.paper.specs.Grammar.{numeral, more_digits}
use Rattle.paper.specs.TypedDates.{typed_digit}
use Rattle.paper.proofs.Ranges.{within_yes, within_below, within_above}
use Rattle.dates.specs.Scans.{further}
use Rattle.dates.proofs.TypingLaws.{ahead_is}
use Rattle.dates.proofs.typing.further.Goals as goal

pub returns-in-Some-clause-reads : goal.returns-in-Some-clause-reads
unfolding further typed_digit numeral more_digits digit_value is_digit
returns-in-Some-clause-reads c =
    let b = c.in-Some.ensures.lookup.3 in
    let digit = c.if-is_ascii_digit.ensures.cases in
    rw (ahead_is _ _ _ b.0 b.1, within_yes 48 57 c.in-Some.b.now (omega arith) (omega arith), c.from.ensures)

pub returns-in_default-clause-reads : goal.returns-in_default-clause-reads
unfolding further typed_digit numeral is_digit
returns-in_default-clause-reads c =
    let b = c.in-Some.ensures.lookup.3 in
    let other : is_digit c.in-Some.b.now ≡ false
    = ⊎_elim (λ (h : c.in-Some.b.now < 48). within_below 48 57 _ h) (λ (h : 57 < c.in-Some.b.now). within_above 48 57 _ h) c.if-is_ascii_digit.ensures.cases in
    rw (ahead_is _ _ _ b.0 b.1, other)

pub returns-in_default-2-clause-reads : goal.returns-in_default-2-clause-reads
unfolding further typed_digit numeral
returns-in_default-2-clause-reads c =
    let none = rw c.in_default.is at c.get.ensures in
    rw (drop_of_length-le c.args.text.now {i = c.args.at} none.lookup.3)
