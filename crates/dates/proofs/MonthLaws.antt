-- Document 02, L6: why the formula counts the days before a month, and turned round finds the month of a day. Assumes nothing.
use Rattle.std.specs.Prelude.{if◌then◌else◌}
use Rattle.std.specs.Int.{from_bool}
use Prim.Native.Nat.{ℕ, zero, suc, ◌+◌, ◌-◌, ◌*◌, ◌/◌, ◌≤◌, ◌<◌}
use mathlib.Core.Path.{◌≡◌, refl}
use mathlib.Core.Bool.{Bool, true, false, ◌&&◌}
use mathlib.Core.List.{List, [], ◌∷◌}
use native.Mathlib.Nat.{not-suc-le-zero}
use native.Mathlib.Numerals.{add-one}
use native.Mathlib.Omega.{arith}
use lib.ListN.{length, get_or}
use lib.Dec.{leb, ltb, eqb}
use borrow.Author.Tests.{eqb-true, ltb-true, ltb-false, leb-true, leb-false}
use Rattle.paper.specs.Dates.{leap, month_lengths, days_in, month_day}
use Rattle.paper.proofs.Calendar.{twelve, year_day_at}
use Rattle.paper.proofs.Truths.{passed}
use Rattle.dates.specs.Dated.{code_date}
use Rattle.dates.proofs.Tables.{months}
use Rattle.dates.proofs.CalendarLaws.{counted_most}

-- the days before the next month are those before this one and its own
days_in_next : (ls : List ℕ) (k : ℕ) → k < length ls → days_in (suc k) ls ≡ days_in k ls + get_or ls k 0
unfolding days_in
days_in_next [] k h = absurd (not-suc-le-zero h)
days_in_next (l ∷ ls) zero h = omega arith
days_in_next (l ∷ ls) (suc k) h = omega (arith, days_in_next ls k (omega arith))

-- the days before month k, from 0, in a year of 367 days whose months of 30 and of 31 are evenly spread
abbrev pub evenly : ℕ → ℕ
evenly k = (367 * k + 5) / 12

-- with 30 days in February, the formula rises over each month by its days ..
rises : (k : ℕ) → k < 12 → evenly (suc k) ≡ evenly k + get_or (months 30) k 0
rises k h =
    eqb-true (evenly (suc k)) (evenly k + get_or (months 30) k 0) (passed (λ k. eqb (evenly (suc k)) (evenly k + get_or (months 30) k 0)) 12 k refl h)

-- .. and so, month after month, it counts the days before
evenly_sums : (k : ℕ) → k ≤ 12 → days_in k (months 30) ≡ evenly k
unfolding days_in
evenly_sums zero h = refl
evenly_sums (suc k) h = omega (arith, days_in_next (months 30) k h, evenly_sums k (omega arith), rises k h)

-- February has 28, and in a leap year one more ..
february : (b : Bool) → (if b then 29 else 28) + 2 ≡ 30 + from_bool b
february true = refl
february false = refl

-- .. so from March on 2 days fewer come before, in a leap year 1 fewer; until then nothing changes
from_march : (y k : ℕ) → 1 < k → k ≤ 12 → days_in k (month_lengths y) + 2 ≡ evenly k + from_bool (leap y)
unfolding days_in month_lengths
from_march y zero f h = omega arith
from_march y (suc zero) f h = omega arith
from_march y (suc (suc k)) f h = omega (arith, evenly_sums (suc (suc k)) h, february (leap y))

before_march : (y k : ℕ) → k ≤ 1 → days_in k (month_lengths y) ≡ evenly k
unfolding days_in month_lengths
before_march y zero h = refl
before_march y (suc zero) h = refl
before_march y (suc (suc k)) h = omega arith

-- both in one, as the code has it
pub days_before : (y k : ℕ) → k ≤ 12 → days_in k (month_lengths y) + 2 * from_bool (ltb 1 k) ≡ evenly k + from_bool (ltb 1 k && leap y)
days_before y k h = by_month (ltb 1 k) refl
  where
    by_month : (late : Bool) → ltb 1 k ≡ late → days_in k (month_lengths y) + 2 * from_bool late ≡ evenly k + from_bool (late && leap y)
    by_month true t = from_march y k (ltb-true 1 k t) h
    by_month false t = omega (arith, before_march y k (ltb-false 1 k t))

-- turned round: in the year of 367 days, day d is in month (12 d + 6) / 367
evenly_within : (d : ℕ) → (evenly ((12 * d + 6) / 367) ≤ d) × (d < evenly (suc ((12 * d + 6) / 367)))
evenly_within d = (omega arith, omega arith)

-- the n-th day of the year, from 0, is in month k
pub record InMonth (y n k : ℕ) : Type 0 where
  pub of_twelve : k < 12
  pub from : days_in k (month_lengths y) ≤ n
  pub to : n < days_in (suc k) (month_lengths y)

-- from March on it is, in the year of 367 days, the day two days later, and in a leap year one day later
found_late : (y n d : ℕ) → n < days_in 12 (month_lengths y) → days_in 2 (month_lengths y) ≤ n → d + from_bool (leap y) ≡ n + 2
    → InMonth y n ((12 * d + 6) / 367)
found_late y n d h f s =
    let k = (12 * d + 6) / 367 in
    let first : 1 < k = omega (arith, from_march y 2 (omega arith) (omega arith)) in
    let last : k < 12 = omega (arith, from_march y 12 (omega arith) (omega arith)) in
    record {
      of_twelve = last;
      from = omega (arith, from_march y k first (omega arith), evenly_within d);
      to = omega (arith, from_march y (suc k) (omega arith) last, evenly_within d);
    }

-- before March it is the same day, in January or in what there is of February
found_early : (y n : ℕ) → n < days_in 2 (month_lengths y) → InMonth y n ((12 * n + 6) / 367)
found_early y n f = by_month ((12 * n + 6) / 367) (evenly_within n).0 (evenly_within n).1
  where
    by_month : (k : ℕ) → evenly k ≤ n → n < evenly (suc k) → InMonth y n k
    by_month zero from to =
        record { of_twelve = omega arith; from = omega (arith, before_march y 0 (omega arith)); to = omega (arith, before_march y 1 (omega arith)) }
    by_month (suc zero) from to = record { of_twelve = omega arith; from = omega (arith, before_march y 1 (omega arith)); to = f }
    by_month (suc (suc k)) from to = omega (arith, from_march y 2 (omega arith) (omega arith), counted_most (leap y))

-- no more is taken off for the leap day than is put back, so that the code's difference never falls below 0
pub leap_day_within : (late leap : Bool) → from_bool (late && leap) ≤ 2 * from_bool late
leap_day_within true leap = omega (arith, counted_most leap)
leap_day_within false leap = omega arith

-- so every day of the year is in the month that the formula turned round gives
pub month_found : (y n march leap_day : ℕ) → n < days_in 12 (month_lengths y) → march ≡ from_bool (leb (days_in 2 (month_lengths y)) n)
    → leap_day ≡ from_bool (leb (days_in 2 (month_lengths y)) n && leap y) → InMonth y n ((12 * (n + 2 * march - leap_day) + 6) / 367)
month_found y n march leap_day h = by_march (leb (days_in 2 (month_lengths y)) n) refl
  where
    by_march : (late : Bool) → leb (days_in 2 (month_lengths y)) n ≡ late → march ≡ from_bool late → leap_day ≡ from_bool (late && leap y)
        → InMonth y n ((12 * (n + 2 * march - leap_day) + 6) / 367)
    by_march true t p q = found_late y n (n + 2 * march - leap_day) h (leb-true _ _ t) (omega (arith, p, q, counted_most (leap y)))
    by_march false t p q =
        let same : n + 2 * march - leap_day ≡ n = omega (arith, p, q) in
        rw same (found_early y n (leb-false _ _ t))

-- and the month gives the date
pub month_dated : (y n k before : ℕ) → InMonth y n k → before ≡ days_in k (month_lengths y)
    → record { year = y; month = k + 1; day = n - before + 1 } ≡ code_date (month_day y 1 (month_lengths y) n)
month_dated y n k before p e =
    let ls = month_lengths y in
    let same : days_in k ls + (n - days_in k ls) ≡ n = omega (arith, p.from) in
    let within : k < length ls = rw twelve p.of_twelve in
    let there = rw same at (year_day_at y k (n - days_in k ls) within (omega (arith, days_in_next ls k within, p.from, p.to))) in
    rw (there, e, add-one k, add-one (n - days_in k ls))
