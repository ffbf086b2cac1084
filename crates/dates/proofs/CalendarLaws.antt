-- The year of a day by a division and one comparison is that of the definition, and the day of a date is its sum; a year has at most 366 days.
-- Assumes nothing.
use Rattle.std.specs.Prelude.{if◌then◌else◌}
use Rattle.std.specs.Int.{from_bool}
use Prim.Native.Nat.{ℕ, ◌+◌, ◌-◌, ◌*◌, ◌/◌, ◌≤◌, ◌<◌}
use mathlib.Core.Path.{◌≡◌}
use mathlib.Core.Bool.{Bool, true, false}
use native.Mathlib.Numerals.{add-one, sub-one}
use native.Mathlib.Omega.{arith}
use borrow.Author.Tests.{le-leb, lt-leb}
use Rattle.paper.specs.Dates.{Date, leap, month_lengths, days_before_year, days_in, days_to, year_of}
use Rattle.paper.proofs.Calendar.{months_fill, year_length}

-- the year after the one that division gives, or that one
pub year_next : (n : ℕ) → days_before_year (n * 400 / 146_097 + 1 + 1) ≤ n → n * 400 / 146_097 + 1 + 1 ≡ year_of n
unfolding year_of
year_next n h = rw (le-leb _ _ (simp add-one at h)) (omega arith)

pub year_same : (n : ℕ) → n < days_before_year (n * 400 / 146_097 + 1 + 1) → n * 400 / 146_097 + 1 ≡ year_of n
unfolding year_of
year_same n h = rw (lt-leb _ _ (simp add-one at h)) (omega arith)

-- a year has 366 days at most
year_days_by : (b : Bool) → (if b then 366 else 365) ≤ 366
year_days_by true = omega arith
year_days_by false = omega arith

pub year_days_most : (y : ℕ) → days_in 12 (month_lengths y) ≤ 366
unfolding year_length
year_days_most y = rw months_fill (year_days_by (leap y))

-- what counts once or not at all is at most 1
pub counted_most : (counts : Bool) → from_bool counts ≤ 1
counted_most true = omega arith
counted_most false = omega arith

-- the sum that `days_to` makes
pub days_sum : (d : Date) (a b : ℕ) → a ≡ days_before_year d.year → b ≡ days_in (d.month - 1) (month_lengths d.year)
    → a + b + (d.day - 1) ≡ days_to d
unfolding days_to
days_sum d a b p q = rw (p, q, sub-one d.month, sub-one d.day)
