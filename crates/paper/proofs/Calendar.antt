-- The calendar of the definitions: the year of a day, the length of a year, and that the day and the date are inverse to each other.
-- Assumes nothing.
use Rattle.std.specs.Prelude.{if◌then◌else◌}
use Prim.Native.Nat.{ℕ, zero, suc, pred, ◌+◌, ◌-◌, ◌*◌, ◌/◌, ◌%◌, ◌≤◌, ◌<◌}
use mathlib.Core.Path.{◌≡◌, refl, ◌∙◌}
use mathlib.Core.Bool.{Bool, true, false, not, ◌&&◌, ◌||◌}
use mathlib.Core.List.{List, [], ◌∷◌}
use native.Mathlib.Omega.{arith}
use lib.ListN.{length, get_or}
use native.Mathlib.Nat.{le_refl, not-suc-le-zero, add-zero, zero-add, add-suc}
use native.Mathlib.Numerals.{add-one}
use lib.Dec.{leb, ltb, eqb}
use borrow.Author.Tests.{leb-true, ltb-true, leb-false, eqb-true, eqb-false, lt-ltb, le-ltb, le-leb}
use Rattle.paper.specs.Bytes.{within}
use Rattle.paper.specs.Dates.{Date, leap, month_lengths, days_before_year, days_in, days_to, year_of, month_day, date_of}
use Rattle.paper.specs.TypedDates.{in_calendar}
use Rattle.paper.proofs.Truths.{both, chosen}

-- the year that division gives is never too late, and at most one too early
estimate_low : (n : ℕ) → days_before_year (suc (n * 400 / 146_097)) ≤ n
unfolding days_before_year
estimate_low n = omega arith

estimate_high : (n : ℕ) → n < days_before_year (suc (suc (suc (n * 400 / 146_097))))
unfolding days_before_year
estimate_high n = omega arith

-- a day lies in its year
pub record InYear (n y : ℕ) : Type 0 where
  pub first : 1 ≤ y
  pub from : days_before_year y ≤ n
  pub to : n < days_before_year (suc y)

pub year_of_in : (n : ℕ) → InYear n (year_of n)
unfolding year_of
year_of_in n =
    chosen (InYear n) (leb (days_before_year (suc (suc (n * 400 / 146_097)))) n)
    (λ t. record { first = omega arith; from = leb-true _ _ t; to = estimate_high n })
    (λ t. record { first = omega arith; from = estimate_low n; to = leb-false _ _ t })

-- "Gregorian rules both ways": a year has 365 days, a leap year 366
unfoldable pub year_length : ℕ → ℕ
year_length y = if leap y then 366 else 365

-- a day more every 4th year, not every 100th, but every 400th
leap_days : (y : ℕ) (four hundred four_hundred : Bool)
    → eqb (y % 4) 0 ≡ four → eqb (y % 100) 0 ≡ hundred → eqb (y % 400) 0 ≡ four_hundred
    → 365 + (if four then 1 else 0) + (if four_hundred then 1 else 0)
    ≡ (if hundred then 1 else 0) + (if four && (not hundred || four_hundred) then 366 else 365)
leap_days y true true true a b c = refl
leap_days y true true false a b c = refl
leap_days y true false true a b c = omega (arith, eqb-true, eqb-false)
leap_days y true false false a b c = refl
leap_days y false true true a b c = omega (arith, eqb-true, eqb-false)
leap_days y false true false a b c = omega (arith, eqb-true, eqb-false)
leap_days y false false true a b c = omega (arith, eqb-true, eqb-false)
leap_days y false false false a b c = refl

-- every k-th year is counted once
counted : (k y : ℕ) → (suc y % k ≡ 0 → suc y / k ≡ y / k + 1) → ((suc y % k ≡ 0 → ⊥) → suc y / k ≡ y / k + 0)
    → suc y / k ≡ y / k + (if eqb (suc y % k) 0 then 1 else 0)
counted k y f g = chosen (λ n. suc y / k ≡ y / k + n) (eqb (suc y % k) 0) (λ t. f (eqb-true _ _ t)) (λ t. g (eqb-false _ _ t))

-- a year more, where a, b and c of its predecessors are a 4th, a 100th and a 400th year
one_more : (y a b c a' b' c' four hundred four_hundred l : ℕ) → b ≤ a → b' ≤ a'
    → a' ≡ a + four → b' ≡ b + hundred → c' ≡ c + four_hundred → 365 + four + four_hundred ≡ hundred + l
    → 365 * suc y + a' - b' + c' ≡ 365 * y + a - b + c + l
one_more y a b c a' b' c' four hundred four_hundred l h h' p q r e = omega arith

-- a year's days lie between its first day and the next year's
pub year_after : (y : ℕ) → days_before_year (suc (suc y)) ≡ days_before_year (suc y) + year_length (suc y)
unfolding year_length leap days_before_year
year_after y =
    one_more y (y / 4) (y / 100) (y / 400) _ _ _ _ _ _ _ (omega arith) (omega arith) (counted 4 y (λ t. omega arith) (λ t. omega arith))
    (counted 100 y (λ t. omega arith) (λ t. omega arith)) (counted 400 y (λ t. omega arith) (λ t. omega arith)) (leap_days (suc y) _ _ _ refl refl refl)

-- the lengths of the months, by whether the year is leap
abbrev pub lengths_by : Bool → List ℕ
lengths_by b = 31 ∷ (if b then 29 else 28) ∷ 31 ∷ 30 ∷ 31 ∷ 30 ∷ 31 ∷ 31 ∷ 30 ∷ 31 ∷ 30 ∷ 31 ∷ []

pub lengths_are : (y : ℕ) → month_lengths y ≡ lengths_by (leap y)
unfolding month_lengths
lengths_are y = refl

months_by : (b : Bool) → days_in 12 (lengths_by b) ≡ (if b then 366 else 365)
unfolding days_in
months_by true = refl
months_by false = refl

-- the months' lengths sum to the year's
pub months_fill : (y : ℕ) → days_in 12 (month_lengths y) ≡ year_length y
unfolding year_length
months_fill y = rw lengths_are (months_by (leap y))

-- a later year begins later, so a day lies in one year
rises : (y k : ℕ) → days_before_year (suc y) ≤ days_before_year (suc (y + k))
rises y zero = rw add-zero (le_refl (days_before_year (suc y)))
rises y (suc k) = rw add-suc (omega (arith, rises y k, year_after (y + k)))

pub later_year : (a b : ℕ) → a < b → days_before_year (suc a) ≤ days_before_year b
later_year a b h =
    let same : suc (a + (b - suc a)) ≡ b = omega arith in
    rw same at (rises a (b - suc a))

earlier : (n a b : ℕ) → InYear n a → InYear n b → a < b → ⊥
earlier n a b p q h = omega (arith, later_year a b h)

pub one_year : (n a b : ℕ) → InYear n a → InYear n b → a ≡ b
one_year n a b p q = omega (arith, earlier n a b p q, earlier n b a q p)

-- a place in months of these lengths: a month, from 0, and a day of it, from 0
pub record Place (ls : List ℕ) (n : ℕ) : Type 0 where
  pub index : ℕ
  pub rest : ℕ
  pub within_list : index < length ls
  pub within_month : rest < get_or ls index 0
  pub sum : n ≡ days_in index ls + rest

place_from : (l : ℕ) (ls : List ℕ) (n : ℕ) (later : Bool) → leb l n ≡ later → (l ≤ n → Place ls (n - l)) → Place (l ∷ ls) n
unfolding days_in
place_from l ls n true t next =
    let p : Place ls (n - l) = next (leb-true _ _ t) in
    record {
      index = suc p.index;
      rest = p.rest;
      within_list = omega (arith, p.within_list);
      within_month = p.within_month;
      sum = omega (arith, p.sum, leb-true l n t);
    }
place_from l ls n false t next =
    record { index = 0; rest = n; within_list = omega arith; within_month = leb-false _ _ t; sum = omega arith }

pub place : (ls : List ℕ) (n : ℕ) → n < days_in (length ls) ls → Place ls n
unfolding days_in
place [] n h = absurd (not-suc-le-zero h)
place (l ∷ ls) n h = place_from l ls n _ refl (λ later. place ls (n - l) (omega arith))

-- every place is before the months' end
pub place_before : (ls : List ℕ) (k r : ℕ) → k < length ls → r < get_or ls k 0 → days_in k ls + r < days_in (length ls) ls
unfolding days_in
place_before [] k r h s = absurd (not-suc-le-zero h)
place_before (l ∷ ls) zero r h s = omega arith
place_before (l ∷ ls) (suc k) r h s = omega (arith, place_before ls k r (omega arith) s)

-- the date of a place
pub month_day_at : (y m : ℕ) (ls : List ℕ) (k r : ℕ) → k < length ls → r < get_or ls k 0
    → month_day y m ls (days_in k ls + r) ≡ record { year = y; month = k + m; day = suc r }
unfolding days_in month_day
month_day_at y m [] k r h s = absurd (not-suc-le-zero h)
month_day_at y m (l ∷ ls) zero r h s = rw (zero-add r, lt-ltb r l s, zero-add m)
month_day_at y m (l ∷ ls) (suc k) r h s =
    let back : l + days_in k ls + r - l ≡ days_in k ls + r = omega arith in
    let past : ltb (l + days_in k ls + r) l ≡ false = le-ltb (l + days_in k ls + r) l (omega arith) in
    let same : k + suc m ≡ suc k + m = omega arith in
    rw (past, back, ← same) (month_day_at y (suc m) ls k r (omega arith) s)

-- a year has twelve months
pub twelve : (y : ℕ) → length (month_lengths y) ≡ 12
twelve y = rw lengths_are

pub year_fills : (n y : ℕ) → InYear n y → n - days_before_year y < days_in (length (month_lengths y)) (month_lengths y)
year_fills n zero p = absurd (not-suc-le-zero p.first)
year_fills n (suc y) p = rw (twelve, months_fill) (omega (arith, year_after y))

-- a day's place in its year
pub year_place : (n : ℕ) → Place (month_lengths (year_of n)) (n - days_before_year (year_of n))
year_place n = place (month_lengths (year_of n)) (n - days_before_year (year_of n)) (year_fills n (year_of n) (year_of_in n))

-- the date of a place in a year
pub year_day_at : (y k r : ℕ) → k < length (month_lengths y) → r < get_or (month_lengths y) k 0
    → month_day y 1 (month_lengths y) (days_in k (month_lengths y) + r) ≡ record { year = y; month = suc k; day = suc r }
year_day_at y k r h s = rw (← (add-one k)) (month_day_at y 1 (month_lengths y) k r h s)

-- no month has more than 31 days
abbrev pub all_within : ℕ → List ℕ → Bool
all_within m [] = true
all_within m (l ∷ ls) = leb l m && all_within m ls

pub within_all : (m : ℕ) (ls : List ℕ) (k : ℕ) → all_within m ls ≡ true → get_or ls k 0 ≤ m
within_all m [] k t = omega arith
within_all m (l ∷ ls) zero t = leb-true l m (both (leb l m) (all_within m ls) t).0
within_all m (l ∷ ls) (suc k) t = within_all m ls k (both (leb l m) (all_within m ls) t).1

pub month_most_by : (b : Bool) → all_within 31 (lengths_by b) ≡ true
month_most_by true = refl
month_most_by false = refl

pub month_most : (y k : ℕ) → get_or (month_lengths y) k 0 ≤ 31
month_most y k = within_all 31 (month_lengths y) k (rw lengths_are (month_most_by (leap y)))

-- the date of a day, by its place
pub date_at : (n : ℕ) → date_of n ≡ record { year = year_of n; month = suc (year_place n).index; day = suc (year_place n).rest }
unfolding date_of
date_at n =
    let p = year_place n in
    rw p.sum (year_day_at (year_of n) p.index p.rest p.within_list p.within_month)

-- the day of the date of a day is that day
pub days_to_date_of : (n : ℕ) → days_to (date_of n) ≡ n
unfolding days_to
days_to_date_of n = let p = year_place n in rw date_at (omega (arith, p.sum, (year_of_in n).from))

-- a date in the calendar, by its parts
pub record InCalendar (d : Date) : Type 0 where
  pub year_first : 1 ≤ d.year
  pub month_first : 1 ≤ d.month
  pub month_last : d.month ≤ 12
  pub day_first : 1 ≤ d.day
  pub day_last : d.day ≤ get_or (month_lengths d.year) (pred d.month) 0

pub calendar_parts : (d : Date) → in_calendar d ≡ true → InCalendar d
unfolding in_calendar
calendar_parts d t =
    let l = get_or (month_lengths d.year) (pred d.month) 0 in
    let p = both (ltb 0 d.year && within 1 12 d.month) (within 1 l d.day) t in
    let q = both (ltb 0 d.year) (within 1 12 d.month) p.0 in
    let m = both (leb 1 d.month) (leb d.month 12) q.1 in
    let e = both (leb 1 d.day) (leb d.day l) p.1 in
    record {
      year_first = ltb-true _ _ q.0;
      month_first = leb-true _ _ m.0;
      month_last = leb-true _ _ m.1;
      day_first = leb-true _ _ e.0;
      day_last = leb-true _ _ e.1;
    }

pub calendar_from : (d : Date) → InCalendar d → in_calendar d ≡ true
unfolding in_calendar
calendar_from d p =
    simp (lt-ltb _ _ p.year_first, le-leb _ _ p.month_first, le-leb _ _ p.month_last, le-leb _ _ p.day_first, le-leb _ _ p.day_last)

-- "a date that isn't in the calendar" is never said of a day's date
pub date_of_in_calendar : (n : ℕ) → in_calendar (date_of n) ≡ true
date_of_in_calendar n =
    let p = year_place n in
    rw date_at
    (calendar_from (record { year = year_of n; month = suc p.index; day = suc p.rest })
    (record {
      year_first = (year_of_in n).first;
      month_first = omega arith;
      month_last = omega (arith, rw twelve at p.within_list);
      day_first = omega arith;
      day_last = p.within_month;
    }))

-- "to 2,933,628 (31 December 9999)": no later year
not_later : (n y : ℕ) → days_before_year y ≤ n → n ≤ 3_652_058 → 9_999 < y → ⊥
unfolding days_before_year
not_later n y f h late = omega (arith, later_year 9_999 y late)

pub year_most : (n : ℕ) → n ≤ 3_652_058 → year_of n ≤ 9_999
year_most n h = omega (arith, not_later n (year_of n) (year_of_in n).from h)

pub year_of_date : (n : ℕ) → n ≤ 3_652_058 → (date_of n).year ≤ 9_999
year_of_date n h = rw date_at (year_most n h)

-- the day of a date lies in its year
place_in_year : (y k r : ℕ) → 1 ≤ y → k < length (month_lengths y) → r < get_or (month_lengths y) k 0
    → InYear (days_before_year y + days_in k (month_lengths y) + r) y
place_in_year zero k r f h s = absurd (not-suc-le-zero f)
place_in_year (suc y) k r f h s =
    record { first = f; from = omega arith; to = omega (arith, year_after y, rw (twelve, months_fill) at (place_before (month_lengths (suc y)) k r h s)) }

days_to_in_year : (d : Date) → InCalendar d → InYear (days_to d) d.year
unfolding days_to
days_to_in_year d p =
    place_in_year d.year (pred d.month) (pred d.day) p.year_first (rw twelve (omega arith)) (omega (arith, p.day_last))

-- the date of the day of a date is that date
date_of_place : (y k r : ℕ) → InYear (days_before_year y + days_in k (month_lengths y) + r) y
    → k < length (month_lengths y) → r < get_or (month_lengths y) k 0
    → date_of (days_before_year y + days_in k (month_lengths y) + r) ≡ record { year = y; month = suc k; day = suc r }
unfolding date_of
date_of_place y k r p h s =
    let same = one_year _ _ _ (year_of_in (days_before_year y + days_in k (month_lengths y) + r)) p in
    let rest : days_before_year y + days_in k (month_lengths y) + r - days_before_year y ≡ days_in k (month_lengths y) + r = omega arith in
    rw (same, rest) (year_day_at y k r h s)

pub date_of_days_to : (d : Date) → in_calendar d ≡ true → date_of (days_to d) ≡ d
unfolding days_to
date_of_days_to d t =
    let p = calendar_parts d t in
    let m : suc (pred d.month) ≡ d.month = omega (arith, p.month_first) in
    let e : suc (pred d.day) ≡ d.day = omega (arith, p.day_first) in
    date_of_place d.year (pred d.month) (pred d.day) (days_to_in_year d p) (rw twelve (omega arith)) (omega (arith, p.day_last))
    ∙ λ i. record { year = d.year; month = m i; day = e i }

-- no date up to 31 December 9999 has a later day
days_before_most : (n y : ℕ) → InYear n y → y ≤ 9_999 → n ≤ 3_652_058
unfolding days_before_year
days_before_most n y p h = omega (arith, later_year y 10_000 (omega arith), p.to)

pub days_to_most : (d : Date) → in_calendar d ≡ true → d.year ≤ 9_999 → days_to d ≤ 3_652_058
days_to_most d t h = days_before_most (days_to d) d.year (days_to_in_year d (calendar_parts d t)) h
