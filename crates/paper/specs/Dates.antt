-- Document 01, "What each code gives": D and the calendar.
use Rattle.std.specs.Prelude.{ℕ, zero, suc, pred, ◌+◌, ◌-◌, ◌*◌, ◌/◌, ◌%◌, Bool, not, ◌&&◌, ◌||◌, List, [], ◌∷◌, ◌++◌, get_or, leb, ltb, eqb, if◌then◌else◌}
use Rattle.std.proofs.Math.Option.{Option, none, some}
use Rattle.paper.specs.Bytes.{Bytes, ch, bytes}
use Rattle.paper.specs.Numbers.{Number, digits}
use Rattle.paper.specs.Masks.{number_gives}
use Rattle.paper.specs.Refusals.{Res, given, ◌>>=◌, ◌>>◌, refuse◌unless◌, out_of_range}

-- "Gregorian rules both ways"
unfoldable pub leap : ℕ → Bool
leap y = eqb (y % 4) 0 && (not (eqb (y % 100) 0) || eqb (y % 400) 0)

unfoldable pub month_lengths : ℕ → List ℕ
month_lengths y = 31 ∷ (if leap y then 29 else 28) ∷ 31 ∷ 30 ∷ 31 ∷ 30 ∷ 31 ∷ 31 ∷ 30 ∷ 31 ∷ 30 ∷ 31 ∷ []

-- "months in capitals"
unfoldable pub month_names : List Bytes
month_names =
    bytes "JAN" ∷ bytes "FEB" ∷ bytes "MAR" ∷ bytes "APR" ∷ bytes "MAY" ∷ bytes "JUN" ∷ bytes "JUL"
    ∷ bytes "AUG" ∷ bytes "SEP" ∷ bytes "OCT" ∷ bytes "NOV" ∷ bytes "DEC" ∷ []

-- A date of the calendar.
pub record Date : Type 0 where
  pub year : ℕ
  pub month : ℕ
  pub day : ℕ

-- the days from 1 January of year 1 to 1 January of year y: 365 a year, and one for each leap year passed
unfoldable pub days_before_year : ℕ → ℕ
days_before_year y = 365 * pred y + pred y / 4 - pred y / 100 + pred y / 400

unfoldable pub days_in : ℕ → List ℕ → ℕ
days_in zero ls = 0
days_in (suc k) [] = 0
days_in (suc k) (l ∷ ls) = l + days_in k ls

-- the days from 1 January of year 1 to the date
unfoldable pub days_to : Date → ℕ
days_to d = days_before_year d.year + days_in (pred d.month) (month_lengths d.year) + pred d.day

-- the year that day n, counted from 1 January of year 1, is in: 400 years have 146,097 days, which gives that year or the one before
abbrev pub year_or_next : ℕ → ℕ → ℕ
year_or_next n y = if leb (days_before_year (suc y)) n then suc y else y

unfoldable pub year_of : ℕ → ℕ
year_of n = year_or_next n (suc (n * 400 / 146_097))

-- the month and the day that the n-th day, from 0, of months of these lengths is
unfoldable pub month_day : ℕ → ℕ → List ℕ → ℕ → Date
month_day y m [] n = record { year = y; month = m; day = suc n }
month_day y m (l ∷ ls) n =
    if ltb n l then record { year = y; month = m; day = suc n } else month_day y (suc m) ls (n - l)

unfoldable pub date_of : ℕ → Date
date_of n = month_day (year_of n) 1 (month_lengths (year_of n)) (n - days_before_year (year_of n))

-- "day 0 is 31 December 1967 .. from -718,430 (1 January of year 1) to 2,933,628 (31 December 9999)"
abbrev pub day_zero : ℕ
day_zero = 718_430

abbrev pub last_day : ℕ
last_day = 2_933_628

-- a day in its range, counted from 1 January of year 1
unfoldable pub ranged_day : Number → Res ℕ
ranged_day x = do
  refuse out_of_range unless (if x.negative then leb x.size day_zero else leb x.size last_day)
  given (if x.negative then day_zero - x.size else day_zero + x.size)

-- "the year's last n digits, of its four with zeros in front; n = 0 drops the year and the separator before it"
unfoldable pub year_text : ℕ → ℕ → ℕ → Bytes
year_text zero s y = []
year_text (suc n) s y = s ∷ digits (suc n) y

-- "Without s `DD MMM YYYY`, with s `MMsDDsYYYY`"
unfoldable pub date_text : ℕ → Option ℕ → Date → Bytes
date_text n none d =
    digits 2 d.day ++ ch " " ∷ get_or month_names (pred d.month) [] ++ year_text n (ch " ") d.year
date_text n (some s) d = digits 2 d.month ++ s ∷ digits 2 d.day ++ year_text n s d.year

-- "Empty stays empty; other non-numeric is 12."
unfoldable pub date_gives : ℕ → Option ℕ → Bytes → Res Bytes
date_gives n s e = number_gives (λ x. ranged_day x >>= λ day. given (date_text n s (date_of day))) e
