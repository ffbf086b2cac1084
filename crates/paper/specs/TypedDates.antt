-- Document 01, "What each code gives" (typed dates) and their refusals: 5, then 6, then 12.
use Rattle.std.specs.Prelude.{ℕ, zero, suc, pred, ◌+◌, ◌*◌, Bool, true, ◌&&◌, List, [], ◌∷◌, length, get_or, leb, ltb, if◌then◌else◌}
use Rattle.std.proofs.Math.Option.{Option, none, some}
use Rattle.paper.specs.Bytes.{Bytes, ch, is_digit, is_letter, digit_value, within, same_bytes}
use Rattle.paper.specs.Sizes.{code_most}
use Rattle.paper.specs.Numbers.{Number, signed, plus, natural}
use Rattle.paper.specs.Codes.{Conversion, Code}
use Rattle.paper.specs.Texts.{raised}
use Rattle.paper.specs.Dates.{Date, month_names, month_lengths, days_to, day_zero}
use Rattle.paper.specs.Grammar.{Reader, ◌>>=◌, ◌>>◌, gives, fails, ahead, this, numeral, all_read, read}
use Rattle.paper.specs.Refusals.{Res, given, refused, over_long_code, not_in_grammar, not_convertible}

-- "one or two digits for day or month"
unfoldable pub typed_pair : Reader ℕ
typed_pair = numeral 1

unfoldable pub typed_digit : Reader ℕ
typed_digit = numeral 0

-- "30 to 99 is 1930 to 1999, 00 to 29 is 2000 to 2029"
unfoldable pub century : ℕ → ℕ
century y = if leb 30 y then 1900 + y else 2000 + y

-- "a year of 2 or 4 digits"
unfoldable pub typed_year : Reader ℕ
typed_year = do
  a ← typed_digit
  b ← typed_digit
  ahead is_digit
      (λ c. typed_digit >>= λ d. gives (((a * 10 + b) * 10 + digit_value c) * 10 + d))
      (gives (century (a * 10 + b)))

unfoldable pub typed_letter : Reader ℕ
typed_letter = ahead is_letter (λ b. gives (raised b)) fails

-- the number of the month of that name, k being the first one's
unfoldable pub month_called : Bytes → ℕ → List Bytes → Reader ℕ
month_called name k [] = fails
month_called name k (m ∷ ms) = if same_bytes name m then gives k else month_called name (suc k) ms

-- "three letters in either case for a month"
unfoldable pub typed_month : Reader ℕ
typed_month = do
  a ← typed_letter
  b ← typed_letter
  c ← typed_letter
  month_called (a ∷ b ∷ c ∷ []) 1 month_names

-- "the same separators": the form that the code prints
unfoldable pub typed_form : Option ℕ → Reader Date
typed_form none = do
  d ← typed_pair
  this (ch " ")
  m ← typed_month
  this (ch " ")
  y ← typed_year
  gives (record { year = y; month = m; day = d })
typed_form (some s) = do
  m ← typed_pair
  this s
  d ← typed_pair
  this s
  y ← typed_year
  gives (record { year = y; month = m; day = d })

-- 12 for "a date that isn't in the calendar"
unfoldable pub in_calendar : Date → Bool
in_calendar d =
    ltb 0 d.year && within 1 12 d.month && within 1 (get_or (month_lengths d.year) (pred d.month) 0) d.day

abbrev pub dated : Option Date → Res Number
dated none = refused not_convertible
dated (some d) = if in_calendar d then given (plus (natural (days_to d)) (signed true day_zero)) else refused not_convertible

-- the day that a text names by a code `D{n}{s}`: "A code with n = 0, a date that isn't in the calendar, or another form is 12."
unfoldable pub typed : ℕ → Option ℕ → Bytes → Res Number
typed zero s text = refused not_convertible
typed (suc n) s text = dated (all_read (typed_form s text))

-- "6 if the string is not exactly one D code"
unfoldable pub typed_by : Option Code → Bytes → Res Number
typed_by none text = refused not_in_grammar
typed_by (some (Code.function es)) text = refused not_in_grammar
typed_by (some (Code.single (Conversion.plain p))) text = refused not_in_grammar
typed_by (some (Code.single (Conversion.mask k))) text = refused not_in_grammar
typed_by (some (Code.single (Conversion.date n s))) text = typed n s text
typed_by (some (Code.single (Conversion.patterns ps))) text = refused not_in_grammar

-- "A typed date: 5, then 6 if the string is not exactly one D code, then 12."
unfoldable pub typed_date : Bytes → Bytes → Res Number
typed_date string text = if leb (length string) code_most then typed_by (read string) text else refused over_long_code
