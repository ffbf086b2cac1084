-- The code's dates beside those of the definitions, and what D prints of a day.
use Rattle.std.specs.Prelude.{ℕ}
use Rattle.std.proofs.Math.Option.{Option}
use Rattle.paper.specs.Bytes.{Bytes}
use Rattle.paper.specs.Refusals.{Res, given, ◌>>=◌}
use Rattle.paper.specs.Dates.{Date as CalendarDate, date_of, date_text}
use Rattle.dates.specs.declared.Date.{Date}

-- the code's date as the definitions have it, and back
abbrev pub paper_date : Date → CalendarDate
paper_date d = record { year = d.year; month = d.month; day = d.day }

abbrev pub code_date : CalendarDate → Date
code_date d = record { year = d.year; month = d.month; day = d.day }

-- the text of a day's date, if it is in range
abbrev pub dated_text : ℕ → Option ℕ → Res ℕ → Res Bytes
dated_text n s day = day >>= λ day. given (date_text n s (date_of day))
