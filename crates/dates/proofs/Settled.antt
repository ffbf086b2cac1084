-- Any two outcomes that a contract of this crate allows are equal: each call's answer, and what the lent buffer holds afterwards.
use mathlib.Core.Path.{◌≡◌, refl, sym, ◌∙◌}
use contract.Lifetimes.{Lfts}
use Rattle.numbers.specs.Forms.{whole, coded}
use Rattle.paper.proofs.Telling.{told_by_same, told_same}
use Rattle.dates.proofs.calendar.date_of.Reads as date_of
use Rattle.dates.proofs.calendar.days_to.Reads as days_to
use Rattle.dates.proofs.calendar.in_calendar.Reads as in_calendar
use Rattle.dates.proofs.printing.give.Reads as give
use Rattle.dates.proofs.typing.typed_date.Reads as typed_date

date_of_settled : (κs : Lfts 0) → (a : _) (r r' : _) (e e' : _) → date_of.Post κs a r e → date_of.Post κs a r' e' → r ≡ r'
date_of_settled κs a r r' e e' p q = p ∙ sym q

days_to_settled : (κs : Lfts 0) → (a : _) (r r' : _) (e e' : _) → days_to.Post κs a r e → days_to.Post κs a r' e' → r ≡ r'
days_to_settled κs a r r' e e' p q = p ∙ sym q

in_calendar_settled : (κs : Lfts 0) → (a : _) (r r' : _) (e e' : _) → in_calendar.Post κs a r e → in_calendar.Post κs a r' e' → r ≡ r'
in_calendar_settled κs a r r' e e' p q = p ∙ sym q

give_settled : (κs : Lfts 2) → (a : _) (r r' : _) (e e' : _) → give.Post κs a r e → give.Post κs a r' e'
    → (r ≡ r') × (e.1.1.1.0.now ≡ e'.1.1.1.0.now)
give_settled κs a r r' e e' p q = (told_same r r' (p.0 ∙ sym q.0), p.1 ∙ sym q.1)

typed_date_settled : (κs : Lfts 1) → (a : _) (r r' : _) (e e' : _) → typed_date.Post κs a r e → typed_date.Post κs a r' e' → r ≡ r'
typed_date_settled κs a r r' e e' p q = told_by_same whole coded (λ x. refl) r r' (p ∙ sym q)
