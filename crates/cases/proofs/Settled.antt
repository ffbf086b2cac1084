-- Any two outcomes that a contract of this crate allows are equal: an answer, the bytes of a part, and what a lent buffer holds afterwards.
use mathlib.Core.Path.{◌≡◌, sym, ◌∙◌}
use contract.Lifetimes.{Lfts}
use Rattle.cases.proofs.draw.Reads as draw
use Rattle.cases.proofs.long.Reads as long
use Rattle.cases.proofs.first_byte.Reads as first_byte
use Rattle.cases.proofs.field.Reads as field
use Rattle.cases.proofs.lines.typed_address.Reads as typed_address
use Rattle.cases.proofs.lines.number_or.Reads as number_or
use Rattle.cases.proofs.lines.length_or.Reads as length_or
use Rattle.cases.proofs.lines.record_room.Reads as record_room
use Rattle.cases.proofs.lines.lent_room.Reads as lent_room
use Rattle.cases.proofs.lines.spelled_field.Reads as spelled_field
use Rattle.cases.proofs.lines.zeros.Reads as zeros

draw_settled : (κs : Lfts 2) → (a : _) (r r' : _) (e e' : _) → draw.Post κs a r e → draw.Post κs a r' e' → (r ≡ r') × (e.1.0.now ≡ e'.1.0.now)
draw_settled κs a r r' e e' p q = (p.1.0 ∙ sym q.1.0, p.1.1 ∙ sym q.1.1)

long_settled : (κs : Lfts 1) → (a : _) (r r' : _) (e e' : _) → long.Post κs a r e → long.Post κs a r' e' → r ≡ r'
long_settled κs a r r' e e' p q = p ∙ sym q

first_byte_settled : (κs : Lfts 1) → (a : _) (r r' : _) (e e' : _) → first_byte.Post κs a r e → first_byte.Post κs a r' e' → r ≡ r'
first_byte_settled κs a r r' e e' p q = p ∙ sym q

field_settled : (κs : Lfts 1) → (a : _) (r r' : _) (e e' : _) → field.Post κs a r e → field.Post κs a r' e' → r.now ≡ r'.now
field_settled κs a r r' e e' p q = p ∙ sym q

typed_address_settled : (κs : Lfts 1) → (a : _) (r r' : _) (e e' : _) → typed_address.Post κs a r e → typed_address.Post κs a r' e' → (r.a ≡ r'.a) × (r.v ≡ r'.v) × (r.s ≡ r'.s)
typed_address_settled κs a r r' e e' p q = (p.0 ∙ sym q.0, p.1 ∙ sym q.1, p.2 ∙ sym q.2)

number_or_settled : (κs : Lfts 1) → (a : _) (r r' : _) (e e' : _) → number_or.Post κs a r e → number_or.Post κs a r' e' → r ≡ r'
number_or_settled κs a r r' e e' p q = p ∙ sym q

length_or_settled : (κs : Lfts 1) → (a : _) (r r' : _) (e e' : _) → length_or.Post κs a r e → length_or.Post κs a r' e' → r ≡ r'
length_or_settled κs a r r' e e' p q = p.1 ∙ sym q.1

record_room_settled : (κs : Lfts 0) → (a : _) (r r' : _) (e e' : _) → record_room.Post κs a r e → record_room.Post κs a r' e' → r ≡ r'
record_room_settled κs a r r' e e' p q = p.1 ∙ sym q.1

lent_room_settled : (κs : Lfts 0) → (a : _) (r r' : _) (e e' : _) → lent_room.Post κs a r e → lent_room.Post κs a r' e' → r ≡ r'
lent_room_settled κs a r r' e e' p q = p.1 ∙ sym q.1

spelled_field_settled : (κs : Lfts 2) → (a : _) (r r' : _) (e e' : _) → spelled_field.Post κs a r e → spelled_field.Post κs a r' e' → (r ≡ r') × (e.1.1.1.0.now ≡ e'.1.1.1.0.now)
spelled_field_settled κs a r r' e e' p q = (p.1.0 ∙ sym q.1.0, p.1.1 ∙ sym q.1.1)

zeros_settled : (κs : Lfts 1) → (a : _) (r r' : _) (e e' : _) → zeros.Post κs a r e → zeros.Post κs a r' e' → r ≡ r'
zeros_settled κs a r r' e e' p q = p ∙ sym q
