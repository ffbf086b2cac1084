-- Any two outcomes that a contract of this crate allows are equal: result, and every byte of a lent buffer. Assumes nothing.
use mathlib.Core.Path.{◌≡◌, refl, sym, ap, ◌∙◌}
use Rattle.std.specs.declared.cmp.Ordering.{Ordering}
use Rattle.std.specs.declared.cmp.Ordering.TheVariants.{Less, Equal, Greater}
use Rattle.paper.proofs.Telling.{told_same, told_by_same}
use Rattle.paper.specs.Numbers.{Order as Standing, less, same, more}
use Rattle.numbers.specs.Forms.{whole, coded}
use Rattle.numbers.specs.Orders.{order_of}
use Rattle.numbers.proofs.Number.signed.Reads as signed
use Rattle.numbers.proofs.reading.convertible.Reads as convertible
use Rattle.numbers.proofs.writing.power.Reads as power
use Rattle.numbers.proofs.writing.digits.Reads as digits
use Rattle.numbers.proofs.writing.decimal.Reads as decimal
use Rattle.numbers.proofs.writing.text.Reads as text
use Rattle.numbers.proofs.comparing.compare.Reads as compare
use Rattle.numbers.proofs.entries.binary.Reads as binary
use Rattle.numbers.proofs.entries.substring.Reads as substring
use contract.Lifetimes.{Lfts}

-- the code's order of the paper's
ordered : Standing → Ordering
ordered less = Less
ordered same = Equal
ordered more = Greater

ordered_again : (o : Ordering) → ordered (order_of o) ≡ o
unfolding ordered
ordered_again Less = refl
ordered_again Equal = refl
ordered_again Greater = refl

signed_settled : (κs : Lfts 0) (a : _) (r r' : _) (e e' : _) → signed.Post κs a r e → signed.Post κs a r' e' → r ≡ r'
signed_settled κs a r r' e e' p q = ap coded (p ∙ sym q)

convertible_settled : (κs : Lfts 1) (a : _) (r r' : _) (e e' : _) → convertible.Post κs a r e → convertible.Post κs a r' e' → r ≡ r'
convertible_settled κs a r r' e e' p q = told_by_same whole coded (λ x. refl) r r' (p ∙ sym q)

power_settled : (κs : Lfts 0) (a : _) (r r' : _) (e e' : _) → power.Post κs a r e → power.Post κs a r' e' → r ≡ r'
power_settled κs a r r' e e' p q = p ∙ sym q

digits_settled : (κs : Lfts 1) (a : _) (r r' : _) (e e' : _) → digits.Post κs a r e → digits.Post κs a r' e' → e.1.1.0.now ≡ e'.1.1.0.now
digits_settled κs a r r' e e' p q = p ∙ sym q

decimal_settled : (κs : Lfts 1) (a : _) (r r' : _) (e e' : _) → decimal.Post κs a r e → decimal.Post κs a r' e'
    → (r ≡ r') × (e.1.0.now ≡ e'.1.0.now)
decimal_settled κs a r r' e e' p q = (p.0 ∙ sym q.0, p.1 ∙ sym q.1)

text_settled : (κs : Lfts 1) (a : _) (r r' : _) (e e' : _) → text.Post κs a r e → text.Post κs a r' e' → (r ≡ r') × (e.1.0.now ≡ e'.1.0.now)
text_settled κs a r r' e e' p q = (p.0 ∙ sym q.0, p.1 ∙ sym q.1)

compare_settled : (κs : Lfts 2) (a : _) (r r' : _) (e e' : _) → compare.Post κs a r e → compare.Post κs a r' e' → r ≡ r'
compare_settled κs a r r' e e' p q = told_by_same order_of ordered ordered_again r r' (p ∙ sym q)

binary_settled : (κs : Lfts 3) (a : _) (r r' : _) (e e' : _) → binary.Post κs a r e → binary.Post κs a r' e'
    → (r ≡ r') × (e.1.1.1.0.now ≡ e'.1.1.1.0.now)
binary_settled κs a r r' e e' p q = (told_same r r' (p.0 ∙ sym q.0), p.1 ∙ sym q.1)

substring_settled : (κs : Lfts 4) (a : _) (r r' : _) (e e' : _) → substring.Post κs a r e → substring.Post κs a r' e'
    → (r ≡ r') × (e.1.1.1.0.now ≡ e'.1.1.1.0.now)
substring_settled κs a r r' e e' p q = (told_same r r' (p.0 ∙ sym q.0), p.1 ∙ sym q.1)
