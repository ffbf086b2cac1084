-- Any two outcomes that a public function's contract allows are equal: said of the contract itself.
use mathlib.Core.Path.{◌≡◌, sym, ◌∙◌}
use contract.Lifetimes.{Lfts}
use Rattle.readers.proofs.places.peek.Reads as peek
use Rattle.readers.proofs.places.this.Reads as this
use Rattle.readers.proofs.places.digit.Reads as digit
use Rattle.readers.proofs.places.numeral.Reads as numeral
use Rattle.readers.proofs.places.quoted.Reads as quoted
use Rattle.readers.proofs.patterns.test.Reads as test
use Rattle.readers.proofs.conversions.conversion.Reads as conversion

pub peek_settled : (κs : Lfts 1) → (a : _) (r r' : _) (e e' : _) → peek.Post κs a r e → peek.Post κs a r' e' → (r.value ≡ r'.value) × (r.next ≡ r'.next)
peek_settled κs a r r' e e' p q = (p.stands ∙ sym q.stands, p.leads ∙ sym q.leads)

pub this_settled : (κs : Lfts 1) → (a : _) (r r' : _) (e e' : _) → this.Post κs a r e → this.Post κs a r' e' → r ≡ r'
this_settled κs a r r' e e' p q = p ∙ sym q

pub digit_settled : (κs : Lfts 1) → (a : _) (r r' : _) (e e' : _) → digit.Post κs a r e → digit.Post κs a r' e' → r ≡ r'
digit_settled κs a r r' e e' p q = p ∙ sym q

pub numeral_settled : (κs : Lfts 1) → (a : _) (r r' : _) (e e' : _) → numeral.Post κs a r e → numeral.Post κs a r' e' → r ≡ r'
numeral_settled κs a r r' e e' p q = p ∙ sym q

pub quoted_settled : (κs : Lfts 1) → (a : _) (r r' : _) (e e' : _) → quoted.Post κs a r e → quoted.Post κs a r' e' → r ≡ r'
quoted_settled κs a r r' e e' p q = p ∙ sym q

pub test_settled : (κs : Lfts 1) → (a : _) (r r' : _) (e e' : _) → test.Post κs a r e → test.Post κs a r' e' → r ≡ r'
test_settled κs a r r' e e' p q = p ∙ sym q

pub conversion_settled : (κs : Lfts 1) → (a : _) (r r' : _) (e e' : _) → conversion.Post κs a r e → conversion.Post κs a r' e' → r ≡ r'
conversion_settled κs a r r' e e' p q = p ∙ sym q
