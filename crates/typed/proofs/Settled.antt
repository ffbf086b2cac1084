-- Any two outcomes that a public function's contract allows are equal: said of the contract itself.
use mathlib.Core.Path.{◌≡◌, refl, sym, ◌∙◌}
use Rattle.numbers.specs.Forms.{whole, coded}
use Rattle.paper.proofs.Telling.{told_by_same}
use contract.Lifetimes.{Lfts}
use Rattle.typed.proofs.typed_date.Reads as typed_date

pub typed_date_settled : (κs : Lfts 2) → (a : _) (r r' : _) (e e' : _) → typed_date.Post κs a r e → typed_date.Post κs a r' e' → r ≡ r'
typed_date_settled κs a r r' e e' p q = told_by_same whole coded (λ x. refl) r r' (p ∙ sym q)
