-- Any two outcomes that a contract of this crate allows are equal: of `give` its answer and every byte of the output. Assumes nothing.
use mathlib.Core.Path.{◌≡◌, sym, ◌∙◌}
use contract.Lifetimes.{Lfts}
use Rattle.paper.proofs.Telling.{told_same}
use Rattle.giving.proofs.give.Reads as give
use Rattle.giving.proofs.charged.Reads as charged

give_settled : (κs : Lfts 3) → (a : _) (r r' : _) (e e' : _) → give.Post κs a r e → give.Post κs a r' e'
    → (r ≡ r') × (e.1.1.1.0.now ≡ e'.1.1.1.0.now)
give_settled κs a r r' e e' p q = (told_same r r' (p.0 ∙ sym q.0), p.1 ∙ sym q.1)

charged_settled : (κs : Lfts 0) → (a : _) (r r' : _) (e e' : _) → charged.Post κs a r e → charged.Post κs a r' e' → r ≡ r'
charged_settled κs a r r' e e' p q = p.0 ∙ sym q.0
