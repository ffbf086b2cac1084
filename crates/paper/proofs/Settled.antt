-- Any two outcomes that the contracts of `Mark::drawn` and `Refusal::number` allow are equal. Assumes nothing.
use mathlib.Core.Path.{◌≡◌, sym, ◌∙◌}
use contract.Lifetimes.{Lfts}
use Rattle.paper.proofs.Mark.drawn.Reads as drawn
use Rattle.paper.proofs.Refusal.number.Reads as number

drawn_settled : (κs : Lfts 0) → (a : _) (r r' : _) (e e' : _) → drawn.Post κs a r e → drawn.Post κs a r' e' → r ≡ r'
drawn_settled κs a r r' e e' p q = p ∙ sym q

number_settled : (κs : Lfts 0) → (a : _) (r r' : _) (e e' : _) → number.Post κs a r e → number.Post κs a r' e' → r ≡ r'
number_settled κs a r r' e e' p q = p ∙ sym q
