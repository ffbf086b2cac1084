-- Any two outcomes that a contract of this crate allows are equal: the answer, and what the lent output holds afterwards.
use mathlib.Core.Path.{◌≡◌, sym, ◌∙◌}
use contract.Lifetimes.{Lfts}
use Rattle.paper.proofs.Telling.{told_same}
use Rattle.patterns.proofs.give.Reads as give

give_settled : (κs : Lfts 3) (a : _) (r r' : _) (e e' : _) → give.Post κs a r e → give.Post κs a r' e' → (r ≡ r') × (e.1.1.1.0.now ≡ e'.1.1.1.0.now)
give_settled κs a r r' e e' p q = (told_same r r' (p.0 ∙ sym q.0), p.1 ∙ sym q.1)
