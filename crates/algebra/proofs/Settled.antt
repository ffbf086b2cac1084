-- Any two outcomes that the contract of `show` allows are equal: its answer, and every byte of the output. Assumes nothing.
use mathlib.Core.Path.{◌≡◌, sym, ◌∙◌}
use contract.Lifetimes.{Lfts}
use Rattle.paper.proofs.Telling.{told_same}
use Rattle.algebra.proofs.show.Reads as show

show_settled : (κs : Lfts 2) → (a : _) (r r' : _) (e e' : _) → show.Post κs a r e → show.Post κs a r' e' → (r ≡ r') × (e.1.0.now ≡ e'.1.0.now)
show_settled κs a r r' e e' p q = (told_same r r' (p.0 ∙ sym q.0), p.1 ∙ sym q.1)
