-- Any two outcomes that the contract of `answer` allows are equal: the number of bytes, and every byte of the line. Assumes nothing.
use mathlib.Core.Path.{◌≡◌, sym, ◌∙◌}
use contract.Lifetimes.{Lfts}
use Rattle.formula.proofs.answer.Reads as answer

answer_settled : (κs : Lfts 2) → (a : _) (r r' : _) (e e' : _) → answer.Post κs a r e → answer.Post κs a r' e' → (r ≡ r') × (e.1.0.now ≡ e'.1.0.now)
answer_settled κs a r r' e e' p q = (p.0 ∙ sym q.0, p.1 ∙ sym q.1)
