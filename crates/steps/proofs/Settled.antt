-- Any two outcomes that a contract of this crate allows are equal. Of a step: its answer, the stack then held and the element.
-- Left open, for the callers clear them: what the slots above the stack and the work buffer hold after a step.
use mathlib.Core.Path.{◌≡◌, sym, ◌∙◌}
use contract.Lifetimes.{Lfts}
use Rattle.stack.proofs.Settled.{SameStep, same_step}
use Rattle.steps.proofs.loading.operand.Reads as operand
use Rattle.steps.proofs.stepping.step.Reads as step

operand_settled : (κs : Lfts 1) → (a : _) (r r' : _) (e e' : _) → operand.Post κs a r e → operand.Post κs a r' e' → r.now ≡ r'.now
operand_settled κs a r r' e e' p q = p ∙ sym q

step_settled : (κs : Lfts 4) → (a : _) (r r' : _) (e e' : _) → step.Post κs a r e → step.Post κs a r' e'
    → SameStep r r' e.1.1.1.1.1.1.0.now.scratch.now e'.1.1.1.1.1.1.0.now.scratch.now e.1.1.1.1.1.1.0.now.lens e'.1.1.1.1.1.1.0.now.lens
step_settled κs a r r' e e' p q = same_step p q
