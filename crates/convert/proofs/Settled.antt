-- Any two outcomes that the contract of `convert` allows are equal: its numbers, every byte of the output and of the scratch; and so for `ceiling`.
-- Assumes nothing.
use Prim.Native.Nat.{ℕ}
use mathlib.Core.Path.{◌≡◌, sym, ap, ◌∙◌}
use contract.Lifetimes.{Lfts}
use Rattle.std.specs.Prelude.{Result}
use Rattle.paper.specs.Answers.{told}
use Rattle.paper.specs.declared.Refusal.{Refusal}
use Rattle.paper.proofs.Telling.{told_same}
use Rattle.convert.specs.declared.Converted.{Converted}
use Rattle.convert.proofs.convert.Reads as convert
use Rattle.convert.proofs.ceiling.Reads as ceiling

same : (r r' : Converted) → told r.answer ≡ told r'.answer → r.steps ≡ r'.steps → r ≡ r'
same r r' e f =
    ap (λ (n : ℕ). record { steps = n; answer = r.answer }) f
    ∙ ap (λ (x : Result ℕ Refusal). record { steps = r'.steps; answer = x }) (told_same r.answer r'.answer e)

convert_settled : (κs : Lfts 3) → (a : _) (r r' : _) (e e' : _) → convert.Post κs a r e → convert.Post κs a r' e' → r ≡ r'
convert_settled κs a r r' e e' p q = same r r' (p.0 ∙ sym q.0) (p.1.0 ∙ sym q.1.0)

output_settled : (κs : Lfts 3) → (a : _) (r r' : _) (e e' : _) → convert.Post κs a r e → convert.Post κs a r' e'
    → e.1.1.1.1.0.now ≡ e'.1.1.1.1.0.now
output_settled κs a r r' e e' p q = p.1.1.0 ∙ sym q.1.1.0

scratch_settled : (κs : Lfts 3) → (a : _) (r r' : _) (e e' : _) → convert.Post κs a r e → convert.Post κs a r' e'
    → e.1.1.1.1.1.0.now ≡ e'.1.1.1.1.1.0.now
scratch_settled κs a r r' e e' p q = p.1.1.1 ∙ sym q.1.1.1

ceiling_settled : (κs : Lfts 2) → (a : _) (r r' : _) (e e' : _) → ceiling.Post κs a r e → ceiling.Post κs a r' e' → r ≡ r'
ceiling_settled κs a r r' e e' p q = told_same r r' (p ∙ sym q)
