-- Any two outcomes that a public function's contract allows are equal: said of the contract itself.
use mathlib.Core.Path.{◌≡◌, sym, ap, ◌∙◌}
use Prim.Native.Nat.{ℕ}
use contract.Lifetimes.{Lfts}
use Rattle.std.specs.Prelude.{Result, Ok, Err}
use Rattle.paper.specs.Answers.{number_of}
use Rattle.paper.specs.declared.Refusal.{Refusal}
use Rattle.judging.specs.declared.BadCode.{BadCode}
use Rattle.judging.specs.declared.Counts.{Counts}
use Rattle.judging.specs.Verdicts.{verdict_in}
use Rattle.paper.proofs.Telling.{same_refusal}
use Rattle.judging.proofs.check.Reads as check

same_verdict : (r r' : Result Counts BadCode) → verdict_in r ≡ verdict_in r' → r ≡ r'
same_verdict (Ok c) (Ok d) g = cc
same_verdict (Ok c) (Err b) g = cc
same_verdict (Err b) (Ok c) g = cc
same_verdict (Err b) (Err d) g =
    let n : number_of b.refusal ≡ number_of d.refusal = cc in
    let k : b.code ≡ d.code = cc in
    let e : b.refusal ≡ d.refusal = same_refusal b.refusal d.refusal n in
    ap (λ (f : Refusal). Err (record { refusal = f; code = b.code })) e ∙ ap (λ (m : ℕ). Err (record { refusal = d.refusal; code = m })) k

pub check_settled : (κs : Lfts 1) → (a : _) (r r' : _) (e e' : _) → check.Post κs a r e → check.Post κs a r' e' → r ≡ r'
check_settled κs a r r' e e' p q = same_verdict r r' (p.0 ∙ sym q.0)
