-- Any two outcomes that the contract of `walk` allows are equal: its answer and, where that fits, its bytes in front of the output. Assumes nothing.
use Prim.Native.Nat.{ℕ, ◌≤◌}
use Rattle.std.specs.Prelude.{Result, Ok}
use mathlib.Core.Path.{◌≡◌, sym, ap, ◌∙◌}
use native.Mathlib.Omega.{arith}
use lib.ListN.{length, take}
use contract.Lifetimes.{Lfts}
use Rattle.paper.specs.Bytes.{Bytes}
use Rattle.paper.specs.Refusals.{Res, given, refused, answer_of}
use Rattle.paper.specs.Answers.{sized}
use Rattle.paper.specs.Converting.{Ending, Outcome}
use Rattle.elements.specs.Gather.{HoldsAnswer}
use Rattle.machine.specs.declared.Stopped.{Stopped}
use Rattle.machine.proofs.Endings.{ending_same}
use Rattle.elements.specs.Running.{Walks}
use Rattle.elements.specs.declared.Walked.{Walked}
use Rattle.elements.proofs.walk.Reads as walk

pub walk_settled : (κs : Lfts 6) → (a : _) (r r' : _) (e e' : _) → walk.Post κs a r e → walk.Post κs a r' e' → r ≡ r'
walk_settled κs a r r' e e' p q =
    ending_same (λ w. w.length) (λ w. w.steps) (λ x y e f i. record { steps = f i; length = e i }) r r' (p.answers ∙ sym q.answers)

-- an answer that tells its length has it
sized_long : {n : ℕ} (x : Res Bytes) → given n ≡ sized x → length (answer_of x) ≡ n
sized_long (given bs) e = let same : length bs ≡ _ = cc in same
sized_long (refused m) e = let z : ◌≡◌ {A = ℕ} 0 1 = cc in absurd (omega arith)

-- two outputs that hold one answer in front
same_front : (o : Outcome) {w : Walked} {r' : Result Walked Stopped} {out out₁ out₂ : Bytes} → Walks o (Ok w) out out₁ → Walks o r' out out₂
    → w.length ≤ length out → take w.length out₁ ≡ take w.length out₂
unfolding HoldsAnswer
same_front o {w} {out₁ = out₁} {out₂} p q h =
    let long : length (answer_of o.answer) ≡ w.length = sized_long o.answer (ap (λ (e : Ending ℕ). e.answer) p.answers) in
    rw (← long) (p.held (omega (arith, p.room, long)) ∙ sym (q.held (omega (arith, q.room, long))))

pub output_settled : (κs : Lfts 6) → (a : _) (r r' : _) (e e' : _) → walk.Post κs a r e → walk.Post κs a r' e'
    → (w : Walked) → r ≡ Ok w → w.length ≤ length e.1.1.1.1.1.0.now → take w.length e.1.1.1.1.1.0.now ≡ take w.length e'.1.1.1.1.1.0.now
output_settled κs a r r' e e' p q w f h = same_front _ (rw f at p) q (omega (arith, p.room))
