-- Any two outcomes that a contract of this crate allows are equal: of a run its answer, and the element where it was not refused.
-- Left open, for the callers clear them: what the slots above the stack and the work buffer hold after a run.
use Rattle.std.specs.Prelude.{Result, Ok, Err}
use mathlib.Core.Path.{◌≡◌, sym, ◌∙◌}
use contract.Lifetimes.{Lfts}
use Prim.Native.Nat.{ℕ}
use mathlib.Core.List.{List}
use Rattle.paper.specs.Bytes.{Bytes}
use Rattle.paper.specs.Converting.{Outcome}
use Rattle.machine.specs.declared.Stopped.{Stopped}
use Rattle.stack.specs.Slots.{element_slot, entry_at}
use Rattle.machine.specs.Runs.{ran_in, ended, Answers, Runs}
use Rattle.machine.proofs.Endings.{answered_as, ending_same}
use Rattle.machine.proofs.running.plan.Reads as plan
use Rattle.machine.proofs.running.run_codes.Reads as run_codes

-- what a run leaves, twice: the element where the run was not refused
abbrev SameElement : Result ℕ Stopped → Bytes → Bytes → Type 0
SameElement (Ok steps) x y = x ≡ y
SameElement (Err s) x y = Unit {0}

same_element : (r : Result ℕ Stopped) (o : Outcome) (x y : Bytes) → ran_in r ≡ ended o → Answers o.answer x → Answers o.answer y → SameElement r x y
same_element (Ok steps) o x y e p q =
    let whole = answered_as (λ bs. tt) o e in
    let there : x ≡ whole.0 = rw whole.1 at p in
    there ∙ sym (rw whole.1 at q)
same_element (Err s) o x y e p q = tt

pub record SameRun (r r' : Result ℕ Stopped) (scratch scratch' : Bytes) (lens lens' : List ℕ) : Type 0 where
  pub answers : r ≡ r'
  pub element : SameElement r (entry_at scratch lens element_slot) (entry_at scratch' lens' element_slot)

same_run : {o : Outcome} {r r' : Result ℕ Stopped} {scratch scratch' : Bytes} {lens lens' : List ℕ} → Runs o r scratch lens → Runs o r' scratch' lens'
    → SameRun r r' scratch scratch' lens lens'
same_run {o} {r} {r'} p q =
    record {
      answers = ending_same (λ n. tt) (λ n. n) (λ m n e f. f) r r' (p.answers ∙ sym q.answers);
      element = same_element r o _ _ p.answers p.element q.element;
    }

plan_settled : (κs : Lfts 1) → (a : _) (r r' : _) (e e' : _) → plan.Post κs a r e → plan.Post κs a r' e' → r ≡ r'
plan_settled κs a r r' e e' p q = p ∙ sym q

run_codes_settled : (κs : Lfts 4) → (a : _) (r r' : _) (e e' : _) → run_codes.Post κs a r e → run_codes.Post κs a r' e'
    → SameRun r r' e.1.1.1.1.0.now.scratch.now e'.1.1.1.1.0.now.scratch.now e.1.1.1.1.0.now.lens e'.1.1.1.1.0.now.lens
run_codes_settled κs a r r' e e' p q = same_run p q
