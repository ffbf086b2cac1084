-- Demand 3 said of the very contract of `convert`: of any outcome that it allows, which is what `post` says, beside any outcome that the contracts of
-- `judging::check` and `ceiling` allow on the same bytes and numbers. Assumes nothing.
use Prim.Native.Nat.{ℕ, ◌≤◌, ◌<◌}
use mathlib.Core.Path.{◌≡◌, refl, sym, ap, ◌∙◌}
use mathlib.Core.Logic.{◌≢◌}
use native.Mathlib.Omega.{arith}
use lib.ListN.{length}
use contract.Lifetimes.{Lfts}
use Rattle.paper.specs.Bytes.{Bytes}
use Rattle.paper.specs.Sizes.{entry_most}
use Rattle.paper.specs.Refusals.{Res, given, refused, refusal_of, over_budget, stack_fault, mark_in_element, last_refusal}
use Rattle.std.specs.Prelude.{Ok, Err}
use Rattle.paper.specs.Answers.{number_of, told, sized}
use Rattle.paper.specs.declared.Refusal.{Refusal}
use Rattle.paper.specs.Checking.{check, Report, report}
use Rattle.paper.specs.Converting.{Outcome, elements, ready, convert, convert_freely, output_after, counted_ceiling}
use Rattle.paper.proofs.Predicates.{All}
use Rattle.paper.proofs.Budget.{Completed, defined_costs, converting_within_budget, converting_over_budget}
use Rattle.paper.proofs.Ceiling.{steps_within_ceiling, ceiling_reported}
use Rattle.paper.proofs.Stack.{SafeCode, checked_codes_are_safe}
use Rattle.paper.proofs.Numbered.{converting_numbered, converting_told, told_refused, no_stack_fault as converting_has_no_stack_fault}
use Rattle.judging.specs.Verdicts.{report_in}
use Rattle.judging.proofs.check.Reads as check_call
use Rattle.elements.specs.Running.{codes_in, Accepts}
use Rattle.convert.specs.Ceiling.{ceiling_of}
use Rattle.paper.proofs.Telling.{told_same}
use Rattle.convert.proofs.Accepting.{accepts}
use Rattle.convert.proofs.Counting.{steps_capped, refused_alike}
use Rattle.convert.proofs.convert.Reads as convert_call
use Rattle.convert.proofs.ceiling.Reads as ceiling_call

-- how many bytes there are makes no difference to the number
sized_number : (r : Res Bytes) → refusal_of (sized r) ≡ refusal_of r
sized_number (given bs) = refl
sized_number (refused n) = refl

module _ (κs : Lfts 3) (args : _) (r : _) (exits : _) (post : convert_call.Post κs args r exits) where
  -- what the call was given
  abbrev item : Bytes
  item = args.0.now

  abbrev code : Bytes
  code = args.1.0.now

  abbrev a : ℕ
  a = args.1.1.0.a

  abbrev v : ℕ
  v = args.1.1.0.v

  abbrev s : ℕ
  s = args.1.1.0.s

  abbrev budget : ℕ
  budget = args.1.1.1.0

  abbrev room : ℕ
  room = length args.1.1.1.1.0.now

  abbrev scratch : ℕ
  scratch = length args.1.1.1.1.1.0.now

  -- the output as it leaves it
  abbrev output : Bytes
  output = exits.1.1.1.1.0.now

  -- the number that it tells: of the refusal, 0 of an answer
  abbrev number : ℕ
  number = refusal_of (told r.answer)

  -- converting with no budget
  abbrev freely : Outcome
  freely = convert_freely item code a v s room scratch

  -- the number and the count that it tells are those of the definition
  number_is : number ≡ refusal_of (convert item code a v s budget room scratch).answer
  number_is = ap refusal_of post.0 ∙ sized_number (convert item code a v s budget room scratch).answer

  steps_is : r.steps ≡ (convert item code a v s budget room scratch).steps
  steps_is = post.1.0

  -- a budget at or above the defined count: number, steps, length and output are those with none
  pub budget_changes_nothing : freely.steps ≤ budget → (told r.answer ≡ sized freely.answer) × (r.steps ≡ freely.steps) × (output ≡ output_after room freely)
  budget_changes_nothing h =
      let same = converting_within_budget item code a v s budget room scratch h in
      (post.0 ∙ ap (λ (o : Outcome). sized o.answer) same, steps_is ∙ ap (λ (o : Outcome). o.steps) same, post.1.1.0 ∙ ap (output_after room) same)

  -- below it: 15, and the count is the cost of the steps completed, as many first ones as the budget holds and not one more
  pub budget_refuses : budget < freely.steps
      → (number ≡ over_budget) × Completed budget 0 (defined_costs item a v s (ready item code a v s scratch)) r.steps
  budget_refuses l =
      let short = converting_over_budget item code a v s budget room scratch l in
      (number_is ∙ ap refusal_of short.0, rw steps_is short.1)

  -- of a refusal the call tells a number of the table, of an answer 0, and 0 of nothing else
  pub refusal_told : (n : ℕ) → (convert item code a v s budget room scratch).answer ≡ refused n → (number ≡ n) × (1 ≤ n) × (n ≤ last_refusal) × (n ≢ mark_in_element)
  refusal_told n e = let told = converting_numbered item code a v s budget room scratch n e in (number_is ∙ ap refusal_of e, told.0, told.1, told.2)

  pub answer_told : (bs : Bytes) → (convert item code a v s budget room scratch).answer ≡ given bs → number ≡ 0
  answer_told bs e = number_is ∙ ap refusal_of e

  pub number_in_table : (number ≤ last_refusal) × (number ≢ mark_in_element)
  number_in_table = rw number_is (converting_told item code a v s budget room scratch)

  pub zero_answered : number ≡ 0 → (bs : Bytes) × ((convert item code a v s budget room scratch).answer ≡ given bs)
  zero_answered z = go (convert item code a v s budget room scratch).answer refl
    where
      go : (x : Res Bytes) → (convert item code a v s budget room scratch).answer ≡ x → (bs : Bytes) × (x ≡ given bs)
      go (given bs) e = (bs, refl)
      go (refused n) e = absurd (omega (arith, (refusal_told n e).0, (refusal_told n e).1))

  -- beside what checking the same code gave
  module _ (κs' : Lfts 1) (args' : _) (verdict : _) (exits' : _) (checked : check_call.Post κs' args' verdict exits') (same : args'.0.now ≡ code) where
    report_is : report_in verdict ≡ report (check code)
    report_is = checked.1 ∙ ap (λ (b : Bytes). report (check b)) same

    -- the count is never above the ceiling of its A, B, P and T
    pub steps_at_most_ceiling : r.steps ≤ counted_ceiling (report_in verdict).steps (length item) (length (elements item a v s))
    steps_at_most_ceiling = rw (steps_is, report_is, ← ceiling_reported) (steps_within_ceiling item code a v s budget room scratch)

    accepted : (report_in verdict).refusal ≡ 0 → Accepts code
    accepted e = accepts code (ap (λ (x : Report). x.refusal) (sym report_is) ∙ e)

    -- where it was accepted, each elm of the codes that run finds the entries it takes and leaves at most 16
    pub accepted_runs_safely : (report_in verdict).refusal ≡ 0 → All (SafeCode entry_most) (codes_in code)
    accepted_runs_safely e = checked_codes_are_safe entry_most code (codes_in code) (accepted e)

    -- so the call never answers 7
    pub no_stack_fault : (report_in verdict).refusal ≡ 0 → number ≢ stack_fault
    no_stack_fault e f =
        converting_has_no_stack_fault item code a v s budget room scratch (codes_in code) (accepted e)
        (told_refused (convert item code a v s budget room scratch).answer 6 (sym number_is ∙ f))

  -- beside what the ceiling of the same conversion gave
  module _ (κs' : Lfts 2) (args' : _) (bound : _) (exits' : _) (capped : ceiling_call.Post κs' args' bound exits') (same_item : args'.0.now ≡ item)
      (same_code : args'.1.0.now ≡ code) (same_a : args'.1.1.0.a ≡ a) (same_v : args'.1.1.0.v ≡ v) (same_s : args'.1.1.0.s ≡ s) where
    bound_is : told bound ≡ ceiling_of item code a v s
    bound_is = rw (same_item, same_code, same_a, same_v, same_s) at capped

    -- the count is never above it, and 0 where it was refused
    pub steps_at_most_bound : (n : ℕ) → bound ≡ Ok n → r.steps ≤ n
    steps_at_most_bound n e = omega (arith, steps_is, steps_capped item code a v s budget room scratch n (sym bound_is ∙ ap told e))

    -- where it was refused, so is the call, with the same refusal and no steps
    pub refused_as_bound : (e : Refusal) → bound ≡ Err e → (r.answer ≡ Err e) × (r.steps ≡ 0)
    refused_as_bound e f =
        let alike = refused_alike item code a v s budget room scratch (number_of e) (sym bound_is ∙ ap told f) in
        (told_same r.answer (Err e) (post.0 ∙ ap (λ (o : Outcome). sized o.answer) alike), steps_is ∙ ap (λ (o : Outcome). o.steps) alike)
