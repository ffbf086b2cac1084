-- The paper's demands said of the very contracts of the exported calls: of any outcome that a contract allows, which is what `Post` says, beside any
-- outcome that another call's contract allows on the same bytes and numbers. Assumes nothing.
use Prim.Native.Nat.{ℕ, ◌≤◌, ◌<◌}
use mathlib.Core.Path.{◌≡◌, refl, sym, ap, ◌∙◌}
use mathlib.Core.Logic.{◌≢◌, ◌⊎◌}
use native.Mathlib.Omega.{arith}
use native.Mathlib.Nat.{sub-zero}
use lib.ListN.{length, take, drop, replicate}
use lib.Dec.{T}
use contract.Lifetimes.{Lfts}
use Rattle.paper.specs.Bytes.{Bytes, buffer}
use Rattle.paper.specs.Sizes.{entry_most}
use Rattle.paper.specs.Refusals.{Res, given, refused, refusal_of, answer_of, over_budget, stack_fault, mark_in_element, left_over_entries, last_refusal}
use Rattle.paper.specs.Records.{path, apart, replace}
use Rattle.paper.specs.Checking.{Counts, check, report}
use Rattle.paper.specs.Converting.{Outcome, elements, ready, convert, convert_freely, output_after, scratch_after, counted_ceiling}
use Rattle.paper.proofs.Predicates.{All}
use Rattle.paper.proofs.Budget.{Completed, defined_costs, converting_within_budget, converting_over_budget}
use Rattle.paper.proofs.Ceiling.{steps_within_ceiling, ceiling_reported}
use Rattle.paper.proofs.Stack.{SafeCode, checked_codes_are_safe, EndsWithOne, checked_codes_end_with_one}
use Rattle.paper.proofs.Stricter.{convert_before, gives_as_before}
use Rattle.paper.proofs.Numbered.{early_refusals, converting_numbered, converting_told, told_refused, no_stack_fault as converting_has_no_stack_fault}
use Rattle.paper.proofs.Replacing as replacing
use Rattle.elements.specs.Running.{codes_in, Accepts}
use Rattle.convert.specs.Ceiling.{ceiling_of}
use Rattle.convert.proofs.Accepting.{accepts}
use Rattle.convert.proofs.Counting.{steps_capped, refused_alike}
use Rattle.sundewfrill.specs.Numbers.{found_number, answer_length, ceiling_number}
use Rattle.sundewfrill.proofs.Rereading.{replace_answered, first_bytes, find_named, apart_extracts}
use Rattle.sundewfrill.proofs.sundewfrill_find.Reads as find_call
use Rattle.sundewfrill.proofs.sundewfrill_replace.Reads as replace_call
use Rattle.sundewfrill.proofs.sundewfrill_check.Reads as check_call
use Rattle.sundewfrill.proofs.sundewfrill_ceiling.Reads as ceiling_call
use Rattle.sundewfrill.proofs.sundewfrill_convert.Reads as convert_call

-- Demand 3, of `sundewfrill_convert`.
module _ (κs : Lfts 5) (args : _) (r : _) (exits : _) (post : convert_call.Post κs args r exits) where
  -- what the call was given
  abbrev item : Bytes
  item = args.0.now

  abbrev code : Bytes
  code = args.1.0.now

  abbrev room : ℕ
  room = length args.1.1.0.now

  abbrev scratch : ℕ
  scratch = length args.1.1.1.0.now

  abbrev a : ℕ
  a = args.1.1.1.1.0

  abbrev v : ℕ
  v = args.1.1.1.1.1.0

  abbrev s : ℕ
  s = args.1.1.1.1.1.1.0

  abbrev budget : ℕ
  budget = args.1.1.1.1.1.1.1.0

  -- what it leaves behind the references and in the buffers
  abbrev output : Bytes
  output = exits.1.1.0.now

  abbrev scratch_left : Bytes
  scratch_left = exits.1.1.1.0.now

  abbrev steps : ℕ
  steps = exits.1.1.1.1.1.1.1.1.0.now

  abbrev told_length : ℕ
  told_length = exits.1.1.1.1.1.1.1.1.1.0.now

  -- the call tells an outcome: number, steps, length and both buffers are its own
  abbrev Tells : Outcome → Type 0
  Tells o =
      (r ≡ refusal_of o.answer) × (steps ≡ o.steps) × (told_length ≡ answer_length o.answer)
      × (output ≡ output_after room o) × (scratch_left ≡ scratch_after scratch)

  tells : {o : Outcome} → convert item code a v s budget room scratch ≡ o → Tells o
  tells same = (
    post.0 ∙ ap (λ (o : Outcome). refusal_of o.answer) same,
    post.1.0 ∙ ap (λ (o : Outcome). o.steps) same,
    post.1.1.0 ∙ ap (λ (o : Outcome). answer_length o.answer) same,
    post.1.1.1.0 ∙ ap (output_after room) same,
    post.1.1.1.1,
  )

  -- converting with no budget
  abbrev freely : Outcome
  freely = convert_freely item code a v s room scratch

  -- a budget at or above the defined count: number, steps, length and both buffers are those with none
  pub budget_changes_nothing : freely.steps ≤ budget → Tells freely
  budget_changes_nothing h = tells (converting_within_budget item code a v s budget room scratch h)

  -- below it: 15, and the count is the cost of the steps completed, as many first ones as the budget holds and not one more; nothing is answered
  pub budget_refuses : budget < freely.steps
      → (r ≡ over_budget) × Completed budget 0 (defined_costs item a v s (ready item code a v s scratch)) steps
      × (told_length ≡ 0) × (output ≡ replicate room 0) × (scratch_left ≡ scratch_after scratch)
  unfolding output_after buffer
  budget_refuses l =
      let short = converting_over_budget item code a v s budget room scratch l in (
        post.0 ∙ ap refusal_of short.0,
        rw post.1.0 short.1,
        post.1.1.0 ∙ ap answer_length short.0,
        post.1.1.1.0 ∙ ap (λ (x : Res Bytes). buffer room (answer_of x)) short.0 ∙ ap (λ (n : ℕ). replicate n 0) (sub-zero room),
        post.1.1.1.1,
      )

  -- of a refusal the call returns a number of the table, of an answer 0, and 0 of nothing else
  pub refusal_returned : (n : ℕ) → (convert item code a v s budget room scratch).answer ≡ refused n → (r ≡ n) × (1 ≤ n) × (n ≤ last_refusal) × (n ≢ mark_in_element)
  refusal_returned n e = let told = converting_numbered item code a v s budget room scratch n e in (post.0 ∙ ap refusal_of e, told.0, told.1, told.2)

  pub answer_returned : (bs : Bytes) → (convert item code a v s budget room scratch).answer ≡ given bs → r ≡ 0
  answer_returned bs e = post.0 ∙ ap refusal_of e

  pub number_in_table : (r ≤ last_refusal) × (r ≢ mark_in_element)
  number_in_table = rw post.0 (converting_told item code a v s budget room scratch)

  pub zero_answered : r ≡ 0 → (bs : Bytes) × ((convert item code a v s budget room scratch).answer ≡ given bs)
  zero_answered z = go (convert item code a v s budget room scratch).answer refl
    where
      go : (x : Res Bytes) → (convert item code a v s budget room scratch).answer ≡ x → (bs : Bytes) × (x ≡ given bs)
      go (given bs) e = (bs, refl)
      go (refused n) e = absurd (omega (arith, (refusal_returned n e).0, (refusal_returned n e).1))

  -- beside what `sundewfrill_check` gave on the same code
  module _ (κs' : Lfts 6) (args' : _) (r' : _) (exits' : _) (checked : check_call.Post κs' args' r' exits') (same : args'.0.now ≡ code) where
    -- the count is never above the ceiling of its A, B, P and T
    abbrev told_counts : Counts
    told_counts =
        record {
          loads = exits'.1.1.0.now;
          others = exits'.1.1.1.0.now;
          patterns = exits'.1.1.1.1.0.now;
          tests = exits'.1.1.1.1.1.0.now;
        }

    pub steps_at_most_ceiling : steps ≤ counted_ceiling told_counts (length item) (length (elements item a v s))
    steps_at_most_ceiling =
        let most : (convert item code a v s budget room scratch).steps
        ≤ counted_ceiling (report (check code)).steps (length item) (length (elements item a v s)) =
        rw (← ceiling_reported) (steps_within_ceiling item code a v s budget room scratch) in
        rw (post.1.0, checked.1.1.0, checked.1.1.1.0, checked.1.1.1.1.0, checked.1.1.1.1.1, same) most

    accepted : r' ≡ 0 → Accepts code
    accepted e = accepts code (sym (checked.0 ∙ ap (λ (b : Bytes). (report (check b)).refusal) same) ∙ e)

    -- where it returned 0, each elm of the codes that run finds the entries it takes and leaves at most 16
    pub accepted_runs_safely : r' ≡ 0 → All (SafeCode entry_most) (codes_in code)
    accepted_runs_safely e = checked_codes_are_safe entry_most code (codes_in code) (accepted e)

    -- so converting never returns 7
    pub no_stack_fault : r' ≡ 0 → r ≢ stack_fault
    no_stack_fault e f =
        converting_has_no_stack_fault item code a v s budget room scratch (codes_in code) (accepted e)
        (told_refused (convert item code a v s budget room scratch).answer 6 (sym post.0 ∙ f))

    -- each F code of them, where its run is not refused, ends with exactly one entry (document 02, L5)
    pub accepted_ends_with_one : r' ≡ 0 → All (EndsWithOne entry_most) (codes_in code)
    accepted_ends_with_one e = checked_codes_end_with_one entry_most code (codes_in code) (accepted e)

    -- and the call tells what it told by the check before L5, which let entries be left over
    pub accepted_gives_as_before : r' ≡ 0 → Tells (convert_before item code a v s budget room scratch)
    accepted_gives_as_before e = tells (gives_as_before code (codes_in code) (accepted e) item a v s budget room scratch)

  -- beside what `sundewfrill_ceiling` gave on the same record, code and address
  module _ (κs' : Lfts 3) (args' : _) (r' : _) (exits' : _) (capped : ceiling_call.Post κs' args' r' exits') (same_item : args'.0.now ≡ item)
      (same_code : args'.1.0.now ≡ code) (same_a : args'.1.1.0 ≡ a) (same_v : args'.1.1.1.0 ≡ v) (same_s : args'.1.1.1.1.0 ≡ s) where
    -- the count is never above it, also where it is 0 beside a refusal
    pub steps_at_most_told_ceiling : steps ≤ exits'.1.1.1.1.1.0.now
    steps_at_most_told_ceiling =
        rw (post.1.0, capped.1, same_item, same_code, same_a, same_v, same_s) (go (ceiling_of item code a v s) refl)
      where
        go : (x : Res ℕ) → ceiling_of item code a v s ≡ x → (convert item code a v s budget room scratch).steps ≤ ceiling_number x
        go (given n) e = steps_capped item code a v s budget room scratch n e
        go (refused n) e = rw (refused_alike item code a v s budget room scratch n e) (omega arith)

-- Of `sundewfrill_ceiling`: a refusal is a number of the table, and 0 is returned exactly where there is a ceiling.
module _ (κs : Lfts 3) (args : _) (r : _) (exits : _) (post : ceiling_call.Post κs args r exits) where
  abbrev asked : Res ℕ
  asked = ceiling_of args.0.now args.1.0.now args.1.1.0 args.1.1.1.0 args.1.1.1.1.0

  pub ceiling_refused : (n : ℕ) → asked ≡ refused n → (r ≡ n) × (1 ≤ n) × ((n ≤ stack_fault) ⊎ (n ≡ left_over_entries))
  unfolding ceiling_of
  ceiling_refused n e =
      let told = early_refusals args.0.now args.1.0.now args.1.1.0 args.1.1.1.0 args.1.1.1.1.0 _ n e in
      (post.0 ∙ ap refusal_of e, told.0, told.1)

  pub ceiling_given : (n : ℕ) → asked ≡ given n → (r ≡ 0) × (exits.1.1.1.1.1.0.now ≡ n)
  ceiling_given n e = (post.0 ∙ ap refusal_of e, post.1 ∙ ap ceiling_number e)

  pub zero_capped : r ≡ 0 → (n : ℕ) × (asked ≡ given n)
  zero_capped z = go asked refl
    where
      go : (x : Res ℕ) → asked ≡ x → (n : ℕ) × (x ≡ given n)
      go (given n) e = (n, refl)
      go (refused n) e = absurd (omega (arith, (ceiling_refused n e).0, (ceiling_refused n e).1))

-- "Afterwards finding at the address gives the new bytes", of `sundewfrill_replace` that returned 0, and `sundewfrill_find`.
module _ (κs : Lfts 4) (args : _) (r : _) (exits : _) (post : replace_call.Post κs args r exits) (done : r ≡ 0) where
  abbrev old : Bytes
  old = args.0.now

  abbrev new : Bytes
  new = args.1.0.now

  abbrev at_a : ℕ
  at_a = args.1.1.1.0

  abbrev at_v : ℕ
  at_v = args.1.1.1.1.0

  abbrev at_s : ℕ
  at_s = args.1.1.1.1.1.0

  -- the record written: the first bytes of the output, as many as the length told
  abbrev written : Bytes
  written = take exits.1.1.1.1.1.1.0.now exits.1.1.0.now

  replaced_as : replace old at_a at_v at_s new (length args.1.1.0.now) ≡ given written
  replaced_as =
      let (bs, e) = replace_answered old at_a at_v at_s new (length args.1.1.0.now) (sym post.0 ∙ done) in
      let same : written ≡ answer_of (replace old at_a at_v at_s new (length args.1.1.0.now))
      = rw (post.1.0, post.1.1) (first_bytes (length args.1.1.0.now) (replace old at_a at_v at_s new (length args.1.1.0.now))) in
      e ∙ ap given (sym (same ∙ ap answer_of e))

  module _ (κs' : Lfts 4) (args' : _) (r' : _) (exits' : _) (seen : find_call.Post κs' args' r' exits') (same : args'.0.now ≡ written)
      (same_a : args'.1.0 ≡ at_a) (same_v : args'.1.1.0 ≡ at_v) (same_s : args'.1.1.1.0 ≡ at_s) where
    pub found_after_replace : (r' ≡ 0) × (exits'.1.1.1.1.0.now ≡ 1)
        × (take exits'.1.1.1.1.1.1.0.now (drop exits'.1.1.1.1.1.0.now written) ≡ new)
    found_after_replace =
        let (p, e, i) = replacing.found_after_replace old at_a at_v at_s new (length args.1.1.0.now) replaced_as in
        let n = replacing.find_after_replace old at_a at_v at_s new (length args.1.1.0.now) replaced_as in (
          rw (seen.0, same, same_a, same_v, same_s) (ap refusal_of e),
          rw (seen.1.0, same, same_a, same_v, same_s) (ap found_number e),
          rw (seen.1.1.0, seen.1.1.1, same, same_a, same_v, same_s) (find_named written at_a at_v at_s ∙ n),
        )

  -- "Each address apart from the replaced one reads as before, missing counted as empty": the bytes found in the new record and in the old one
  module _ (κs' : Lfts 4) (args' : _) (r' : _) (exits' : _) (after : find_call.Post κs' args' r' exits') (same : args'.0.now ≡ written)
      (κs'' : Lfts 4) (args'' : _) (r'' : _) (exits'' : _) (before : find_call.Post κs'' args'' r'' exits'') (same_old : args''.0.now ≡ old)
      (same_a : args''.1.0 ≡ args'.1.0) (same_v : args''.1.1.0 ≡ args'.1.1.0) (same_s : args''.1.1.1.0 ≡ args'.1.1.1.0)
      (elsewhere : T (apart (path at_a at_v at_s) (path args'.1.0 args'.1.1.0 args'.1.1.1.0))) where
    pub apart_reads_as_before : take exits'.1.1.1.1.1.1.0.now (drop exits'.1.1.1.1.1.0.now written)
        ≡ take exits''.1.1.1.1.1.1.0.now (drop exits''.1.1.1.1.1.0.now old)
    apart_reads_as_before =
        rw (after.1.1.0, after.1.1.1, before.1.1.0, before.1.1.1, same, same_old, same_a, same_v, same_s)
        (find_named written args'.1.0 args'.1.1.0 args'.1.1.1.0
        ∙ apart_extracts old at_a at_v at_s new (length args.1.1.0.now) written replaced_as args'.1.0 args'.1.1.0 args'.1.1.1.0 elsewhere
        ∙ sym (find_named old args'.1.0 args'.1.1.0 args'.1.1.1.0))
