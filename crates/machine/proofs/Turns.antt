-- The laws of an F code's run, elm by elm: what the rest gives from the start is what it gives from here. Assumes nothing.
use Rattle.std.specs.Prelude.{if◌then◌else◌, Result, Ok, Err}
use mathlib.Core.Path.{◌≡◌, refl, sym, ap, ◌∙◌}
use mathlib.Core.Bool.{Bool, true, false}
use mathlib.Core.List.{List, []}
use mathlib.Core.Option.{Option, none, some}
use Prim.Native.Nat.{ℕ, zero, suc, ◌+◌, ◌-◌, ◌≤◌, ◌<◌}
use native.Mathlib.Omega.{arith}
use lib.ListN.{length}
use lib.Dec.{leb, eqb}
use borrow.Author.Tests.{le-leb, lt-leb, leb-true, leb-false, eq-eqb, ne_eqb, eqb-true, eqb-false}
use Rattle.paper.specs.Bytes.{Bytes}
use Rattle.paper.specs.Sizes.{code_most, entry_most, stack_most}
use Rattle.paper.specs.Refusals.{Res, given, refused, ◌>>=◌, ◌>>◌, refuse◌unless◌, over_budget}
use Rattle.paper.specs.declared.Refusal.{Refusal}
use Rattle.paper.specs.Answers.{number_of, told}
use Rattle.paper.specs.Codes.{Elm}
use Rattle.paper.specs.Checking.{shape, stacked, all_stacked, Room}
use Rattle.paper.specs.Steps.{Setting, Run, step, stepped, onward, elm_step, elms_run, top_entry}
use Rattle.paper.specs.Converting.{Ending, Outcome, within_budget}
use Rattle.paper.proofs.Predicates.{held, All, none_of, and_all}
use Rattle.paper.proofs.Stack.{puts_one}
use Rattle.paper.proofs.Entries.{Fit, steps_within}
use Rattle.paper.proofs.Runs.{resumed, budget_onward}
use Rattle.codes.specs.declared.Elm.{Elm as Coded}
use Rattle.codes.specs.Meaning.{elm_of}
use Rattle.readers.specs.Places.{byte_at, after, Peeked}
use Rattle.grammar.specs.Reading as place
use Rattle.grammar.specs.Heads.{elms_from}
use Rattle.readers.proofs.Bytes.{after_inside}
use Rattle.grammar.proofs.Parted.{elm_onto, elm_within, elms_none, elms_last, elms_more, elms_stray}
use Rattle.stack.specs.declared.Step.{Step}
use Rattle.machine.specs.declared.Stopped.{Stopped}
use Rattle.machine.specs.declared.Stretch.{Stretch}
use Rattle.steps.specs.declared.Position.{Position}
use Rattle.machine.specs.declared.Meter.{Meter}
use Rattle.stack.specs.Slots.{slots, element_slot, entry_at, stack_of, Slotted, Lent}
use Rattle.steps.specs.Bounds.{ElmWithin}
use Rattle.stack.specs.Charging.{step_of, stack_after, held_after, Charges}
use Rattle.steps.specs.Stepping.{setting_of, ElmCharges}
use Rattle.machine.specs.Runs.{metered, Counted, answered, stopped, Runs, Leaves, Stretches, read_run, elms_outcome, Stacks, stacks}
use Rattle.stack.proofs.Putting.{Put, entry_fits, after_same}
use Rattle.stack.proofs.Charges.{stack_length}
use Rattle.machine.proofs.Endings.{stopped_as, answered_as}
use Rattle.machine.proofs.Within.{elm_reads, read_has}

pub runs_stopped : {o : Outcome} {scratch : Bytes} {lens : List ℕ} (e : Refusal) (steps : ℕ) → o ≡ stopped (number_of e) steps
    → Runs o (Err (record { refusal = e; steps = steps })) scratch lens
runs_stopped e steps p = rw p (record { answers = refl; element = tt })

-- bytes put into the element's slot are a run's answer
pub runs_answered : {scratch scratch' : Bytes} {lens lens' : List ℕ} → Slotted scratch lens → (bs : Bytes) (steps : ℕ) → length bs ≤ entry_most
    → Put scratch lens element_slot bs scratch' lens' → Runs (answered bs steps) (Ok steps) scratch' lens'
runs_answered slotted bs steps fit put =
    record { answers = refl; element = after_same slotted element_slot bs (omega arith) fit put }

-- the same run said in another way
pub runs_as : {o q : Outcome} {r : Result ℕ Stopped} {scratch : Bytes} {lens : List ℕ} → o ≡ q → Runs q r scratch lens → Runs o r scratch lens
runs_as e t = rw e t

-- the same of a stretch
pub stretch_stopped : {o : Ending (List Bytes)} {scratch : Bytes} {lens : List ℕ} (e : Refusal) (steps : ℕ)
    → o ≡ stopped (number_of e) steps → Stretches o (Err (record { refusal = e; steps = steps })) scratch lens
stretch_stopped e steps p = rw p (record { answers = refl; stack = tt })

-- the cost of a step and the entries then held
abbrev tells : ℕ × List Bytes → Step
tells y = record { cost = y.0; held = length y.1 }

-- One step under a budget, with so much of it left.
module _ (budget steps : ℕ) (x : Res (ℕ × List Bytes)) (k : List Bytes → Run (List Bytes)) (within : steps ≤ budget) where
  -- its own refusal, or 15
  pub step_stops : (n : ℕ) → step_of (budget - steps) x ≡ refused n → within_budget budget steps (stepped x k) ≡ stopped n steps
  unfolding step_of stepped within_budget
  step_stops n e = go x e
    where
      paid : (t : Bool) (y : ℕ × List Bytes) → leb y.0 (budget - steps) ≡ t
          → (if t then given (tells y) else refused over_budget) ≡ refused n
          → within_budget budget steps (step y.0 (k y.1)) ≡ stopped n steps
      paid true y f e = let z : ◌≡◌ {A = ℕ} 0 1 = cc in absurd (omega arith)
      paid false y f e =
          let h : budget - steps < y.0 = leb-false _ _ f in
          let over : leb (steps + y.0) budget ≡ false = lt-leb (steps + y.0) budget (omega arith) in
          let same : over_budget ≡ n = cc in
          rw (over, same)

      go : (x : Res (ℕ × List Bytes)) → step_of (budget - steps) x ≡ refused n → within_budget budget steps (stepped x k) ≡ stopped n steps
      go (refused m) e = let same : m ≡ n = cc in rw same
      go (given y) e = paid (leb y.0 (budget - steps)) y refl e

  -- its cost counted, and what goes on from the stack after it
  pub record Paid (cost n : ℕ) : Type 0 where
    pub after : List Bytes
    pub given_is : x ≡ given (cost, after)
    pub stack_is : stack_after (budget - steps) x ≡ after
    pub long : length after ≡ n
    pub counted : steps + cost ≤ budget
    pub goes_on : within_budget budget steps (stepped x k) ≡ within_budget budget (steps + cost) (k after)

  pub step_goes : (s : Step) → step_of (budget - steps) x ≡ given s → Paid s.cost s.held
  unfolding step_of stepped within_budget stack_after
  step_goes s e = go x refl e
    where
      paid : (t : Bool) (y : ℕ × List Bytes) → x ≡ given y → leb y.0 (budget - steps) ≡ t
          → (if t then given (tells y) else refused over_budget) ≡ given s → Paid s.cost s.held
      paid false y g f e = let z : ◌≡◌ {A = ℕ} 0 1 = cc in absurd (omega arith)
      paid true y g f e =
          let whole : tells y ≡ s = cc in
          let same : y.0 ≡ s.cost = ap (λ (q : Step). q.cost) whole in
          let h : y.0 ≤ budget - steps = leb-true _ _ f in
          let fits : leb (steps + y.0) budget ≡ true = le-leb (steps + y.0) budget (omega arith) in
          record {
            after = y.1;
            given_is = g ∙ ap (λ (m : ℕ). given (m, y.1)) same;
            stack_is = rw (g, f);
            long = ap (λ (q : Step). q.held) whole;
            counted = omega arith;
            goes_on = rw (g, fits, same);
          }

      go : (z : Res (ℕ × List Bytes)) → x ≡ z → step_of (budget - steps) z ≡ given s → Paid s.cost s.held
      go (refused m) g e = let z : ◌≡◌ {A = ℕ} 0 1 = cc in absurd (omega arith)
      go (given y) g e = paid (leb y.0 (budget - steps)) y g refl e

-- every entry of the stack is within the limit
stack_fits : {scratch : Bytes} {lens : List ℕ} → Slotted scratch lens → (n : ℕ) → n ≤ slots → All (Fit entry_most) (stack_of scratch lens n)
unfolding stack_of
stack_fits slotted zero h = none_of
stack_fits slotted (suc n) h = and_all (entry_fits slotted n (omega arith)) (stack_fits slotted n (omega arith))

-- the check's test of the stack, for an elm and those that follow
stacked_first : (e : Elm) (entries : ℕ) (r : Res ℕ) → stacked e entries ≡ r → (k : ℕ → Res ℕ) (n : ℕ) → (r >>= k) ≡ given n
    → Room e entries × (k (entries - (shape e).takes + (shape e).puts) ≡ given n)
unfolding stacked
stacked_first e entries r f k n g = go (leb (shape e).takes entries) (leb (entries - (shape e).takes + (shape e).puts) stack_most) refl refl (rw (← f) at g)
  where
    go : (t u : Bool) → leb (shape e).takes entries ≡ t → leb (entries - (shape e).takes + (shape e).puts) stack_most ≡ u
        → (((refuse 7 unless t) >> ((refuse 7 unless u) >> given (entries - (shape e).takes + (shape e).puts))) >>= k) ≡ given n
        → Room e entries × (k (entries - (shape e).takes + (shape e).puts) ≡ given n)
    go true true p q g = (record { enough = leb-true _ _ p; not_too_many = leb-true _ _ q }, g)
    go true false p q g = let z : ◌≡◌ {A = ℕ} 0 1 = cc in absurd (omega arith)
    go false u p q g = let z : ◌≡◌ {A = ℕ} 0 1 = cc in absurd (omega arith)

stacks_some : {o : Option (List Elm)} {entries : ℕ} → Stacks o entries
    → (es : List Elm) × (n : ℕ) × (o ≡ some es) × (all_stacked es entries ≡ given n)
stacks_some (stacks {es = es} {after = n} f) = (es, n, refl, f)

pub stacks_not : {o : Option (List Elm)} {entries : ℕ} → Stacks o entries → o ≡ none → ⊥
stacks_not h e = let r = (stacks_some h).2 in let z : ◌≡◌ {A = ℕ} 0 1 = cc in omega arith

stacks_onto : (e : Elm) (o : Option (List Elm)) (entries : ℕ) → Stacks (elm_onto e o) entries
    → Room e entries × Stacks o (entries - (shape e).takes + (shape e).puts)
unfolding all_stacked
stacks_onto e (some es) entries (stacks {after = n} f) =
    let r = stacked_first e entries (stacked e entries) refl (all_stacked es) n f in
    (r.0, stacks r.1)
stacks_onto e none entries h = absurd (stacks_not h refl)

-- an elm and those that follow, run
run_onto : {o : Option (List Elm)} {entries : ℕ} (c : Setting) (e : Elm) (stack : List Bytes) → Stacks o entries
    → read_run c (elm_onto e o) stack ≡ stepped (elm_step entry_most c e stack) (λ after. read_run c o after)
unfolding read_run elms_run
run_onto c e stack (stacks f) = refl

-- The elms after the one that ends at n: none at the code's end, else those from behind the `;` there.
rest_of : Bytes → ℕ → Option (List Elm)
rest_of s n = if eqb n (length s) then some [] else elms_from s (n + 1)

rest_last : (s : Bytes) (n : ℕ) → n ≡ length s → rest_of s n ≡ some []
unfolding rest_of
rest_last s n e = rw (eq-eqb n (length s) e)

rest_more : (s : Bytes) (n : ℕ) → (n ≡ length s → ⊥) → rest_of s n ≡ elms_from s (n + 1)
unfolding rest_of
rest_more s n ne = rw (ne_eqb n (length s) ne)

elms_onto : {e : Coded} {n entries : ℕ} (s : Bytes) (at : ℕ) → at ≤ length s → place.elm s at ≡ some (e, n) → Stacks (elms_from s at) entries
    → elms_from s at ≡ elm_onto (elm_of s e) (rest_of s n)
elms_onto {e} {n} {entries} s at h f ready = ends (eqb n (length s)) refl
  where
    here : Peeked s n (byte_at s n) (after s n)
    here = record { stands = refl; leads = refl }

    parted : (t : Bool) → eqb (byte_at s n) 59 ≡ t → (n ≡ length s → ⊥) → elms_from s at ≡ elm_onto (elm_of s e) (elms_from s (n + 1))
    parted true g ne =
        let w = elm_within s at h e n f in
        elms_more s at h e n f ne here (eqb-true _ _ g) ∙ ap (λ (m : ℕ). elm_onto (elm_of s e) (elms_from s m)) (sym (after_inside s n (omega arith)))
    parted false g ne = absurd (stacks_not ready (elms_stray s at h e n f ne here (eqb-false _ _ g)))

    ends : (t : Bool) → eqb n (length s) ≡ t → elms_from s at ≡ elm_onto (elm_of s e) (rest_of s n)
    ends true g = elms_last s at h e n f (eqb-true _ _ g) ∙ ap (elm_onto (elm_of s e)) (sym (rest_last s n (eqb-true _ _ g)))
    ends false g = parted (eqb (byte_at s n) 59) refl (eqb-false _ _ g) ∙ ap (elm_onto (elm_of s e)) (sym (rest_more s n (eqb-false _ _ g)))

-- the top entry answers
pub top_answers : (budget steps : ℕ) (scratch : Bytes) (lens : List ℕ) (n : ℕ) → 1 ≤ n
    → within_budget budget steps (top_entry (stack_of scratch lens n)) ≡ answered (entry_at scratch lens (n - 1)) steps
unfolding within_budget top_entry stack_of
top_answers budget steps scratch lens zero h = absurd (omega arith)
top_answers budget steps scratch lens (suc n) h =
    let e : suc n - 1 ≡ n = omega arith in
    rw e

-- The run of the elms of an F code from place `first` on, as it stands at a turn of the loop.
module _ (item code : Bytes) (first : ℕ) (position : Position) (meter : Meter) (scratch₀ : Bytes) (lens₀ : List ℕ) where
  abbrev there : Setting
  there = setting_of item position scratch₀ lens₀

  abbrev budget : ℕ
  budget = meter.budget

  abbrev pub whole_run : Ending (List Bytes)
  whole_run = elms_outcome item code first position meter scratch₀ lens₀

  pub record Turn (at entries steps : ℕ) (scratch : Bytes) (lens : List ℕ) (work : Bytes) : Type 0 where
    pub lent : Lent item work
    pub within_code : at ≤ length code
    pub short : length code ≤ code_most
    pub element : entry_at scratch lens element_slot ≡ entry_at scratch₀ lens₀ element_slot
    pub few : entries ≤ stack_most
    pub counted : steps ≤ budget
    pub ready : Stacks (elms_from code at) entries
    pub same : whole_run ≡ within_budget budget steps (read_run there (elms_from code at) (stack_of scratch lens entries))

  pub turn_first : {work : Bytes} → Lent item work → first ≤ length code → Counted meter → Stacks (elms_from code first) 0
      → length code ≤ code_most → Turn first 0 meter.steps scratch₀ lens₀ work
  unfolding stack_of
  turn_first lent h l ready short =
      record { lent = lent; within_code = h; short = short; element = refl; few = omega arith; counted = l; ready = ready; same = refl }

  module _ {at entries steps : ℕ} {scratch : Bytes} {lens : List ℕ} {work : Bytes} (turn : Turn at entries steps scratch lens work) where
    -- an elm stands there
    pub turn_not : place.elm code at ≡ none → ⊥
    turn_not e = stacks_not turn.ready (elms_none code at turn.within_code e)

    module _ {e : Coded} {n : ℕ} (f : place.elm code at ≡ some (e, n)) where
      onto : elms_from code at ≡ elm_onto (elm_of code e) (rest_of code n)
      onto = elms_onto code at turn.within_code f turn.ready

      found : Room (elm_of code e) entries × Stacks (rest_of code n) (entries - (shape (elm_of code e)).takes + (shape (elm_of code e)).puts)
      found = stacks_onto (elm_of code e) (rest_of code n) entries (rw onto at turn.ready)

      pub turn_room : Room (elm_of code e) entries
      turn_room = found.0

      pub turn_elm : ElmWithin code e
      turn_elm = read_has (elm_reads code turn.short at) f

      pub turn_place : (at < n) × (n ≤ length code)
      turn_place = elm_within code at turn.within_code e n f

      abbrev this_step : Res (ℕ × List Bytes)
      this_step = elm_step entry_most there (elm_of code e) (stack_of scratch lens entries)

      abbrev those_after : List Bytes → Run (List Bytes)
      those_after stack = read_run there (rest_of code n) stack

      by_step : whole_run ≡ within_budget budget steps (stepped this_step those_after)
      by_step =
          turn.same
          ∙ ap (λ (o : Option (List Elm)). within_budget budget steps (read_run there o (stack_of scratch lens entries))) onto
          ∙ ap (λ (r : Run (List Bytes)). within_budget budget steps r) (run_onto there (elm_of code e) (stack_of scratch lens entries) found.1)

      module _ {r : Result Step Refusal} {scratch' : Bytes} {lens' : List ℕ} (settled : ElmCharges (budget - steps) item code e position entries r scratch lens scratch' lens') where
        settled_there : Charges (budget - steps) this_step r scratch lens scratch' lens'
        settled_there = rw turn.element at settled

        pub turn_stops : {m : Refusal} → r ≡ Err m → Stretches whole_run (Err (record { refusal = m; steps = steps })) scratch' lens'
        turn_stops {m} q =
            stretch_stopped m steps
            (by_step ∙ step_stops budget steps this_step those_after turn.counted (number_of m) (sym settled_there.answers ∙ ap told q))

        module _ {s : Step} (q : r ≡ Ok s) where
          abbrev cost : ℕ
          cost = s.cost

          abbrev entries' : ℕ
          entries' = s.held

          paid : Paid budget steps this_step those_after turn.counted cost entries'
          paid = step_goes budget steps this_step those_after turn.counted s (sym settled_there.answers ∙ ap told q)

          -- the slots hold the stack that the paper goes on from
          held_there : stack_of scratch' lens' entries' ≡ paid.after
          held_there =
              ap (λ (x : Result Step Refusal). stack_of scratch' lens' (held_after x)) (sym q) ∙ settled_there.stack ∙ paid.stack_is

          deep : Slotted scratch lens → entries' ≡ entries - (shape (elm_of code e)).takes + (shape (elm_of code e)).puts
          deep slotted =
              let fits = steps_within entry_most there (elm_of code e) (stack_of scratch lens entries) (stack_fits slotted entries (omega (arith, turn.few))) in
              sym paid.long ∙ (held (rw paid.given_is at fits)).deep
              ∙ ap (λ (k : ℕ). k - (shape (elm_of code e)).takes + (shape (elm_of code e)).puts) (stack_length scratch lens entries)

          goes_on : whole_run ≡ within_budget budget (steps + cost) (those_after (stack_of scratch' lens' entries'))
          goes_on = by_step ∙ paid.goes_on ∙ ap (λ (st : List Bytes). within_budget budget (steps + cost) (those_after st)) (sym held_there)

          pub turn_counted : steps + cost ≤ budget
          turn_counted = paid.counted

          pub turn_held : Slotted scratch lens → (1 ≤ entries') × (entries' ≤ stack_most)
          turn_held slotted = omega (arith, deep slotted, puts_one (elm_of code e), found.0.not_too_many)

          pub turn_more : {work' : Bytes} → Slotted scratch lens → length work' ≡ length work → (n ≡ length code → ⊥)
              → Turn (n + 1) entries' (steps + cost) scratch' lens' work'
          turn_more slotted w ne =
              record {
                lent = record { record_fits = turn.lent.record_fits; work_fits = omega (arith, turn.lent.work_fits) };
                within_code = omega (arith, turn_place);
                short = turn.short;
                element = settled.element ∙ turn.element;
                few = (turn_held slotted).1;
                counted = turn_counted;
                ready = rw (deep slotted, ← rest_more code n ne) found.1;
                same = goes_on ∙ ap (λ (o : Option (List Elm)). within_budget budget (steps + cost) (read_run there o (stack_of scratch' lens' entries'))) (rest_more code n ne);
              }

          ended : n ≡ length code → whole_run ≡ answered (stack_of scratch' lens' entries') (steps + cost)
          unfolding read_run elms_run within_budget
          ended h =
              goes_on
              ∙ ap (λ (o : Option (List Elm)). within_budget budget (steps + cost) (read_run there o (stack_of scratch' lens' entries'))) (rest_last code n h)

          pub turn_last : Slotted scratch lens → n ≡ length code → Stretches whole_run (Ok (record { held = entries'; steps = steps + cost })) scratch' lens'
          turn_last slotted h =
              rw (ended h)
              (record {
                answers = rw (stack_length scratch' lens' entries');
                stack = rw (stack_length scratch' lens' entries') (refl, (turn_held slotted).0, (turn_held slotted).1);
              })

-- The answer of an F code is taken from the stack that its elms leave.
module _ {scratch : Bytes} {lens : List ℕ} (meter : Meter) (run : Run (List Bytes)) where
  pub function_stops : {s : Stopped} → Stretches (metered meter run) (Err s) scratch lens → Runs (metered meter (onward run top_entry)) (Err s) scratch lens
  unfolding resumed
  function_stops {s} left =
      runs_stopped s.refusal s.steps
      (budget_onward run top_entry meter.budget meter.steps
      ∙ ap (resumed meter.budget top_entry) (stopped_as length (metered meter run) left.answers))

  module _ {s : Stretch} (left : Stretches (metered meter run) (Ok s) scratch lens) where
    stands : (metered meter run ≡ answered (stack_of scratch lens s.held) s.steps) × (1 ≤ s.held) × (s.held ≤ stack_most)
    stands =
        let whole = answered_as length (metered meter run) left.answers in
        let leaves : Leaves (given whole.0) scratch lens = rw whole.1 at left.stack in
        let there : whole.0 ≡ stack_of scratch lens s.held = sym (rw whole.2 at leaves.0) in
        (rw (← there) whole.1, omega (arith, leaves.1, whole.2), omega (arith, leaves.2, whole.2))

    pub function_held : (1 ≤ s.held) × (s.held ≤ stack_most)
    function_held = (stands.1, stands.2)

    pub function_answers : metered meter (onward run top_entry) ≡ answered (entry_at scratch lens (s.held - 1)) s.steps
    unfolding resumed
    function_answers =
        budget_onward run top_entry meter.budget meter.steps
        ∙ ap (resumed meter.budget top_entry) stands.0
        ∙ top_answers meter.budget s.steps scratch lens s.held function_held.0
