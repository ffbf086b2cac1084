-- The laws of an element's run through all codes, code by code: what the rest gives from the start is what it gives from here. Assumes nothing.
use Rattle.std.specs.Prelude.{if◌then◌else◌, Ok, Err}
use mathlib.Core.Path.{◌≡◌, refl, sym, ap, ◌∙◌}
use mathlib.Core.Bool.{Bool, true, false}
use mathlib.Core.List.{List, [], ◌∷◌}
use Prim.Native.Nat.{ℕ, suc, ◌+◌, ◌-◌, ◌≤◌}
use native.Mathlib.Omega.{arith}
use lib.ListN.{length, take, drop, length-take, length-drop}
use lib.Dec.{leb, eqb}
use borrow.Author.Tests.{eqb-true, eqb-false, leb-true}
use Rattle.paper.specs.Bytes.{Bytes}
use Rattle.paper.specs.Sizes.{entry_most, code_most}
use Rattle.paper.specs.Refusals.{Res, given, refused}
use Rattle.paper.specs.Records.{split}
use Rattle.paper.specs.Codes.{Code}
use Rattle.paper.specs.Checking.{judged, judged_all, Checked, accepted, faulty, in_front, in_turn, code_texts, check}
use Rattle.paper.specs.Steps.{Run, onward, code_run, codes_run}
use Rattle.paper.specs.Converting.{Outcome, within_budget}
use Rattle.paper.proofs.Budget.{budget_kept}
use Rattle.paper.proofs.Runs.{resumed, budget_onward}
use Rattle.grammar.specs.Heads.{code_end}
use Rattle.grammar.proofs.Cuts.{end_within, split_last, split_more}
use Rattle.machine.specs.declared.Stopped.{Stopped}
use Rattle.steps.specs.declared.Position.{Position}
use Rattle.machine.specs.declared.Meter.{Meter}
use Rattle.stack.specs.Slots.{element_slot, entry_at, Lent}
use Rattle.steps.specs.Stepping.{setting, setting_of}
use Rattle.machine.specs.Runs.{answered, Runs, codes_outcome, judged_run, JudgedWell, judged_well, checked_run, Accepted, is_accepted}
use Rattle.machine.proofs.Endings.{stopped_as, answered_as}
use Rattle.machine.proofs.Turns.{runs_as, runs_stopped}

-- what the code's answer says of the outcome
done_is : {scratch : Bytes} {lens : List ℕ} {steps : ℕ} (o : Outcome) → Runs o (Ok steps) scratch lens
    → o ≡ answered (entry_at scratch lens element_slot) steps
done_is {scratch} {lens} o runs =
    let whole = answered_as (λ bs. tt) o runs.answers in
    let there : entry_at scratch lens element_slot ≡ whole.0 = rw whole.1 at runs.element in
    rw there whole.1

not_faulty : {x : Checked} {n k : ℕ} → Accepted x → x ≡ faulty n k → ⊥
not_faulty is_accepted e = let z : ◌≡◌ {A = ℕ} 0 1 = cc in omega arith

-- the codes that are left, the first of them judged
accepted_front : (c : Code) (rest : Checked) → Accepted (in_front c rest) → Accepted rest
accepted_front c (accepted cs) h = is_accepted
accepted_front c (faulty n k) h = h

pub accepted_parts : (number : ℕ) (r : Res Code) (rest : Checked) → Accepted (in_turn number r rest) → JudgedWell r × Accepted rest
accepted_parts number (given c) rest h = (judged_well, accepted_front c rest h)
accepted_parts number (refused n) rest h = absurd (not_faulty h refl)

module _ (item : Bytes) (place : Position) where
  front_run : (c : Code) (rest : Checked) (e : Bytes) → Accepted rest
      → checked_run item place (in_front c rest) e ≡ onward (code_run entry_most (setting item place e) c) (λ r. checked_run item place rest r)
  unfolding checked_run codes_run
  front_run c rest e is_accepted = refl

  pub first_run : (number : ℕ) (r : Res Code) (rest : Checked) (e : Bytes) → Accepted (in_turn number r rest)
      → checked_run item place (in_turn number r rest) e ≡ onward (judged_run (setting item place e) r) (λ q. checked_run item place rest q)
  unfolding judged_run checked_run onward
  first_run number (given c) rest e h = front_run c rest e (accepted_front c rest h)
  first_run number (refused n) rest e h = refl

-- The run through the parts of a string, as it stands at a turn of the loop.
module _ (item string : Bytes) (place : Position) (meter : Meter) (scratch₀ : Bytes) (lens₀ : List ℕ) where
  abbrev budget : ℕ
  budget = meter.budget

  abbrev left_at : ℕ → ℕ → Checked
  left_at number at = judged_all number (split 253 (drop at string))

  abbrev pub whole_run : Outcome
  whole_run = codes_outcome item (judged_all 1 (split 253 string)) place meter scratch₀ lens₀

  pub record Part (at steps : ℕ) (scratch : Bytes) (lens : List ℕ) (work : Bytes) : Type 0 where
    pub number : ℕ
    pub lent : Lent item work
    pub within_string : at ≤ length string
    pub short : length string ≤ code_most
    pub counted : steps ≤ budget
    pub ready : Accepted (left_at number at)
    pub same : whole_run ≡ within_budget budget steps (checked_run item place (left_at number at) (entry_at scratch lens element_slot))

  module _ {at steps : ℕ} {scratch : Bytes} {lens : List ℕ} {work : Bytes} (part : Part at steps scratch lens work) {end : ℕ}
      (e : end ≡ code_end (drop at string) at) where
    abbrev this_code : Bytes
    this_code = take (end - at) (drop at string)

    abbrev this_run : Outcome
    this_run = within_budget budget steps (judged_run (setting_of item place scratch lens) (judged this_code))

    pub part_ends : (at ≤ end) × (end ≤ length string)
    part_ends = end_within string at part.within_string e

    pub part_short : length this_code ≤ code_most
    part_short = omega (arith, length-take (end - at) (drop at string), length-drop at string, part.short)

    -- the code there, and the codes after it
    module _ (tail : List Bytes) (cut : split 253 (drop at string) ≡ this_code ∷ tail) where
      there : Accepted (judged_all part.number (this_code ∷ tail))
      there = rw cut at part.ready

      split_well : JudgedWell (judged this_code) × Accepted (judged_all (suc part.number) tail)
      unfolding judged_all
      split_well = accepted_parts part.number (judged this_code) (judged_all (suc part.number) tail) there

      abbrev those_after : Bytes → Run Bytes
      those_after r = checked_run item place (judged_all (suc part.number) tail) r

      by_code : whole_run ≡ resumed budget those_after this_run
      unfolding judged_all
      by_code =
          part.same
          ∙ ap (λ (ps : List Bytes). within_budget budget steps (checked_run item place (judged_all part.number ps) (entry_at scratch lens element_slot))) cut
          ∙ ap (λ (r : Run Bytes). within_budget budget steps r) (first_run item place part.number (judged this_code) (judged_all (suc part.number) tail) (entry_at scratch lens element_slot) there)
          ∙ budget_onward (judged_run (setting_of item place scratch lens) (judged this_code)) those_after budget steps

      stops : {s : Stopped} {scratch' : Bytes} {lens' : List ℕ} → Runs this_run (Err s) scratch' lens' → Runs whole_run (Err s) scratch' lens'
      unfolding resumed
      stops {s} runs =
          runs_stopped s.refusal s.steps
          (by_code ∙ ap (resumed budget those_after) (stopped_as (λ bs. tt) this_run runs.answers))

      module _ {m : ℕ} {scratch' : Bytes} {lens' : List ℕ} (runs : Runs this_run (Ok m) scratch' lens') where
        goes : whole_run ≡ within_budget budget m (those_after (entry_at scratch' lens' element_slot))
        unfolding resumed
        goes = by_code ∙ ap (resumed budget those_after) (done_is this_run runs)

        goes_within : m ≤ budget
        goes_within =
            omega (
              arith,
              ap (λ (o : Outcome). o.steps) (done_is this_run runs),
              budget_kept (judged_run (setting_of item place scratch lens) (judged this_code)) budget steps part.counted,
            )

    -- none are after it at the string's end
    behind : List Bytes
    behind = if eqb end (length string) then [] else split 253 (drop (end + 1) string)

    cut_there : split 253 (drop at string) ≡ this_code ∷ behind
    unfolding behind
    cut_there = go (eqb end (length string)) refl
      where
        go : (t : Bool) → eqb end (length string) ≡ t
            → split 253 (drop at string) ≡ this_code ∷ (if t then [] else split 253 (drop (end + 1) string))
        go true q = split_last string at part.within_string e (eqb-true _ _ q)
        go false q = split_more string at part.within_string e (eqb-false _ _ q)

    pub part_well : JudgedWell (judged this_code)
    part_well = (split_well behind cut_there).0

    pub part_stops : {s : Stopped} {scratch' : Bytes} {lens' : List ℕ} → Runs this_run (Err s) scratch' lens' → Runs whole_run (Err s) scratch' lens'
    part_stops runs = stops behind cut_there runs

    module _ {m : ℕ} {scratch' : Bytes} {lens' : List ℕ} (runs : Runs this_run (Ok m) scratch' lens') where
      pub part_last : end ≡ length string → Runs whole_run (Ok m) scratch' lens'
      unfolding judged_all checked_run codes_run within_budget
      part_last h = runs_as (goes [] (split_last string at part.within_string e h) runs ∙ sym (done_is this_run runs)) runs

      pub part_more : {work' : Bytes} → length work' ≡ length work → (end ≡ length string → ⊥) → Part (end + 1) m scratch' lens' work'
      part_more w ne =
          let cut = split_more string at part.within_string e ne in
          record {
            number = suc part.number;
            lent = record { record_fits = part.lent.record_fits; work_fits = omega (arith, part.lent.work_fits) };
            within_string = omega (arith, part_ends);
            short = part.short;
            counted = goes_within behind cut_there runs;
            ready = (split_well _ cut).1;
            same = goes _ cut runs;
          }

-- an empty string has no codes: the element is the answer
pub no_codes : {scratch : Bytes} {lens : List ℕ} (item string : Bytes) (place : Position) (meter : Meter) → length string ≡ 0
    → Runs (codes_outcome item (check string) place meter scratch lens) (Ok meter.steps) scratch lens
unfolding within_budget check code_texts judged_all checked_run codes_run
no_codes item [] place meter h = record { answers = refl; element = refl }
no_codes item (b ∷ bs) place meter h = absurd (omega arith)

-- what was accepted is not over-long
pub checked_short : (string : Bytes) → Accepted (check string) → length string ≤ code_most
unfolding check
checked_short string h = go (leb (length string) code_most) refl h
  where
    go : (t : Bool) → leb (length string) code_most ≡ t → Accepted (if t then judged_all 1 (code_texts string) else faulty 5 0) → length string ≤ code_most
    go true e h = leb-true (length string) code_most e
    go false e h = absurd (not_faulty h refl)

-- any other has the parts between its marks
pub checked_parts : (string : Bytes) → Accepted (check string) → (length string ≡ 0 → ⊥) → check string ≡ judged_all 1 (split 253 string)
unfolding check code_texts
checked_parts [] h ne = absurd (ne refl)
checked_parts (b ∷ bs) h ne = go (leb (length (b ∷ bs)) code_most) refl h
  where
    go : (t : Bool) → leb (length (b ∷ bs)) code_most ≡ t
        → Accepted (if t then judged_all 1 (split 253 (b ∷ bs)) else faulty 5 0) → check (b ∷ bs) ≡ judged_all 1 (split 253 (b ∷ bs))
    go true e h = rw e
    go false e h = absurd (not_faulty h refl)
