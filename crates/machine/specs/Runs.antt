-- A run of several steps, as the code answers it: the paper's ending of it, and what the element's slot holds then.
use Rattle.std.specs.Prelude.{ℕ, ◌+◌, ◌≤◌, ◌≡◌, List, [], length, Result, Ok, Err}
use Rattle.std.proofs.Math.Option.{Option, none, some}
use Rattle.paper.specs.Bytes.{Bytes}
use Rattle.paper.specs.Sizes.{entry_most, stack_most}
use Rattle.paper.specs.Refusals.{Res, given, refused, ◌>>=◌, not_in_grammar}
use Rattle.paper.specs.Answers.{number_of}
use Rattle.paper.specs.Codes.{Elm, Code}
use Rattle.paper.specs.Checking.{all_stacked, Checked, accepted, faulty}
use Rattle.paper.specs.Steps.{Setting, Run, done, stop, step, onward, charged, top_entry, elms_run, code_run, codes_run}
use Rattle.paper.specs.Converting.{Ending, Outcome, within_budget}
use Rattle.codes.specs.declared.Conversion.{Conversion}
use Rattle.codes.specs.Meaning.{conversion_of}
use Rattle.codes.specs.Counting.{kind_of}
use Rattle.grammar.specs.Heads.{elms_from}
use Rattle.stack.specs.Slots.{entry_at, stack_of, element_slot}
use Rattle.stack.specs.Charging.{taken_one}
use Rattle.steps.specs.Stepping.{converted_on, setting_of}
use Rattle.steps.specs.declared.Position.{Position}
use Rattle.machine.specs.declared.Meter.{Meter}
use Rattle.machine.specs.declared.Stopped.{Stopped}
use Rattle.machine.specs.declared.Stretch.{Stretch}

-- a run under the budget, after the steps counted so far
abbrev pub metered : {A : Type 0} → Meter → Run A → Ending A
metered meter r = within_budget meter.budget meter.steps r

-- those steps are within the budget
abbrev pub Counted : Meter → Type 0
Counted meter = meter.steps ≤ meter.budget

-- a run that is done, and one that was stopped
abbrev pub answered : {A : Type 0} → A → ℕ → Ending A
answered a steps = record { answer = given a; steps = steps }

abbrev pub stopped : {A : Type 0} → ℕ → ℕ → Ending A
stopped n steps = record { answer = refused n; steps = steps }

-- a Result of the code as an ending: what it holds and the steps then counted are read by f, a refusal is told by its number
abbrev pub ending_by : {A B : Type 0} → (A → Ending B) → Result A Stopped → Ending B
ending_by f (Ok a) = f a
ending_by f (Err s) = stopped (number_of s.refusal) s.steps

-- a run of several steps answers the steps then counted
abbrev pub ran_in : Result ℕ Stopped → Ending (Unit {0})
ran_in = ending_by (answered tt)

-- an ending with its answer read by f
abbrev pub answer_by : {A B : Type 0} → (A → B) → Ending A → Ending B
answer_by f o = record { answer = o.answer >>= λ a. given (f a); steps = o.steps }

-- the paper's ending of the run, the answer's bytes left out: they stand in the element's slot
abbrev pub ended : Outcome → Ending (Unit {0})
ended = answer_by (λ bs. tt)

-- the element's slot after it: what the run answered; nothing is promised after a refusal
abbrev pub Answers : Res Bytes → Bytes → Type 0
Answers (given bs) held = held ≡ bs
Answers (refused n) held = Unit {0}

-- What a run leaves: its answer, and the answer's bytes in the element's slot.
pub record Runs (o : Outcome) (r : Result ℕ Stopped) (scratch : Bytes) (lens : List ℕ) : Type 0 where
  pub answers : ran_in r ≡ ended o
  pub element : Answers o.answer (entry_at scratch lens element_slot)

-- a stretch of elms answers the entries then held and the steps then counted
abbrev pub stretch_in : Result Stretch Stopped → Ending ℕ
stretch_in = ending_by (λ s. answered s.held s.steps)

-- the paper's ending of it, the entries counted: they stand in the slots
abbrev pub stretched : Ending (List Bytes) → Ending ℕ
stretched = answer_by length

-- the slots after it: a stack of one entry at least and at most 16; nothing is promised after a refusal
abbrev pub Leaves : Res (List Bytes) → Bytes → List ℕ → Type 0
Leaves (given stack) scratch lens = (stack_of scratch lens (length stack) ≡ stack) × (1 ≤ length stack) × (length stack ≤ stack_most)
Leaves (refused n) scratch lens = Unit {0}

pub record Stretches (o : Ending (List Bytes)) (r : Result Stretch Stopped) (scratch : Bytes) (lens : List ℕ) : Type 0 where
  pub answers : stretch_in r ≡ stretched o
  pub stack : Leaves o.answer scratch lens

-- the elms that stand in a code, run from a stack; a code that is not in the grammar has none
unfoldable pub read_run : Setting → Option (List Elm) → List Bytes → Run (List Bytes)
read_run c none stack = stop not_in_grammar
read_run c (some es) stack = elms_run entry_most c es stack

-- those of an F code from a place on, from an empty stack, and then its answer
abbrev pub elms_outcome : Bytes → Bytes → ℕ → Position → Meter → Bytes → List ℕ → Ending (List Bytes)
elms_outcome item code first place meter scratch lens =
    metered meter (read_run (setting_of item place scratch lens) (elms_from code first) [])

abbrev pub function_outcome : Bytes → Bytes → ℕ → Position → Meter → Bytes → List ℕ → Outcome
function_outcome item code first place meter scratch lens =
    metered meter (onward (read_run (setting_of item place scratch lens) (elms_from code first) []) top_entry)

-- the elms are there, and the check has found room for each of them on so many entries
pub data Stacks : Option (List Elm) → ℕ → Type 0 where
  stacks : {es : List Elm} {held after : ℕ} → all_stacked es held ≡ given after → Stacks (some es) held

-- one code other than F that takes so many bytes and, unless it refuses itself, puts its result in their place
unfoldable pub converting : ℕ → Res Bytes → Run Bytes
converting taken (refused n) = stop n
converting taken (given bs) = step (1 + taken + length bs) (done bs)

abbrev pub single_outcome : Bytes → Conversion → Meter → Bytes → List ℕ → Outcome
single_outcome code conversion meter scratch lens =
    metered meter
    (converting (charged (kind_of conversion) 0 (taken_one scratch lens element_slot)) (converted_on (conversion_of code conversion) scratch lens element_slot))

-- the code that was judged, run; a bad one refuses
unfoldable pub judged_run : Setting → Res Code → Run Bytes
judged_run c (given k) = code_run entry_most c k
judged_run c (refused n) = stop n

abbrev pub code_outcome : Bytes → Res Code → Position → Meter → Bytes → List ℕ → Outcome
code_outcome item judged place meter scratch lens = metered meter (judged_run (setting_of item place scratch lens) judged)

pub data JudgedWell : Res Code → Type 0 where
  judged_well : {k : Code} → JudgedWell (given k)

-- an element through the codes of a string that was checked
unfoldable pub checked_run : Bytes → Position → Checked → Bytes → Run Bytes
checked_run item place (accepted cs) e = codes_run entry_most item place.v place.s cs e
checked_run item place (faulty n k) e = stop n

abbrev pub codes_outcome : Bytes → Checked → Position → Meter → Bytes → List ℕ → Outcome
codes_outcome item checked place meter scratch lens = metered meter (checked_run item place checked (entry_at scratch lens element_slot))

pub data Accepted : Checked → Type 0 where
  is_accepted : {cs : List Code} → Accepted (accepted cs)
