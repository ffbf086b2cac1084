-- What the walk's functions answer, through the paper's outcomes.
use Rattle.std.specs.Prelude.{ℕ, ◌+◌, ◌≤◌, ◌≡◌, List, [], eqb, length, if◌then◌else◌, Result}
use Rattle.paper.specs.Bytes.{Bytes}
use Rattle.paper.specs.Sizes.{entry_most, value_mark}
use Rattle.paper.specs.Refusals.{Res, given, refused, answer_of}
use Rattle.paper.specs.Steps.{element_run}
use Rattle.paper.specs.Converting.{Ending, Outcome, within_budget, elements_run}
use Rattle.machine.specs.declared.Stopped.{Stopped}
use Rattle.machine.specs.declared.Meter.{Meter}
use Rattle.machine.specs.Runs.{metered, answer_by}
use Rattle.paper.specs.Codes.{Code}
use Rattle.paper.specs.Checking.{accepted, check, codes_of}
use Rattle.elements.specs.Gather.{gathered_in, HoldsAnswer, walked_in, walked_of}
use Rattle.elements.specs.Walk.{walked}
use Rattle.steps.specs.declared.Position.{Position}
use Rattle.elements.specs.declared.Walked.{Walked}

-- the codes of a string; none where the check refuses it
unfoldable pub codes_in : Bytes → List Code
codes_in string = codes_of (check string)

-- the check accepts the string, with these codes
abbrev pub Accepts : Bytes → Type 0
Accepts string = check string ≡ accepted (codes_in string)

-- one element of an address, through the codes of the string
abbrev pub element_outcome : Bytes → Bytes → Position → Meter → Bytes → Outcome
element_outcome item string place meter text = metered meter (element_run entry_most item place.v place.s (codes_in string) text)

-- the ending of an element, its answer's bytes counted behind those gathered before
abbrev pub added : ℕ → Outcome → Ending ℕ
added so_far = answer_by (λ bs. so_far + length bs)

abbrev pub added_out : Bytes → ℕ → Res Bytes → Bytes
added_out out so_far (given bs) = gathered_in out so_far bs
added_out out so_far (refused n) = out

-- an element's answer behind what was gathered: the steps and the answer's length, and the output
pub record Adds (o : Outcome) (so_far : ℕ) (r : Result Walked Stopped) (out out' : Bytes) : Type 0 where
  pub answers : walked_in r ≡ added so_far o
  pub output : out' ≡ added_out out so_far o.answer
  pub short : length (answer_of o.answer) ≤ entry_most

-- all elements of the bytes that an address reads
abbrev pub elements_outcome : Bytes → Bytes → Position → ℕ → Bytes → Outcome
elements_outcome item string first budget text =
    within_budget budget 0 (elements_run entry_most item (codes_in string) (walked [] first.v first.s text))

-- what the walk over them leaves: its answer, and the output with the whole answer in front where it fits
pub record Walks (o : Outcome) (r : Result Walked Stopped) (out out' : Bytes) : Type 0 where
  pub answers : walked_in r ≡ walked_of o
  pub held : HoldsAnswer out' (answer_of o.answer)
  pub room : length out' ≡ length out

-- the position behind a mark: a value mark opens the next value, another the next subvalue
abbrev pub position : ℕ → ℕ → Position
position v s = record { v = v; s = s }

unfoldable pub passed : ℕ → ℕ → ℕ → Position
passed mark v s = if eqb mark value_mark then position (v + 1) 1 else position v (s + 1)
