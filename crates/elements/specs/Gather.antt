-- The answer as it grows in the lent output, and what the walk over the elements comes to.
use Rattle.std.specs.Prelude.{ℕ, ◌+◌, ◌≤◌, ◌≡◌, length, take, leb, if◌then◌else◌, Result}
use Rattle.paper.specs.Bytes.{Bytes}
use Rattle.paper.specs.Answers.{sized}
use Rattle.paper.specs.Converting.{Ending, Outcome}
use Rattle.lent.specs.Over.{over}
use Rattle.machine.specs.declared.Stopped.{Stopped}
use Rattle.machine.specs.Runs.{ending_by, answered}
use Rattle.elements.specs.declared.Walked.{Walked}

-- bytes behind `n` bytes of the answer, where there is room for them
unfoldable pub gathered_in : Bytes → ℕ → Bytes → Bytes
gathered_in out n bs = if leb (n + length bs) (length out) then over out n bs else out

-- an output that holds an answer in front, unless the answer is longer
unfoldable pub HoldsAnswer : Bytes → Bytes → Type 0
HoldsAnswer out answer = length answer ≤ length out → take (length answer) out ≡ answer

-- what the walk comes to, as an ending with the answer's length
abbrev pub walked_in : Result Walked Stopped → Ending ℕ
walked_in = ending_by (λ w. answered w.length w.steps)

-- and as the paper's outcome says
abbrev pub walked_of : Outcome → Ending ℕ
walked_of o = record { answer = sized o.answer; steps = o.steps }
