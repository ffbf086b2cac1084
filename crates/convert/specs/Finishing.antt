-- What converting answers once the walk over the elements is over, and the output then.
use Rattle.std.specs.Prelude.{ℕ, ◌-◌, ◌++◌, length, take, replicate, leb}
use Rattle.paper.specs.Bytes.{Bytes}
use Rattle.paper.specs.Refusals.{Res, given, refused, ◌>>=◌, ◌>>◌, refuse◌unless◌, short_output}
use Rattle.paper.specs.Answers.{told}
use Rattle.paper.specs.Converting.{Ending, Outcome, convert}
use Rattle.convert.specs.declared.Converted.{Converted}

-- what the code answers, as an ending with the answer's length
abbrev pub converted_in : Converted → Ending ℕ
converted_in c = record { answer = told c.answer; steps = c.steps }

-- converting, into this output, with this scratch
abbrev pub converted_into : Bytes → Bytes → ℕ → ℕ → ℕ → ℕ → Bytes → Bytes → Outcome
converted_into item string a v s budget out scratch = convert item string a v s budget (length out) (length scratch)

-- "then 16", of a walk over the elements against the output's length
abbrev pub fitted_in : ℕ → Ending ℕ → Ending ℕ
fitted_in room w = record { answer = w.answer >>= λ n. (refuse short_output unless leb n room) >> given n; steps = w.steps }

-- and the output then: the answer and zeros behind it, or zeros throughout
abbrev pub finished_out : Bytes → Res ℕ → Bytes
finished_out out (given n) = take n out ++ replicate (length out - n) 0
finished_out out (refused n) = replicate (length out) 0
