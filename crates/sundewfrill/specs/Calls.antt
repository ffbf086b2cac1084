-- The paper's calls as a host makes them: the lent buffers give their own lengths, and hold what the paper says afterwards.
use Rattle.std.specs.Prelude.{ℕ, length}
use Rattle.paper.specs.Bytes.{Bytes, buffer}
use Rattle.paper.specs.Refusals.{Res, answer_of}
use Rattle.paper.specs.Records.{replace}
use Rattle.algebra.specs.Showing.{show}
use Rattle.paper.specs.Converting.{Outcome, convert, output_after, scratch_after}

-- replacing, into this output
abbrev pub replaced : Bytes → Bytes → Bytes → ℕ → ℕ → ℕ → Res Bytes
replaced item new output a v s = replace item a v s new (length output)

-- "that buffer holds the answer and then zeros to its end; on a refusal it is zeros throughout"
abbrev pub replaced_output : Bytes → Bytes → Bytes → ℕ → ℕ → ℕ → Bytes
replaced_output item new output a v s = buffer (length output) (answer_of (replaced item new output a v s))

-- converting, into this output, with this scratch
abbrev pub converted : Bytes → Bytes → Bytes → Bytes → ℕ → ℕ → ℕ → ℕ → Outcome
converted item code output scratch a v s budget = convert item code a v s budget (length output) (length scratch)

abbrev pub converted_output : Bytes → Bytes → Bytes → Bytes → ℕ → ℕ → ℕ → ℕ → Bytes
converted_output item code output scratch a v s budget =
    output_after (length output) (converted item code output scratch a v s budget)

-- "Scratch is zeros throughout after every call."
abbrev pub converted_scratch : Bytes → Bytes
converted_scratch scratch = scratch_after (length scratch)

-- an A code's F text, into this output
abbrev pub displayed : Bytes → Bytes → Res Bytes
displayed code output = show code (length output)

abbrev pub displayed_output : Bytes → Bytes → Bytes
displayed_output code output = buffer (length output) (answer_of (displayed code output))
