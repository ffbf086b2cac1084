-- Judging as the code goes about it, and what each case of its answers is in the paper (crates/paper/specs/Checking.antt).
use Rattle.std.specs.Prelude.{ℕ, Bool, not, ◌&&◌, List, length, get_or, leb, eqb, Result, Ok, Err}
use Rattle.std.proofs.Math.Option.{Option, none, some}
use Rattle.paper.specs.Bytes.{Bytes}
use Rattle.paper.specs.Sizes.{value_mark}
use Rattle.paper.specs.Refusals.{Res, given, refused, not_in_grammar}
use Rattle.paper.specs.Answers.{number_of}
use Rattle.paper.specs.Codes as paper
use Rattle.paper.specs.Checking.{no_steps, code_counts, codes_counts, Checked, accepted, faulty, Report}
use Rattle.judging.specs.Tallies.{counts_in, counts_of, added, tally_all, judgement_of}
use Rattle.judging.specs.declared.Counts.{Counts}
use Rattle.judging.specs.declared.Tally.{Tally}
use Rattle.judging.specs.declared.BadCode.{BadCode}

-- one code: A, B, P and T of it, or its fault, 6, 7 or 18
unfoldable pub judged_of : Res paper.Code → Res Counts
judged_of (given c) = given (counts_in (code_counts c))
judged_of (refused n) = refused n

-- the elms that are left, after those tallied
unfoldable pub finished : Option (List paper.Elm) → Tally → Res Counts
finished none t = refused not_in_grammar
finished (some es) t = judgement_of (tally_all es t)

-- a mark other than byte 253 at a place where a mark or the end is
unfoldable pub stray : Bytes → ℕ → Bool
stray s at = not (leb (length s) at) && not (eqb (get_or s at 0) value_mark)

-- A code string: A, B, P and T, or the refusal with the number of the first bad code.
pub data Verdict : Type 0 where
  lawful : Counts → Verdict
  bad : ℕ → ℕ → Verdict

-- what the code answers, the refusal told by its number
abbrev pub verdict_in : Result Counts BadCode → Verdict
verdict_in (Ok counts) = lawful counts
verdict_in (Err b) = bad (number_of b.refusal) b.code

-- the codes that are left, after so many steps
unfoldable pub summed : Counts → Checked → Verdict
summed c (accepted cs) = lawful (added c (codes_counts cs))
summed c (faulty n k) = bad n k

-- the answer of checking
unfoldable pub verdict_of : Checked → Verdict
verdict_of (accepted cs) = lawful (counts_in (codes_counts cs))
verdict_of (faulty n k) = bad n k

-- "A number not given here, by any call, is 0": the paper's numbers in each case
unfoldable pub report_in : Result Counts BadCode → Report
report_in (Ok counts) = record { refusal = 0; code_number = 0; steps = counts_of counts }
report_in (Err b) = record { refusal = number_of b.refusal; code_number = b.code; steps = no_steps }
