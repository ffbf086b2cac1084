-- Document 02, L4, at the console: the line that the program writes for an A code.
use Rattle.std.specs.Prelude.{ℕ, ◌+◌, [], ◌∷◌, ◌++◌, Result}
use Rattle.std.specs.Borrow.{Bor}
use Rattle.paper.specs.Answers.{told_by}
use Rattle.paper.specs.declared.Refusal.{Refusal}
use Rattle.paper.specs.Bytes.{Bytes, ch}
use Rattle.paper.specs.Sizes.{number_digits, code_most}
use Rattle.paper.specs.Refusals.{Res, refusal_of, answer_of}
use Rattle.paper.specs.Numbers.{decimal}
use Rattle.paper.specs.Program.{line}
use Rattle.algebra.specs.Showing.{show}

-- what is told by the bytes of an F text, or by a refusal
abbrev pub told_bytes : Result (Bor Bytes) Refusal → Res Bytes
told_bytes shown = told_by (λ bs. bs.now) shown

-- a refusal, 0 for none, and an F text, parted by a blank, and a line end
unfoldable pub told_of : Res Bytes → Bytes
told_of r = ((decimal (refusal_of r) ++ ch " " ∷ []) ++ answer_of r) ++ 10 ∷ []

-- line 1 is the A code; no F text is longer than 512, so that 16 is never told
unfoldable pub formula : Bytes → Bytes
formula input = told_of (show (line 0 input) code_most)

-- no line is longer: a number and its blank, an F text and a line end
abbrev pub line_most : ℕ
line_most = number_digits + 1 + code_most + 1
