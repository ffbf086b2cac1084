-- The line that the program writes, in its parts.
use Rattle.std.specs.Prelude.{ℕ, ◌+◌, [], ◌∷◌, ◌++◌, map, Result}
use Rattle.std.specs.Borrow.{Bor}
use Rattle.paper.specs.Refusals.{Res, refusal_of, answer_of}
use Rattle.paper.specs.Answers.{told_by}
use Rattle.paper.specs.declared.Refusal.{Refusal}
use Rattle.paper.specs.Bytes.{Bytes, ch}
use Rattle.paper.specs.Sizes.{number_digits, record_most}
use Rattle.paper.specs.Numbers.{decimal}
use Rattle.paper.specs.Grammar.{all_read}
use Rattle.paper.specs.Program.{drawn, answered, address_form}

-- a number and the blank behind it
unfoldable pub numbered : ℕ → Bytes
numbered n = decimal n ++ ch " " ∷ []

-- what is told by the bytes that answer, or by a refusal
abbrev pub told_bytes : Result (Bor Bytes) Refusal → Res Bytes
told_bytes answer = told_by (λ bs. bs.now) answer

-- "refusal number (0 for none), steps and answer, parted by single blanks, marks drawn", and a line end
unfoldable pub shown : Res Bytes → ℕ → Bytes
shown answer steps = ((numbered (refusal_of answer) ++ numbered steps) ++ map drawn (answer_of answer)) ++ 10 ∷ []

-- the line for a code, an address and a record, each as a line of the input has it
abbrev pub responded : Bytes → Bytes → Bytes → Bytes
responded code address item = answered code item (all_read (address_form address))

-- no line is longer: two numbers and their blanks, an answer and a line end
abbrev pub line_most : ℕ
line_most = number_digits + 1 + (number_digits + 1) + record_most + 1
