-- The numbers that the exported calls give, for each case of the paper's answers.
-- Document 01: "A number not given here, by any call, is 0."
use Rattle.std.specs.Prelude.{ℕ, length, if◌then◌else◌}
use Rattle.std.proofs.Math.Option.{Option, none, some}
use Rattle.paper.specs.Bytes.{Bytes}
use Rattle.paper.specs.Refusals.{Res, given, refused, answer_of}
use Rattle.paper.specs.Numbers.{Number}
use Rattle.paper.specs.Records.{Part, extract}

-- "The answer of finding is "found" or "missing"": 1 or 0
abbrev pub found_number : Res (Option Part) → ℕ
found_number (given (some p)) = 1
found_number (given none) = 0
found_number (refused n) = 0

-- where in the record the part starts
abbrev pub start_number : Res (Option Part) → ℕ
start_number (given (some p)) = p.start
start_number (given none) = 0
start_number (refused n) = 0

-- how many bytes extraction hands back: "an empty part when missing or refused"
abbrev pub part_length : Res (Option Part) → ℕ
part_length r = length (extract r)

-- how many bytes of the output are the answer
abbrev pub answer_length : Res Bytes → ℕ
answer_length r = length (answer_of r)

-- the most steps that a conversion can take
abbrev pub ceiling_number : Res ℕ → ℕ
ceiling_number (given n) = n
ceiling_number (refused n) = 0

-- a day's sign, 1 before day 0
abbrev pub sign_number : Res Number → ℕ
sign_number (given x) = if x.negative then 1 else 0
sign_number (refused n) = 0

-- and how far it is from day 0
abbrev pub size_number : Res Number → ℕ
size_number (given x) = x.size
size_number (refused n) = 0
