-- The line that is written: how long its parts are, and that they make the paper's line.
use Prim.Native.Nat.{ℕ, ◌+◌, ◌≤◌}
use mathlib.Core.Path.{◌≡◌, ap, ◌∙◌}
use mathlib.Core.List.{[], ◌∷◌, ◌++◌, map, append_assoc}
use lib.ListN.{length, length-append, length-map}
use native.Mathlib.Omega.{arith}
use Rattle.paper.specs.Bytes.{Bytes}
use Rattle.paper.specs.Sizes.{number_digits}
use Rattle.paper.specs.Refusals.{Res, refusal_of, answer_of}
use Rattle.paper.specs.Numbers.{decimal}
use Rattle.paper.specs.Converting.{Outcome}
use Rattle.paper.specs.Program.{drawn, printed}
use Rattle.paper.proofs.Numerals.{length_decimal}
use Rattle.std.specs.Prelude.{Result, Ok, Err}
use Rattle.std.specs.Prelude.{Option as Maybe}
use Rattle.std.specs.Borrow.{Bor}
use Rattle.std.specs.Option.{MatchOption}
use Rattle.std.specs.Result.{result_err, result_unwrap_or}
use Rattle.paper.specs.Answers.{number_of}
use Rattle.paper.specs.declared.Refusal.{Refusal}
use Rattle.console.specs.Lines.{numbered, shown, told_bytes}

-- a number and its blank
pub numbered_short : (n : ℕ) → length (numbered n) ≤ number_digits + 1
unfolding numbered
numbered_short n = omega (arith, length-append (decimal n) (32 ∷ []), length_decimal n)

-- a line is no longer than its parts may be
pub shown_short : (answer : Res Bytes) (steps : ℕ) → length (shown answer steps) ≤ number_digits + 1 + (number_digits + 1) + length (answer_of answer) + 1
unfolding shown
shown_short answer steps =
    omega (
      arith,
      length-append ((numbered (refusal_of answer) ++ numbered steps) ++ map drawn (answer_of answer)) (10 ∷ []),
      length-append (numbered (refusal_of answer) ++ numbered steps) (map drawn (answer_of answer)),
      length-append (numbered (refusal_of answer)) (numbered steps),
      length-map (answer_of answer) drawn,
      numbered_short (refusal_of answer),
      numbered_short steps,
    )

-- the line in its parts is the paper's
pub shown_printed : (o : Outcome) → shown o.answer o.steps ≡ printed o
unfolding shown numbered printed
shown_printed o = simp append_assoc

-- the number that is told of a refusal, 0 for none, and the bytes that answer
pub number_told : (answer : Result (Bor Bytes) Refusal) {e : Maybe Refusal} {n : ℕ} → e ≡ result_err answer → MatchOption e (n ≡ 0) (λ r. n ≡ number_of r)
    → n ≡ refusal_of (told_bytes answer)
number_told (Ok bs) f h = rw f at h
number_told (Err r) f h = rw f at h

pub bytes_told : (answer : Result (Bor Bytes) Refusal) (none : Bor Bytes) {bs : Bor Bytes} → none.now ≡ [] → bs ≡ result_unwrap_or answer none
    → bs.now ≡ answer_of (told_bytes answer)
bytes_told (Ok text) none n e = ap (λ (b : Bor Bytes). b.now) e
bytes_told (Err r) none n e = ap (λ (b : Bor Bytes). b.now) e ∙ n
