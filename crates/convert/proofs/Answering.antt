-- How the walk ends: converting's own answer and output, against the paper's outcome. Assumes nothing.
use Rattle.std.specs.Prelude.{Result, Ok, Err}
use Rattle.std.specs.Result.{result_unwrap_or}
use Prim.Native.Nat.{ℕ, ◌+◌, ◌-◌, ◌≤◌}
use mathlib.Core.Path.{◌≡◌, refl}
use mathlib.Core.Bool.{Bool, true, false}
use mathlib.Core.List.{◌++◌, append-nil}
use native.Mathlib.Omega.{arith}
use lib.ListN.{length, take, replicate, length-replicate}
use lib.Seq.{drop-length}
use native.Mathlib.Nat.{sub-zero}
use lib.Dec.{leb}
use borrow.Author.Tests.{leb-true}
use Rattle.paper.specs.Bytes.{Bytes, buffer}
use Rattle.paper.specs.Answers.{told}
use Rattle.paper.specs.Refusals.{Res, given, refused, ◌>>◌, refuse◌unless◌, answer_of, short_output}
use Rattle.paper.specs.Converting.{Ending, Outcome, fitted, finished, output_after}
use Rattle.paper.specs.declared.Refusal.{Refusal}
use Rattle.lent.specs.Over.{over}
use Rattle.elements.specs.Gather.{HoldsAnswer, walked_of}
use Rattle.convert.specs.Finishing.{fitted_in, finished_out}

-- zeros laid from a place to the end
zeros_behind : (out : Bytes) (n : ℕ) → n ≤ length out → over out n (replicate (length out - n) 0) ≡ take n out ++ replicate (length out - n) 0
unfolding over
zeros_behind out n h =
    let all : n + length (replicate {A = ℕ} (length out - n) 0) ≡ length out = omega (arith, length-replicate {A = ℕ} (length out - n) 0) in
    rw (all, drop-length out) (append-nil _)

-- behind the answer, and throughout where there is none
pub filled : (out : Bytes) (r : Result ℕ Refusal) → result_unwrap_or r 0 ≤ length out
    → over out (result_unwrap_or r 0) (replicate (length out - result_unwrap_or r 0) 0) ≡ finished_out out (told r)
filled out (Ok n) h = zeros_behind out n h
filled out (Err e) h = rw (zeros_behind out 0 h, sub-zero)

-- an ending with these steps
abbrev at : ℕ → Res Bytes → Outcome
at steps r = record { answer = r; steps = steps }

-- what a walk comes to, against the paper's outcome: converting's own answer and output
pub finished_outcome : (out : Bytes) (o : Outcome) → HoldsAnswer out (answer_of o.answer)
    → (fitted_in (length out) (walked_of o) ≡ walked_of (finished (length out) o))
    × (finished_out out (fitted_in (length out) (walked_of o)).answer ≡ output_after (length out) (finished (length out) o))
unfolding finished fitted output_after buffer HoldsAnswer
finished_outcome out o held = by o.answer held
  where
    room : (bs : Bytes) → (length bs ≤ length out → take (length bs) out ≡ bs) → (t : Bool) → leb (length bs) (length out) ≡ t
        → (◌≡◌ {A = Ending ℕ} (record { answer = (refuse short_output unless t) >> given (length bs); steps = o.steps }) (walked_of (at o.steps ((refuse short_output unless t) >> given bs))))
        × (finished_out out ((refuse short_output unless t) >> given (length bs)) ≡ output_after (length out) (at o.steps ((refuse short_output unless t) >> given bs)))
    room bs held true e = (refl, rw (held (leb-true _ _ e)))
    room bs held false e = (refl, rw sub-zero)

    by : (r : Res Bytes) → HoldsAnswer out (answer_of r)
        → (fitted_in (length out) (walked_of (at o.steps r)) ≡ walked_of (finished (length out) (at o.steps r)))
        × (finished_out out (fitted_in (length out) (walked_of (at o.steps r))).answer ≡ output_after (length out) (finished (length out) (at o.steps r)))
    by (refused n) held = (refl, rw sub-zero)
    by (given bs) held = room bs held (leb (length bs) (length out)) refl
