-- The first line of the input is the A code; what is told of it is the program's line, and lies within its buffer. Assumes nothing.
use Prim.Native.Nat.{ℕ, ◌+◌, ◌-◌, ◌≤◌}
use native.Mathlib.Omega.{arith}
use native.Mathlib.Nat.{sub-zero}
use mathlib.Core.Path.{◌≡◌, sym, ap, ◌∙◌}
use mathlib.Core.List.{[], ◌∷◌, ◌++◌}
use lib.ListN.{length, take, drop, length-append}
use Rattle.paper.specs.Bytes.{Bytes, ch, buffer}
use Rattle.paper.specs.Sizes.{code_most}
use Rattle.paper.specs.Refusals.{Res, given, refused, refusal_of, answer_of}
use Rattle.paper.specs.Numbers.{decimal}
use Rattle.paper.specs.Converting.{fitted}
use Rattle.paper.specs.Program.{line, program_reads}
use Rattle.std.specs.Prelude.{Result, Ok, Err}
use Rattle.std.specs.Prelude.{Option as Maybe}
use Rattle.std.specs.Borrow.{Bor}
use Rattle.std.specs.Option.{MatchOption}
use Rattle.std.specs.Result.{result_err, result_unwrap_or}
use Rattle.paper.specs.Answers.{number_of, told, sized}
use Rattle.paper.specs.declared.Refusal.{Refusal}
use Rattle.paper.proofs.Limits.{fitted_short}
use Rattle.paper.proofs.Numerals.{length_decimal}
use Rattle.lent.specs.Over.{over}
use Rattle.lent.specs.Scan.{upto, piece}
use Rattle.lent.proofs.Laws.{length_over}
use Rattle.lent.proofs.Pieces.{piece_here}
use Rattle.algebra.specs.Showing.{shown_text, show}
use Rattle.algebra.proofs.Telling.{Told, Handed, refused_is, given_is, handed_told}
use Rattle.formula.specs.Formula.{told_bytes, told_of, formula, line_most}

-- the number that is told of a refusal, 0 for none, and the bytes that answer
pub number_told : (shown : Result (Bor Bytes) Refusal) {e : Maybe Refusal} {n : ℕ} → e ≡ result_err shown → MatchOption e (n ≡ 0) (λ r. n ≡ number_of r)
    → n ≡ refusal_of (told_bytes shown)
number_told (Ok bs) f h = rw f at h
number_told (Err r) f h = rw f at h

pub bytes_told : (shown : Result (Bor Bytes) Refusal) (none : Bor Bytes) {bs : Bor Bytes} → none.now ≡ [] → bs ≡ result_unwrap_or shown none
    → bs.now ≡ answer_of (told_bytes shown)
bytes_told (Ok text) none n e = ap (λ (b : Bor Bytes). b.now) e
bytes_told (Err r) none n e = ap (λ (b : Bor Bytes). b.now) e ∙ n

-- "line 1 the code"
pub first_line : (input : Bytes) {read code : Bytes} → read ≡ take program_reads input → code ≡ piece 10 0 read → code ≡ line 0 input
unfolding line
first_line input e f = f ∙ ap (piece 10 0) e

-- What showing the first line answered and wrote, into an output of 512 bytes.
module _ (input code : Bytes) (e : code ≡ line 0 input) (room : ℕ) (g : room ≡ code_most) (r : Result ℕ Refusal) (out : Bytes)
    (v : told r ≡ sized (show code room))
    (h : out ≡ buffer room (answer_of (show code room))) where
  showed : Told (show (line 0 input) code_most) out r
  showed =
      let handed : Handed code_most (show (line 0 input) code_most) r out = record { value = rw (e, g) at v; out_after = rw (e, g) at h } in
      handed_told code_most (show (line 0 input) code_most) r handed

  pub showed_text : {n : ℕ} → r ≡ Ok n → (told_of (given (take n out)) ≡ formula input) × (n ≤ length out)
  unfolding formula
  showed_text i =
      let w = given_is (show (line 0 input) code_most) out showed i in
      (ap told_of (sym w.0), w.1)

  pub showed_refusal : {q : Refusal} → r ≡ Err q → told_of (refused (number_of q)) ≡ formula input
  unfolding formula
  showed_refusal i = ap told_of (sym (refused_is (show (line 0 input) code_most) out showed i))

-- no line is too long
formula_short : (input : Bytes) → length (formula input) ≤ line_most
unfolding formula told_of show
formula_short input =
    let x : Res Bytes = fitted code_most (shown_text (line 0 input)) in
    let number : Bytes = decimal (refusal_of x) in
    omega (
      arith,
      fitted_short code_most (shown_text (line 0 input)),
      length_decimal (refusal_of x),
      length-append ((number ++ ch " " ∷ []) ++ answer_of x) (10 ∷ []),
      length-append (number ++ ch " " ∷ []) (answer_of x),
      length-append number (ch " " ∷ []),
    )

pub written : (line input : Bytes) {r : ℕ} {now : Bytes} → line_most ≤ length line → r ≡ length (formula input) → now ≡ over line 0 (formula input)
    → r ≤ length now
written line input h e f =
    let p : 0 + length (formula input) ≤ length line = omega (arith, formula_short input) in
    omega (arith, ap length f, length_over line 0 (formula input) p)
