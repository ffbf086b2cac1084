-- From an outcome of converting to the line: its numbers are short enough to write, its answer fits, and no line is too long.
use Prim.Native.Nat.{ℕ, ◌+◌, ◌-◌, ◌≤◌}
use mathlib.Core.Path.{◌≡◌, refl, sym, ap, ◌∙◌}
use mathlib.Core.List.{List, []}
use mathlib.Core.Option.{Option, none, some}
use lib.ListN.{length, take, replicate, length-replicate}
use lib.Seq.{take_at}
use native.Mathlib.Omega.{arith}
use Rattle.paper.specs.Bytes.{Bytes, buffer, bytes}
use Rattle.paper.specs.Sizes.{number_most, record_most, entry_most, scratch_least}
use Rattle.paper.specs.Numbers.{digits, trimmed, decimal}
use Rattle.paper.specs.Codes.{Code}
use Rattle.paper.specs.Refusals.{Res, given, refused, refusal_of, answer_of, bad_address}
use Rattle.paper.specs.Grammar.{all_read}
use Rattle.paper.specs.Converting.{Outcome, finished, carried_out, within_budget, ready, convert, output_after}
use Rattle.paper.specs.Program.{Address, program_budget, line, address_form, printed, answered, program}
use Rattle.paper.proofs.Limits.{fitted_short}
use Rattle.paper.proofs.Budget.{steps_within_budget}
use Rattle.paper.proofs.Numbered.{converting_told}
use Rattle.lent.specs.Over.{over}
use Rattle.lent.proofs.Laws.{length_over}
use Rattle.std.specs.Prelude.{Result, Ok, Err}
use Rattle.paper.specs.Answers.{told, sized, number_of}
use Rattle.paper.specs.declared.Refusal.{Refusal}
use Rattle.paper.specs.declared.Address.{Address as CodedAddress}
use Rattle.convert.specs.declared.Converted.{Converted}
use Rattle.grammar.specs.Addresses.{address_read}
use Rattle.console.specs.Lines.{numbered, shown, line_most}
use Rattle.console.proofs.Writing.{shown_printed, shown_short}

pub answer_fits : (item string : Bytes) (a v s budget room scratch : ℕ) → length (answer_of (convert item string a v s budget room scratch).answer) ≤ room
unfolding convert carried_out finished
answer_fits item string a v s budget room scratch = go (ready item string a v s scratch)
  where
    go : (r : Res (List Code)) → length (answer_of (carried_out (within_budget budget 0) item a v s room r).answer) ≤ room
    go (refused n) = omega arith
    go (given cs) = fitted_short room _

-- the answer in front of the output
pub answer_in_front : (room : ℕ) (o : Outcome) → take (length (answer_of o.answer)) (output_after room o) ≡ answer_of o.answer
unfolding output_after buffer
answer_in_front room o = take_at (answer_of o.answer) _ _ refl

-- the output and the scratch that the program lends
pub lent_output : length {A = ℕ} (replicate 32_768 0) ≡ record_most
lent_output = length-replicate {A = ℕ} 32_768 0

pub lent_scratch : length {A = ℕ} (replicate 20_480 0) ≡ scratch_least
unfolding scratch_least entry_most
lent_scratch = length-replicate {A = ℕ} 20_480 0

-- What the program converts, as `convert` answers it.
module _ (item string : Bytes) (a v s : ℕ) {room scratch : ℕ} (r : Converted) {out : Bytes}
    (e : told r.answer ≡ sized (convert item string a v s program_budget room scratch).answer)
    (k : r.steps ≡ (convert item string a v s program_budget room scratch).steps)
    (f : out ≡ output_after room (convert item string a v s program_budget room scratch))
    (wide : room ≡ record_most)
    (deep : scratch ≡ scratch_least) where
  abbrev outcome : Outcome
  outcome = convert item string a v s program_budget room scratch

  -- the steps are short enough to write
  pub steps_short : r.steps ≤ number_most
  steps_short = omega (arith, k, steps_within_budget item string a v s program_budget room scratch)

  -- the answer stands in front of the output
  pub text_is : {n : ℕ} → r.answer ≡ Ok n → (outcome.answer ≡ given (take n out)) × (n ≤ room)
  text_is {n} g = go outcome.answer refl (rw g at e)
    where
      go : (x : Res Bytes) → outcome.answer ≡ x → given n ≡ sized x → (outcome.answer ≡ given (take n out)) × (n ≤ room)
      go (given bs) h j =
          let long : n ≡ length bs = cc in
          let counted : n ≡ length (answer_of outcome.answer) = omega (arith, ap (λ (x : Res Bytes). length (answer_of x)) h) in
          let front = ap (λ (k : ℕ). take k out) counted ∙ ap (take (length (answer_of outcome.answer))) f ∙ answer_in_front room outcome ∙ ap answer_of h in
          (h ∙ ap given (sym front), omega (arith, answer_fits item string a v s program_budget room scratch, ap (λ (x : Res Bytes). length (answer_of x)) h))
      go (refused m) h j = cc

  pub refusal_is : {q : Refusal} → r.answer ≡ Err q → outcome.answer ≡ refused (number_of q)
  refusal_is {q} g = go outcome.answer refl (rw g at e)
    where
      go : (x : Res Bytes) → outcome.answer ≡ x → refused (number_of q) ≡ sized x → outcome.answer ≡ refused (number_of q)
      go (given bs) h j = cc
      go (refused m) h j = h ∙ cc

  -- the line is the paper's
  pub line_is : {x : Res Bytes} → outcome.answer ≡ x → {o : Option Address} → o ≡ some (record { a = a; v = v; s = s }) → shown x r.steps ≡ answered string item o
  unfolding answered
  line_is {x} h g =
      ap (λ (y : Res Bytes). shown y r.steps) (sym h)
      ∙ ap (shown outcome.answer) k
      ∙ shown_printed outcome
      ∙ sym (ap (answered string item) g ∙ ap (λ (n : ℕ). printed (convert item string a v s program_budget n scratch_least)) (sym wide) ∙ ap (λ (n : ℕ). printed (convert item string a v s program_budget room n)) (sym deep))

-- the address as the code has it
pub address_bad : (o : Option Address) {q : Refusal} → Err q ≡ address_read o → (o ≡ none) × (q ≡ Refusal.BadAddress)
address_bad none e = (refl, cc)
address_bad (some p) e = cc

pub address_good : (o : Option Address) {p : CodedAddress} → Ok p ≡ address_read o → o ≡ some (record { a = p.a; v = p.v; s = p.s })
address_good none e = cc
address_good (some p) {p = q} e = let same : q ≡ record { a = p.a; v = p.v; s = p.s } = cc in rw same

-- "it prints `4 0 ` and a line end"
pub refused_line : (string item : Bytes) {o : Option Address} {q : Refusal} → (o ≡ none) × (q ≡ Refusal.BadAddress) → shown (refused (number_of q)) 0 ≡ answered string item o
unfolding shown numbered answered bytes decimal digits trimmed
refused_line string item w = ap (λ (q : Refusal). shown (refused (number_of q)) 0) w.1 ∙ sym (ap (answered string item) w.0)

-- no line of the program's is too long
answered_short : (string item : Bytes) (o : Option Address) → length (answered string item o) ≤ line_most
unfolding answered bytes
answered_short string item none = let e : length (answered string item none) ≡ 5 = refl in omega (arith, e)
answered_short string item (some p) =
    let o : Outcome = convert item string p.a p.v p.s program_budget record_most scratch_least in
    omega (
      arith,
      ap length (shown_printed o),
      shown_short o.answer o.steps,
      answer_fits item string p.a p.v p.s program_budget record_most scratch_least,
    )

pub program_short : (input : Bytes) → length (program input) ≤ line_most
unfolding program
program_short input = answered_short (line 0 input) (line 2 input) (all_read (address_form (line 1 input)))

-- what was written lies within the line
pub written : (line input : Bytes) {r : ℕ} {now : Bytes} → line_most ≤ length line → r ≡ length (program input) → now ≡ over line 0 (program input) → r ≤ length now
written line input h e f =
    let p : 0 + length (program input) ≤ length line = omega (arith, program_short input) in
    omega (arith, ap length f, length_over line 0 (program input) p)
