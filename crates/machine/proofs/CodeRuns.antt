-- The laws of one code's run: a code other than F on the element, and what the judgement of a code says of its head. Assumes nothing.
use Rattle.std.specs.Prelude.{if◌then◌else◌, Result, Ok, Err}
use mathlib.Core.Path.{◌≡◌, refl, sym, ap, ◌∙◌}
use mathlib.Core.Bool.{Bool, true, false}
use mathlib.Core.List.{List, [], ◌∷◌}
use mathlib.Core.Option.{Option, none, some}
use Prim.Native.Nat.{ℕ, ◌+◌, ◌-◌, ◌≤◌, ◌<◌}
use native.Mathlib.Nat.{add-zero}
use native.Mathlib.Omega.{arith}
use lib.ListN.{length}
use lib.Dec.{leb, eqb}
use borrow.Author.Tests.{le-leb, lt-leb, leb-true, leb-false}
use Rattle.paper.specs.Bytes.{Bytes, any}
use Rattle.paper.specs.Sizes.{code_most, entry_most, is_mark}
use Rattle.paper.specs.Refusals.{Res, given, refused, ◌>>=◌, ◌>>◌, left_over_entries}
use Rattle.paper.specs.declared.Refusal.{Refusal}
use Rattle.paper.specs.Answers.{number_of}
use Rattle.paper.specs.Codes.{Conversion, Elm, Code}
use Rattle.paper.specs.Grammar.{read}
use Rattle.paper.specs.Checking.{conversion_kind, all_stacked, lawful, in_grammar, judged}
use Rattle.paper.specs.Steps.{Setting, done, stepped, onward, top_entry, conversion_gives, bytes_in, charged, price, limited, conversion_step, code_run}
use Rattle.paper.specs.Converting.{within_budget}
use Rattle.codes.specs.declared.Conversion.{Conversion as Converted}
use Rattle.codes.specs.Meaning.{conversion_of}
use Rattle.codes.specs.Counting.{kind_of}
use Rattle.grammar.specs.declared.Head.{Head}
use Rattle.grammar.specs.Heads.{head, elms_from}
use Rattle.grammar.proofs.HeadReads.{functioned, read_by, head_reads, head_single, marks_read}
use Rattle.stack.specs.Slots.{element_slot, entry_at}
use Rattle.giving.specs.Bounds.{ConversionWithin, charged_most}
use Rattle.giving.proofs.Numbers.{charged_within}
use Rattle.machine.specs.declared.Meter.{Meter}
use Rattle.stack.specs.Charging.{taken_most, charge_of, handed, taken_one}
use Rattle.steps.specs.Stepping.{converted_on}
use Rattle.machine.specs.Runs.{metered, Counted, answered, stopped, read_run, Stacks, stacks, converting, judged_run, JudgedWell, judged_well}
use Rattle.stack.proofs.Charges.{gave_handed}
use Rattle.paper.proofs.Limits.{Answered}
use Rattle.machine.proofs.Within.{conversion_reads, read_has}

-- One code other than F, under a budget, by what it is charged.
module _ (meter : Meter) (taken : ℕ) (counted : Counted meter) where
  pub converting_charged : {charge : Result ℕ Refusal} {cost : ℕ} (bs : Bytes) → charge ≡ charge_of taken (length bs) (meter.budget - meter.steps)
      → charge ≡ Ok cost
      → (meter.steps + cost ≤ meter.budget) × (metered meter (converting taken (given bs)) ≡ answered bs (meter.steps + cost))
  unfolding within_budget converting charge_of
  converting_charged {charge} {cost} bs e f = go (leb (1 + taken + length bs) (meter.budget - meter.steps)) refl (sym e ∙ f)
    where
      go : (t : Bool) → leb (1 + taken + length bs) (meter.budget - meter.steps) ≡ t
          → (if t then Ok (1 + taken + length bs) else Err Refusal.OverBudget) ≡ Ok cost
          → (meter.steps + cost ≤ meter.budget) × (metered meter (converting taken (given bs)) ≡ answered bs (meter.steps + cost))
      go true q g =
          let same : 1 + taken + length bs ≡ cost = cc in
          let h : 1 + taken + length bs ≤ meter.budget - meter.steps = leb-true _ _ q in
          let fits : leb (meter.steps + (1 + taken + length bs)) meter.budget ≡ true = le-leb (meter.steps + (1 + taken + length bs)) meter.budget (omega arith) in
          (omega arith, rw (fits, same))
      go false q g = let z : ◌≡◌ {A = ℕ} 0 1 = cc in absurd (omega arith)

  pub converting_over : {charge : Result ℕ Refusal} {r : Refusal} (bs : Bytes) → charge ≡ charge_of taken (length bs) (meter.budget - meter.steps)
      → charge ≡ Err r → metered meter (converting taken (given bs)) ≡ stopped (number_of r) meter.steps
  unfolding within_budget converting charge_of
  converting_over {charge} {r} bs e f = go (leb (1 + taken + length bs) (meter.budget - meter.steps)) refl (sym e ∙ f)
    where
      go : (t : Bool) → leb (1 + taken + length bs) (meter.budget - meter.steps) ≡ t
          → (if t then Ok (1 + taken + length bs) else Err Refusal.OverBudget) ≡ Err r
          → metered meter (converting taken (given bs)) ≡ stopped (number_of r) meter.steps
      go true q g = let z : ◌≡◌ {A = ℕ} 0 1 = cc in absurd (omega arith)
      go false q g =
          let same : Refusal.OverBudget ≡ r = cc in
          let h : meter.budget - meter.steps < 1 + taken + length bs = leb-false _ _ q in
          let over : leb (meter.steps + (1 + taken + length bs)) meter.budget ≡ false = lt-leb (meter.steps + (1 + taken + length bs)) meter.budget (omega arith) in
          rw (over, ← same)

  pub converting_refused : {answer : Result ℕ Refusal} {r : Refusal} (work : Bytes) → answer ≡ Err r
      → metered meter (converting taken (handed answer work)) ≡ stopped (number_of r) meter.steps
  unfolding within_budget converting
  converting_refused work e = rw e

-- what a code is charged is within what a step may take
pub charge_takes : {n : ℕ} → n ≤ charged_most → n ≤ taken_most
unfolding entry_most
charge_takes h = omega arith

-- what the code gave on the element in its slot
pub single_gave : (answer : Result ℕ Refusal) {work' element : Bytes} {taken : ℕ} (scratch : Bytes) (lens : List ℕ)
    (q : Converted) (c : Conversion) (work : Bytes)
    → element ≡ entry_at scratch lens element_slot → Answered (limited entry_most (conversion_gives c element)) work work' answer
    → taken ≡ charged (kind_of q) 0 (length element)
    → converting (charged (kind_of q) 0 (taken_one scratch lens element_slot)) (converted_on c scratch lens element_slot) ≡ converting taken (handed answer work')
single_gave answer scratch lens q c work e g t = rw (gave_handed answer _ work g, t, e)

-- the paper's run of it
single_run : (c : Setting) (k : Conversion)
    → code_run entry_most c (Code.single k)
    ≡ converting (charged (conversion_kind k) (length c.item) (length c.previous)) (limited entry_most (conversion_gives k c.previous))
unfolding code_run conversion_step converting stepped price bytes_in
single_run c k = go (limited entry_most (conversion_gives k c.previous))
  where
    go : (x : Res Bytes)
        → stepped (x >>= λ put. given (price (conversion_kind k) c.item (c.previous ∷ []) (put ∷ []), put)) done
        ≡ converting (charged (conversion_kind k) (length c.item) (length c.previous)) x
    go (refused n) = refl
    go (given bs) = rw (add-zero, add-zero)

-- A code that was judged well is what its head says.
judging : Option Code → Res Code
judging o = in_grammar o >>= λ c. lawful c >> given c

well_given : {r : Res Code} {n : ℕ} → JudgedWell r → r ≡ refused n → ⊥
well_given judged_well e = let z : ◌≡◌ {A = ℕ} 0 1 = cc in omega arith

judged_head : (s : Bytes) → JudgedWell (judged s) → judged s ≡ judging (read_by s (head s))
unfolding judged judging
judged_head s well = marked (any is_mark s) refl
  where
    marked : (t : Bool) → any is_mark s ≡ t → judging (read s) ≡ judging (read_by s (head s))
    marked true e = absurd (well_given well (ap judging (marks_read s e)))
    marked false e = ap judging (head_reads s e)

-- an F code: its elms are there, with room for each, and its run is theirs
module _ (s : Bytes) (well : JudgedWell (judged s)) where
  function_judged : (o : Option (List Elm)) → judged s ≡ judging (functioned o)
      → Stacks o 0 × ((c : Setting) → judged_run c (judged s) ≡ onward (read_run c o []) top_entry)
  unfolding judging lawful judged_run read_run code_run
  function_judged none e = absurd (well_given well e)
  function_judged (some es) e = go (all_stacked es 0) refl
    where
      one : (n : ℕ) → all_stacked es 0 ≡ given n → (t : Bool) → eqb n 1 ≡ t
          → Stacks (some es) 0 × ((c : Setting) → judged_run c (judged s) ≡ onward (read_run c (some es) []) top_entry)
      one n f true k = (stacks f, λ c. rw (e, f, k))
      one n f false k = absurd (well_given {n = left_over_entries} well (e ∙ rw (f, k)))

      go : (r : Res ℕ) → all_stacked es 0 ≡ r → Stacks (some es) 0 × ((c : Setting) → judged_run c (judged s) ≡ onward (read_run c (some es) []) top_entry)
      go (given n) f = one n f (eqb n 1) refl
      go (refused n) f = absurd (well_given {n = n} well (e ∙ rw f))

  pub function_code : {first : ℕ} → head s ≡ some (Head.Function first)
      → Stacks (elms_from s first) 0 × ((c : Setting) → judged_run c (judged s) ≡ onward (read_run c (elms_from s first) []) top_entry)
  function_code {first} h = function_judged (elms_from s first) (judged_head s well ∙ ap (λ (x : Option Head). judging (read_by s x)) h)

  pub bad_code : head s ≡ none → ⊥
  unfolding judging
  bad_code h = well_given well (judged_head s well ∙ ap (λ (x : Option Head). judging (read_by s x)) h)

  -- any other: its run is one step, and its numbers are within what the grammar keeps them
  module _ (short : length s ≤ code_most) {q : Converted} (h : head s ≡ some (Head.Single q)) where
    pub single_within : ConversionWithin s q
    single_within = read_has (conversion_reads s short 0) (head_single s h)

    pub single_code : (c : Setting)
        → judged_run c (judged s) ≡ converting (charged (kind_of q) 0 (length c.previous)) (limited entry_most (conversion_gives (conversion_of s q) c.previous))
    unfolding judging lawful judged_run
    single_code c =
        rw (judged_head s well, h)
        (single_run c (conversion_of s q)
        ∙ ap (λ (n : ℕ). converting n (limited entry_most (conversion_gives (conversion_of s q) c.previous))) (charged_within _ _ single_within))
