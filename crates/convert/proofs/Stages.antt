-- Converting in its stages: the tests before the run, each with its own outcome, and the run. Assumes nothing.
use Prim.Native.Nat.{ℕ, zero, suc, ◌≤◌, ◌<◌}
use mathlib.Core.Path.{◌≡◌, refl, sym, ap, ◌∙◌, subst}
use mathlib.Core.Bool.{Bool, true, false, ◌&&◌}
use mathlib.Core.List.{List, [], ◌∷◌}
use native.Mathlib.Omega.{arith}
use native.Mathlib.Nat.{sub-zero}
use lib.ListN.{length, replicate}
use lib.Dec.{leb, ltb, eqb, lit≤}
use borrow.Author.Tests.{le-leb, lt-leb, leb-true}
use Rattle.paper.specs.Bytes.{Bytes, any, buffer}
use Rattle.paper.specs.Sizes.{entry_most, record_most, attribute_most, position_most, scratch_least, is_outer_mark}
use Rattle.paper.specs.Refusals.{Res, given, refused, ◌>>=◌, ◌>>◌, refuse◌unless◌, refuse◌when◌, refusal_of, over_long_record, bad_byte, bad_address, short_scratch}
use Rattle.paper.specs.Answers.{told, sized}
use Rattle.paper.specs.Records.{lawful_record, lawful_address, lawful_id, path, reads, Part, Turn, whole, text_or_empty}
use Rattle.paper.specs.Checking.{Checked, accepted, faulty, check, checked_codes, codes_of, codes_counts}
use Rattle.paper.specs.Codes.{Code}
use Rattle.paper.specs.Converting.{Ending, Outcome, within_budget, from_one, elements_run, run, lawful_place, lawful_code, ready, finished, carried_out, convert, output_after, scratch_after}
use Rattle.paper.proofs.Truths.{both, unless_passed, when_passed, zero_too}
use Rattle.paper.proofs.Refusing.{Passed, passed, never_given}
use Rattle.paper.proofs.Predicates.{and_all}
use Rattle.paper.proofs.Splitting.{Told, absent, present, Inside, inside_bounds, part_at_inside}
use mathlib.Core.Option.{Option}
use Rattle.records.specs.Found.{lawful_find}
use Rattle.judging.specs.Tallies.{counts_in}
use Rattle.judging.specs.Verdicts.{Verdict, verdict_of}
use Rattle.judging.specs.declared.Counts.{Counts}
use Rattle.convert.specs.Ceiling.{counted_of}
use Rattle.convert.specs.Finishing.{converted_in, fitted_in, finished_out}
use Rattle.convert.specs.declared.Converted.{Converted}
use Rattle.convert.proofs.Answering.{finished_outcome}
use Rattle.elements.specs.Running.{codes_in, Accepts, elements_outcome, position, Walks}
use Rattle.elements.specs.Gather.{walked_in, walked_of}
use Rattle.elements.specs.declared.Walked.{Walked}
use Rattle.machine.specs.declared.Stopped.{Stopped}
use Rattle.std.specs.Prelude.{Result, max}
use Rattle.elements.specs.Walk.{walked}
use Rattle.elements.proofs.Walking.{elements_walked}

-- the code's limit on the scratch is the definitions'
pub scratch_short : (n : ℕ) → n < 20_480 → n < scratch_least
unfolding scratch_least entry_most
scratch_short n h = h

pub scratch_enough : (n : ℕ) → 20_480 ≤ n → scratch_least ≤ n
unfolding scratch_least entry_most
scratch_enough n h = h

-- what a verdict says of the paper's check, what the string counts beside it
abbrev pub counts_or : Checked → Res Counts
counts_or c = checked_codes c >>= λ cs. given (counts_in (codes_counts cs))

pub counts_told : (c : Checked) {counts : Counts} → Verdict.lawful counts ≡ verdict_of c → given counts ≡ counts_or c
unfolding verdict_of checked_codes
counts_told (accepted cs) e = cc
counts_told (faulty n k) e = let z : ◌≡◌ {A = ℕ} 0 1 = cc in absurd (omega arith)

pub fault_told : (c : Checked) {n k : ℕ} → Verdict.bad n k ≡ verdict_of c → refused n ≡ counts_or c
unfolding verdict_of checked_codes
fault_told (accepted cs) e = let z : ◌≡◌ {A = ℕ} 0 1 = cc in absurd (omega arith)
fault_told (faulty n k) e = cc

-- What is known where the place is lawful and the string accepted, with what it counts.
pub record Counted (item string : Bytes) (a v s : ℕ) (counts : Counts) : Type 0 where
  pub lawful : lawful_find item a v s ≡ given tt
  pub accepts : Accepts string
  pub as_counted : counts_in (codes_counts (codes_in string)) ≡ counts

-- and where the scratch is long enough besides
pub record Readied (item string : Bytes) (a v s scratch : ℕ) : Type 0 where
  pub lawful : lawful_find item a v s ≡ given tt
  pub accepts : Accepts string
  pub enough : scratch_least ≤ scratch

-- a refusal before the run: "0 when the run never began"
abbrev pub refused_at_once : ℕ → Outcome
refused_at_once n = record { answer = refused n; steps = 0 }

module _ (item string : Bytes) (a v s : ℕ) where
  -- the refusals of the place, and then of the string
  pub place_refused : {n : ℕ} → refused n ≡ lawful_find item a v s → refused n ≡ counted_of item string a v s
  unfolding lawful_find lawful_place counted_of
  place_refused e = rw (sym e)

  module _ (lawful : given tt ≡ lawful_find item a v s) where
    pub code_counted : {counts : Counts} → Verdict.lawful counts ≡ verdict_of (check string) → given counts ≡ counted_of item string a v s
    unfolding lawful_find lawful_place counted_of
    code_counted e = rw (sym lawful) (counts_told (check string) e)

    pub code_refused : {n k : ℕ} → Verdict.bad n k ≡ verdict_of (check string) → refused n ≡ counted_of item string a v s
    unfolding lawful_find lawful_place counted_of
    code_refused e = rw (sym lawful) (fault_told (check string) e)

  pub counted : {counts : Counts} → given counts ≡ counted_of item string a v s → Counted item string a v s counts
  unfolding lawful_find lawful_place counted_of codes_in checked_codes
  counted {counts} e = go (lawful_find item a v s) (check string) refl refl e
    where
      go : (p : Res (Unit {0})) (c : Checked) → lawful_find item a v s ≡ p → check string ≡ c → given counts ≡ p >> counts_or c → Counted item string a v s counts
      go (given u) (accepted cs) f g h =
          let same : counts_in (codes_counts cs) ≡ counts = cc in
          record { lawful = f; accepts = g ∙ ap accepted (sym (ap codes_of g)); as_counted = ap (λ (c : Checked). counts_in (codes_counts (codes_of c))) g ∙ same }
      go (given u) (faulty n k) f g h = never_given (sym h)
      go (refused n) c f g h = never_given (sym h)

  -- the refusals before the run are those, and then 8
  module _ (scratch : ℕ) where
    pub refused_before : {n : ℕ} → refused n ≡ counted_of item string a v s → refused n ≡ ready item string a v s scratch
    unfolding counted_of ready lawful_code checked_codes
    refused_before {n} e = go (lawful_place item a v s) (check string) e
      where
        go : (p : Res (Unit {0})) (c : Checked) → refused n ≡ p >> counts_or c
            → refused n ≡ p >> (checked_codes c >>= λ cs. (refuse short_scratch unless leb scratch_least scratch) >> given cs)
        go (given u) (accepted cs) e = never_given e
        go (given u) (faulty k l) e = ap (λ (x : Res Counts). refused (refusal_of x)) e
        go (refused k) c e = ap (λ (x : Res Counts). refused (refusal_of x)) e

    passes : {counts : Counts} → Counted item string a v s counts → ready item string a v s scratch ≡ (refuse short_scratch unless leb scratch_least scratch) >> given (codes_in string)
    unfolding ready lawful_find lawful_place lawful_code checked_codes
    passes c = rw (c.lawful, c.accepts)

    pub refused_short : {counts : Counts} → given counts ≡ counted_of item string a v s → scratch < 20_480 → refused short_scratch ≡ ready item string a v s scratch
    refused_short e h = rw (passes (counted e), lt-leb scratch_least scratch (scratch_short scratch h))

    pub ready_given : {counts : Counts} → given counts ≡ counted_of item string a v s → 20_480 ≤ scratch → given (codes_in string) ≡ ready item string a v s scratch
    ready_given e h = rw (passes (counted e), le-leb scratch_least scratch (scratch_enough scratch h))

    pub readied : {cs : List Code} → given cs ≡ ready item string a v s scratch → Readied item string a v s scratch
    unfolding ready lawful_find lawful_place lawful_code codes_in checked_codes
    readied {cs} e = go (lawful_find item a v s) (check string) (leb scratch_least scratch) refl refl refl e
      where
        go : (p : Res (Unit {0})) (c : Checked) (t : Bool) → lawful_find item a v s ≡ p → check string ≡ c → leb scratch_least scratch ≡ t
            → given cs ≡ p >> (checked_codes c >>= λ cs. (refuse short_scratch unless t) >> given cs) → Readied item string a v s scratch
        go (given u) (accepted cs) true f g h e =
            record { lawful = f; accepts = g ∙ ap accepted (sym (ap codes_of g)); enough = leb-true scratch_least scratch h }
        go (given u) (accepted cs) false f g h e = never_given (sym e)
        go (given u) (faulty n k) t f g h e = never_given (sym e)
        go (refused n) c t f g h e = never_given (sym e)

    -- a refusal, or the run
    module _ (budget room : ℕ) where
      pub refused_convert : {n : ℕ} → refused n ≡ ready item string a v s scratch → convert item string a v s budget room scratch ≡ refused_at_once n
      unfolding convert carried_out
      refused_convert e = rw (sym e)

      pub converted_run : {cs : List Code} → given cs ≡ ready item string a v s scratch
          → convert item string a v s budget room scratch ≡ finished room (within_budget budget 0 (run item a v s cs))
      unfolding convert carried_out
      converted_run e = rw (sym e)

-- what a lawful place says of its numbers
pub record Lawful (item : Bytes) (v s : ℕ) : Type 0 where
  pub record_fits : length item ≤ record_most
  pub values : v ≤ position_most
  pub subvalues : s ≤ position_most
  pub whole : v ≡ 0 → s ≡ 0

first : {r : Res (Unit {0})} {rs : List (Res (Unit {0}))} → Passed (r ∷ rs) → r ≡ given tt
first (and_all h hs) = h

second : {r q : Res (Unit {0})} {rs : List (Res (Unit {0}))} → Passed (r ∷ q ∷ rs) → q ≡ given tt
second (and_all h hs) = first hs

size_passed : (item : Bytes) → lawful_record item ≡ given tt → length item ≤ record_most
unfolding lawful_record
size_passed item e =
    let p = passed ((refuse over_long_record unless leb (length item) record_most) ∷ (refuse bad_byte when any is_outer_mark item) ∷ []) (lawful_id item) e in
    leb-true _ _ (unless_passed over_long_record _ (first p.0))

address_passed : (a v s : ℕ) → lawful_address a v s ≡ given tt → (v ≤ position_most) × (s ≤ position_most) × (v ≡ 0 → s ≡ 0)
unfolding lawful_address
address_passed a v s e =
    let p = passed ((refuse bad_address unless leb a attribute_most && leb v position_most && leb s position_most) ∷ (refuse bad_address when eqb v 0 && ltb 0 s) ∷ [])
    (refuse bad_address when eqb a 0 && ltb 0 v) e in
    let t = both (leb a attribute_most && leb v position_most) (leb s position_most) (unless_passed bad_address _ (first p.0)) in
    let u = both (leb a attribute_most) (leb v position_most) t.0 in
    (leb-true _ _ u.1, leb-true _ _ t.1, zero_too v s (when_passed bad_address _ (second p.0)))

pub lawful_numbers : (item : Bytes) (a v s : ℕ) → lawful_find item a v s ≡ given tt → Lawful item v s
unfolding lawful_find
lawful_numbers item a v s e =
    let p = passed (lawful_record item ∷ []) (lawful_address a v s) e in
    let q = address_passed a v s p.1 in
    record { record_fits = size_passed item (first p.0); values = q.0; subvalues = q.1; whole = q.2 }

-- a part of a record is no longer than it
pub run_walked : (item : Bytes) (a v s : ℕ) (string : Bytes) → Lawful item v s
    → elements_run entry_most item (codes_in string) (walked [] (from_one v) (from_one s) (reads item (path a v s))) ≡ run item a v s (codes_in string)
unfolding run
run_walked item a v s string lawful = ap (elements_run entry_most item (codes_in string)) (sym (elements_walked item a v s lawful.whole))

-- the code's greater of a number and 1 is the paper's
pub from_one_max : (n : ℕ) → max n 1 ≡ from_one n
unfolding from_one
from_one_max zero = refl
from_one_max (suc n) = omega arith

pub from_one_most : (n : ℕ) → n ≤ position_most → from_one n ≤ position_most
unfolding from_one
from_one_most zero h = omega arith
from_one_most (suc n) h = h

-- what an address reads is no longer than the record
short_part : (item : Bytes) {o : Option Part} → Told (Inside (whole item)) o → length (text_or_empty o) ≤ length item
unfolding whole
short_part item absent = omega arith
short_part item (present {a = p} i) = omega (arith, (inside_bounds (whole item) p i).1)

pub reads_short : (item : Bytes) (ts : List Turn) → length (reads item ts) ≤ length item
unfolding reads
reads_short item ts = short_part item (part_at_inside ts (whole item))

pub zero_scratch : (n : ℕ) → replicate n 0 ≡ scratch_after n
unfolding scratch_after
zero_scratch n = refl

-- the walk over what the address reads, from its position or from 1, is the paper's run
pub walks_run : (item string : Bytes) (a v s budget : ℕ) {v' s' : ℕ} {text : Bytes} {r : Result Walked Stopped} {out out' : Bytes} → Lawful item v s
    → text ≡ reads item (path a v s) → v' ≡ from_one v → s' ≡ from_one s → Walks (elements_outcome item string (position v' s') budget text) r out out'
    → Walks (within_budget budget 0 (run item a v s (codes_in string))) r out out'
walks_run item string a v s budget {v'} {s'} {text} {r} {out} {out'} lawful e f g walks =
    let same : elements_outcome item string (position v' s') budget text ≡ within_budget budget 0 (run item a v s (codes_in string))
    = ap (elements_outcome item string (position v' s') budget) e
    ∙ ap (λ (x : ℕ). elements_outcome item string (position x s') budget (reads item (path a v s))) f
    ∙ ap (λ (x : ℕ). elements_outcome item string (position (from_one v) x) budget (reads item (path a v s))) g
    ∙ ap (within_budget budget 0) (run_walked item a v s string lawful) in
    subst (λ (o : Outcome). Walks o r out out') same walks

pub work_room : entry_most ≤ length {A = ℕ} (replicate 1_024 0)
unfolding entry_most
work_room = lit≤ tt

pub text_short : (item : Bytes) (ts : List Turn) (text : Bytes) → text ≡ reads item ts → length item ≤ record_most → length text ≤ record_most
text_short item ts text e h = rw e (omega (arith, reads_short item ts))

-- what converting answers, and what it leaves in the output and the scratch
abbrev pub Left : Outcome → Bytes → Bytes → Converted → Bytes → Bytes → Type 0
Left o out scratch r out' scratch' =
    record {
      answer : told r.answer ≡ sized o.answer;
      steps : r.steps ≡ o.steps;
      out_after : out' ≡ output_after (length out) o;
      scratch_after : scratch' ≡ scratch_after (length scratch);
    }

left_so : (o : Outcome) (out scratch : Bytes) (r : Converted) (out' scratch' : Bytes) → converted_in r ≡ walked_of o → out' ≡ output_after (length out) o
    → scratch' ≡ scratch_after (length scratch) → Left o out scratch r out' scratch'
left_so o out scratch r out' scratch' e f g =
    record { answer = ap (λ (x : Ending ℕ). x.answer) e; steps = ap (λ (x : Ending ℕ). x.steps) e; out_after = f; scratch_after = g }

module _ (item string : Bytes) (a v s budget : ℕ) (out lent : Bytes) where
  abbrev outcome : Outcome
  outcome = convert item string a v s budget (length out) (length lent)

  -- what a refusal before the run leaves
  pub at_once : {n : ℕ} (r : Converted) {out' scratch' : Bytes} → refused n ≡ ready item string a v s (length lent)
      → converted_in r ≡ walked_of (refused_at_once n) → out' ≡ replicate (length out) 0 → scratch' ≡ scratch_after (length lent)
      → Left outcome out lent r out' scratch'
  unfolding output_after buffer
  at_once r e p q z =
      let same = refused_convert item string a v s (length lent) budget (length out) e in
      left_so outcome out lent r _ _ (rw same p) (rw (same, sub-zero) q) z

  -- what the run and its end leave
  pub run_finished : (r : Converted) {out₁ out' scratch' : Bytes} {w : Result Walked Stopped} → given (codes_in string) ≡ ready item string a v s (length lent)
      → Walks (within_budget budget 0 (run item a v s (codes_in string))) w out out₁ → converted_in r ≡ fitted_in (length out₁) (walked_in w)
      → out' ≡ finished_out out₁ (fitted_in (length out₁) (walked_in w)).answer → scratch' ≡ scratch_after (length lent)
      → Left outcome out lent r out' scratch'
  run_finished r {out₁} {out'} {scratch'} {w} e walks p q z =
      let o : Outcome = within_budget budget 0 (run item a v s (codes_in string)) in
      let whole : outcome ≡ finished (length out₁) o
      = converted_run item string a v s (length lent) budget (length out) e ∙ ap (λ (n : ℕ). finished n o) (sym walks.room) in
      let ended = finished_outcome out₁ o walks.held in
      left_so outcome out lent r _ _
      (p ∙ ap (fitted_in (length out₁)) walks.answers ∙ ended.0 ∙ ap walked_of (sym whole))
      (q ∙ ap (λ (x : Ending ℕ). finished_out out₁ (fitted_in (length out₁) x).answer) walks.answers ∙ ended.1
      ∙ ap (λ (n : ℕ). output_after n (finished (length out₁) o)) walks.room ∙ ap (output_after (length out)) (sym whole))
      z
