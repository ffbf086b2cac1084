-- How many elements an address holds: one more than the marks among the bytes that it reads. And the ceiling of so many. Assumes nothing.
use Rattle.std.specs.Prelude.{if◌then◌else◌, cond}
use Rattle.std.specs.List.{count_by}
use Rattle.std.proofs.lemmas.List.Recursion.{is_count_by}
use Prim.Native.Nat.{ℕ, suc, ◌+◌, ◌*◌, ◌≤◌, ◌<◌}
use mathlib.Core.Path.{◌≡◌, refl, sym, ap, ◌∙◌}
use mathlib.Core.Bool.{Bool, true, false}
use mathlib.Core.List.{List, [], ◌∷◌}
use native.Mathlib.Omega.{arith}
use native.Mathlib.Numerals.{add-one}
use native.Mathlib.Nat.{mul-le-mul}
use lib.ListN.{length, drop, get_or, drop_of_length-le}
use lib.Seq.{drop-cons}
use lib.Dec.{eqb, leb}
use Rattle.paper.specs.Bytes.{Bytes}
use Rattle.paper.specs.Sizes.{scratch_least, value_mark, subvalue_mark, is_inner_mark}
use Rattle.paper.specs.Refusals.{Res, given, refused, ◌>>=◌, ◌>>◌, refuse◌unless◌, refusal_of, short_scratch}
use Rattle.paper.specs.Records.{path, reads}
use Rattle.paper.specs.Checking.{Checked, accepted, faulty, check, codes_of, checked_codes, codes_counts}
use Rattle.paper.specs.Converting.{Element, elements, lawful_place, lawful_code, ready, convert, ceiling, counted_ceiling}
use Rattle.paper.proofs.Ceiling.{steps_within_ceiling, ceiling_counted}
use Rattle.judging.specs.Tallies.{counts_of, steps}
use Rattle.judging.specs.declared.Counts.{Counts}
use Rattle.judging.proofs.Walking.{accepted_steps}
use Rattle.records.specs.Found.{lawful_find}
use Rattle.convert.specs.Marks.{inner_marks}
use Rattle.elements.specs.Walk.{in_front, walked}
use Rattle.elements.specs.Running.{codes_in}
use Rattle.convert.specs.Ceiling.{Figures, ceiling_of, counted_of}
use Rattle.elements.proofs.Walking.{elements_walked}
use Rattle.paper.proofs.Refusing.{never_given}
use Rattle.convert.proofs.Stages.{counts_or, Counted, counted, refused_at_once, refused_convert, lawful_numbers, reads_short}

pub marks_counted : (bs : Bytes) → inner_marks bs ≡ count_by is_inner_mark bs
unfolding inner_marks
marks_counted = is_count_by inner_marks is_inner_mark refl (λ b bs. go (is_inner_mark b) (inner_marks bs))
  where
    go : (t : Bool) (n : ℕ) → (if t then 1 else 0) + n ≡ cond t (1 + n) n
    go true n = refl
    go false n = omega arith

in_front_length : (b : ℕ) (es : List Element) → length (in_front b es) ≡ length es
in_front_length b [] = refl
in_front_length b (e ∷ es) = refl

-- each mark opens one element more
walked_more : (before : Bytes) (v s b : ℕ) (bs : Bytes) (t u : Bool) → eqb b value_mark ≡ t → eqb b subvalue_mark ≡ u
    → ((before : Bytes) (v s : ℕ) → length (walked before v s bs) ≡ 1 + inner_marks bs) → length (walked before v s (b ∷ bs)) ≡ 1 + inner_marks (b ∷ bs)
unfolding walked inner_marks is_inner_mark
walked_more before v s b bs true true p q again = rw (p, q) (omega (arith, again (value_mark ∷ []) (suc v) 1))
walked_more before v s b bs true false p q again = rw (p, q) (omega (arith, again (value_mark ∷ []) (suc v) 1))
walked_more before v s b bs false true p q again = rw (p, q) (omega (arith, again (subvalue_mark ∷ []) v (suc s)))
walked_more before v s b bs false false p q again = rw (p, q, in_front_length) (omega (arith, again before v s))

walked_length : (before : Bytes) (v s : ℕ) (bs : Bytes) → length (walked before v s bs) ≡ 1 + inner_marks bs
unfolding walked inner_marks
walked_length before v s [] = refl
walked_length before v s (b ∷ bs) =
    walked_more before v s b bs (eqb b value_mark) (eqb b subvalue_mark) refl refl (λ before' v' s'. walked_length before' v' s' bs)

marks_few : (bs : Bytes) → inner_marks bs ≤ length bs
unfolding inner_marks
marks_few [] = omega arith
marks_few (b ∷ bs) = go (is_inner_mark b) (marks_few bs)
  where
    go : (t : Bool) → inner_marks bs ≤ length bs → (if t then 1 else 0) + inner_marks bs ≤ suc (length bs)
    go true h = omega arith
    go false h = omega arith

-- none of the ceiling's products wraps
module _ {m size : ℕ} (k : Counts) (figures : Figures m (steps k) size) where
  pub loads_fit : k.loads * (1_025 + size) ≤ 256 * 33_793
  unfolding steps
  loads_fit = mul-le-mul {n₂ = 256} {m₂ = 33_793} (omega (arith, figures.steps)) (omega (arith, figures.record_fits))

  -- what is counted by a number: B, T and P
  pub counted_fit : (k.others * 4_097 ≤ 256 * 4_097) × (k.tests * 1_025 ≤ 256 * 1_025) × (k.patterns * 1_025 ≤ 256 * 1_025)
  unfolding steps
  counted_fit = (omega (arith, figures.steps), omega (arith, figures.steps), omega (arith, figures.steps))

  abbrev all_fit : ℕ
  all_fit = 256 * 33_793 + 256 * 4_097 + (256 * 1_025 + 256 * 1_025)

  pub ceiling_fits : m * (k.loads * (1_025 + size) + k.others * 4_097 + (k.tests * 1_025 + k.patterns * 1_025)) ≤ 32_769 * all_fit
  ceiling_fits = mul-le-mul {n₂ = 32_769} {m₂ = all_fit} (omega (arith, figures.elements)) (omega (arith, loads_fit, counted_fit))

-- refused before the run
pub uncapped : (item string : Bytes) (a v s : ℕ) {n : ℕ} → refused n ≡ counted_of item string a v s → refused n ≡ ceiling_of item string a v s
unfolding counted_of ceiling_of checked_codes
uncapped item string a v s {n} e = go (lawful_place item a v s) (check string) e
  where
    go : (p : Res (Unit {0})) (c : Checked) → refused n ≡ p >> counts_or c
        → refused n ≡ p >> (checked_codes c >>= λ cs. given (ceiling (length item) cs (length (elements item a v s))))
    go (given u) (accepted cs) e = never_given e
    go (given u) (faulty k l) e = ap (λ (x : Res Counts). refused (refusal_of x)) e
    go (refused k) c e = ap (λ (x : Res Counts). refused (refusal_of x)) e

-- accepted: A, B, P and T are what the string counts, and m is one more than the marks
module _ (item string : Bytes) (a v s : ℕ) {counts : Counts} (granted : given counts ≡ counted_of item string a v s) {n : ℕ} {text : Bytes}
    (read : text ≡ reads item (path a v s)) (marked : n ≡ inner_marks text) where
  facts : Counted item string a v s counts
  facts = counted item string a v s granted

  pub figures : Figures (1 + n) (steps counts) (length item)
  figures =
      let numbers = lawful_numbers item a v s facts.lawful in
      record {
        elements = rw (marked, read) (omega (arith, marks_few (reads item (path a v s)), reads_short item (path a v s), numbers.record_fits));
        steps = omega (arith, accepted_steps string (codes_in string) facts.accepts, ap steps facts.as_counted);
        record_fits = numbers.record_fits;
      }

  elements_counted : length (elements item a v s) ≡ 1 + n
  elements_counted =
      ap length (elements_walked item a v s (lawful_numbers item a v s facts.lawful).whole) ∙ walked_length _ _ _ _
      ∙ ap (λ (x : ℕ). 1 + x) (sym (marked ∙ ap inner_marks read))

  pub capped : {most : ℕ} → most ≡ counted_ceiling (counts_of counts) (length item) (1 + n) → given most ≡ ceiling_of item string a v s
  unfolding lawful_find lawful_place ceiling_of checked_codes
  capped h =
      let same : codes_counts (codes_in string) ≡ counts_of counts = ap counts_of facts.as_counted in
      rw (facts.lawful, facts.accepts, ceiling_counted, same, elements_counted) (ap given h)

-- the ceiling beside the conversion itself
module _ (item string : Bytes) (a v s budget room scratch : ℕ) where
  pub steps_capped : (n : ℕ) → ceiling_of item string a v s ≡ given n → (convert item string a v s budget room scratch).steps ≤ n
  unfolding ceiling_of checked_codes
  steps_capped n e = omega (arith, go (lawful_place item a v s) (check string) e, steps_within_ceiling item string a v s budget room scratch)
    where
      go : (p : Res (Unit {0})) (c : Checked)
          → (p >> (checked_codes c >>= λ cs. given (ceiling (length item) cs (length (elements item a v s))))) ≡ given n
          → ceiling (length item) (codes_of c) (length (elements item a v s)) ≡ n
      go (given u) (accepted cs) e = cc
      go (given u) (faulty k l) e = let z : ◌≡◌ {A = ℕ} 0 1 = cc in absurd (omega arith)
      go (refused k) c e = let z : ◌≡◌ {A = ℕ} 0 1 = cc in absurd (omega arith)

  -- where it is refused, so is the conversion, before its run
  pub refused_alike : (n : ℕ) → ceiling_of item string a v s ≡ refused n → convert item string a v s budget room scratch ≡ refused_at_once n
  unfolding ceiling_of ready lawful_code checked_codes
  refused_alike n e = refused_convert item string a v s scratch budget room (sym (go (lawful_place item a v s) (check string) e))
    where
      go : (p : Res (Unit {0})) (c : Checked)
          → (p >> (checked_codes c >>= λ cs. given (ceiling (length item) cs (length (elements item a v s))))) ≡ refused n
          → (p >> (checked_codes c >>= λ cs. (refuse short_scratch unless leb scratch_least scratch) >> given cs)) ≡ refused n
      go (given u) (accepted cs) e = let z : ◌≡◌ {A = ℕ} 0 1 = cc in absurd (omega arith)
      go (given u) (faulty k l) e = ap (λ (x : Res ℕ). refused (refusal_of x)) e
      go (refused k) c e = ap (λ (x : Res ℕ). refused (refusal_of x)) e
