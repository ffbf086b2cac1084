-- A code string from code to code: what is left is the code that begins here and what is left after it.
use Rattle.std.specs.Prelude.{Result, Ok, Err}
use Prim.Native.Nat.{ℕ, suc, ◌<◌, ◌≤◌, ◌+◌, ◌-◌}
use mathlib.Core.Path.{◌≡◌, refl, sym, ap, ◌∙◌}
use mathlib.Core.Bool.{Bool, true, false, true≢false, not, ◌&&◌}
use mathlib.Core.Logic.{◌⊎◌, inl, inr, ⊎_elim}
use mathlib.Core.List.{List, [], ◌∷◌}
use lib.ListN.{length, take, drop, get_or, length-drop}
use lib.Seq.{get_or-drop}
use lib.Dec.{eqb, leb}
use native.Mathlib.Numerals.{add-one}
use native.Mathlib.Omega.{arith}
use borrow.Author.Tests.{le-leb, lt-leb, leb-true, leb-false, eqb-true, eqb-false}
use Rattle.paper.specs.Bytes.{Bytes, any}
use Rattle.paper.specs.Sizes.{is_mark}
use Rattle.paper.specs.Records.{split}
use Rattle.paper.specs.Refusals.{Res, given, refused}
use Rattle.paper.specs.Codes as codes
use Rattle.paper.specs.Checking.{judged, judged_all, in_front, code_texts, check, Checked, accepted, faulty, code_counts, codes_counts, Report, report}
use Rattle.lent.specs.Scan.{range, upto}
use Rattle.grammar.specs.Heads.{code_end}
use Rattle.judging.specs.Tallies.{counts_in, counts_of, no_steps, added}
use Rattle.judging.specs.Verdicts.{judged_of, stray, Verdict, lawful, bad, summed, verdict_in, verdict_of, report_in}
use Rattle.judging.specs.declared.Counts.{Counts}
use Rattle.judging.specs.declared.BadCode.{BadCode}
use Rattle.paper.proofs.Truths.{ltb_or}
use Rattle.lent.proofs.Scans.{range_rest}
use Rattle.grammar.proofs.Cuts.{end_within, split_last, split_more}
use Rattle.judging.proofs.Tallying.{added_none, none_added, added_more}
use Rattle.judging.proofs.Scans.{clear, clear_fits, clear_code, stray_code}
use Rattle.judging.proofs.Judging.{judged_marked}

-- what one code's judgement says of the code
judged_fault : (bs : Bytes) (n : ℕ) → judged_of (judged bs) ≡ refused n → judged bs ≡ refused n
unfolding judged_of
judged_fault bs n e = go (judged bs) refl e
  where
    go : (r : Res codes.Code) → judged bs ≡ r → judged_of r ≡ refused n → judged bs ≡ refused n
    go (given c) f g = let z : ◌≡◌ {A = ℕ} 0 1 = cc in absurd (omega arith)
    go (refused m) f g = cc

pub judged_lawful : (bs : Bytes) (k : Counts) → judged_of (judged bs) ≡ given k → (c : codes.Code) × (judged bs ≡ given c) × (k ≡ counts_in (code_counts c))
unfolding judged_of
judged_lawful bs k e = go (judged bs) refl e
  where
    go : (r : Res codes.Code) → judged bs ≡ r → judged_of r ≡ given k → (c : codes.Code) × (judged bs ≡ given c) × (k ≡ counts_in (code_counts c))
    go (given c) f g = (c, f, cc)
    go (refused m) f g = let z : ◌≡◌ {A = ℕ} 0 1 = cc in absurd (omega arith)

-- a code in front of those that follow
summed_front : (t : Counts) (c : codes.Code) (rest : Checked) → summed t (in_front c rest) ≡ summed (added t (code_counts c)) rest
unfolding summed codes_counts
summed_front t c (accepted cs) = rw (added_more t (code_counts c) (codes_counts cs))
summed_front t c (faulty n k) = refl

summed_start : (r : Checked) → summed no_steps r ≡ verdict_of r
unfolding summed verdict_of
summed_start (accepted cs) = rw (none_added (codes_counts cs))
summed_start (faulty n k) = refl

summed_done : (t : Counts) (k : ℕ) → summed t (judged_all k []) ≡ lawful t
unfolding summed judged_all codes_counts
summed_done t k = rw (added_none t)

module _ (t : Counts) (k : ℕ) (bs : Bytes) {r : Res Counts} (e : r ≡ judged_of (judged bs)) where
  -- the first bad code decides
  summed_fault : (ps : List Bytes) (n : ℕ) → r ≡ refused n → summed t (judged_all k (bs ∷ ps)) ≡ bad n k
  unfolding summed judged_all
  summed_fault ps n f = rw (judged_fault bs n (sym e ∙ f))

  summed_more : (ps : List Bytes) {more u : Counts} → r ≡ given more → u ≡ added t (counts_of more)
      → summed t (judged_all k (bs ∷ ps)) ≡ summed u (judged_all (k + 1) ps)
  unfolding judged_all
  summed_more ps {more} {u} f g = let j = judged_lawful bs more (sym e ∙ f) in go j.0 j.1 (g ∙ ap (λ (m : Counts). added t (counts_of m)) j.2)
    where
      go : (c : codes.Code) → judged bs ≡ given c → u ≡ added t (code_counts c) → summed t (judged_all k (bs ∷ ps)) ≡ summed u (judged_all (k + 1) ps)
      go c x y = rw (x, y, add-one) (summed_front t c (judged_all (suc k) ps))

-- The turns of checking: the code from `at` to `end`, judged r, after the steps t and k - 1 codes.
module _ (s : Bytes) (at : ℕ) (t : Counts) (k : ℕ) (h : at ≤ length s) {end : ℕ} (e : end ≡ code_end (drop at s) at)
    {r : Res Counts} (f : r ≡ judged_of (judged (take (end - at) (drop at s)))) where
  abbrev left : Verdict
  left = summed t (judged_all k (split 253 (drop at s)))

  turned : {ps : List Bytes} → split 253 (drop at s) ≡ ps → left ≡ summed t (judged_all k ps)
  turned g = ap (λ (q : List Bytes). summed t (judged_all k q)) g

  pub turn_fault : (n : ℕ) → r ≡ refused n → left ≡ bad n k
  turn_fault n g = ⊎_elim more last (ltb_or end (length s))
    where
      last : length s ≤ end → left ≡ bad n k
      last j = let w = end_within s at h e in turned (split_last s at h e (omega arith)) ∙ summed_fault t k (take (end - at) (drop at s)) f [] n g

      more : end < length s → left ≡ bad n k
      more j = turned (split_more s at h e (omega arith)) ∙ summed_fault t k (take (end - at) (drop at s)) f (split 253 (drop (end + 1) s)) n g

  module _ {more u : Counts} (g : r ≡ given more) (x : u ≡ added t (counts_of more)) where
    pub turn_last : end ≡ length s → left ≡ lawful u
    turn_last j = turned (split_last s at h e j) ∙ summed_more t k (take (end - at) (drop at s)) f [] g x ∙ summed_done u (k + 1)

    pub turn_more : (end ≡ length s → ⊥) → left ≡ summed u (judged_all (k + 1) (split 253 (drop (end + 1) s)))
    turn_more j = turned (split_more s at h e j) ∙ summed_more t k (take (end - at) (drop at s)) f (split 253 (drop (end + 1) s)) g x

-- The same by the first mark from `at` on, which is at `end`: the code is all before it, unless it is a mark that no code has.
module _ (s : Bytes) (at : ℕ) (h : at ≤ length s) {end : ℕ} (e : end ≡ at + length (upto 251 255 (range s at (length s)))) where
  first_mark : end ≡ at + clear (drop at s)
  first_mark = e ∙ ap (λ (l : Bytes). at + clear l) (range_rest s at)

  mark_there : get_or (drop at s) (clear (drop at s)) 0 ≡ get_or s end 0
  mark_there = get_or-drop at s (clear (drop at s)) 0 ∙ ap (λ (k : ℕ). get_or s k 0) (sym first_mark)

  pub mark_within : (at ≤ end) × (end ≤ length s)
  mark_within = omega (arith, first_mark, clear_fits (drop at s), length-drop at s)

  pub marks_clear : stray s end ≡ false → (end ≡ code_end (drop at s) at) × (any is_mark (take (end - at) (drop at s)) ≡ false)
  unfolding stray
  marks_clear x =
      let r = clear_code (drop at s) at (stops (leb (length s) end) (eqb (get_or s end 0) 253) refl refl x) in
      let k : end - at ≡ clear (drop at s) = omega (arith, first_mark) in
      (first_mark ∙ sym r.0, ap (λ (n : ℕ). any is_mark (take n (drop at s))) k ∙ r.1)
    where
      stops : (t u : Bool) → leb (length s) end ≡ t → eqb (get_or s end 0) 253 ≡ u → not t && not u ≡ false
          → (clear (drop at s) ≡ length (drop at s)) ⊎ (get_or (drop at s) (clear (drop at s)) 0 ≡ 253)
      stops true u et eu z = inl (omega (arith, leb-true (length s) end et, clear_fits (drop at s), length-drop at s, first_mark))
      stops false true et eu z = inr (mark_there ∙ eqb-true (get_or s end 0) 253 eu)
      stops false false et eu z = absurd (true≢false z)

  pub marks_stray : (c : Counts) (k : ℕ) → stray s end ≡ true → summed c (judged_all k (split 253 (drop at s))) ≡ bad 6 k
  unfolding stray
  marks_stray c k x = stops (leb (length s) end) (eqb (get_or s end 0) 253) refl refl x
    where
      stops : (t u : Bool) → leb (length s) end ≡ t → eqb (get_or s end 0) 253 ≡ u → not t && not u ≡ true
          → summed c (judged_all k (split 253 (drop at s))) ≡ bad 6 k
      stops true u et eu z = absurd (true≢false (sym z))
      stops false true et eu z = absurd (true≢false (sym z))
      stops false false et eu z =
          let m = stray_code (drop at s) at (omega (arith, leb-false (length s) end et, length-drop at s, first_mark))
          (λ v. eqb-false (get_or s end 0) 253 eu (sym mark_there ∙ v)) in
          turn_fault s at c k h refl (judged_marked (take (code_end (drop at s) at - at) (drop at s)) m) 6 refl

pub turns_start : (s : Bytes) → summed no_steps (judged_all 1 (split 253 s)) ≡ verdict_of (judged_all 1 (split 253 s))
turns_start s = summed_start (judged_all 1 (split 253 s))

-- the whole string: over 512 bytes, empty, or codes
pub check_long : (s : Bytes) → 512 < length s → check s ≡ faulty 5 0
unfolding check
check_long s h = rw (lt-leb (length s) 512 h)

pub check_empty : (s : Bytes) → length s ≡ 0 → check s ≡ accepted []
unfolding check code_texts judged_all
check_empty [] h = refl
check_empty (b ∷ s) h = absurd (omega arith)

pub check_parts : (s : Bytes) → length s ≤ 512 → (length s ≡ 0 → ⊥) → check s ≡ judged_all 1 (split 253 s)
unfolding check code_texts
check_parts [] h k = absurd (k refl)
check_parts (b ∷ s) h k = rw (le-leb (suc (length s)) 512 h)

-- the paper's numbers
numbers : Verdict → Report
numbers (lawful counts) = record { refusal = 0; code_number = 0; steps = counts_of counts }
numbers (bad n k) = record { refusal = n; code_number = k; steps = counts_of no_steps }

reports : (r : Checked) (v : Result Counts BadCode) → verdict_in v ≡ verdict_of r → report_in v ≡ report r
unfolding report_in verdict_of report numbers
reports r v e = of_answer v ∙ ap numbers e ∙ of_checked r
  where
    of_answer : (v : Result Counts BadCode) → report_in v ≡ numbers (verdict_in v)
    of_answer (Ok counts) = refl
    of_answer (Err b) = refl

    of_checked : (r : Checked) → numbers (verdict_of r) ≡ report r
    of_checked (accepted cs) = refl
    of_checked (faulty n k) = refl

pub verdicts : (s : Bytes) {r : Checked} (v : Result Counts BadCode) → check s ≡ r → verdict_in v ≡ verdict_of r
    → record { value : verdict_in v ≡ verdict_of (check s); result_value : report_in v ≡ report (check s) }
verdicts s {r} v e f = let g : verdict_in v ≡ verdict_of (check s) = f ∙ ap verdict_of (sym e) in record { value = g; result_value = reports (check s) v g }

pub verdict_faulty : (n k : ℕ) → bad n k ≡ verdict_of (faulty n k)
unfolding verdict_of
verdict_faulty n k = refl

pub verdict_empty : lawful no_steps ≡ verdict_of (accepted [])
unfolding verdict_of codes_counts
verdict_empty = refl
