-- One code: its elms turn by turn, and the whole of it.
use Prim.Native.Nat.{ℕ, ◌<◌, ◌≤◌, ◌+◌}
use mathlib.Core.Path.{◌≡◌, refl, sym, ap, ◌∙◌}
use mathlib.Core.Bool.{Bool, true, false}
use mathlib.Core.List.{List}
use mathlib.Core.Option.{Option, none, some}
use lib.ListN.{length, get_or}
use lib.Dec.{eqb}
use native.Mathlib.Omega.{arith}
use Rattle.paper.specs.Bytes.{Bytes, any}
use Rattle.paper.specs.Sizes.{is_mark}
use Rattle.paper.specs.Grammar as paper
use Rattle.paper.specs.Refusals.{Res, given, refused, ◌>>=◌, ◌>>◌, refuse◌unless◌}
use Rattle.paper.specs.Codes as codes
use Rattle.paper.specs.Checking.{all_stacked, lawful, in_grammar, judged, elms_counts, code_counts, step_counts}
use Rattle.codes.specs.Meaning.{elm_of}
use Rattle.codes.specs.declared.Conversion.{Conversion}
use Rattle.codes.specs.declared.Elm.{Elm}
use Rattle.grammar.specs.Reading as place
use Rattle.grammar.specs.Heads.{head, elms_from}
use Rattle.grammar.specs.declared.Head.{Head}
use Rattle.readers.proofs.Bytes.{peeked_inside}
use Rattle.grammar.proofs.Parted.{elm_onto, elms_none, elms_last, elms_more, elms_stray}
use Rattle.grammar.proofs.HeadReads.{functioned, read_by, head_reads, marks_read}
use Rattle.codes.specs.Counting.{kind_of}
use Rattle.readers.proofs.Counted.{counted_kind}
use Rattle.grammar.proofs.Counted.{head_counted}
use Rattle.judging.specs.declared.Kind.{Kind}
use Rattle.judging.specs.Tallies.{counts_in, kind_in, step_kind, none_yet, tally_after, tally_all, judgement_of}
use Rattle.judging.specs.Verdicts.{finished, judged_of}
use Rattle.judging.specs.declared.Counts.{Counts}
use Rattle.judging.specs.declared.Tally.{Tally}
use Rattle.judging.proofs.Tallying.{none_added, kind_back, concluded, tallied}

-- an elm, and those that follow
finished_onto : (e : codes.Elm) (t : Tally) (o : Option (List codes.Elm)) → finished (elm_onto e o) t ≡ finished o (tally_after e t)
unfolding finished tally_all
finished_onto e t none = refl
finished_onto e t (some es) = refl

module _ (s : Bytes) (at : ℕ) (h : at ≤ length s) (t : Tally) where
  from : {o : Option (List codes.Elm)} → elms_from s at ≡ o → finished (elms_from s at) t ≡ finished o t
  from f = ap (λ (o : Option (List codes.Elm)). finished o t) f

  pub finished_none : place.elm s at ≡ none → finished (elms_from s at) t ≡ refused 6
  unfolding finished
  finished_none e = from (elms_none s at h e)

  module _ (e : Elm) (n : ℕ) (f : place.elm s at ≡ some (e, n)) {u : Tally} (g : u ≡ tally_after (elm_of s e) t) where
    pub finished_last : n ≡ length s → finished (elms_from s at) t ≡ judgement_of u
    unfolding finished tally_all
    finished_last k = from (elms_last s at h e n f k) ∙ ap judgement_of (sym g)

    module _ (l : n < length s) where
      pub finished_more : get_or s n 0 ≡ 59 → finished (elms_from s at) t ≡ finished (elms_from s (n + 1)) u
      finished_more j =
          from (elms_more s at h e n f (omega arith) (peeked_inside s n l) j)
          ∙ finished_onto (elm_of s e) t (elms_from s (n + 1))
          ∙ ap (finished (elms_from s (n + 1))) (sym g)

      pub finished_stray : (get_or s n 0 ≡ 59 → ⊥) → finished (elms_from s at) t ≡ refused 6
      unfolding finished
      finished_stray j = from (elms_stray s at h e n f (omega arith) (peeked_inside s n l) j)

-- A, B, P and T of one code, or its fault
judging : Option codes.Code → Res Counts
judging o = judged_of (in_grammar o >>= λ c. lawful c >> given c)

judging_is : (s : Bytes) → judged_of (judged s) ≡ judging (paper.read s)
unfolding judged judging
judging_is s = refl

judging_elms : (o : Option (List codes.Elm)) → judging (functioned o) ≡ finished o none_yet
unfolding judging finished judged_of lawful code_counts
judging_elms none = refl
judging_elms (some es) = rw (tallied es none_yet, none_added (elms_counts es)) (go (all_stacked es 0))
  where
    one : (t : Bool) → judged_of ((refuse 18 unless t) >> given (codes.function es)) ≡ ((refuse 18 unless t) >> given (counts_in (elms_counts es)))
    one true = refl
    one false = refl

    go : (r : Res ℕ) → judged_of ((r >>= λ n. refuse 18 unless eqb n 1) >> given (codes.function es)) ≡ concluded r (counts_in (elms_counts es))
    go (given n) = one (eqb n 1)
    go (refused n) = refl

module _ (s : Bytes) where
  pub judged_marked : any is_mark s ≡ true → refused 6 ≡ judged_of (judged s)
  unfolding judging judged_of
  judged_marked e = sym (judging_is s ∙ ap judging (marks_read s e))

  module _ (e : any is_mark s ≡ false) where
    by_head : {h : Option Head} → head s ≡ h → judged_of (judged s) ≡ judging (read_by s h)
    by_head f = judging_is s ∙ ap judging (head_reads s e ∙ ap (read_by s) f)

    pub judged_function : {first : ℕ} → head s ≡ some (Head.Function first) → finished (elms_from s first) none_yet ≡ judged_of (judged s)
    judged_function {first} f = sym (by_head f ∙ judging_elms (elms_from s first))

    pub judged_single : {c : Conversion} {kind : Kind} {k : Counts} → head s ≡ some (Head.Single c) → kind ≡ kind_in (kind_of c)
        → k ≡ counts_in (step_counts (step_kind kind)) → given k ≡ judged_of (judged s)
    unfolding judging judged_of lawful code_counts
    judged_single {c} f h g =
        ap given (g ∙ rw (h, kind_back, ← counted_kind (head_counted s f))) ∙ sym (by_head f)

    pub judged_bad : head s ≡ none → refused 6 ≡ judged_of (judged s)
    unfolding judging judged_of
    judged_bad f = sym (by_head f)
