-- A typed date by a code string: 5, then 6 unless it is exactly one D code, then what the date says.
use Prim.Native.Nat.{ℕ, ◌<◌, ◌≤◌}
use mathlib.Core.Path.{◌≡◌, refl, sym, ap, ◌∙◌}
use mathlib.Core.Bool.{true, false}
use mathlib.Core.List.{List}
use mathlib.Core.Option.{Option, none, some}
use lib.ListN.{length}
use borrow.Author.Tests.{le-leb, lt-leb}
use Rattle.paper.specs.Bytes.{Bytes, any}
use Rattle.paper.specs.Sizes.{is_mark}
use Rattle.paper.specs.Refusals.{refused}
use Rattle.paper.specs.Grammar as paper
use Rattle.paper.specs.Codes as codes
use Rattle.paper.specs.TypedDates.{typed_by, typed_date}
use Rattle.codes.specs.Meaning.{conversion_of}
use Rattle.codes.specs.declared.Conversion.{Conversion}
use Rattle.std.specs.Prelude.{Result, Ok, Err}
use Rattle.paper.specs.Answers.{number_of}
use Rattle.paper.specs.declared.Refusal.{Refusal}
use Rattle.grammar.specs.Heads.{head, head_read, elms_from}
use Rattle.grammar.specs.declared.Head.{Head}
use Rattle.grammar.proofs.HeadReads.{functioned, read_by, head_reads, marks_read}

-- what a head that was read is
pub head_found : {h : Head} (o : Option Head) → Ok h ≡ head_read o → o ≡ some h
head_found none k = cc
head_found (some h) k = cc

module _ (s text : Bytes) where
  pub typed_long : 512 < length s → refused 5 ≡ typed_date s text
  unfolding typed_date
  typed_long h = rw (lt-leb (length s) 512 h)

  module _ (h : length s ≤ 512) where
    short : typed_date s text ≡ typed_by (paper.read s) text
    unfolding typed_date
    short = rw (le-leb (length s) 512 h)

    pub typed_marked : any is_mark s ≡ true → refused 6 ≡ typed_date s text
    unfolding typed_by
    typed_marked e = sym (short ∙ ap (λ (o : Option codes.Code). typed_by o text) (marks_read s e))

    module _ (e : any is_mark s ≡ false) where
      by_head : {h : Option Head} → head s ≡ h → typed_date s text ≡ typed_by (read_by s h) text
      by_head f = short ∙ ap (λ (o : Option codes.Code). typed_by o text) (head_reads s e ∙ ap (read_by s) f)

      pub typed_function : {first : ℕ} → head s ≡ some (Head.Function first) → refused 6 ≡ typed_date s text
      unfolding typed_by
      typed_function {first} f = sym (by_head f ∙ go (elms_from s first))
        where
          go : (o : Option (List codes.Elm)) → typed_by (functioned o) text ≡ refused 6
          go none = refl
          go (some es) = refl

      pub typed_bad : {r : Refusal} → Err r ≡ head_read (head s) → refused (number_of r) ≡ typed_date s text
      unfolding typed_by
      typed_bad {r} k = go (head s) refl k
        where
          go : (o : Option Head) → head s ≡ o → Err r ≡ head_read o → refused (number_of r) ≡ typed_date s text
          go none f k = let same : r ≡ Refusal.NotInGrammar = cc in ap (λ (r : Refusal). refused (number_of r)) same ∙ sym (by_head f)
          go (some h) f k = cc

      pub typed_single : {c : Conversion} → head s ≡ some (Head.Single c) → typed_by (some (codes.single (conversion_of s c))) text ≡ typed_date s text
      typed_single f = sym (by_head f)
