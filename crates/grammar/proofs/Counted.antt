-- An elm that was read counts the tests of its patterns, and so does a code that stands alone. Assumes nothing.
use mathlib.Core.Path.{◌≡◌}
use mathlib.Core.Option.{some}
use Prim.Native.Nat.{ℕ}
use Rattle.paper.specs.Bytes.{Bytes}
use Rattle.paper.proofs.Predicates.{reads, reads_not, none_of, and_all}
use Rattle.codes.specs.Counting.{Counted, ElmCounted}
use Rattle.codes.specs.declared.Conversion.{Conversion}
use Rattle.codes.specs.declared.Elm.{Elm}
use Rattle.readers.specs.Places.{this, digit, numeral, quoted}
use Rattle.readers.proofs.Ever.{Ever, read_has, gives_reads, follow_then, follow_any, or_any, choose_reads}
use Rattle.readers.proofs.Counted.{conversion_counts}
use Rattle.grammar.specs.Reading as place
use Rattle.grammar.specs.Heads.{head}
use Rattle.grammar.specs.declared.Head.{Head}
use Rattle.grammar.proofs.HeadReads.{head_single}

module _ (s : Bytes) where
  literal_counts : (q : ℕ) → Ever (ElmCounted s) s (place.literal_elm q)
  literal_counts q n = follow_any (quoted q s n) _ (λ len k. reads tt)

  single_counts : Ever (ElmCounted s) s place.single_elm
  single_counts = choose_reads _ (search (gives_reads, and_all, none_of) depth 20) (λ n. reads_not)

  longer_counts : Ever (ElmCounted s) s place.longer_elm
  longer_counts =
      choose_reads _
      (and_all (literal_counts 39)
      (and_all (literal_counts 34)
      (and_all (λ n. follow_any (this 80 s n) _ (λ _ j. follow_any (this 86 s j) _ (λ _ k. reads tt)))
      (and_all (λ n. or_any (digit s n) _ _ (λ d k. reads tt) (reads tt))
      (and_all (choose_reads _ (and_all (λ n. reads tt) none_of) (λ n. reads tt))
      (and_all (λ n. follow_then _ (conversion_counts s n) (λ c p j. follow_any (this 41 s j) _ (λ _ k. reads p))) none_of))))))
      single_counts

  -- What is read of an elm is counted.
  pub elm_counts : Ever (ElmCounted s) s place.elm
  unfolding place.elm
  elm_counts n = or_any (numeral 2 s n) _ _ (λ d k. follow_any (place.repeats s k) _ (λ r j. reads tt)) (longer_counts n)

  pub elm_counted : (at : ℕ) {e : Elm} {n : ℕ} → place.elm s at ≡ some (e, n) → ElmCounted s e
  elm_counted at f = read_has (elm_counts at) f

  pub head_counted : {c : Conversion} → head s ≡ some (Head.Single c) → Counted s c
  head_counted f = read_has (conversion_counts s 0) (head_single s f)
