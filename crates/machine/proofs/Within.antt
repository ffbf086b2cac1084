-- What the readers of the grammar keep an elm's numbers within: digits, a mask's width, a literal's place in its code. Assumes nothing.
use Rattle.std.specs.Prelude.{Option as Maybe}
use mathlib.Core.Path.{refl}
use Prim.Native.Nat.{ℕ, ◌≤◌}
use lib.ListN.{length}
use lib.Dec.{lit≤}
use Rattle.paper.specs.Bytes.{Bytes}
use Rattle.paper.specs.Sizes.{code_most}
use Rattle.paper.proofs.Predicates.{reads, reads_not, none_of, and_all}
use Rattle.codes.specs.declared.Fill.{Fill}
use Rattle.codes.specs.declared.Conversion.{Conversion}
use Rattle.codes.specs.Meaning.{fill_of, mask_of}
use Rattle.codes.specs.Counting.{patterns_counted}
use Rattle.masks.specs.Bounds.{field_width}
use Rattle.readers.specs.Places.{this, numeral}
use Rattle.readers.specs.Reading.{conversion}
use Rattle.readers.proofs.Quotes.{quoted_inside}
use Rattle.readers.proofs.Ever.{Ever, reads_as, gives_reads, follow_then, follow_any, or_then, or_any, choose_reads, digit_reads}
use Rattle.readers.proofs.Kept.{Narrow, no_field, field, Kept, plain_kept, mask_kept, date_kept, patterns_kept, conversion_kept}
pub use Rattle.readers.proofs.Ever.{read_has}
use Rattle.grammar.specs.Reading as elms
use Rattle.giving.specs.Bounds.{ConversionWithin, plain_within, mask_within, date_within, patterns_within}
use Rattle.steps.specs.Bounds.{attribute_within, literal_within, previous_within, multiply_within, divide_within, rest_within, add_within, subtract_within, arithmetic_within, concatenate_within, relate_within, ElmWithin, push_within, binary_within, substring_within, exchange_within, duplicate_within, convert_within}

ruleset elms_within = (
  divide_within,
  rest_within,
  add_within,
  subtract_within,
  arithmetic_within,
  concatenate_within,
  relate_within,
  binary_within,
  exchange_within,
  duplicate_within,
)

narrow : {f : Maybe Fill} → Narrow f → field_width (fill_of f) ≤ 99
unfolding field_width
narrow no_field = lit≤ tt
narrow (field h) = h

module _ (s : Bytes) (short : length s ≤ code_most) where
  kept_within : {c : Conversion} → Kept s c → ConversionWithin s c
  unfolding mask_of
  kept_within plain_kept = plain_within
  kept_within (mask_kept d e w) = mask_within (record { decimals = d; scale = e; width = narrow w })
  kept_within (date_kept h) = date_within h
  kept_within (patterns_kept e) = patterns_within (patterns_counted e refl) short

  pub conversion_reads : Ever (ConversionWithin s) s conversion
  conversion_reads n = reads_as (λ c. kept_within) (conversion_kept s n)

  literal_reads : (q : ℕ) → Ever (ElmWithin s) s (elms.literal_elm q)
  literal_reads q n = follow_then _ (quoted_inside q s n) (λ len h k. reads (push_within (literal_within h)))

  -- the elms of one byte
  single_reads : Ever (ElmWithin s) s elms.single_elm
  single_reads = choose_reads _ (search (elms_within, gives_reads, and_all, none_of) depth 40) (λ n. reads_not)

  longer_reads : Ever (ElmWithin s) s elms.longer_elm
  longer_reads =
      choose_reads _
      (and_all (literal_reads 39)
      (and_all (literal_reads 34)
      (and_all (λ n. follow_any (this 80 s n) _ (λ _ j. follow_any (this 86 s j) _ (λ _ k. reads (push_within previous_within))))
      (and_all (λ n. or_then _ _ (digit_reads s n) (λ d p k. reads (binary_within (arithmetic_within (multiply_within p)))) (reads (binary_within (arithmetic_within (multiply_within (lit≤ tt))))))
      (and_all (choose_reads _ (and_all (λ n. reads substring_within) none_of) (λ n. reads (binary_within relate_within)))
      (and_all (λ n. follow_then _ (conversion_reads n) (λ c p j. follow_any (this 41 s j) _ (λ _ k. reads (convert_within p)))) none_of))))))
      single_reads

  -- what an elm's reader reads
  pub elm_reads : Ever (ElmWithin s) s elms.elm
  unfolding elms.elm
  elm_reads n = or_any (numeral 2 s n) _ _ (λ d k. follow_any (elms.repeats s k) _ (λ r j. reads (push_within attribute_within))) (longer_reads n)
