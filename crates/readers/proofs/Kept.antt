-- What the readers of the grammar keep a code other than F within: digits, a mask's width, the patterns of a P code. One walk over the readers; what others
-- ask of a code that was read follows from it. Assumes nothing.
use Rattle.std.specs.Prelude.{if◌then◌else◌, None, Some}
use Rattle.std.specs.Prelude.{Option as Maybe}
use mathlib.Core.Path.{◌≡◌, refl}
use mathlib.Core.Bool.{Bool, true, false, ◌&&◌}
use mathlib.Core.List.{List}
use mathlib.Core.Option.{Option, none, some}
use Prim.Native.Nat.{ℕ, ◌-◌, ◌≤◌}
use native.Mathlib.Omega.{arith}
use lib.ListN.{drop}
use lib.Dec.{leb, lit≤}
use borrow.Author.Tests.{leb-true}
use Rattle.paper.specs.Bytes.{Bytes, within, digit_value}
use Rattle.paper.specs.Codes.{Pattern}
use Rattle.paper.specs.Grammar.{is_separator, pattern_list}
use Rattle.paper.specs.Patterns.{tests_in}
use Rattle.paper.proofs.Truths.{both}
use Rattle.paper.proofs.Predicates.{Reads, reads, reads_not, reads_either, none_of, and_all}
use Rattle.codes.specs.declared.Fill.{Fill}
use Rattle.codes.specs.declared.Mask.{Mask}
use Rattle.codes.specs.declared.Plain.{Plain}
use Rattle.codes.specs.declared.Conversion.{Conversion}
use Rattle.readers.specs.Places.{Placed, follow, gives, byte_at, after, this, flag, num}
use Rattle.readers.specs.Reading as place
use Rattle.readers.proofs.Ever.{Ever, follow_then, follow_any, or_then, only_then, choose_reads, digit_reads}

-- `(fill num)`, "this num 1 to 99"
pub data Narrow : Maybe Fill → Type 0 where
  no_field : Narrow None
  field : {f : Fill} → f.width ≤ 99 → Narrow (Some f)

-- `{n{m}}` are a digit each; "`D{n}{s}`, n 0 to 4"; the patterns stand in the code, and are counted
pub data Kept (s : Bytes) : Conversion → Type 0 where
  plain_kept : {p : Plain} → Kept s (Conversion.Plain p)
  mask_kept : {m : Mask} → m.decimals ≤ 9 → m.scale ≤ 9 → Narrow m.filled → Kept s (Conversion.Mask m)
  date_kept : {n : ℕ} {separator : Maybe ℕ} → n ≤ 4 → Kept s (Conversion.Date n separator)
  patterns_kept : {start : ℕ} {ps : List Pattern} {rest : Bytes} → pattern_list (drop start s) ≡ some (ps, rest)
      → Kept s (Conversion.Patterns start (tests_in ps))

module _ (s : Bytes) where
  -- `{n{m}}`
  abbrev Digits : ℕ × ℕ → Type 0
  Digits d = (d.0 ≤ 9) × (d.1 ≤ 9)

  scales_reads : Ever Digits s place.scales
  scales_reads n =
      or_then _ _ (digit_reads s n)
      (λ d p k. or_then _ _ (digit_reads s k) (λ e q j. reads (p, q)) (reads (p, p)))
      (reads (lit≤ tt, lit≤ tt))

  width_reads : (b : ℕ) → Ever Narrow s (place.fill_field b)
  width_reads b n =
      follow_any (num s n) _ (λ v k. only_then (within 1 99 v) _ k (λ e j. follow_any (this 41 s j) _ (λ _ i. reads (field (leb-true v 99 (both (leb 1 v) (leb v 99) e).1)))))

  fill_reads : Ever Narrow s place.fill_part
  fill_reads = choose_reads _ (and_all (λ n. follow_any (place.fill_byte s n) _ width_reads) none_of) (λ n. reads no_field)

  mask_reads : (left : Bool) → Ever (Kept s) s (place.mask_code left)
  unfolding place.mask_code
  mask_reads left n =
      follow_then _ (scales_reads n) (λ nm p j.
      follow_any (flag 90 s j) _ (λ z k.
      follow_any (flag 44 s k) _ (λ commas l.
      follow_any (place.credit_letter s l) _ (λ cr o.
      follow_any (flag 36 s o) _ (λ dollar q.
      follow_then _ (fill_reads q) (λ fill w r.
      reads (mask_kept p.0 p.1 w)))))))

  -- `D{n}{s}`, "n 0 to 4"
  date_reads : {d : ℕ} → d ≤ 4 → Ever (Kept s) s (place.date_after d)
  date_reads h n = reads_either (is_separator (byte_at s n)) (reads (date_kept h)) (reads (date_kept h))

  dates_read : Ever (Kept s) s place.date_code
  unfolding digit_value
  dates_read n = digits (leb 48 (byte_at s n)) (leb (byte_at s n) 52) refl
    where
      digits : (t u : Bool) → leb (byte_at s n) 52 ≡ u
          → Reads (Kept s) (if t && u then place.date_after (byte_at s n - 48) s (after s n) else place.date_after 4 s n)
      digits true true e = let h : byte_at s n ≤ 52 = leb-true _ _ e in date_reads (omega arith) (after s n)
      digits true false e = date_reads (lit≤ tt) n
      digits false u e = date_reads (lit≤ tt) n

  plain_reads : (r : Placed Plain) → Ever (Kept s) s (place.as_plain r)
  plain_reads r n = any (r s n)
    where
      any : (o : Option (Plain × ℕ)) → Reads (Kept s) (place.plained o)
      any none = reads_not
      any (some q) = reads plain_kept

  masking_reads : Ever (Kept s) s place.masking_code
  unfolding place.masking_code
  masking_reads =
      choose_reads _
      (and_all (plain_reads place.character_code)
      (and_all (λ n. reads plain_kept)
      (and_all (λ n. reads plain_kept)
      (and_all (mask_reads true)
      (and_all (mask_reads false) none_of)))))
      (λ n. reads_not)

  -- a P code's patterns
  patterns_read : Ever (Kept s) s place.pattern_code
  unfolding place.pattern_code place.skimmed
  patterns_read n = placed (pattern_list (drop n s)) refl
    where
      placed : (o : Option (List Pattern × Bytes)) → pattern_list (drop n s) ≡ o
          → Reads (Kept s) (follow (place.skimmed tests_in s o) (λ tests. gives (Conversion.Patterns n tests)) s)
      placed none e = reads_not
      placed (some r) e = reads (patterns_kept e)

  pub conversion_kept : Ever (Kept s) s place.conversion
  unfolding place.conversion
  conversion_kept =
      choose_reads _
      (and_all (plain_reads place.group_code)
      (and_all (plain_reads place.extract_code)
      (and_all (plain_reads place.length_code)
      (and_all masking_reads
      (and_all dates_read
      (and_all patterns_read none_of))))))
      (λ n. reads_not)
