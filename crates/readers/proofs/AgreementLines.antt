-- Each line of the grammar of codes other than F, by place, agrees with the paper's line.
use Prim.Native.Nat.{ℕ, suc, ◌≤◌, ◌-◌}
use Rattle.std.specs.Prelude.{Some, None}
use mathlib.Core.Path.{◌≡◌, refl, subst}
use mathlib.Core.Bool.{Bool, true, false}
use mathlib.Core.List.{List}
use mathlib.Core.Option.{Option, none, some}
use lib.ListN.{length, drop}
use lib.Dec.{ltb}
use native.Mathlib.Omega.{arith}
use Rattle.paper.specs.Bytes.{Bytes, within, is_digit, digit_value}
use Rattle.paper.specs.Sizes.{is_mark}
use Rattle.paper.specs.Grammar as paper
use Rattle.paper.specs.Codes as codes
use Rattle.paper.specs.Patterns.{tests_in}
use Rattle.codes.specs.Meaning.{credit_of, fill_of, mask_of, plain_of, patterns_at, conversion_of}
use Rattle.codes.specs.declared.Credit.{Credit}
use Rattle.codes.specs.declared.Fill.{Fill}
use Rattle.codes.specs.declared.Plain.{Plain}
use Rattle.codes.specs.declared.Conversion.{Conversion}
use Rattle.readers.specs.Places.{Placed, follow, gives, fails}
use Rattle.readers.specs.Reading as place
use Rattle.readers.proofs.Agreement.{Agree, neither, both, Agrees, no_more, option, gives_agrees, fails_agrees, chooses, aheads, digit_aheads, numeral_aheads, follow_agrees, choose_agrees, num_agrees, only_if_agrees, this_agrees, flag_agrees}
use Rattle.readers.proofs.PatternReads.{patterns_end}

plained_agrees : {s : Bytes} {low : ℕ} {x : Option (Plain × ℕ)} {y : Option (codes.Plain × Bytes)} → Agree plain_of s low x y → Agree (conversion_of s) s low (place.plained x) (paper.follow y (λ p. paper.gives (codes.plain p)))
unfolding conversion_of
plained_agrees neither = neither
plained_agrees (both a n l u) = both (Conversion.Plain a) n l u

module _ {s : Bytes} {low : ℕ} where
  -- `G{num}x num`
  separator_agrees : Agrees (λ (n : ℕ). n) s low place.separator paper.separator
  unfolding place.separates paper.separator is_digit is_mark
  separator_agrees = aheads place.separates refl gives_agrees fails_agrees

  group_after_agrees : (skip : ℕ) → Agrees plain_of s low (place.group_after skip) (paper.group_after skip)
  unfolding paper.group_after plain_of
  group_after_agrees skip =
      follow_agrees _ _ separator_agrees (λ x. follow_agrees _ _ num_agrees (λ v. follow_agrees _ _ (only_if_agrees (ltb 0 v)) (λ _. gives_agrees (Plain.Group skip x v))))

  group_code_agrees : Agrees plain_of s low place.group_code paper.group_code
  unfolding paper.group_code
  group_code_agrees = numeral_aheads 3 group_after_agrees (group_after_agrees 0)

  -- `T num` or `T num,num`
  extract_from_agrees : (start : ℕ) → Agrees plain_of s low (place.extract_from start) (paper.extract_from start)
  unfolding paper.extract_from plain_of
  extract_from_agrees start = follow_agrees _ _ (only_if_agrees (ltb 0 start)) (λ _. follow_agrees _ _ num_agrees (λ v. gives_agrees (Plain.Extract start v)))

  extract_code_agrees : Agrees plain_of s low place.extract_code paper.extract_code
  unfolding paper.extract_code plain_of
  extract_code_agrees = follow_agrees _ _ num_agrees (λ v. chooses tt (option (extract_from_agrees v) no_more) (gives_agrees (Plain.Extract 1 v)))

  -- `L`, `L num`, `L num,num`
  admit_from_agrees : (least : ℕ) → Agrees plain_of s low (place.admit_from least) (paper.admit_from least)
  unfolding paper.admit_from plain_of
  admit_from_agrees least = follow_agrees _ _ num_agrees (λ v. gives_agrees (Plain.Admit least v))

  length_after_agrees : (v : ℕ) → Agrees plain_of s low (place.length_after v) (paper.length_after v)
  unfolding paper.length_after plain_of
  length_after_agrees v = chooses tt (option (admit_from_agrees v) no_more) (gives_agrees (Plain.Admit 0 v))

  length_code_agrees : Agrees plain_of s low place.length_code paper.length_code
  unfolding paper.length_code plain_of
  length_code_agrees = numeral_aheads 3 length_after_agrees (gives_agrees Plain.Measure)

  -- `MCA` `MC/A` `MCN` `MC/N` `MCU` `MCL` `MCT`
  except_code_agrees : Agrees plain_of s low place.except_code paper.except_code
  unfolding paper.except_code paper.choose plain_of
  except_code_agrees = chooses tt (option (gives_agrees Plain.OtherThanLetters) (option (gives_agrees Plain.OtherThanNumerals) no_more)) fails_agrees

  character_code_agrees : Agrees plain_of s low place.character_code paper.character_code
  unfolding paper.character_code paper.choose plain_of
  character_code_agrees =
      chooses tt
      (option (gives_agrees Plain.Letters)
      (option (gives_agrees Plain.Numerals)
      (option except_code_agrees
      (option (gives_agrees Plain.Upper)
      (option (gives_agrees Plain.Lower)
      (option (gives_agrees Plain.Title) no_more))))))
      fails_agrees

  -- `ML` or `MR`
  scales_agrees : Agrees (λ (p : ℕ × ℕ). p) s low place.scales paper.scales
  unfolding paper.scales
  scales_agrees = digit_aheads (λ d. digit_aheads (λ e. gives_agrees (d, e)) (gives_agrees (d, d))) (gives_agrees (0, 0))

  credit_letter_agrees : Agrees credit_of s low place.credit_letter paper.credit_letter
  unfolding paper.credit_letter credit_of
  credit_letter_agrees =
      chooses tt
      (option (gives_agrees (Some Credit.Credit))
      (option (gives_agrees (Some Credit.Debit))
      (option (gives_agrees (Some Credit.Enclosed))
      (option (gives_agrees (Some Credit.Trailing))
      (option (gives_agrees (Some Credit.Suppressed)) no_more)))))
      (gives_agrees None)

  fill_byte_agrees : Agrees (λ (n : ℕ). n) s low place.fill_byte paper.fill_byte
  unfolding paper.fill_byte paper.choose
  fill_byte_agrees = chooses tt (option (gives_agrees 32) (option (gives_agrees 42) (option (gives_agrees 48) no_more))) fails_agrees

  fill_width_agrees : Agrees fill_of s low place.fill_width paper.fill_width
  unfolding paper.fill_width
  fill_width_agrees =
      follow_agrees _ _ fill_byte_agrees
      (λ fill. follow_agrees _ _ num_agrees
      (λ v. follow_agrees _ _ (only_if_agrees (within 1 99 v))
      (λ _. follow_agrees _ _ (this_agrees 41 tt) (λ _. gives_agrees (Some (record { byte = fill; width = v }))))))

  fill_part_agrees : Agrees fill_of s low place.fill_part paper.fill_part
  unfolding paper.fill_part
  fill_part_agrees = chooses tt (option fill_width_agrees no_more) (gives_agrees None)

  mask_code_agrees : (left : Bool) → Agrees (conversion_of s) s low (place.mask_code left) (paper.mask_code left)
  unfolding place.mask_code paper.mask_code conversion_of mask_of
  mask_code_agrees left =
      follow_agrees _ _ scales_agrees
      (λ nm. follow_agrees _ _ (flag_agrees 90 tt)
      (λ z. follow_agrees _ _ (flag_agrees 44 tt)
      (λ commas. follow_agrees _ _ credit_letter_agrees
      (λ cr. follow_agrees _ _ (flag_agrees 36 tt)
      (λ dollar. follow_agrees _ _ fill_part_agrees (λ fill. gives_agrees _))))))

  -- `D{n}{s}`
  date_after_agrees : (n : ℕ) → Agrees (conversion_of s) s low (place.date_after n) (paper.date_after n)
  unfolding paper.date_after paper.is_separator conversion_of
  date_after_agrees n = aheads paper.is_separator refl (λ b. gives_agrees (Conversion.Date n (Some b))) (gives_agrees (Conversion.Date n None))

  date_code_agrees : Agrees (conversion_of s) s low place.date_code paper.date_code
  unfolding paper.date_code
  date_code_agrees = aheads (within 48 52) refl (λ b. date_after_agrees (digit_value b)) (date_after_agrees 4)

  -- `P` and its patterns
  pattern_code_agrees : Agrees (conversion_of s) s low place.pattern_code paper.pattern_code
  unfolding place.pattern_code place.skimmed paper.pattern_code conversion_of patterns_at
  pattern_code_agrees = record { at = λ n l u. go n l (paper.pattern_list (drop n s)) refl }
    where
      go : (at : ℕ) → low ≤ at → (o : Option (List codes.Pattern × Bytes)) → paper.pattern_list (drop at s) ≡ o
          → Agree (conversion_of s) s low (follow (place.skimmed tests_in s o) (λ tests. gives (Conversion.Patterns at tests)) s)
          (paper.follow o (λ ps. paper.gives (codes.patterns ps)))
      go at l none e = neither
      go at l (some r) e =
          let n = length s - length r.1 in
          let w = patterns_end s at e in
          let same : codes.patterns (patterns_at s at) ≡ codes.patterns r.0 = rw e in
          let read : ◌≡◌ {A = codes.Conversion × Bytes} (codes.patterns (patterns_at s at), drop n s) (codes.patterns r.0, r.1) = cc w.left in
          subst (λ y. Agree (conversion_of s) s low (some (Conversion.Patterns at (tests_in r.0), n)) (some y)) read
          (both (Conversion.Patterns at (tests_in r.0)) n (omega arith) (omega arith))

  as_plain_agrees : {r : Placed Plain} {r' : paper.Reader codes.Plain} → Agrees plain_of s low r r' → Agrees (conversion_of s) s low (place.as_plain r) (paper.as_plain r')
  as_plain_agrees e = record { at = λ n l u. plained_agrees (e.at n l u) }

  masking_code_agrees : Agrees (conversion_of s) s low place.masking_code paper.masking_code
  unfolding place.masking_code paper.masking_code paper.choose conversion_of plain_of
  masking_code_agrees =
      chooses tt
      (option (as_plain_agrees character_code_agrees)
      (option (gives_agrees (Conversion.Plain Plain.Hex))
      (option (gives_agrees (Conversion.Plain Plain.Unhex))
      (option (mask_code_agrees true)
      (option (mask_code_agrees false) no_more)))))
      fails_agrees

  -- a code other than F eats a byte at least
  conversion_at_agrees : (at : ℕ) → low ≤ suc at → at ≤ length s → Agree (conversion_of s) s low (place.conversion s at) (paper.conversion (drop at s))
  unfolding place.conversion paper.conversion paper.choose
  conversion_at_agrees at g h =
      choose_agrees fails paper.fails at tt g h
      (option (as_plain_agrees group_code_agrees)
      (option (as_plain_agrees extract_code_agrees)
      (option (as_plain_agrees length_code_agrees)
      (option masking_code_agrees
      (option date_code_agrees
      (option pattern_code_agrees no_more))))))
      neither

  pub conversion_agrees : Agrees (conversion_of s) s low place.conversion paper.conversion
  conversion_agrees = record { at = λ n l u. conversion_at_agrees n (omega arith) u }

-- The code other than F at a place is the paper's there, and each stops where the other does.
pub conversion_reads : (s : Bytes) (at : ℕ) → at ≤ length s → Agree (conversion_of s) s (suc at) (place.conversion s at) (paper.conversion (drop at s))
conversion_reads s at h = conversion_at_agrees at (omega arith) h
