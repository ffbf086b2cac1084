-- Document 01, "Examples on both sides": the starred examples, as one table under one theorem, by computation.
-- Below it the easy slips, and what a wrong reading of a rule would get wrong, in the same way. Assumes nothing.
use Rattle.std.specs.Prelude.{if◌then◌else◌}
use Prim.Native.Nat.{ℕ}
use Prim.Native.String.{String}
use mathlib.Core.Path.{◌≡◌, refl}
use mathlib.Core.List.{List, [], ◌∷◌, ◌++◌, map}
use lib.ListN.{length}
use lib.Dec.{eqb}
use Rattle.paper.specs.Refusals.{refusal_of, answer_of}
use Rattle.paper.specs.Bytes.{Bytes, ch, bytes, is_digit, is_upper, is_lower, is_letter, digit_value, any, only, same_bytes}
use Rattle.paper.specs.Sizes.{attribute_mark, value_mark, subvalue_mark, record_most, is_mark, is_outer_mark, is_inner_mark, entry_most, scratch_least}
use Rattle.paper.specs.Records.{split, join, placed, pieces, nth, path, part_at, whole, id_of, place, lawful_id, lawful_record, lawful_address, reads}
use Rattle.paper.specs.Numbers.{signed, natural, value, sign_and_digits, after_blanks, before_blanks, within_blanks, numeric, ranged, number, digits, trimmed, decimal, number_text, negated, plus, times, quotient, remainder, below, bytes_below, compared, holds, binary_gives, substring_gives}
use Rattle.paper.specs.Grammar.{this, flag, choose, more_digits, numeral, num, quoted, closed_by, class_letter, count_test, literal_test, test, tests, pattern, pattern_list, pattern_code, separator, group_after, group_code, extract_from, extract_code, admit_from, length_after, length_code, except_code, character_code, scales, credit_letter, fill_byte, fill_width, fill_part, mask_code, is_separator, date_after, date_code, masking_code, conversion, repeats, attribute_elm, literal_elm, previous_elm, multiply_elm, bracket_elm, converting_elm, operator_elm, elm, parted, elms, function_code, code, read}
use Rattle.paper.specs.Checking.{conversion_kind, shape, stacked, all_stacked, lawful, judged, judged_all, code_texts, check, together, step_counts, elms_counts, code_counts, codes_counts, report, codes_of, checked_codes}
use Rattle.paper.specs.Patterns.{of_class, every, is_so_many, meets, some_cut, passes, some_passes, patterns_give, tests_in}
use Rattle.paper.specs.Texts.{raised, lowered, titled, hex_digit, hexed, hex_value, unhexed, plain_gives}
use Rattle.paper.specs.Masks.{number_gives, rounded, scaled_size, scaled, grouped, integer_text, point_text, digits_text, before_digits, after_digits, masked_text, laid_out, blank_text, number_masked, mask_gives}
use Rattle.paper.specs.Dates.{leap, month_lengths, month_names, days_before_year, year_of, month_day, date_of, ranged_day, year_text, date_text, date_gives}
use Rattle.paper.specs.Steps.{onward, stepped, conversion_gives, load_path, operand, bytes_in, charged, price, step_ceiling, top_entry, limited, elm_puts, elm_step, conversion_step, elms_run, code_run, codes_run, element_run}
use Rattle.paper.specs.Converting.{Outcome, subvalues, values, from_one, elements_in, elements_of, elements, elements_run, within_budget, lawful_place, lawful_code, ready, run, fitted, finished, carried_out, convert, elms_ceiling, code_ceiling, codes_ceiling, ceiling_over, ceiling, counted_ceiling}
use Rattle.paper.specs.Program.{program_budget, drawn, printed}

-- a drawn record: `^` for 254, `]` for 253 and `\` for 252
marked : ℕ → ℕ
marked b =
    if eqb b (ch "^") then attribute_mark
    else (if eqb b (ch "]") then value_mark else (if eqb b (ch "\\") then subvalue_mark else b))

-- What an example calls: converting a record at an address under a budget; its ceiling, the sum over steps, and from a check's numbers;
-- a code on an element; a check; a check of codes with a drawn 253 between.
data Example : Type 0 where
  converting : String → String → ℕ → ℕ → ℕ → ℕ → Example
  at_most : String → String → ℕ → ℕ → ℕ → Example
  from_counts : String → String → ℕ → ℕ → ℕ → Example
  giving : String → String → Example
  checking : String → Example
  first_bad : String → Example

abbrev without_steps : Outcome → Bytes
without_steps o = decimal (refusal_of o.answer) ++ ch " " ∷ map drawn (answer_of o.answer)

abbrev with_steps : Outcome → Bytes
with_steps o = decimal (refusal_of o.answer) ++ ch " " ∷ decimal o.steps ++ ch " " ∷ map drawn (answer_of o.answer)

-- What it tells: the refusal, the steps where they are asked for, and the answer, marks drawn; a ceiling; a check's refusal; the number of the bad code too.
told : Example → Bytes
unfolding bytes is_digit is_upper is_lower is_letter digit_value any only same_bytes is_mark is_outer_mark is_inner_mark entry_most scratch_least split join placed pieces nth path part_at whole id_of place lawful_id lawful_record lawful_address reads signed natural value sign_and_digits after_blanks before_blanks within_blanks numeric ranged number digits trimmed decimal number_text negated plus times quotient remainder below bytes_below compared holds binary_gives substring_gives this flag choose more_digits numeral num quoted closed_by class_letter count_test literal_test test tests pattern pattern_list pattern_code separator group_after group_code extract_from extract_code admit_from length_after length_code except_code character_code scales credit_letter fill_byte fill_width fill_part mask_code is_separator date_after date_code masking_code conversion repeats attribute_elm literal_elm previous_elm multiply_elm bracket_elm converting_elm operator_elm elm parted elms function_code code read of_class every is_so_many meets some_cut passes some_passes patterns_give tests_in conversion_kind shape stacked all_stacked lawful judged judged_all code_texts check together step_counts elms_counts code_counts codes_counts report checked_codes raised lowered titled hex_digit hexed hex_value unhexed plain_gives number_gives rounded scaled_size scaled grouped integer_text point_text digits_text before_digits after_digits masked_text laid_out blank_text number_masked mask_gives leap month_lengths month_names days_before_year year_of month_day date_of ranged_day year_text date_text date_gives onward stepped conversion_gives load_path operand bytes_in charged price step_ceiling top_entry limited elm_puts elm_step conversion_step elms_run code_run codes_run element_run subvalues values from_one elements_in elements_of elements elements_run within_budget lawful_place lawful_code ready run fitted finished carried_out convert elms_ceiling code_ceiling codes_ceiling ceiling_over ceiling counted_ceiling drawn printed marked
told (converting item code a v s budget) =
    with_steps (convert (map marked (bytes item)) (bytes code) a v s budget record_most scratch_least)
told (at_most item code a v s) =
    decimal
    (ceiling (length (bytes item)) (codes_of (check (bytes code))) (length (elements (map marked (bytes item)) a v s)))
told (from_counts item code a v s) =
    let r = report (check (bytes code)) in
    decimal
    (counted_ceiling r.steps (length (bytes item)) (length (elements (map marked (bytes item)) a v s)))
told (giving code element) =
    without_steps
    (convert (map marked (bytes "K1^") ++ bytes element) (bytes code) 1 0 0 program_budget record_most scratch_least)
told (checking code) = decimal (report (check (bytes code))).refusal
told (first_bad codes) = let r = report (check (map marked (bytes codes))) in decimal r.refusal ++ ch " " ∷ decimal r.code_number

-- An example and what document 01 says of it.
record Row : Type 0 where
  example : Example
  says : String

abbrev row : Example → String → Row
row e s = record { example = e; says = s }

abbrev all_told : List Row → List Bytes
all_told rows = map (λ r. told r.example) rows

abbrev all_said : List Row → List Bytes
all_said rows = map (λ r. bytes r.says) rows

starred : List Row
starred =
    row (converting "K1^10]20^3" "F;1;2R;*" 1 0 0 program_budget) "0 62 30]60"
    ∷ row (at_most "K1^10]20^3" "F;1;2R;*" 1 0 0) "12334"
    ∷ row (from_counts "K1^10]20^3" "F;1;2R;*" 1 0 0) "12334"
    ∷ row (converting "K1^10]20^3" "F;1;2R;*" 1 0 0 61) "15 56 "
    ∷ row (giving "F;'7';'2';-" "") "0 5"
    ∷ row (giving "F;'-7';'2';/" "") "0 -3"
    ∷ row (giving "F;'-7';'2';R" "") "0 -1"
    ∷ row (giving "F;'7';'0';/" "") "11 "
    ∷ row (checking "F;1;+") "7"
    ∷ row (giving "D" "0") "0 31 DEC 1967"
    ∷ row (giving "D" "60") "0 29 FEB 1968"
    ∷ row (giving "D" "10000") "0 18 MAY 1995"
    ∷ row (giving "MR2" "1234") "0 12.34"
    ∷ row (giving "MR2M" "-5") "0 0.05-"
    ∷ row (giving "G1*1" "AB*CD*EF") "0 CD"
    ∷ []

starred_examples : all_told starred ≡ all_said starred
unfolding told starred marked bytes
starred_examples = refl

-- "Easy slips", and one row for each rule that a slip of one sign or one number would change unseen
slips : List Row
slips =
    -- a missing value is not the attribute's last one
    row (converting "K1^10]20" "F;1" 1 3 0 program_budget) "0 9 "
    -- a step may bring the sum exactly to the budget
    ∷ row (converting "K1^10]20^3" "F;1;2R;*" 1 0 0 62) "0 62 30]60"
    -- `[` is less or equal, `]` greater or equal
    ∷ row (giving "F;'1';'2';[" "") "0 1"
    ∷ row (giving "F;'1';'2';]" "") "0 0"
    -- halves away from zero (document 02, L2), and zero has no sign
    ∷ row (giving "MR01" "25") "0 3"
    ∷ row (giving "MR01" "-25") "0 -3"
    ∷ row (giving "MR01" "-24") "0 -2"
    ∷ row (giving "MR01" "-26") "0 -3"
    ∷ row (giving "MR01" "-5") "0 -1"
    ∷ row (giving "MR01" "-4") "0 0"
    ∷ row (giving "MR01C" "-5") "0 1CR"
    ∷ row (giving "MR01C" "-4") "0 0  "
    ∷ row (giving "MR01Z" "-4") "0 0"
    ∷ row (giving "MR01(#1)" "25") "0 3"
    ∷ row (giving "MR01(#1)" "-25") "14 "
    -- a checked string holds at most sixteen entries, and ends with one
    ∷ row (checking "F;1;1;1;1;1;1;1;1;1;1;1;1;1;1;1;1") "18"
    ∷ row (checking "F;1;1;1;1;1;1;1;1;1;1;1;1;1;1;1;1;+;+;+;+;+;+;+;+;+;+;+;+;+;+;+") "0"
    ∷ row (checking "F;1;1;1;1;1;1;1;1;1;1;1;1;1;1;1;1;1") "7"
    ∷ []

easy_slips : all_told slips ≡ all_said slips
unfolding told slips marked bytes
easy_slips = refl

-- Document 02, L1, where it can be misread
patterns : List Row
patterns =
    -- "if it can be cut": some cut, not the longest first part
    row (giving "P(0N1N)" "7") "0 7"
    ∷ row (giving "P(0X'a')" "banana") "0 banana"
    ∷ row (giving "P(0X'aa')" "aaa") "0 aaa"
    -- nothing is left over
    ∷ row (giving "P(3X)" "ab") "0 "
    ∷ row (giving "P(3X)" "abcd") "0 "
    -- "0 meaning any number and none"
    ∷ row (giving "P('a'0N'b')" "ab") "0 ab"
    ∷ row (giving "P(001N)" "1") "0 1"
    ∷ row (giving "P('')" "x") "0 "
    -- "Several patterns pass if one does", and T counts the tests of all of them
    ∷ row (converting "K1^AB" "P(1N);(2A)" 1 0 0 program_budget) "0 9 AB"
    ∷ row (converting "K1^A1" "P(1N);(2A)" 1 0 0 program_budget) "0 7 "
    ∷ row (converting "K1^AB" "P(2A);(1N)" 1 0 0 program_budget) "0 9 AB"
    ∷ row (converting "K1^AB" "P(2A);(1N)" 1 0 0 8) "15 0 "
    -- in F's parentheses too
    ∷ row (converting "K1^10]20^3" "F;1;(P(1N);(2A))" 1 0 0 program_budget) "0 40 ]"
    ∷ row (at_most "K1^10]20^3" "F;1;(P(1N);(2A))" 1 0 0) "8220"
    ∷ row (from_counts "K1^10]20^3" "F;1;(P(1N);(2A))" 1 0 0) "8220"
    ∷ row (checking "P(0N)(") "6"
    ∷ row (checking "F;1;(P(1N));(L)") "0"
    ∷ row (checking "F;1;(P(1N);(L))") "6"
    ∷ row (checking "F;1;P;+") "0"
    ∷ []

pattern_examples : all_told patterns ≡ all_said patterns
unfolding told patterns marked bytes
pattern_examples = refl

-- Document 02, L3, where it can be misread
blanked : List Row
blanked =
    -- "before and after", and costs "count the bytes as they stand"
    row (converting "K1^x" "F;' 42';'1';+" 1 0 0 program_budget) "0 13 43"
    ∷ row (converting "K1^x" "F;'42 ';' 42';=" 1 0 0 program_budget) "0 16 1"
    ∷ row (giving "F;' +5 ';'1';+" "") "0 6"
    ∷ row (giving "F;'  -5';'1';+" "") "0 -4"
    ∷ row (giving "L" " 42") "0 3"
    -- "not between": the sign and the digits, the digits
    ∷ row (giving "F;'- 5';'1';+" "") "0 1"
    ∷ row (giving "F;'+ 5';'1';+" "") "0 1"
    ∷ row (giving "F;'4 2';'1';+" "") "0 1"
    -- "byte 32", and no other
    ∷ row (giving "F;'\t5';'1';+" "") "0 1"
    ∷ row (giving "D" "0\t") "12 "
    -- "blanks alone" are "still not numeric": 0 in arithmetic, bytes in a relation, 12 in ML, MR and D
    ∷ row (giving "F;'  ';'1';+" "") "0 1"
    ∷ row (giving "F;'  ';'0';=" "") "0 0"
    ∷ row (giving "ML2" " ") "12 "
    ∷ row (giving "MR2" "  ") "12 "
    ∷ row (giving "D" " ") "12 "
    -- "wherever document 01 reads a number"
    ∷ row (giving "F;'abcdef';' 2 ';' 3';[]" "") "0 bcd"
    ∷ row (giving "F;' 9';'10';<" "") "0 1"
    ∷ row (giving "MR2" " 1234 ") "0 12.34"
    ∷ row (giving "MR2Z" " 0 ") "0 "
    ∷ row (giving "D" " 60 ") "0 29 FEB 1968"
    ∷ row (giving "F;' 1000000000000000 ';'1';+" "") "10 "
    ∷ row (giving "F;' 1000000000000000 ';'x';=" "") "0 0"
    -- where it reads none
    ∷ row (giving "F;' 42';'';:" "") "0  42"
    ∷ row (giving "MY" " 41") "12 "
    ∷ row (giving "P(2N)" " 42") "0 "
    ∷ row (checking "MR 2") "6"
    ∷ []

blank_examples : all_told blanked ≡ all_said blanked
unfolding told blanked marked bytes
blank_examples = refl

-- Document 02, L5, where it can be misread
left_over : List Row
left_over =
    -- "exactly one entry", by whatever elm another is left
    row (checking "F;1;2;3;+") "18"
    ∷ row (checking "F;1;P") "18"
    ∷ row (checking "F;1;2;_") "18"
    ∷ row (checking "F;1;2;3;+;+") "0"
    ∷ row (checking "F;1;2;3;[]") "0"
    ∷ row (checking "F;LPV") "0"
    -- "after 6 and 7", each on the whole code
    ∷ row (checking "F;1;2;ZZ") "6"
    ∷ row (checking "F;1;2;3;[];+") "7"
    ∷ row (checking "F;1;2;+;+;1;2") "7"
    -- the first bad code decides, with its number
    ∷ row (first_bad "F;1;2]ZZ") "18 1"
    ∷ row (first_bad "F;1;2]F;+") "18 1"
    ∷ row (first_bad "F;+]F;1;2") "7 1"
    ∷ row (first_bad "MX]F;1]F;1;2") "18 3"
    ∷ row (first_bad "F;1]F;2") "0 0"
    -- it stands where 6 and 7 stand: nothing runs, and the ceiling is 0
    ∷ row (converting "K1^10]20^3" "F;1;2R" 1 0 0 program_budget) "18 0 "
    ∷ row (converting "K1^10]20^3" "F;1;2R" 1 0 0 0) "18 0 "
    ∷ row (at_most "K1^10]20^3" "F;1;2R" 1 0 0) "0"
    ∷ []

left_over_examples : all_told left_over ≡ all_said left_over
unfolding told left_over marked bytes
left_over_examples = refl
