-- Document 02, L4: examples of A codes shown as F, of what is refused, and of values, as tables under one theorem each, by computation.
-- Assumes nothing.
use Rattle.std.specs.Prelude.{if◌then◌else◌}
use Prim.Native.Nat.{ℕ, zero, suc}
use Prim.Native.String.{String}
use mathlib.Core.Path.{◌≡◌, refl}
use mathlib.Core.List.{List, [], ◌∷◌, ◌++◌, map}
use lib.Dec.{eqb}
use lib.ListN.{replicate}
use Rattle.paper.specs.Bytes.{Bytes, ch, bytes, is_digit, digit_value, any}
use Rattle.paper.specs.Sizes.{attribute_mark, value_mark, subvalue_mark, code_most, entry_most, is_mark}
use Rattle.paper.specs.Refusals.{Res, refusal_of, answer_of, ◌>>=◌}
use Rattle.paper.specs.Records.{split, join, placed, pieces, nth, path, part_at, whole, place, reads}
use Rattle.paper.specs.Numbers.{signed, natural, value as number_value, sign_and_digits, after_blanks, before_blanks, within_blanks, numeric, ranged}
use Rattle.paper.specs.Numbers.{number, digits, trimmed, decimal, number_text, negated, plus, times, quotient, remainder, below, bytes_below, compared}
use Rattle.paper.specs.Numbers.{holds, binary_gives, substring_gives}
use Rattle.paper.specs.Grammar.{this, choose, more_digits, quoted, repeats, attribute_elm, literal_elm, previous_elm, multiply_elm, bracket_elm}
use Rattle.paper.specs.Grammar.{operator_elm, elm, parted, elms, conversion, function_code, code, read as read_code}
use Rattle.paper.specs.Checking.{shape, stacked, all_stacked, lawful, judged, judged_all, code_texts, check, report, checked_codes}
use Rattle.paper.specs.Steps.{load_path, limited}
use Rattle.paper.specs.Converting.{subvalues, values as value_elements, elements_in, elements_of, elements, fitted}
use Rattle.paper.specs.Program.{drawn}
use Rattle.algebra.specs.Expressions.{value, elms_in, behind, f_text}
use Rattle.algebra.specs.Grammar.{operator, fetch, up_to, pair, enclosed, remainder_of, base, bracket, brackets, operand, operations}
use Rattle.algebra.specs.Grammar.{expression, algebra, read}
use Rattle.algebra.specs.Showing.{understood, spelt_out, lawful_text, shown_text, show, values}

-- a drawn record: `^` for 254, `]` for 253 and `\` for 252
marked : ℕ → ℕ
marked b = if eqb b (ch "^") then attribute_mark else (if eqb b (ch "]") then value_mark else (if eqb b (ch "\\") then subvalue_mark else b))

-- n ones and a last operand, `1+(1+(...` and `1+1+...`
nested : ℕ → Bytes → Bytes
nested zero last = last
nested (suc n) last = bytes "1+(" ++ nested n last ++ bytes ")"

summed : ℕ → Bytes → Bytes
summed zero last = last
summed (suc n) last = bytes "1+" ++ summed n last

-- What an example calls: showing an A code with so much room, or for its refusal alone; checking it as a code of strings; and its values on a record
-- at an address.
data Example : Type 0 where
  showing : ℕ → Bytes → Example
  refusing : Bytes → Example
  checking : Bytes → Example
  valued : String → String → ℕ → ℕ → ℕ → Example

abbrev answer : Res Bytes → Bytes
answer r = decimal (refusal_of r) ++ ch " " ∷ map drawn (answer_of r)

-- What it tells: the refusal, and the answer, marks drawn.
told : Example → Bytes
unfolding bytes is_digit digit_value any is_mark entry_most split join placed pieces nth path part_at whole place reads signed natural number_value
    sign_and_digits after_blanks before_blanks within_blanks numeric ranged number digits trimmed decimal number_text negated plus times quotient
    remainder below bytes_below compared holds binary_gives substring_gives this choose more_digits quoted repeats attribute_elm literal_elm previous_elm
    multiply_elm bracket_elm operator_elm elm parted elms conversion function_code code read_code shape stacked all_stacked lawful judged judged_all
    code_texts check report checked_codes load_path limited subvalues value_elements elements_in elements_of elements fitted drawn value elms_in behind f_text
    operator fetch up_to pair enclosed remainder_of base bracket brackets operand operations expression algebra read
    understood spelt_out lawful_text shown_text show values marked
told (showing room a) = answer (show a room)
told (refusing a) = decimal (refusal_of (show a code_most))
told (checking a) = decimal (report (check a)).refusal
told (valued item a n v s) =
    let record_of = map marked (bytes item) in
    answer (understood (bytes a) >>= λ e. values entry_most record_of e (elements record_of n v s))

-- An example, and what is expected of it.
record Row : Type 0 where
  example : Example
  says : String

abbrev row : Example → String → Row
row e s = record { example = e; says = s }

-- an A code and its F text, with room for any; an A code not in the grammar
abbrev shows : String → String → Row
shows a text = row (showing code_most (bytes a)) text

abbrev not_read : Bytes → Row
not_read a = row (refusing a) "6"

abbrev all_told : List Row → List Bytes
all_told rows = map (λ r. told r.example) rows

abbrev all_said : List Row → List Bytes
all_said rows = map (λ r. bytes r.says) rows

-- the texts
texts : List Row
texts =
    shows "A1+2*3" "0 F;1;2;+;3;*"
    ∷ shows "A1+(2*3)" "0 F;1;2;3;*;+"
    -- `[]` binds to the operand
    ∷ shows "A1:2[3,4]" "0 F;1;2;3;4;[];:"
    ∷ shows "A1[2,3][4,5]" "0 F;1;2;3;[];4;5;[]"
    ∷ shows "A(1+2)[3,4]" "0 F;1;2;+;3;4;[]"
    ∷ shows "AR(1,'7')" "0 F;1;'7';R"
    -- the first R is the attribute's
    ∷ shows "A1R-R(1,2)" "0 F;1R;1;2;R;-"
    ∷ shows "A1=2=3" "0 F;1;2;=;3;="
    -- `>=` becomes `]` and `<=` becomes `[`
    ∷ shows "A1>=2" "0 F;1;2;]"
    ∷ shows "A1<=2" "0 F;1;2;["
    ∷ shows "A1<2>3#4" "0 F;1;2;<;3;>;4;#"
    -- operands as spelt; digits are attributes, never numbers or a scale
    ∷ shows "A001R" "0 F;001R"
    ∷ shows "A1RR/\"a b\"" "0 F;1RR;\"a b\";/"
    ∷ shows "A1*2" "0 F;1;2;*"
    ∷ shows "A'-1'" "0 F;'-1'"
    -- quotes hold anything but a mark
    ∷ shows "A'(;'+'])'" "0 F;'(;';'])';+"
    -- "parentheses to any depth": 255 pairs of them
    ∷ row (showing code_most (bytes "A" ++ replicate 255 (ch "(") ++ bytes "1" ++ replicate 255 (ch ")"))) "0 F;1"
    ∷ []

shown_texts : all_told texts ≡ all_said texts
unfolding told texts bytes
shown_texts = refl

-- "6 if not an expression"
unread : List Row
unread =
    not_read (bytes "A")
    ∷ not_read []
    ∷ not_read (bytes "B1")
    ∷ not_read (bytes "a1")
    ∷ not_read (bytes "A1 +2")
    ∷ not_read (bytes "A1+")
    ∷ not_read (bytes "A()")
    ∷ not_read (bytes "A(1")
    ∷ not_read (bytes "A1)")
    ∷ not_read (bytes "A1[2]")
    ∷ not_read (bytes "AR(1)")
    ∷ not_read (bytes "A1R(2,3)")
    ∷ not_read (bytes "A1RRR")
    ∷ not_read (bytes "A1234")
    ∷ not_read (bytes "ALPV")
    ∷ not_read (bytes "AS(1)")
    ∷ not_read (bytes "AN(X)")
    ∷ not_read (bytes "A-1")
    ∷ not_read (bytes "A1=>2")
    ∷ not_read (bytes "A1=<2")
    ∷ not_read (bytes "A1<>2")
    -- "No byte 251 to 255 stands in an expression, quotes or not", and 253 does not part an A code
    ∷ not_read (bytes "A'" ++ 251 ∷ bytes "'")
    ∷ not_read (bytes "A'" ++ value_mark ∷ bytes "'")
    ∷ not_read (bytes "A'" ++ 255 ∷ bytes "'")
    ∷ not_read (bytes "A1" ++ value_mark ∷ bytes "A2")
    -- a call of its own, and no code of strings
    ∷ row (checking (bytes "A1+2")) "6"
    ∷ []

unread_codes : all_told unread ≡ all_said unread
unfolding told unread bytes
unread_codes = refl

-- the other refusals, in their order
refusals : List Row
refusals =
    -- 5 over 512 bytes, before anything is looked at
    row (refusing (replicate 512 (ch "Z"))) "6"
    ∷ row (refusing (replicate 513 (ch "Z"))) "5"
    -- "5 if the F text would pass 512 bytes": n ones make 4n - 1
    ∷ row (refusing (bytes "A" ++ summed 127 (bytes "1"))) "0"
    ∷ row (refusing (bytes "A" ++ summed 128 (bytes "1"))) "5"
    -- exactly 512 of them
    ∷ row (refusing (bytes "A" ++ summed 127 (bytes "12"))) "0"
    ∷ row (refusing (bytes "A" ++ summed 127 (bytes "123"))) "5"
    -- 7 is the seventeenth entry
    ∷ row (showing code_most (bytes "A" ++ nested 15 (bytes "1"))) "0 F;1;1;1;1;1;1;1;1;1;1;1;1;1;1;1;1;+;+;+;+;+;+;+;+;+;+;+;+;+;+;+"
    ∷ row (showing code_most (bytes "A" ++ nested 16 (bytes "1"))) "7 "
    -- both too long and too deep
    ∷ row (refusing (bytes "A" ++ nested 16 (summed 112 (bytes "1")))) "5"
    -- and then 16
    ∷ row (showing 7 (bytes "A1+2")) "0 F;1;2;+"
    ∷ row (showing 6 (bytes "A1+2")) "16 "
    ∷ row (showing 0 (bytes "A" ++ nested 16 (bytes "1"))) "7 "
    ∷ []

refused_in_order : all_told refusals ≡ all_said refusals
unfolding told refusals nested summed bytes
refused_in_order = refl

-- values on a record, at an address
valuations : List Row
valuations =
    -- "strictly left to right with no precedence"
    row (valued "K1^2^3^4" "A1+2*3" 1 1 1) "0 20"
    ∷ row (valued "K1^2^3^4" "A1+(2*3)" 1 1 1) "0 14"
    -- the left one first, and the first refusal in written order
    ∷ row (valued "K1^2^3^4" "A1-2-3" 1 1 1) "0 -5"
    ∷ row (valued "K1^2^3^4" "A('1'/'0')+('9'*'999999999999999')" 1 1 1) "11 "
    ∷ row (valued "K1^2^3^4" "A('9'*'999999999999999')+('1'/'0')" 1 1 1) "10 "
    ∷ row (valued "K1^2^3^4" "AR('9','4')" 1 1 1) "0 1"
    ∷ row (valued "K1^2^3^4" "AR('1','0')" 1 1 1) "11 "
    -- "that x an operand": the second alone, or both
    ∷ row (valued "K1^ab^wxyz^2^3" "A1:2[3,4]" 1 1 1) "0 abxyz"
    ∷ row (valued "K1^ab^wxyz^2^3" "A(1:2)[3,4]" 1 1 1) "0 bwx"
    ∷ row (valued "K1^ab^wxyz^2^3" "A2[3,4][3,'1']" 1 1 1) "0 y"
    -- relations: 1 and 0, and their spelling
    ∷ row (valued "K1^2^3^4" "A1>=2" 1 1 1) "0 0"
    ∷ row (valued "K1^2^3^4" "A1<=2" 1 1 1) "0 1"
    ∷ row (valued "K1^2^3^4" "A2>=2" 1 1 1) "0 1"
    -- each element at its own position, with the marks between
    ∷ row (valued "K1^10]20^3" "A1*2R" 1 0 0) "0 30]60"
    ∷ row (valued "K1^10]20\\30^3]4" "A1*2" 1 0 0) "0 30]80\\0"
    -- or the refusal of the first that has one
    ∷ row (valued "K1^1]0" "A'6'/1" 1 0 0) "11 "
    -- the id
    ∷ row (valued "K1^2" "A0:1" 1 1 1) "0 K12"
    ∷ []

values_on_records : all_told valuations ≡ all_said valuations
unfolding told valuations bytes
values_on_records = refl
