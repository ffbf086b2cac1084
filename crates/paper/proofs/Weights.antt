-- Document 02, L1, "With T tests in the code": how many bytes steps and tests take at least, two for each but the last byte. So no count of a
-- checked string is large: "A string has at most 254 tests." Assumes nothing.
use Rattle.std.specs.Prelude.{if◌then◌else◌}
use Prim.Native.Nat.{ℕ, zero, suc, ◌+◌, ◌*◌, ◌≤◌, ◌<◌}
use native.Mathlib.Omega.{arith}
use mathlib.Core.Path.{◌≡◌, refl}
use mathlib.Core.Bool.{Bool, true, false}
use mathlib.Core.List.{List, [], ◌∷◌}
use mathlib.Core.Option.{Option, none, some}
use lib.Dec.{eqb}
use lib.ListN.{length}
use Rattle.paper.specs.Bytes.{Bytes, ch, is_digit, digit_value}
use Rattle.paper.specs.Numbers.{Binary, Relation}
use Rattle.paper.specs.Codes.{Test, Pattern, Plain, Conversion, Elm, Kind}
use Rattle.paper.specs.Grammar.{Reader, follow, gives, ahead, this, choose, more_digits, quoted, class_letter, count_test, literal_test, test, tests}
use Rattle.paper.specs.Grammar.{pattern, pattern_list, pattern_code, parted, closed_by, as_plain, group_code, extract_code, length_code, character_code}
use Rattle.paper.specs.Grammar.{scales, flag, credit_letter, fill_part, mask_code, is_separator, date_after, date_code, masking_code, conversion}
use Rattle.paper.specs.Grammar.{repeats, attribute_elm, literal_elm, previous_elm, multiply_elm, bracket_elm, converting_elm, operator_elm, elm}
use Rattle.paper.specs.Patterns.{tests_in}
use Rattle.paper.specs.Checking.{conversion_kind, shape}
use Rattle.paper.proofs.Predicates.{Reads, reads, reads_not, reads_after, reads_ahead, All, none_of, and_all}
use Rattle.paper.proofs.Splitting.{Told, absent, present, told, told_map}
use Rattle.paper.proofs.Eating.{Eats, told_follow, eating, eats_a_byte, eats_quoted, conversion_eats, elm_eats}

-- a step, and its tests
abbrev pub weight : Kind → ℕ
weight Kind.loading = 1
weight (Kind.testing t) = suc t
weight Kind.other = 1

told_by : {A : Type 0} {P : A → Type 0} (o : Option A) → ((a : A) → o ≡ some a → P a) → Told P o
told_by none f = absent
told_by (some a) f = present (f a refl)

told_either : {A : Type 0} {P : A → Type 0} (t : Bool) {x y : Option A} → Told P x → Told P y → Told P (if t then x else y)
told_either true p q = p
told_either false p q = q

-- Over the number of bytes that are there: what stands behind a byte that names a reader is one less.
module _ {A : Type 0} (P : ℕ → A × Bytes → Type 0) where
  choose_told : {cs : List (ℕ × Reader A)} → All (λ c. (bs : Bytes) → Told (P (suc (length bs))) (c.1 bs)) cs
      → (bs : Bytes) → Told (P (length bs)) (choose cs bs)
  unfolding choose
  choose_told none_of bs = absent
  choose_told (and_all f fs) [] = choose_told fs []
  choose_told (and_all {a = c} f fs) (b ∷ bs) = told_either (eqb c.0 b) (f bs) (choose_told fs (b ∷ bs))

-- a test takes two
pub test_told : (bs : Bytes) → Told (λ x. 2 + length x.1 ≤ length bs) (test bs)
unfolding test choose count_test class_letter literal_test quoted more_digits
test_told [] = absent
test_told (b ∷ bs) =
    told_either (is_digit b) (two (count_test b) (search eating depth 40) refl)
    (told_either (eqb (ch "'") b) (two (literal_test (ch "'")) (search (eating, eats_quoted) depth 20) refl)
    (told_either (eqb (ch "\"") b) (two (literal_test (ch "\"")) (search (eating, eats_quoted) depth 20) refl) absent))
  where
    two : (r : Reader Test) → Eats [] r → r [] ≡ none → Told (λ x. 2 + length x.1 ≤ suc (length bs)) (r bs)
    two r eats starts = told_by (r bs) (λ x e. omega (arith, eats_a_byte eats starts e))

-- tests take two each, and the parenthesis that closes them
closed_told : (fuel : ℕ) (bs : Bytes) → Told (λ x. 2 * length x.0 + 1 + length x.1 ≤ length bs) (closed_by fuel (ch ")") test bs)
unfolding closed_by
closed_told zero bs = absent
closed_told (suc fuel) bs = told_follow _ (test_told bs) (λ x p. behind x.0 x.1 p (closed_told fuel x.1))
  where
    behind : (t : Test) (rest : Bytes) → 2 + length rest ≤ length bs
        → Told (λ y. 2 * length y.0 + 1 + length y.1 ≤ length rest) (closed_by fuel (ch ")") test rest)
        → Told (λ y. 2 * length y.0 + 1 + length y.1 ≤ length bs)
        (ahead (eqb (ch ")")) (λ _. gives (t ∷ [])) (λ bs. follow (closed_by fuel (ch ")") test bs) (λ ts. gives (t ∷ ts))) rest)
    behind t [] p more = told_follow _ more (λ y q. present (omega arith))
    behind t (b ∷ rest) p more = told_either (eqb (ch ")") b) (present (omega arith)) (told_follow _ more (λ y q. present (omega arith)))

pub tests_told : (bs : Bytes) → Told (λ x. 2 * length x.0 + 1 + length x.1 ≤ length bs) (tests bs)
unfolding tests
tests_told bs = closed_told (length bs) bs

-- a pattern, and the parenthesis that opens it
pub pattern_told : (bs : Bytes) → Told (λ x. 2 * length x.0 + 2 + length x.1 ≤ length bs) (pattern bs)
unfolding pattern this
pattern_told [] = absent
pattern_told (b ∷ bs) = opened (eqb (ch "(") b)
  where
    opened : (t : Bool) → Told (λ x. 2 * length x.0 + 2 + length x.1 ≤ length (b ∷ bs)) (follow (if t then some (tt {0}, bs) else none) (λ _. tests))
    opened true = told_map (λ x p. omega arith) (tests_told bs)
    opened false = absent

list_told : (fuel : ℕ) (bs : Bytes) → Told (λ x. 2 * tests_in x.0 + 2 + length x.1 ≤ length bs) (parted fuel (ch ";") pattern bs)
unfolding parted tests_in
list_told zero bs = absent
list_told (suc fuel) bs = told_follow _ (pattern_told bs) (λ x p. behind x.0 x.1 p (list_told fuel))
  where
    behind : (t : Pattern) (rest : Bytes) → 2 * length t + 2 + length rest ≤ length bs
        → ((bs : Bytes) → Told (λ y. 2 * tests_in y.0 + 2 + length y.1 ≤ length bs) (parted fuel (ch ";") pattern bs))
        → Told (λ y. 2 * tests_in y.0 + 2 + length y.1 ≤ length bs)
        (ahead (eqb (ch ";")) (λ _ bs. follow (parted fuel (ch ";") pattern bs) (λ ps. gives (t ∷ ps))) (gives (t ∷ [])) rest)
    behind t [] p more = present {a = (t ∷ [], [])} (omega arith)
    behind t (b ∷ rest) p more =
        told_either (eqb (ch ";") b) (told_follow _ (more rest) (λ y q. present {a = (t ∷ y.0, y.1)} (omega arith)))
        (present {a = (t ∷ [], b ∷ rest)} (omega arith))

-- the patterns of a P code: two bytes for each test
pub patterns_told : (bs : Bytes) → Told (λ x. 2 * tests_in x.0 + 2 + length x.1 ≤ length bs) (pattern_list bs)
unfolding pattern_list
patterns_told bs = list_told (length bs) bs

-- one step of no tests, or so many bytes
data Weighed {A : Type 0} (kind : A → Kind) (n : ℕ) (x : A × Bytes) : Type 0 where
  alone : weight (kind x.0) ≡ 1 → Weighed kind n x
  together : 2 * weight (kind x.0) + length x.1 ≤ n + 1 → Weighed kind n x

light : {A : Type 0} {kind : A → Kind} {n : ℕ} {o : Option (A × Bytes)} → Reads (λ a. weight (kind a) ≡ 1) o → Told (Weighed kind n) o
light (reads h) = present (alone h)
light reads_not = absent

choose_reads : {A : Type 0} {P : A → Type 0} {cs : List (ℕ × Reader A)} → All (λ c. (bs : Bytes) → Reads P (c.1 bs)) cs → (bs : Bytes) → Reads P (choose cs bs)
unfolding choose
choose_reads none_of bs = reads_not
choose_reads (and_all f fs) bs = reads_ahead _ (λ _. f) (choose_reads fs) bs

abbrev One : Conversion → Type 0
One c = weight (conversion_kind c) ≡ 1

plain_one : (r : Reader Plain) (bs : Bytes) → Reads One (as_plain r bs)
unfolding conversion_kind
plain_one r bs = reads_after (r bs) (λ p rest. reads refl)

mask_one : (left : Bool) (bs : Bytes) → Reads One (mask_code left bs)
unfolding mask_code conversion_kind
mask_one left bs =
    reads_after (scales bs) (λ nm bs. reads_after (flag (ch "Z") bs) (λ z bs. reads_after (flag (ch ",") bs) (λ c bs.
    reads_after (credit_letter bs) (λ cr bs. reads_after (flag (ch "$") bs) (λ d bs. reads_after (fill_part bs) (λ fill bs. reads refl))))))

masking_one : (bs : Bytes) → Reads One (masking_code bs)
unfolding masking_code conversion_kind
masking_one =
    choose_reads
    (and_all (plain_one character_code)
    (and_all (λ bs. reads refl)
    (and_all (λ bs. reads refl)
    (and_all (mask_one true)
    (and_all (mask_one false) none_of)))))

date_one : (n : ℕ) (bs : Bytes) → Reads One (date_after n bs)
unfolding date_after conversion_kind
date_one n = reads_ahead is_separator (λ s bs. reads {r = (Conversion.date n (some s), bs)} refl) (λ bs. reads {r = (Conversion.date n none, bs)} refl)

dates_one : (bs : Bytes) → Reads One (date_code bs)
unfolding date_code
dates_one = reads_ahead _ (λ b. date_one _) (date_one 4)

patterns_weighed : (bs : Bytes) → Told (Weighed conversion_kind (suc (length bs))) (pattern_code bs)
unfolding pattern_code conversion_kind
patterns_weighed bs = told_follow _ (patterns_told bs) (λ x p. present {a = (Conversion.patterns x.0, x.1)} (together (omega arith)))

-- what eats a byte, by what it is known to weigh
settled : {A : Type 0} {kind : A → Kind} {n : ℕ} {x : A × Bytes} → Weighed kind n x → length x.1 < n → 2 * weight (kind x.0) + length x.1 ≤ n + 1
settled (alone one) h = omega arith
settled (together many) h = many

conversion_known : (bs : Bytes) → Told (Weighed conversion_kind (length bs)) (conversion bs)
unfolding conversion
conversion_known =
    choose_told (Weighed conversion_kind)
    (and_all (λ bs. light (plain_one group_code bs))
    (and_all (λ bs. light (plain_one extract_code bs))
    (and_all (λ bs. light (plain_one length_code bs))
    (and_all (λ bs. light (masking_one bs))
    (and_all (λ bs. light (dates_one bs))
    (and_all patterns_weighed none_of))))))

-- A code other than F: two bytes for its step and for each of its tests, but for one.
pub conversion_weighs : (bs : Bytes) (x : Conversion × Bytes) → conversion bs ≡ some x → 2 * weight (conversion_kind x.0) + length x.1 ≤ length bs + 1
unfolding conversion choose
conversion_weighs bs x e = settled (told (rw e at (conversion_known bs))) (eats_a_byte conversion_eats {bs = bs} refl e)

abbrev Single : Elm → Type 0
Single e = weight (shape e).kind ≡ 1

attribute_single : (b : ℕ) (bs : Bytes) → Reads Single (attribute_elm b bs)
unfolding attribute_elm shape
attribute_single b bs = reads_after (more_digits 2 _ bs) (λ n bs. reads_after (repeats bs) (λ r bs. reads refl))

literal_single : (q : ℕ) (bs : Bytes) → Reads Single (literal_elm q bs)
unfolding literal_elm shape
literal_single q bs = reads_after (quoted q bs) (λ t bs. reads refl)

previous_single : (bs : Bytes) → Reads Single (previous_elm bs)
unfolding previous_elm shape
previous_single bs = reads_after (this (ch "P") bs) (λ _ bs. reads_after (this (ch "V") bs) (λ _ bs. reads refl))

multiply_single : (bs : Bytes) → Reads Single (multiply_elm bs)
unfolding multiply_elm shape
multiply_single =
    reads_ahead is_digit (λ b bs. reads {r = (Elm.binary (Binary.multiply (digit_value b)), bs)} refl)
    (λ bs. reads {r = (Elm.binary (Binary.multiply 0), bs)} refl)

bracket_single : (bs : Bytes) → Reads Single (bracket_elm bs)
unfolding bracket_elm shape
bracket_single =
    reads_ahead (eqb (ch "]")) (λ b bs. reads {r = (Elm.substring, bs)} refl)
    (λ bs. reads {r = (Elm.binary (Binary.relate Relation.at_most), bs)} refl)

converting_weighed : (bs : Bytes) → Told (Weighed (λ e. (shape e).kind) (suc (length bs))) (converting_elm bs)
unfolding converting_elm shape this
converting_weighed bs = told_follow _ (told_by (conversion bs) (conversion_weighs bs)) (λ x p. closed x.0 x.1 p)
  where
    closed : (c : Conversion) (rest : Bytes) → 2 * weight (conversion_kind c) + length rest ≤ length bs + 1
        → Told (Weighed (λ e. (shape e).kind) (suc (length bs))) (follow (this (ch ")") rest) (λ _. gives (Elm.convert c)))
    closed c [] p = absent
    closed c (b ∷ rest) p = parenthesis (eqb (ch ")") b)
      where
        parenthesis : (t : Bool)
            → Told (Weighed (λ e. (shape e).kind) (suc (length bs))) (follow (if t then some (tt {0}, rest) else none) (λ _. gives (Elm.convert c)))
        parenthesis true = present {a = (Elm.convert c, rest)} (together (omega arith))
        parenthesis false = absent

operator_known : (bs : Bytes) → Told (Weighed (λ e. (shape e).kind) (length bs)) (operator_elm bs)
unfolding operator_elm shape
operator_known =
    choose_told (Weighed (λ e. (shape e).kind))
    (and_all (λ bs. light (literal_single _ bs))
    (and_all (λ bs. light (literal_single _ bs))
    (and_all (λ bs. light (previous_single bs))
    (and_all (λ bs. light (multiply_single bs))
    (and_all (λ bs. present (alone refl))
    (and_all (λ bs. present (alone refl))
    (and_all (λ bs. present (alone refl))
    (and_all (λ bs. present (alone refl))
    (and_all (λ bs. present (alone refl))
    (and_all (λ bs. present (alone refl))
    (and_all (λ bs. present (alone refl))
    (and_all (λ bs. present (alone refl))
    (and_all (λ bs. present (alone refl))
    (and_all (λ bs. present (alone refl))
    (and_all (λ bs. present (alone refl))
    (and_all (λ bs. present (alone refl))
    (and_all (λ bs. light (bracket_single bs))
    (and_all converting_weighed none_of))))))))))))))))))

elm_known : (bs : Bytes) → Told (Weighed (λ e. (shape e).kind) (length bs)) (elm bs)
unfolding elm
elm_known [] = operator_known []
elm_known (b ∷ bs) = told_either (is_digit b) (light (attribute_single b bs)) (operator_known (b ∷ bs))

-- An elm: the same.
pub elm_weighs : (bs : Bytes) (x : Elm × Bytes) → elm bs ≡ some x → 2 * weight (shape x.0).kind + length x.1 ≤ length bs + 1
unfolding elm operator_elm choose
elm_weighs bs x e = settled (told (rw e at (elm_known bs))) (eats_a_byte elm_eats {bs = bs} refl e)
