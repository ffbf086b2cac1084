-- Document 02, L1: a test by its place is the paper's, and the paper's patterns from place to place: this test and those behind it, this pattern and those
-- behind it. Each leaves what stands behind a place of the code, two bytes a test further on at least. Assumes nothing.
use Rattle.std.specs.Prelude.{if◌then◌else◌}
use Prim.Native.Nat.{ℕ, suc, ◌<◌, ◌≤◌, ◌+◌, ◌-◌, ◌*◌}
use mathlib.Core.Path.{◌≡◌, refl, sym, ap, ◌∙◌}
use mathlib.Core.Logic.{⊎_elim}
use mathlib.Core.List.{List, [], ◌∷◌}
use mathlib.Core.Option.{Option, none, some}
use mathlib.Core.Bool.{Bool, true, false}
use lib.ListN.{length, drop, length-append, length-drop, drop_of_length-le}
use lib.Seq.{drop_at, drop-drop}
use lib.Dec.{eqb}
use native.Mathlib.Omega.{arith}
use borrow.Author.Tests.{eqb-true, eqb-false}
use Rattle.paper.specs.Bytes.{Bytes, is_digit}
use Rattle.paper.specs.Codes as codes
use Rattle.paper.specs.Grammar as paper
use Rattle.paper.specs.Patterns.{tests_in}
use Rattle.paper.proofs.Truths.{ltb_or}
use Rattle.paper.proofs.Splitting.{told}
use Rattle.paper.proofs.Fuel.{Shortens, onto}
use Rattle.paper.proofs.Eating.{Eats, eats_front, pattern_eats, patterns_eat}
use Rattle.paper.proofs.Weights.{test_told, pattern_told, patterns_told}
use Rattle.codes.specs.Meaning.{class_of, test_of}
use Rattle.codes.specs.declared.Class.{Class}
use Rattle.codes.specs.declared.Test.{Test}
use Rattle.readers.specs.Places.{Peeked, byte_at, after, fails, choose_or, this, digit, numeral}
use Rattle.readers.specs.Reading as place
use Rattle.readers.proofs.Bytes.{byte_past}
use Rattle.readers.proofs.Agreement.{Agree, neither, Agrees, no_more, option, gives_agrees, fails_agrees, chooses, follow_agrees}
use Rattle.readers.proofs.Agreement.{choose_agrees, numeral_ahead_agrees, none_by, some_by}
use Rattle.readers.proofs.Quotes.{literal_agrees}
use Rattle.readers.proofs.Skimming.{skimmed_some}
use Rattle.readers.proofs.Many.{parted_of, parted_none, closed_of, closed_none, ahead_hit, ahead_miss}

module _ {s : Bytes} {low : ℕ} where
  class_letter_agrees : Agrees class_of s low place.class_letter paper.class_letter
  unfolding paper.class_letter paper.choose class_of
  class_letter_agrees =
      chooses tt (option (gives_agrees Class.Numeric) (option (gives_agrees Class.Alpha) (option (gives_agrees Class.Character) no_more))) fails_agrees

  count_test_agrees : (n : ℕ)
      → Agrees (test_of s) s low (place.count_test n) (λ bs. paper.follow (paper.class_letter bs) (λ c. paper.gives (codes.so_many n c)))
  unfolding place.count_test test_of
  count_test_agrees n = follow_agrees _ _ class_letter_agrees (λ c. gives_agrees (Test.SoMany n c))

  literal_test_agrees : (q : ℕ) → Agrees (test_of s) s low (place.literal_test q) (paper.literal_test q)
  unfolding place.literal_test paper.literal_test test_of
  literal_test_agrees q = literal_agrees Test.Literal codes.Test.literal q (λ start len. refl)

-- The test at a place is the paper's there, and each stops where the other does.
pub test_reads : (s : Bytes) (at : ℕ) → at ≤ length s → Agree (test_of s) s (suc at) (place.test s at) (paper.test (drop at s))
unfolding place.quoted_test paper.test paper.count_test paper.choose
test_reads s at h =
    numeral_ahead_agrees 2 place.count_test (λ n bs. paper.follow (paper.class_letter bs) (λ c. paper.gives (codes.so_many n c)))
    place.quoted_test (paper.choose ((39, paper.literal_test 39) ∷ (34, paper.literal_test 34) ∷ []))
    at (omega arith) h count_test_agrees
    (choose_agrees fails paper.fails at tt (omega arith) h (option (literal_test_agrees 39) (option (literal_test_agrees 34) no_more)) neither)

test_past : (s : Bytes) (at : ℕ) → length s ≤ at → place.test s at ≡ none
unfolding place.quoted_test choose_or digit numeral is_digit
test_past s at u = rw (← byte_past s at u)

-- and past the end neither reads
test_at : (s : Bytes) (at : ℕ) → Agree (test_of s) s (suc at) (place.test s at) (paper.test (drop at s))
unfolding paper.test paper.choose
test_at s at =
    ⊎_elim (λ l. test_reads s at (omega arith)) (λ u. rw (test_past s at u, drop_of_length-le s u) neither) (ltb_or at (length s))

-- each eats a byte
test_shortens : Shortens paper.test
test_shortens bs t rest e = let z = told (rw e at (test_told bs)) in omega arith

pattern_shortens : Shortens paper.pattern
pattern_shortens bs p rest e = let z = told (rw e at (pattern_told bs)) in omega arith

-- Where reading ends: what is left stands behind that place, and each test took two bytes at least.
pub record Ends (s : Bytes) (at tests : ℕ) (rest : Bytes) : Type 0 where
  pub left : rest ≡ drop (length s - length rest) s
  pub far : at + 2 * tests < length s - length rest
  pub within : length s - length rest ≤ length s

ends : {A : Type 0} {closes : Bytes} {r : paper.Reader A} {s : Bytes} {at tests : ℕ} {x : A} {rest : Bytes} → Eats closes r → r (drop at s) ≡ some (x, rest)
    → 2 * tests + 1 + length rest ≤ length (drop at s) → Ends s at tests rest
ends {s = s} {at = at} {rest = rest} eats e h =
    let (eaten, cut, f) = eats_front eats {bs = drop at s} e in
    let z : at + length eaten ≡ length s - length rest = omega (arith, ap length cut, length-append eaten rest, length-drop at s) in
    record {
      left = sym (drop_at eaten rest (length eaten) refl) ∙ ap (drop (length eaten)) (sym cut) ∙ drop-drop (length eaten) at s ∙ ap (λ (n : ℕ). drop n s) z;
      far = omega (arith, length-drop at s);
      within = omega arith;
    }

module _ (s : Bytes) (at : ℕ) where
  pub test_within : {t : Test} {n : ℕ} → place.test s at ≡ some (t, n) → (at < n) × (n ≤ length s)
  test_within {t} {n} e = let w = some_by t n (test_at s at) e in (w.1, w.2)

  pattern_end : {p : codes.Pattern} {rest : Bytes} → paper.pattern (drop at s) ≡ some (p, rest) → Ends s at (length p) rest
  pattern_end e = let z = told (rw e at (pattern_told (drop at s))) in ends pattern_eats e (omega arith)

  -- a pattern that was skimmed
  pub pattern_found : (v n : ℕ) → place.skimmed length s (paper.pattern (drop at s)) ≡ some (v, n)
      → (x : codes.Pattern) × (paper.pattern (drop at s) ≡ some (x, drop n s)) × (length x ≡ v) × (at + 2 * v < n) × (n ≤ length s)
  pattern_found v n e =
      let (x, rest, f, size, place) = skimmed_some length s (paper.pattern (drop at s)) v n e in
      let w = pattern_end f in
      let left : rest ≡ drop n s = w.left ∙ ap (λ (k : ℕ). drop k s) place in
      (x, f ∙ ap (λ (t : Bytes). some (x, t)) left, size, omega arith, omega arith)

  pub patterns_end : {ps : List codes.Pattern} {rest : Bytes} → paper.pattern_list (drop at s) ≡ some (ps, rest) → Ends s at (tests_in ps) rest
  patterns_end e = let z = told (rw e at (patterns_told (drop at s))) in ends patterns_eat e (omega arith)

  -- the tests of a pattern: none, one before the parenthesis, one before others
  pub tests_none : place.test s at ≡ none → paper.tests (drop at s) ≡ none
  unfolding paper.tests
  tests_none e = closed_none 41 paper.test test_shortens (drop at s) (none_by (test_at s at) e)

  module _ {t : Test} {n b m : ℕ} (e : place.test s at ≡ some (t, n)) (p : Peeked s n b m) where
    tests_here : paper.tests (drop at s) ≡ paper.ahead (eqb 41) (λ _. paper.gives (test_of s t ∷ [])) (λ bs. onto (test_of s t) (paper.tests bs)) (drop n s)
    unfolding paper.tests
    tests_here = closed_of 41 paper.test test_shortens (drop at s) (test_of s t) (drop n s) (some_by t n (test_at s at) e).0

    pub tests_last : b ≡ 41 → paper.tests (drop at s) ≡ some (test_of s t ∷ [], drop m s)
    tests_last j = tests_here ∙ ahead_hit 41 (λ _. paper.gives (test_of s t ∷ [])) (λ bs. onto (test_of s t) (paper.tests bs)) p j (omega arith)

    pub tests_more : (b ≡ 41 → ⊥) → paper.tests (drop at s) ≡ onto (test_of s t) (paper.tests (drop n s))
    tests_more j = tests_here ∙ ahead_miss 41 (λ _. paper.gives (test_of s t ∷ [])) (λ bs. onto (test_of s t) (paper.tests bs)) p j

  -- a pattern is a parenthesis and tests behind it
  module _ {b m : ℕ} (p : Peeked s at b m) where
    pub pattern_open : b ≡ 40 → paper.pattern (drop at s) ≡ paper.tests (drop m s)
    unfolding paper.pattern paper.this
    pattern_open j = rw (ahead_hit 40 (λ _. paper.gives (tt {0})) paper.fails p j (omega arith))

    pub pattern_none : (b ≡ 40 → ⊥) → paper.pattern (drop at s) ≡ none
    unfolding paper.pattern paper.this
    pattern_none j = rw (ahead_miss 40 (λ _. paper.gives (tt {0})) paper.fails p j)

  abbrev pub opened : Option (Unit {0} × ℕ) → Option (codes.Pattern × Bytes)
  opened none = none
  opened (some r) = paper.tests (drop r.1 s)

  pub pattern_is : paper.pattern (drop at s) ≡ opened (this 40 s at)
  unfolding this choose_or
  pattern_is = go (eqb 40 (byte_at s at)) refl
    where
      here : Peeked s at (byte_at s at) (after s at)
      here = record { stands = refl; leads = refl }

      go : (t : Bool) → eqb 40 (byte_at s at) ≡ t → paper.pattern (drop at s) ≡ opened (if t then some (tt, after s at) else none)
      go true e = pattern_open here (sym (eqb-true 40 _ e))
      go false e = pattern_none here (λ j. eqb-false 40 _ e (sym j))

  -- the patterns of a code: none, one with no semicolon behind it, one before others
  pub patterns_none : paper.pattern (drop at s) ≡ none → paper.pattern_list (drop at s) ≡ none
  unfolding paper.pattern_list
  patterns_none e = parted_none 59 paper.pattern pattern_shortens (drop at s) e

  module _ {x : codes.Pattern} {n b m : ℕ} (e : paper.pattern (drop at s) ≡ some (x, drop n s)) (p : Peeked s n b m) where
    patterns_here : paper.pattern_list (drop at s) ≡ paper.ahead (eqb 59) (λ _ bs. onto x (paper.pattern_list bs)) (paper.gives (x ∷ [])) (drop n s)
    unfolding paper.pattern_list
    patterns_here = parted_of 59 paper.pattern pattern_shortens (drop at s) x (drop n s) e

    pub patterns_last : (b ≡ 59 → ⊥) → paper.pattern_list (drop at s) ≡ some (x ∷ [], drop n s)
    patterns_last j = patterns_here ∙ ahead_miss 59 (λ _ bs. onto x (paper.pattern_list bs)) (paper.gives (x ∷ [])) p j

    pub patterns_more : b ≡ 59 → paper.pattern_list (drop at s) ≡ onto x (paper.pattern_list (drop m s))
    patterns_more j = patterns_here ∙ ahead_hit 59 (λ _ bs. onto x (paper.pattern_list bs)) (paper.gives (x ∷ [])) p j (omega arith)
