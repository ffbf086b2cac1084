-- Each line of the grammar of elms, by place, agrees with the paper's line.
use Prim.Native.Nat.{ℕ, suc, ◌≤◌}
use mathlib.Core.Path.{refl}
use mathlib.Core.List.{List, [], ◌∷◌, ◌++◌}
use lib.ListN.{length, drop}
use native.Mathlib.Omega.{arith}
use Rattle.paper.specs.Bytes.{Bytes}
use Rattle.paper.specs.Grammar as paper
use Rattle.paper.specs.Codes as codes
use Rattle.paper.specs.Numbers as numbers
use Rattle.codes.specs.Meaning.{relation_of, arithmetic_of, operator_of, repeat_of, operand_of, elm_of}
use Rattle.codes.specs.declared.Relation.{Relation}
use Rattle.codes.specs.declared.Arithmetic.{Arithmetic}
use Rattle.codes.specs.declared.Operator.{Operator}
use Rattle.codes.specs.declared.Repeat.{Repeat}
use Rattle.codes.specs.declared.Operand.{Operand}
use Rattle.codes.specs.declared.Elm.{Elm}
use Rattle.readers.specs.Places.{fails, choose_or}
use Rattle.grammar.specs.Reading as place
use Rattle.readers.proofs.Agreement.{Agree, neither, Agrees, no_more, option, gives_agrees, chooses, digit_aheads, follow_agrees, choose_agrees, numeral_ahead_agrees, this_agrees, moved}
use Rattle.readers.proofs.Quotes.{literal_agrees}
use Rattle.readers.proofs.AgreementLines.{conversion_agrees}

module _ {s : Bytes} {low : ℕ} where
  literal_elm_agrees : (q : ℕ) → Agrees (elm_of s) s low (place.literal_elm q) (paper.literal_elm q)
  unfolding paper.literal_elm elm_of operand_of
  literal_elm_agrees q = literal_agrees (λ start len. Elm.Push (Operand.Literal start len)) (λ bs. codes.push (codes.Operand.literal bs)) q (λ start len. refl)

  repeats_agrees : Agrees repeat_of s low place.repeats paper.repeats
  unfolding paper.repeats repeat_of
  repeats_agrees = chooses tt (option (chooses tt (option (gives_agrees Repeat.FirstSubvalue) no_more) (gives_agrees Repeat.FirstValue)) no_more) (gives_agrees Repeat.Each)

  attribute_agrees : (n : ℕ) → Agrees (elm_of s) s low (place.attribute_elm n) (λ bs. paper.follow (paper.repeats bs) (λ r. paper.gives (codes.push (codes.attribute n r))))
  unfolding elm_of operand_of
  attribute_agrees n = follow_agrees _ _ repeats_agrees (λ r. gives_agrees (Elm.Push (Operand.Attribute n r)))

  previous_agrees : Agrees (elm_of s) s low place.previous_elm paper.previous_elm
  unfolding paper.previous_elm elm_of operand_of
  previous_agrees = follow_agrees _ _ (this_agrees 80 tt) (λ _. follow_agrees _ _ (this_agrees 86 tt) (λ _. gives_agrees (Elm.Push Operand.Previous)))

  multiply_agrees : Agrees (elm_of s) s low place.multiply_elm paper.multiply_elm
  unfolding paper.multiply_elm elm_of operator_of arithmetic_of
  multiply_agrees = digit_aheads (λ d. gives_agrees (Elm.Binary (Operator.Arithmetic (Arithmetic.Multiply d)))) (gives_agrees (Elm.Binary (Operator.Arithmetic (Arithmetic.Multiply 0))))

  bracket_agrees : Agrees (elm_of s) s low place.bracket_elm paper.bracket_elm
  unfolding paper.bracket_elm elm_of operator_of relation_of
  bracket_agrees = chooses tt (option (gives_agrees Elm.Substring) no_more) (gives_agrees (Elm.Binary (Operator.Relate Relation.AtMost)))

  converting_agrees : Agrees (elm_of s) s low place.converting_elm paper.converting_elm
  unfolding paper.converting_elm elm_of
  converting_agrees = follow_agrees _ _ conversion_agrees (λ c. follow_agrees _ _ (this_agrees 41 tt) (λ _. gives_agrees (Elm.Convert c)))

-- the elms of one byte, as the paper lists them
abbrev single_options : List (ℕ × paper.Reader codes.Elm)
single_options =
    (47, paper.two_entries numbers.divide)
    ∷ (82, paper.two_entries numbers.rest)
    ∷ (43, paper.two_entries numbers.add)
    ∷ (45, paper.two_entries numbers.subtract)
    ∷ (58, paper.two_entries numbers.concatenate)
    ∷ (95, paper.gives codes.exchange)
    ∷ (80, paper.gives codes.duplicate)
    ∷ (61, paper.relating numbers.equal)
    ∷ (35, paper.relating numbers.unequal)
    ∷ (62, paper.relating numbers.greater)
    ∷ (60, paper.relating numbers.lesser)
    ∷ (93, paper.relating numbers.at_least)
    ∷ []

-- An elm eats a byte at least.
module _ {s : Bytes} {low : ℕ} (at : ℕ) (g : low ≤ suc at) (h : at ≤ length s) where
  single_agrees : Agree (elm_of s) s low (place.single_elm s at) (paper.choose single_options (drop at s))
  unfolding paper.choose elm_of operator_of arithmetic_of relation_of
  single_agrees =
      choose_agrees fails paper.fails at tt g h
      (option (gives_agrees (Elm.Binary (Operator.Arithmetic Arithmetic.Divide)))
      (option (gives_agrees (Elm.Binary (Operator.Arithmetic Arithmetic.Rest)))
      (option (gives_agrees (Elm.Binary (Operator.Arithmetic Arithmetic.Add)))
      (option (gives_agrees (Elm.Binary (Operator.Arithmetic Arithmetic.Subtract)))
      (option (gives_agrees (Elm.Binary Operator.Concatenate))
      (option (gives_agrees Elm.Exchange)
      (option (gives_agrees Elm.Duplicate)
      (option (gives_agrees (Elm.Binary (Operator.Relate Relation.Equal)))
      (option (gives_agrees (Elm.Binary (Operator.Relate Relation.Unequal)))
      (option (gives_agrees (Elm.Binary (Operator.Relate Relation.Greater)))
      (option (gives_agrees (Elm.Binary (Operator.Relate Relation.Lesser)))
      (option (gives_agrees (Elm.Binary (Operator.Relate Relation.AtLeast))) no_more))))))))))))
      neither

  -- `[` and `(`, which the paper lists last
  bracketed_agrees : Agree (elm_of s) s low (choose_or ((91, place.bracket_elm) ∷ (40, place.converting_elm) ∷ []) place.single_elm s at) (paper.choose (single_options ++ (91, paper.bracket_elm) ∷ (40, paper.converting_elm) ∷ []) (drop at s))
  unfolding paper.choose
  bracketed_agrees =
      rw (moved single_options ((91, paper.bracket_elm) ∷ (40, paper.converting_elm) ∷ []) (drop at s) tt)
      (choose_agrees place.single_elm (paper.choose single_options) at tt g h (option bracket_agrees (option converting_agrees no_more)) single_agrees)

  longer_agrees : Agree (elm_of s) s low (place.longer_elm s at) (paper.operator_elm (drop at s))
  unfolding paper.operator_elm paper.choose choose_or
  longer_agrees =
      choose_agrees
      {cs = (39, place.literal_elm 39) ∷ (34, place.literal_elm 34) ∷ (76, place.previous_elm) ∷ (42, place.multiply_elm) ∷ []}
      (choose_or ((91, place.bracket_elm) ∷ (40, place.converting_elm) ∷ []) place.single_elm)
      (paper.choose (single_options ++ (91, paper.bracket_elm) ∷ (40, paper.converting_elm) ∷ []))
      at tt g h
      (option (literal_elm_agrees 39) (option (literal_elm_agrees 34) (option previous_agrees (option multiply_agrees no_more))))
      bracketed_agrees

  elm_at_agrees : Agree (elm_of s) s low (place.elm s at) (paper.elm (drop at s))
  unfolding place.elm paper.elm paper.attribute_elm
  elm_at_agrees = numeral_ahead_agrees 2 place.attribute_elm (λ n bs. paper.follow (paper.repeats bs) (λ r. paper.gives (codes.push (codes.attribute n r)))) place.longer_elm paper.operator_elm at g h attribute_agrees longer_agrees

-- The elm at a place is the paper's there, and each stops where the other does.
pub elm_reads : (s : Bytes) (at : ℕ) → at ≤ length s → Agree (elm_of s) s (suc at) (place.elm s at) (paper.elm (drop at s))
elm_reads s at h = elm_at_agrees at (omega arith) h
