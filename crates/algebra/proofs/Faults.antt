-- Document 02, L4: the F text of an expression holds no code in parentheses, so no D code; and the value of an expression is refused with 9, 10 or
-- 11 alone, for any limit on an entry. Assumes nothing.
use Prim.Native.Nat.{ℕ}
use native.Mathlib.Omega.{arith}
use mathlib.Core.Path.{◌≡◌}
use mathlib.Core.Bool.{Bool, true, false}
use mathlib.Core.Logic.{◌≢◌}
use mathlib.Core.List.{List, [], ◌∷◌, ◌++◌, map}
use mathlib.Core.Option.{Option, none, some}
use Rattle.paper.specs.Bytes.{Bytes}
use Rattle.paper.specs.Refusals.{Res, given, refused, ◌>>=◌, ◌>>◌, refuse◌unless◌, refuse◌when◌, over_long_entry, out_of_range, zero_divisor}
use Rattle.paper.specs.Numbers.{Number, ranged, number, compare_forms, compared, Binary, binary_gives, substring_gives}
use Rattle.paper.specs.Codes.{Conversion, Elm}
use Rattle.paper.specs.Steps.{limited}
use Rattle.paper.proofs.Predicates.{All, none_of, and_all, all_append}
use Rattle.algebra.specs.Expressions.{Expression, Operand, alone, joined, attribute, literal, parenthesised, remainder, substring}
use Rattle.algebra.specs.Expressions.{Spelt, spelt, value, operand_value, elms_in, operand_elms, f_elms}

-- an elm other than a code in parentheses
abbrev pub Unconverted : Elm → Type 0
Unconverted e = (k : Conversion) → e ≢ Elm.convert k

abbrev Bare : List Spelt → Type 0
Bare ts = All (λ (t : Spelt). Unconverted t.elm) ts

-- one elm, told apart from a code
bare_one : {t : Spelt} → ((k : Conversion) → t.elm ≡ Elm.convert k → ◌≡◌ {A = ℕ} 0 1) → Bare (t ∷ [])
bare_one f = and_all (λ k h. let z = f k h in omega arith) none_of

-- two operands and an operator
bare_joined : {ts us : List Spelt} (text : Bytes) (o : Binary) → Bare ts → Bare us → Bare (ts ++ us ++ spelt text (Elm.binary o) ∷ [])
bare_joined text o p q = all_append (all_append p q) (bare_one (λ k h. cc))

mutual
  unfolding elms_in

  expression_bare : (e : Expression) → Bare (elms_in e)
  expression_bare (alone x) = operand_bare x
  expression_bare (joined e o x) = bare_joined _ _ (expression_bare e) (operand_bare x)

  operand_bare : (x : Operand) → Bare (operand_elms x)
  operand_bare (attribute text n r) = bare_one (λ k h. cc)
  operand_bare (literal text bs) = bare_one (λ k h. cc)
  operand_bare (parenthesised e) = expression_bare e
  operand_bare (remainder e f) = bare_joined _ _ (expression_bare e) (expression_bare f)
  operand_bare (substring x e f) =
      all_append (all_append (all_append (operand_bare x) (expression_bare e)) (expression_bare f)) (bare_one (λ k h. cc))

bare_elms : {ts : List Spelt} → Bare ts → All Unconverted (map (λ (t : Spelt). t.elm) ts)
bare_elms none_of = none_of
bare_elms (and_all h hs) = and_all h (bare_elms hs)

-- The F text of an expression holds no code in parentheses, and so no D code.
pub holds_no_conversion : (e : Expression) → All Unconverted (f_elms e)
unfolding f_elms
holds_no_conversion e = bare_elms (expression_bare e)

-- 9, 10 and 11
pub data Fault : ℕ → Type 0 where
  too_long : Fault over_long_entry
  too_large : Fault out_of_range
  by_zero : Fault zero_divisor

-- an answer, or a refusal with one of them
data Faulty {A : Type 0} : Res A → Type 0 where
  answered : {a : A} → Faulty (given a)
  faulty : {n : ℕ} → Fault n → Faulty (refused n)

faulty_then : {A B : Type 0} {r : Res A} {k : A → Res B} → Faulty r → ((a : A) → Faulty (k a)) → Faulty (r >>= k)
faulty_then answered f = f _
faulty_then (faulty h) f = faulty h

faulty_next : {A B : Type 0} {r : Res A} {q : Res B} → Faulty r → Faulty q → Faulty (r >> q)
faulty_next answered t = t
faulty_next (faulty h) t = faulty h

faulty_unless : {n : ℕ} (t : Bool) → Fault n → Faulty (refuse n unless t)
faulty_unless true h = answered
faulty_unless false h = faulty h

faulty_when : {n : ℕ} (t : Bool) → Fault n → Faulty (refuse n when t)
faulty_when true h = faulty h
faulty_when false h = answered

-- what proves a block of tests
ruleset tests = (answered, too_long, too_large, by_zero, faulty_then, faulty_next, faulty_unless, faulty_when)

-- What an operator gives: 10, 11.

forms_faulty : (second top : Bytes) (x y : Option Number) → Faulty (compare_forms second top x y)
unfolding ranged
forms_faulty second top (some x) (some y) = search tests depth 8
forms_faulty second top (some x) none = answered
forms_faulty second top none y = answered

binary_faulty : (o : Binary) (second top : Bytes) → Faulty (binary_gives o second top)
unfolding binary_gives number ranged compared
binary_faulty (Binary.multiply n) second top = search tests depth 12
binary_faulty Binary.divide second top = search tests depth 12
binary_faulty Binary.rest second top = search tests depth 12
binary_faulty Binary.add second top = search tests depth 12
binary_faulty Binary.subtract second top = search tests depth 12
binary_faulty Binary.concatenate second top = answered
binary_faulty (Binary.relate r) second top = search (tests, forms_faulty)

substring_faulty : (third second top : Bytes) → Faulty (substring_gives third second top)
unfolding substring_gives number ranged
substring_faulty third second top = search tests depth 12

-- Over the limit on an entry: 9.
module _ (most : ℕ) where
  limited_faulty : {r : Res Bytes} → Faulty r → Faulty (limited most r)
  unfolding limited
  limited_faulty h = search (tests, h) depth 8

  module _ (item : Bytes) (v s : ℕ) where
    mutual
      unfolding value

      value_faulty : (e : Expression) → Faulty (value most item v s e)
      value_faulty (alone x) = operand_faulty x
      value_faulty (joined e o x) =
          faulty_then (value_faulty e) (λ left. faulty_then (operand_faulty x) (λ right. limited_faulty (binary_faulty o.does left right)))

      operand_faulty : (x : Operand) → Faulty (operand_value most item v s x)
      operand_faulty (attribute text n r) = limited_faulty answered
      operand_faulty (literal text bs) = limited_faulty answered
      operand_faulty (parenthesised e) = value_faulty e
      operand_faulty (remainder e f) =
          faulty_then (value_faulty e) (λ x. faulty_then (value_faulty f) (λ y. limited_faulty (binary_faulty Binary.rest x y)))
      operand_faulty (substring x e f) =
          faulty_then (operand_faulty x)
          (λ text. faulty_then (value_faulty e)
          (λ start. faulty_then (value_faulty f) (λ count. limited_faulty (substring_faulty text start count))))

    -- The value of an expression is refused with 9, 10 or 11: no other number comes up.
    pub value_refuses_so : (e : Expression) (n : ℕ) → value most item v s e ≡ refused n → Fault n
    value_refuses_so e n same = go (rw same at (value_faulty e))
      where
        go : Faulty {A = Bytes} (refused n) → Fault n
        go (faulty h) = h
