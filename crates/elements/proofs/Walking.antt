-- One walk from left to right visits exactly the elements of an address, each with its own position and the mark before it. Assumes nothing.
use Rattle.std.specs.Prelude.{if◌then◌else◌}
use Prim.Native.Nat.{ℕ, zero, suc, ◌≤◌}
use mathlib.Core.Path.{◌≡◌, refl, sym, ap, ◌∙◌}
use mathlib.Core.Bool.{Bool, true, false, ◌||◌}
use mathlib.Core.List.{List, [], ◌∷◌, ◌++◌, append-nil}
use mathlib.Core.Option.{Option, none, some}
use native.Mathlib.Omega.{arith}
use lib.Dec.{eqb}
use native.Mathlib.Decide.{dec_le}
use borrow.Author.Tests.{eqb-true, eqb-false, le-leb, lt-leb}
use lib.ListN.{length, drop}
use Rattle.paper.specs.Bytes.{Bytes, within}
use Rattle.lent.specs.Scan.{upto}
use Rattle.paper.specs.Sizes.{attribute_mark, value_mark, subvalue_mark}
use Rattle.paper.specs.Records.{opened, split, Part, pieces, nth, path, part_at, whole, place, reads, text_or_empty}
use Rattle.paper.proofs.Predicates.{all_both}
use Rattle.paper.specs.Converting.{Element, subvalues, values, from_one, elements_in, elements_of, elements}
use Rattle.paper.proofs.Splitting.{Filled, filled, split_filled, Free, split_last, split_free, split_without, Told, absent, present, told_then, nth_told, placed_each}
use Rattle.elements.specs.Walk.{element, in_front, walked}

-- the elements of the first value from the s-th subvalue on, and those of the values after it
abbrev from_value : Bytes → ℕ → ℕ → List Bytes → List Element
from_value before v s [] = []
from_value before v s (x ∷ xs) = subvalues before v s (split subvalue_mark x) ++ values (value_mark ∷ []) (suc v) xs

-- from the next value on nothing is special about the first
next_value : (v : ℕ) (xs : List Bytes) → from_value (value_mark ∷ []) v 1 xs ≡ values (value_mark ∷ []) v xs
unfolding values
next_value v [] = refl
next_value v (x ∷ xs) = refl

-- a byte that is no mark, on the first piece of a value that has one
front_subvalue : (before : Bytes) (v s b : ℕ) (ys : List Bytes) (es : List Element) → Filled ys
    → subvalues before v s (opened false b ys) ++ es ≡ in_front b (subvalues before v s ys ++ es)
unfolding subvalues
front_subvalue before v s b ys es (filled) = refl

-- one byte more in front of values xs that a walk over bs visits, by what the byte is
one_more : (b : ℕ) (bs : Bytes) (before : Bytes) (v s : ℕ) (xs : List Bytes) → Filled xs
    → ((before : Bytes) (v s : ℕ) → from_value before v s xs ≡ walked before v s bs)
    → (t u : Bool) → eqb b subvalue_mark ≡ u
    → from_value before v s (opened t b xs)
    ≡ (if t then element before v s [] ∷ walked (value_mark ∷ []) (suc v) 1 bs
    else (if u then element before v s [] ∷ walked (subvalue_mark ∷ []) v (suc s) bs else in_front b (walked before v s bs)))
unfolding split subvalues
one_more b bs before v s xs f again true u q =
    ap (λ (es : List Element). element before v s [] ∷ es) (sym (next_value (suc v) xs) ∙ again (value_mark ∷ []) (suc v) 1)
one_more b bs before v s [] f again false u q = elim f [ ]
one_more b bs before v s (x ∷ xs) f again false true q =
    rw q (ap (λ (es : List Element). element before v s [] ∷ es) (again (subvalue_mark ∷ []) v (suc s)))
one_more b bs before v s (x ∷ xs) f again false false q =
    rw q
    (front_subvalue before v s b (split subvalue_mark x) (values (value_mark ∷ []) (suc v) xs) (split_filled subvalue_mark x)
    ∙ ap (in_front b) (again before v s))

walked_values : (bs before : Bytes) (v s : ℕ) → from_value before v s (split value_mark bs) ≡ walked before v s bs
unfolding split walked subvalues values
walked_values [] before v s = refl
walked_values (b ∷ bs) before v s =
    one_more b bs before v s (split value_mark bs) (split_filled value_mark bs) (λ before' v' s'. walked_values bs before' v' s')
    (eqb b value_mark) (eqb b subvalue_mark) refl

-- where no value mark is left, the subvalues of one value
walked_subvalues : (text before : Bytes) (v s : ℕ) → Free value_mark text
    → subvalues before v s (split subvalue_mark text) ≡ walked before v s text
unfolding values
walked_subvalues text before v s free =
    sym (append-nil _) ∙ sym (ap (from_value before v s) (split_last value_mark free)) ∙ walked_values text before v s

-- where no inner mark is left, the one element
walked_one : (text before : Bytes) (v s : ℕ) → Free value_mark text → Free subvalue_mark text
    → element before v s text ∷ [] ≡ walked before v s text
unfolding subvalues
walked_one text before v s free free' =
    sym (ap (subvalues before v s) (split_last subvalue_mark free')) ∙ walked_subvalues text before v s free

-- what is free of a mark stays so in a piece by another mark, and a piece by the mark itself is free of it
piece_free : (m n : ℕ) (w : Part) → Told (λ p. Free m p.text) (nth n (pieces m w))
unfolding pieces
piece_free m n w = nth_told n (placed_each w.start (split_free m w.text))

subpiece_free : (k m n : ℕ) (w : Part) → Free k w.text → Told (λ p. Free k p.text × Free m p.text) (nth n (pieces m w))
unfolding pieces
subpiece_free k m n w free =
    nth_told n (placed_each w.start (all_both (split_without (λ b. eqb b k) m free) (split_free m w.text)))

-- a value holds no value mark, a subvalue neither mark
value_free : (item : Bytes) (a v : ℕ) → Told (λ p. Free value_mark p.text) (place item a (suc v) zero)
unfolding place path part_at
value_free item a v =
    told_then _ (piece_free attribute_mark a (whole item))
    (λ w _. told_then _ (piece_free value_mark v w) (λ p free. present free))

subvalue_free : (item : Bytes) (a v s : ℕ)
    → Told (λ p. Free value_mark p.text × Free subvalue_mark p.text) (place item a (suc v) (suc s))
unfolding place path part_at
subvalue_free item a v s =
    told_then _ (piece_free attribute_mark a (whole item))
    (λ w _. told_then _ (piece_free value_mark v w)
    (λ q free. told_then _ (subpiece_free value_mark subvalue_mark s q free) (λ p both. present both)))

value_elements : (v : ℕ) {o : Option Part} → Told (λ p. Free value_mark p.text) o
    → elements_of (suc v) zero o ≡ walked [] (suc v) 1 (text_or_empty o)
unfolding elements_of elements_in from_one walked
value_elements v absent = refl
value_elements v (present {a = p} free) = walked_subvalues p.text [] (suc v) 1 free

subvalue_elements : (v s : ℕ) {o : Option Part} → Told (λ p. Free value_mark p.text × Free subvalue_mark p.text) o
    → elements_of (suc v) (suc s) o ≡ walked [] (suc v) (suc s) (text_or_empty o)
unfolding elements_of elements_in from_one walked
subvalue_elements v s absent = refl
subvalue_elements v s (present {a = p} free) = walked_one p.text [] (suc v) (suc s) free.0 free.1

attribute_elements : (o : Option Part) → elements_of zero zero o ≡ walked [] 1 1 (text_or_empty o)
unfolding elements_of elements_in from_one walked values
attribute_elements none = refl
attribute_elements (some p) = from_first (split value_mark p.text) ∙ walked_values p.text [] 1 1
  where
    from_first : (xs : List Bytes) → values [] 1 xs ≡ from_value [] 1 1 xs
    from_first [] = refl
    from_first (x ∷ xs) = refl

-- The elements of a lawful address: one walk over the bytes that it reads, from its own position or from 1. A missing place reads as empty.
pub elements_walked : (item : Bytes) (a v s : ℕ) → (v ≡ 0 → s ≡ 0)
    → elements item a v s ≡ walked [] (from_one v) (from_one s) (reads item (path a v s))
unfolding elements reads place from_one
elements_walked item a zero zero h = attribute_elements (place item a zero zero)
elements_walked item a zero (suc s) h = absurd (omega (arith, h refl))
elements_walked item a (suc v) zero h = value_elements v (value_free item a v)
elements_walked item a (suc v) (suc s) h = subvalue_elements v s (subvalue_free item a v s)

-- the elements behind an element, from the mark that ends it
unfoldable pub behind : ℕ → ℕ → Bytes → List Element
behind v s [] = []
behind v s (b ∷ bs) = if eqb b value_mark then walked (value_mark ∷ []) (suc v) 1 bs else walked (subvalue_mark ∷ []) v (suc s) bs

-- the bytes before the first inner mark
abbrev pub first_text : Bytes → Bytes
first_text bs = upto subvalue_mark value_mark bs

inner : (b : ℕ) (t u : Bool) → eqb b value_mark ≡ t → eqb b subvalue_mark ≡ u → within subvalue_mark value_mark b ≡ (t || u)
inner b true u p q = rw (eqb-true b value_mark p)
inner b false true p q = rw (eqb-true b subvalue_mark q)
inner b false false p q = outside (dec_le b 251)
  where
    outside : Dec (b ≤ 251) → within subvalue_mark value_mark b ≡ false
    outside (yes h) = rw (lt-leb subvalue_mark b (omega arith))
    outside (no h) =
        rw (
          le-leb subvalue_mark b (omega (arith, eqb-false b subvalue_mark q, eqb-false b value_mark p)),
          lt-leb b value_mark (omega (arith, eqb-false b subvalue_mark q, eqb-false b value_mark p)),
        )

front_first : (b : ℕ) (before : Bytes) (v s : ℕ) (bs : Bytes) (t u : Bool) → eqb b value_mark ≡ t → eqb b subvalue_mark ≡ u
    → walked before v s bs ≡ element before v s (first_text bs) ∷ behind v s (drop (length (first_text bs)) bs)
    → walked before v s (b ∷ bs) ≡ element before v s (first_text (b ∷ bs)) ∷ behind v s (drop (length (first_text (b ∷ bs))) (b ∷ bs))
unfolding walked upto behind
front_first b before v s bs true u p q again = rw (inner b true u p q, p)
front_first b before v s bs false true p q again = rw (q, inner b false true p q, p)
front_first b before v s bs false false p q again = rw (p, q, inner b false false p q, again)

-- A walk is its first element, and the walk from the mark behind it.
pub walked_first : (before : Bytes) (v s : ℕ) (bs : Bytes)
    → walked before v s bs ≡ element before v s (first_text bs) ∷ behind v s (drop (length (first_text bs)) bs)
unfolding walked upto behind
walked_first before v s [] = refl
walked_first before v s (b ∷ bs) =
    front_first b before v s bs (eqb b value_mark) (eqb b subvalue_mark) refl refl (walked_first before v s bs)
