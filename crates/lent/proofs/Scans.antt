-- What one turn of a scan does, over plain lists: what the rest gives from the next place is what it gives from this one.
use Rattle.std.specs.Prelude.{if◌then◌else◌, Option}
use mathlib.Core.Path.{◌≡◌, refl, sym, ap, ◌∙◌}
use mathlib.Core.Bool.{Bool, true, false, ◌||◌, or_assoc, or-false}
use mathlib.Core.List.{[], ◌∷◌}
use Prim.Native.Nat.{ℕ, suc, ◌+◌, ◌-◌, ◌≤◌, ◌<◌}
use native.Mathlib.Nat.{le_refl}
use native.Mathlib.Numerals.{add-one}
use native.Mathlib.Omega.{arith}
use lib.ListN.{length, take, drop, get_or, length-drop, drop_of_length-le}
use lib.Seq.{drop-cons, take_all}
use Rattle.std.specs.List.{AllWithin, HoldsAt}
use Rattle.std.specs.Option.{MatchOption, unwrap_or}
use Rattle.std.proofs.lemmas.Iterator.{index_from_first}
use Rattle.paper.specs.Bytes.{Bytes, any, within}
use Rattle.lent.specs.Scan.{range, upto}

-- the byte at a place, and what is behind it
pub next : (l : Bytes) (i : ℕ) → i < length l → drop i l ≡ get_or l i 0 ∷ drop (i + 1) l
next l i h = drop-cons l i 0 h ∙ ap (λ (k : ℕ). get_or l i 0 ∷ drop k l) (sym (add-one i))

-- all that is left from a place on
pub whole_rest : (text : Bytes) (from : ℕ) → take (length text - from) (drop from text) ≡ drop from text
whole_rest text from = take_all (length text - from) (drop from text) (omega (arith, length-drop from text))

pub range_rest : (text : Bytes) (from : ℕ) → range text from (length text) ≡ drop from text
unfolding range
range_rest text from = whole_rest text from

-- ---- a test of every byte, without early exit

or_true : (a b : Bool) → a || (true || b) ≡ true
or_true true b = refl
or_true false b = refl

-- the flag has what the bytes before i tell
module _ (p : ℕ → Bool) (text : Bytes) (flag : Bool) (i : ℕ) (e : any p text ≡ flag || any p (drop i text)) where
  any_here : i < length text → any p text ≡ flag || (p (get_or text i 0) || any p (drop (i + 1) text))
  unfolding any
  any_here h = e ∙ ap (λ (l : Bytes). flag || any p l) (next text i h)

  pub any_next : i < length text → any p text ≡ flag || p (get_or text i 0) || any p (drop (i + 1) text)
  any_next h = any_here h ∙ sym (or_assoc flag (p (get_or text i 0)) (any p (drop (i + 1) text)))

  pub any_hit : i < length text → p (get_or text i 0) ≡ true → any p text ≡ true
  any_hit h t = any_here h ∙ ap (λ (t : Bool). flag || (t || any p (drop (i + 1) text))) t ∙ or_true flag (any p (drop (i + 1) text))

  pub any_miss : i < length text → p (get_or text i 0) ≡ false → any p text ≡ flag || any p (drop (i + 1) text)
  any_miss h t = any_here h ∙ ap (λ (t : Bool). flag || (t || any p (drop (i + 1) text))) t

  pub any_all : length text ≤ i → flag ≡ any p text
  unfolding any
  any_all h = sym (e ∙ ap (λ (l : Bytes). flag || any p l) (drop_of_length-le text h) ∙ or-false flag)

-- ---- the first byte within low .. high

module _ (low high : ℕ) (item : Bytes) (to : ℕ) (inside : to ≤ length item) where
  upto_here : (at : ℕ) → at < to → upto low high (range item at to) ≡ (if within low high (get_or item at 0) then [] else (get_or item at 0 ∷ upto low high (range item (at + 1) to)))
  unfolding upto range
  upto_here at h =
      let e : to - at ≡ suc (to - (at + 1)) = omega arith in
      ap (λ (n : ℕ). upto low high (take n (drop at item))) e ∙ ap (λ (l : Bytes). upto low high (take (suc (to - (at + 1))) l)) (next item at (omega arith))

  pub upto_hit : (at : ℕ) → at < to → within low high (get_or item at 0) ≡ true → length (upto low high (range item at to)) ≡ 0
  upto_hit at h t = ap length (rw t at (upto_here at h))

  pub upto_none : (at : ℕ) → to ≤ at → length (upto low high (range item at to)) ≡ 0
  unfolding upto range
  upto_none at h =
      let e : to - at ≡ 0 = omega arith in
      ap (λ (n : ℕ). length (upto low high (take n (drop at item)))) e

-- what a search that gives the first such byte's position tells
module _ (low high : ℕ) where
  abbrev pub Hit : ℕ → Type 0
  Hit b = within low high b ≡ true

  abbrev pub Miss : ℕ → Type 0
  Miss b = within low high b ≡ false

  pub upto_first : (bs : Bytes) (r : Option ℕ)
      → MatchOption r (AllWithin Miss bs 0 (length bs)) (λ i. (i < length bs) × HoldsAt Hit bs i × AllWithin Miss bs 0 i)
      → length (upto low high bs) ≡ unwrap_or r (length bs)
  unfolding upto
  upto_first =
      let count : Bytes → ℕ = λ bs. length (upto low high bs) in
      index_from_first count Hit Miss refl (λ b bs h. rw h) (λ b bs h. rw h (sym (add-one (count bs))))

pub length_upto : (low high : ℕ) (bs : Bytes) → length (upto low high bs) ≤ length bs
unfolding upto
length_upto low high [] = le_refl 0
length_upto low high (b ∷ bs) = by_test (within low high b) (length_upto low high bs)
  where
    by_test : (t : Bool) → length (upto low high bs) ≤ length bs → length (if t then [] else (b ∷ upto low high bs)) ≤ suc (length bs)
    by_test true h = omega arith
    by_test false h = omega arith
