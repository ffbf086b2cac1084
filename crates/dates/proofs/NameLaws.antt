-- A month by its name: the search of the table is the definition's, and a byte that is no letter is in no name. Assumes nothing.
use Rattle.std.specs.Prelude.{if◌then◌else◌, cond, Some, None, bytes_eq}
use Rattle.std.specs.Prelude.{Option as Maybe}
use Rattle.std.specs.List.{position_from, position_or_len}
use Rattle.std.proofs.lemmas.Iterator.Adapters.{position_from-zero}
use Prim.Native.Nat.{ℕ, zero, suc, ◌+◌, ◌-◌, ◌*◌, ◌≤◌, ◌<◌}
use mathlib.Core.Path.{◌≡◌, refl, sym, ap, ◌∙◌}
use mathlib.Core.Bool.{Bool, true, false, ◌&&◌, ◌||◌, and-true, and-false, false≢true}
use mathlib.Core.List.{List, [], ◌∷◌}
use mathlib.Core.Option.{Option, none, some}
use native.Mathlib.Numerals.{add-one, add-two, add-three}
use native.Mathlib.Omega.{arith}
use lib.ListN.{length, drop, get_or, length-drop}
use lib.Seq.{drop-cons}
use lib.Dec.{eqb, ltb}
use Rattle.paper.specs.Bytes.{Bytes, bytes, is_letter, is_upper, is_lower, same_bytes}
use Rattle.std.specs.Char.{to_ascii_uppercase}
use borrow.Author.Tests.{ltb-true, ltb-false}
use Rattle.paper.proofs.Ranges.{within_yes, within_below, within_above}
use Rattle.paper.specs.Answers.{maybe, maybe_by}
use Rattle.paper.specs.Texts.{raised}
use Rattle.paper.specs.Grammar.{Reader, gives}
use Rattle.paper.specs.Dates.{month_names}
use Rattle.paper.specs.TypedDates.{month_called, typed_month, typed_letter}
use Rattle.paper.proofs.Truths.{both}
use Rattle.dates.specs.Scans.{named}
use Rattle.dates.proofs.Tables.{same_bytes_eq}

-- the number of the month at a place, counted from 0
abbrev pub month_at_place : Maybe ℕ → Option ℕ
month_at_place place = maybe_by (λ k. k + 1) place

called_from : (name : Bytes) (ms : List Bytes) (k : ℕ) (rest : Bytes)
    → month_called name (k + 1) ms rest ≡ named (month_at_place (position_from (same_bytes name) k ms)) rest
unfolding month_called
called_from name [] k rest = refl
called_from name (m ∷ ms) k rest = go (same_bytes name m) (called_from name ms (k + 1) rest)
  where
    go : (t : Bool) → month_called name (k + 1 + 1) ms rest ≡ named (month_at_place (position_from (same_bytes name) (k + 1) ms)) rest
        → (if t then gives (k + 1) else month_called name (suc (k + 1)) ms) rest
        ≡ named (month_at_place (cond t (Some k) (position_from (same_bytes name) (k + 1) ms))) rest
    go true e = refl
    go false e = rw add-one at e

-- the library's equality of bytes is the definitions'
bytes_same : (xs ys : Bytes) → bytes_eq xs ys ≡ same_bytes xs ys
unfolding same_bytes
bytes_same [] [] = refl
bytes_same [] (y ∷ ys) = refl
bytes_same (x ∷ xs) [] = refl
bytes_same (x ∷ xs) (y ∷ ys) = ap (λ t. eqb x y && t) (bytes_same xs ys)

position_same : (name : Bytes) (ms : List Bytes) (k : ℕ) → position_from (bytes_eq name) k ms ≡ position_from (same_bytes name) k ms
position_same name [] k = refl
position_same name (m ∷ ms) k = rw (bytes_same name m, position_same name ms (k + 1))

-- what the library's `position` finds
pub called_at : (name : Bytes) (place : Maybe ℕ)
    → place ≡ cond (ltb (position_or_len (bytes_eq name) month_names) (length month_names)) (Some (position_or_len (bytes_eq name) month_names)) None
    → (rest : Bytes) → month_called name 1 month_names rest ≡ named (month_at_place place) rest
called_at name place e rest =
    let found : place ≡ position_from (same_bytes name) 0 month_names = e ∙ position_from-zero (bytes_eq name) month_names ∙ position_same name month_names 0 in
    called_from name month_names 0 rest ∙ ap (λ p. named (month_at_place p) rest) (sym found)

-- names are in capitals, so that no other name is found among them
abbrev capitals : Bytes → Bool
capitals [] = true
capitals (b ∷ bs) = is_upper b && capitals bs

abbrev all_capitals : List Bytes → Bool
all_capitals [] = true
all_capitals (m ∷ ms) = capitals m && all_capitals ms

names_capitals : all_capitals month_names ≡ true
unfolding month_names bytes is_upper
names_capitals = refl

other_name : (name m : Bytes) → capitals name ≡ false → capitals m ≡ true → same_bytes name m ≡ false
other_name name m f t = go (same_bytes name m) refl
  where
    go : (s : Bool) → same_bytes name m ≡ s → s ≡ false
    go true e = absurd (false≢true (sym f ∙ rw (same_bytes_eq name m e) t))
    go false e = refl

no_name : (name : Bytes) (ms : List Bytes) (k : ℕ) (rest : Bytes) → capitals name ≡ false → all_capitals ms ≡ true → month_called name k ms rest ≡ none
unfolding month_called
no_name name [] k rest f t = refl
no_name name (m ∷ ms) k rest f t =
    let p = both (capitals m) (all_capitals ms) t in
    rw (other_name name m f p.0) (no_name name ms (suc k) rest f p.1)

not_capital : (b : ℕ) → is_letter b ≡ false → is_upper (raised b) ≡ false
unfolding is_letter raised
not_capital b h = go (is_upper b) (is_lower b) refl refl h
  where
    go : (u l : Bool) → is_upper b ≡ u → is_lower b ≡ l → (u || l) ≡ false → is_upper (if l then b - 32 else b) ≡ false
    go true l e e' t = absurd (false≢true (sym t))
    go false true e e' t = absurd (false≢true (sym t))
    go false false e e' t = e

-- "three letters in either case for a month": the letters need no test of their own
pub month_is : (x y z : ℕ) (rest : Bytes)
    → typed_month (x ∷ y ∷ z ∷ rest) ≡ month_called (raised x ∷ raised y ∷ raised z ∷ []) 1 month_names rest
unfolding typed_month typed_letter
month_is x y z rest = go (is_letter x) (is_letter y) (is_letter z) refl refl refl
  where
    none_called : capitals (raised x ∷ raised y ∷ raised z ∷ []) ≡ false → month_called (raised x ∷ raised y ∷ raised z ∷ []) 1 month_names rest ≡ none
    none_called f = no_name (raised x ∷ raised y ∷ raised z ∷ []) month_names 1 rest f names_capitals

    go : (a b c : Bool) → is_letter x ≡ a → is_letter y ≡ b → is_letter z ≡ c
        → typed_month (x ∷ y ∷ z ∷ rest) ≡ month_called (raised x ∷ raised y ∷ raised z ∷ []) 1 month_names rest
    go true true true p q r = rw (p, q, r)
    go true true false p q r = rw (p, q, r, none_called (rw (not_capital z r, and-false, and-false)))
    go true false c p q r = rw (p, q, none_called (rw (not_capital y q, and-false)))
    go false b c p q r = rw (p, none_called (rw (not_capital x p)))

short_by : (bs : Bytes) → length bs < 3 → typed_month bs ≡ none
unfolding typed_month typed_letter
short_by [] h = refl
short_by (x ∷ []) h = go (is_letter x) refl
  where
    go : (a : Bool) → is_letter x ≡ a → typed_month (x ∷ []) ≡ none
    go true p = rw p
    go false p = rw p
short_by (x ∷ y ∷ []) h = go (is_letter x) (is_letter y) refl refl
  where
    go : (a b : Bool) → is_letter x ≡ a → is_letter y ≡ b → typed_month (x ∷ y ∷ []) ≡ none
    go true true p q = rw (p, q)
    go true false p q = rw (p, q)
    go false b p q = rw p
short_by (x ∷ y ∷ z ∷ bs) h = absurd (omega arith)

pub month_short : (text : Bytes) (at : ℕ) → length text - at < 3 → typed_month (drop at text) ≡ none
month_short text at h = short_by (drop at text) (rw length-drop h)

pub month_at : (text : Bytes) (at : ℕ) → 3 ≤ length text - at
    → typed_month (drop at text)
    ≡ month_called (raised (get_or text at 0) ∷ raised (get_or text (at + 1) 0) ∷ raised (get_or text (at + 2) 0) ∷ []) 1 month_names (drop (at + 3) text)
month_at text at h =
    rw (
      drop-cons text at 0 (omega arith),
      drop-cons text (suc at) 0 (omega arith),
      drop-cons text (suc (suc at)) 0 (omega arith),
      add-one,
      add-two,
      add-three,
    )
    (month_is (get_or text at 0) (get_or text (suc at) 0) (get_or text (suc (suc at)) 0) (drop (suc (suc (suc at))) text))

-- the library's capitals are the definitions'
upper_is : (b : ℕ) → to_ascii_uppercase b ≡ raised b
unfolding raised is_lower
upper_is b = go (ltb b 97) (ltb b 123) refl refl
  where
    go : (t u : Bool) → ltb b 97 ≡ t → ltb b 123 ≡ u → to_ascii_uppercase b ≡ raised b
    go true u e f = rw (e, within_below 97 122 b (ltb-true b 97 e))
    go false true e f = let h : b < 123 = ltb-true b 123 f in rw (e, f, within_yes 97 122 b (ltb-false b 97 e) (omega arith))
    go false false e f = let h : 123 ≤ b = ltb-false b 123 f in rw (e, f, within_above 97 122 b (omega arith))

-- the answers of `month`
pub month_found : (text : Bytes) (at a b c : ℕ) (m : Maybe ℕ) → 3 ≤ length text - at → a ≡ to_ascii_uppercase (get_or text at 0)
    → b ≡ to_ascii_uppercase (get_or text (at + 1) 0) → c ≡ to_ascii_uppercase (get_or text (at + 2) 0)
    → ((rest : Bytes) → month_called (a ∷ b ∷ c ∷ []) 1 month_names rest ≡ named (maybe m) rest)
    → typed_month (drop at text) ≡ named (maybe m) (drop (at + 3) text)
month_found text at a b c m h p q r e = month_at text at h ∙ rw (← (upper_is (get_or text at 0)), ← (upper_is (get_or text (at + 1) 0)), ← (upper_is (get_or text (at + 2) 0)), ← p, ← q, ← r) (e (drop (at + 3) text))
