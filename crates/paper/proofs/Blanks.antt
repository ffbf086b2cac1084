-- Document 02, L3: "Numeric form should ignore blanks (byte 32) before and after": any blanks around a text leave its form as it is, and a text with none at
-- either end has the form that document 01 gave it. Assumes nothing.
use Rattle.std.specs.Prelude.{if◌then◌else◌}
use Prim.Native.Nat.{ℕ, zero, suc, ◌-◌, ◌≤◌, ◌<◌}
use mathlib.Core.Path.{◌≡◌, refl, sym, ap, ◌∙◌}
use mathlib.Core.Bool.{Bool, true, false}
use mathlib.Core.List.{[], ◌∷◌, ◌++◌, append-nil, append_assoc, reverse, reverse-append, reverse-reverse}
use mathlib.Core.Option.{Option, none, some}
use native.Mathlib.Nat.{not-suc-le-zero}
use native.Mathlib.Omega.{arith}
use lib.Dec.{eqb}
use lib.ListN.{length, length-append, get_or, take, replicate}
use lib.Seq.{take-suc, take-length}
use borrow.Author.Tests.{ne_eqb}
use Rattle.paper.specs.Bytes.{Bytes, ch}
use Rattle.paper.specs.Refusals.{Res}
use Rattle.paper.specs.Numbers.{Number, sign_and_digits, after_blanks, before_blanks, within_blanks, numeric, ranged, or_zero, number, compared}
use Rattle.paper.specs.Masks.{on_number, number_gives}

-- so many blanks
abbrev pub blanks : ℕ → Bytes
blanks n = replicate n (ch " ")

-- ---- before

blanks_before : (n : ℕ) (s : Bytes) → after_blanks (blanks n ++ s) ≡ after_blanks s
unfolding after_blanks
blanks_before zero s = refl
blanks_before (suc n) s = blanks_before n s

other_before : (b : ℕ) (s : Bytes) → (b ≡ 32 → ⊥) → after_blanks (b ∷ s) ≡ b ∷ s
unfolding after_blanks
other_before b s h = rw (ne_eqb b 32 h)

-- ---- after

pub blank_after : (s : Bytes) → before_blanks (s ++ 32 ∷ []) ≡ before_blanks s
unfolding before_blanks after_blanks
blank_after s = ap (λ (l : Bytes). reverse (after_blanks l)) (reverse-append s (32 ∷ []))

pub other_after : (s : Bytes) (b : ℕ) → (b ≡ 32 → ⊥) → before_blanks (s ++ b ∷ []) ≡ s ++ b ∷ []
unfolding before_blanks
other_after s b h =
    ap (λ (l : Bytes). reverse (after_blanks l)) (reverse-append s (b ∷ []))
    ∙ ap reverse (other_before b (reverse s) h ∙ sym (reverse-append s (b ∷ [])))
    ∙ reverse-reverse (s ++ b ∷ [])

blanks_after : (s : Bytes) (n : ℕ) → before_blanks (s ++ blanks n) ≡ before_blanks s
blanks_after s zero = ap before_blanks (append-nil s)
blanks_after s (suc n) = ap before_blanks (sym (append_assoc s (32 ∷ []) (blanks n))) ∙ blanks_after (s ++ 32 ∷ []) n ∙ blank_after s

-- ---- before and after

after_both : (s : Bytes) (n : ℕ) → before_blanks (after_blanks (s ++ blanks n)) ≡ before_blanks (after_blanks s)
unfolding after_blanks
after_both [] n = ap before_blanks (ap after_blanks (sym (append-nil (blanks n))) ∙ blanks_before n [])
after_both (b ∷ s) n = go (after_both s n) (eqb b 32)
  where
    go : before_blanks (after_blanks (s ++ blanks n)) ≡ before_blanks (after_blanks s) → (t : Bool)
        → before_blanks (if t then after_blanks (s ++ blanks n) else b ∷ s ++ blanks n) ≡ before_blanks (if t then after_blanks s else b ∷ s)
    go onward true = onward
    go onward false = blanks_after (b ∷ s) n

blanks_around : (n m : ℕ) (s : Bytes) → within_blanks (blanks n ++ (s ++ blanks m)) ≡ within_blanks s
unfolding within_blanks
blanks_around n m s = ap before_blanks (blanks_before n (s ++ blanks m)) ∙ after_both s m

-- ---- none at either end

none_before : (s : Bytes) → (get_or s 0 0 ≡ 32 → ⊥) → after_blanks s ≡ s
unfolding after_blanks
none_before [] h = refl
none_before (b ∷ s) h = other_before b s h

-- the last of the first so many bytes, after the others
pub last_byte : (s : Bytes) (end : ℕ) → 0 < end → end ≤ length s → take end s ≡ take (end - 1) s ++ get_or s (end - 1) 0 ∷ []
last_byte s end h l = let up : end ≡ suc (end - 1) = omega arith in ap (λ (n : ℕ). take n s) up ∙ take-suc s (end - 1) 0 (omega arith)

none_after : (s : Bytes) → (get_or s (length s - 1) 0 ≡ 32 → ⊥) → before_blanks s ≡ s
unfolding before_blanks after_blanks
none_after [] h = refl
none_after (b ∷ s) h =
    let end = suc (length s) in
    let whole = sym (last_byte (b ∷ s) end (omega arith) (omega arith)) ∙ take-length (b ∷ s) in
    ap before_blanks (sym whole) ∙ other_after (take (end - 1) (b ∷ s)) (get_or (b ∷ s) (end - 1) 0) h ∙ whole

pub none_around : (s : Bytes) → (get_or s 0 0 ≡ 32 → ⊥) → (get_or s (length s - 1) 0 ≡ 32 → ⊥) → within_blanks s ≡ s
unfolding within_blanks
none_around s before after = ap before_blanks (none_before s before) ∙ none_after s after

-- ---- numeric form

-- "ignore blanks before and after": a text has one form, whatever blanks are around it
pub numeric_around : (n m : ℕ) (s : Bytes) → numeric (blanks n ++ (s ++ blanks m)) ≡ numeric s
unfolding numeric
numeric_around n m s = ap sign_and_digits (blanks_around n m s)

pub number_around : (n m : ℕ) (s : Bytes) → number (blanks n ++ (s ++ blanks m)) ≡ number s
unfolding number
number_around n m s = ap (λ (o : Option Number). ranged (or_zero o)) (numeric_around n m s)

-- a relation of two numbers; of other texts the blanks are bytes
pub compared_around : (n m k l : ℕ) (s t : Bytes) {x y : Number} → numeric s ≡ some x → numeric t ≡ some y
    → compared (blanks n ++ (s ++ blanks m)) (blanks k ++ (t ++ blanks l)) ≡ compared s t
unfolding compared
compared_around n m k l s t p q = rw (numeric_around n m s, numeric_around k l t, p, q)

-- what ML, MR and D give on any element but the empty one, which blanks would make "other non-numeric"
pub gives_around : (f : Number → Res Bytes) (n m : ℕ) (s : Bytes) → 0 < length s → number_gives f (blanks n ++ (s ++ blanks m)) ≡ number_gives f s
unfolding number_gives
gives_around f n m s h =
    by_form (blanks n ++ (s ++ blanks m)) (omega (arith, length-append (blanks n) (s ++ blanks m), length-append s (blanks m)))
    ∙ ap (on_number f) (numeric_around n m s)
    ∙ sym (by_form s h)
  where
    by_form : (t : Bytes) → 0 < length t → number_gives f t ≡ on_number f (numeric t)
    by_form [] l = absurd (not-suc-le-zero l)
    by_form (b ∷ t) l = refl

-- a text with no blank at either end has the form of document 01
pub numeric_bare : (s : Bytes) → (get_or s 0 0 ≡ 32 → ⊥) → (get_or s (length s - 1) 0 ≡ 32 → ⊥) → numeric s ≡ sign_and_digits s
unfolding numeric
numeric_bare s before after = ap sign_and_digits (none_around s before after)

-- "An element of blanks alone is still not numeric."
pub blanks_alone : (n : ℕ) → numeric (blanks n) ≡ none
unfolding numeric within_blanks before_blanks after_blanks sign_and_digits
blanks_alone n = ap numeric (sym (append-nil (blanks n))) ∙ numeric_around n 0 []
