-- Numeric form by scans, two over the blanks and one over the digits, which leaves a size over the limit as it is, against the definition. Assumes nothing.
use Rattle.std.specs.Prelude.{if◌then◌else◌}
use mathlib.Core.Path.{◌≡◌, refl, sym, ap, ◌∙◌}
use mathlib.Core.Bool.{Bool, true, false, not, ◌&&◌}
use mathlib.Core.List.{[], ◌∷◌, ◌++◌}
use mathlib.Core.Logic.{◌⊎◌, inl, inr, ⊎_elim}
use mathlib.Core.Option.{none, some}
use Prim.Native.Nat.{ℕ, suc, ◌+◌, ◌-◌, ◌*◌, ◌≤◌, ◌<◌}
use native.Mathlib.Numerals.{add-one}
use native.Mathlib.Omega.{arith}
use lib.Dec.{eqb}
use lib.ListN.{length, get_or, take, drop, drop_of_length-le}
use lib.Seq.{drop-cons, take-length}
use borrow.Author.Tests.{le-leb, lt-leb, ne_eqb, eqb-false, not-true}
use Rattle.std.specs.Char.{is_ascii_digit}
use Rattle.paper.specs.Bytes.{Bytes, is_digit, digit_value}
use Rattle.paper.specs.Sizes.{number_most}
use Rattle.paper.specs.Refusals.{given, refused}
use Rattle.paper.specs.Numbers.{Number as Whole, signed, value, digits_alone, sign_and_digits, after_blanks, before_blanks, within_blanks, ranged}
use Rattle.paper.proofs.Truths.{both, ltb_or}
use Rattle.paper.proofs.Blanks.{blank_after, other_after, last_byte, none_around}
use Rattle.numbers.specs.Forms.{in_range}
use Rattle.numbers.specs.Scans.{raised, value_form}

-- a size over the limit stays over it
over : (negative : Bool) (n m : ℕ) (bs : Bytes) → number_most < n → number_most < m
    → value_form negative (value n bs) ≡ value_form negative (value m bs)
unfolding value_form ranged signed value
over negative n m [] a b = rw (lt-leb n number_most a, lt-leb m number_most b)
over negative n m (d ∷ ds) a b =
    go (over negative (n * 10 + digit_value d) (m * 10 + digit_value d) ds (omega arith) (omega arith)) (is_digit d)
  where
    go : value_form negative (value (n * 10 + digit_value d) ds) ≡ value_form negative (value (m * 10 + digit_value d) ds) → (t : Bool)
        → value_form negative (if t then value (n * 10 + digit_value d) ds else none)
        ≡ value_form negative (if t then value (m * 10 + digit_value d) ds else none)
    go onward true = onward
    go onward false = refl

held : (negative : Bool) (n d : ℕ) (bs : Bytes) → value_form negative (value (raised n d) bs) ≡ value_form negative (value (n * 10 + d) bs)
unfolding raised
held negative n d bs =
    ⊎_elim (λ l. rw (lt-leb n number_most l) (over negative n (n * 10 + d) bs l (omega arith))) (λ l. rw (le-leb n number_most (omega arith)))
    (ltb_or number_most n)

-- a turn of the scan: a digit goes in, another byte ends it
module _ (negative : Bool) (s : Bytes) (n i : ℕ) (h : i < length s) where
  pub digit_goes : is_ascii_digit (get_or s i 0) ≡ true
      → value_form negative (value (raised n (digit_value (get_or s i 0))) (drop (i + 1) s)) ≡ value_form negative (value n (drop i s))
  unfolding value is_digit
  digit_goes e = held negative n (digit_value (get_or s i 0)) (drop (i + 1) s) ∙ rw (add-one i, drop-cons s i 0 h, e)

  pub other_ends : is_ascii_digit (get_or s i 0) ≡ false → none ≡ value_form negative (value n (drop i s))
  unfolding value_form value is_digit
  other_ends e = rw (drop-cons s i 0 h, e)

pub at_end : (negative : Bool) (s : Bytes) (n i : ℕ) → length s ≤ i → some (ranged (signed negative n)) ≡ value_form negative (value n (drop i s))
unfolding value_form value
at_end negative s n i h = rw (drop_of_length-le s h)

-- "an optional `+` or `-`, then one or more digits"
pub no_bytes : (s : Bytes) → length s ≡ 0 → none ≡ in_range (sign_and_digits s)
unfolding sign_and_digits
no_bytes [] h = refl
no_bytes (b ∷ bs) h = absurd (omega arith)

pub after_sign : (s : Bytes) → (get_or s 0 0 ≡ 43) ⊎ (get_or s 0 0 ≡ 45)
    → in_range (digits_alone (eqb (get_or s 0 0) 45) (drop 1 s)) ≡ in_range (sign_and_digits s)
unfolding sign_and_digits
after_sign [] e = absurd (⊎_elim (λ p. omega arith) (λ p. omega arith) e)
after_sign (b ∷ bs) (inl e) = rw e
after_sign (b ∷ bs) (inr e) = rw e

pub no_sign : (s : Bytes) → 48 ≤ get_or s 0 0 → in_range (digits_alone (eqb (get_or s 0 0) 45) (drop 0 s)) ≡ in_range (sign_and_digits s)
unfolding sign_and_digits
no_sign [] h = absurd (omega arith)
no_sign (b ∷ bs) h = rw (ne_eqb b 45 (λ p. omega arith), ne_eqb b 43 (λ p. omega arith))

pub no_digit : (s : Bytes) → get_or s 0 0 < 48 → ((get_or s 0 0 ≡ 43) ⊎ (get_or s 0 0 ≡ 45) → ⊥) → none ≡ in_range (sign_and_digits s)
unfolding sign_and_digits value is_digit
no_digit [] h e = refl
no_digit (b ∷ bs) h e = rw (ne_eqb b 45 (λ p. e (inr p)), ne_eqb b 43 (λ p. e (inl p)), lt-leb 48 b h)

-- nothing at all, and a text with no blank at either end
pub nothing_within : (s : Bytes) → length s ≡ 0 → s ≡ within_blanks s
unfolding within_blanks before_blanks after_blanks
nothing_within [] h = refl
nothing_within (b ∷ bs) h = absurd (omega arith)

pub nothing_around : (s : Bytes) → not (eqb (get_or s 0 0) 32) && not (eqb (get_or s (length s - 1) 0) 32) ≡ true → s ≡ within_blanks s
nothing_around s h =
    let first = get_or s 0 0 in
    let last = get_or s (length s - 1) 0 in
    let ends = both (not (eqb first 32)) (not (eqb last 32)) h in
    sym (none_around s (eqb-false first 32 (not-true (eqb first 32) ends.0)) (eqb-false last 32 (not-true (eqb last 32) ends.1)))

-- the blanks before: one more is passed, another byte ends them, or no byte is left
pub first_passed : (s : Bytes) → 1 ≤ length s → get_or s 0 0 ≡ 32 → after_blanks (take (length s - 1) (drop 1 s)) ≡ after_blanks s
unfolding after_blanks
first_passed [] h e = absurd (omega arith)
first_passed (b ∷ bs) h e = let k : suc (length bs) - 1 ≡ length bs = omega arith in rw (k, e, take-length bs)

pub first_stays : (s : Bytes) → 1 ≤ length s → (get_or s 0 0 ≡ 32 → ⊥) → s ≡ after_blanks s
unfolding after_blanks
first_stays [] h e = refl
first_stays (b ∷ bs) h e = rw (ne_eqb b 32 e)

pub none_first : (s : Bytes) → length s < 1 → s ≡ after_blanks s
unfolding after_blanks
none_first [] h = refl
none_first (b ∷ bs) h = absurd (omega arith)

-- the blanks after: one more is left out, another byte ends them, or no byte is left
pub last_passed : (s : Bytes) → 1 ≤ length s → get_or s (length s - 1) 0 ≡ 32 → before_blanks (take (length s - 1) s) ≡ before_blanks s
last_passed s h e =
    sym (ap before_blanks (sym (take-length s) ∙ last_byte s (length s) h (omega arith) ∙ rw e) ∙ blank_after (take (length s - 1) s))

pub last_stays : (s : Bytes) → 1 ≤ length s → (get_or s (length s - 1) 0 ≡ 32 → ⊥) → s ≡ before_blanks s
last_stays s h e =
    let k : s ≡ take (length s - 1) s ++ get_or s (length s - 1) 0 ∷ [] = sym (take-length s) ∙ last_byte s (length s) h (omega arith) in
    k ∙ sym (other_after (take (length s - 1) s) (get_or s (length s - 1) 0) e) ∙ ap before_blanks (sym k)

pub none_last : (s : Bytes) → length s < 1 → s ≡ before_blanks s
unfolding before_blanks after_blanks
none_last [] h = refl
none_last (b ∷ bs) h = absurd (omega arith)

-- no byte, and some
pub some_digits : (negative : Bool) (s : Bytes) → (length s ≡ 0 → ⊥) → value_form negative (value 0 s) ≡ in_range (digits_alone negative s)
unfolding value_form
some_digits negative [] h = absurd (h refl)
some_digits negative (b ∷ bs) h = refl

-- a size by the limit
pub over_limit : (x : Whole) → number_most < x.size → refused 10 ≡ ranged x
unfolding ranged
over_limit x h = rw (lt-leb x.size number_most h)

pub in_limit : (x : Whole) → x.size ≤ number_most → given x ≡ ranged x
unfolding ranged
in_limit x h = rw (le-leb x.size number_most h)

-- the laws of each reader
pub ruleset no_blanks = (nothing_within, nothing_around)

pub ruleset first_blanks = (first_passed, first_stays, none_first)

pub ruleset last_blanks = (last_passed, last_stays, none_last)

pub ruleset in_turn = (digit_goes, other_ends, at_end)
