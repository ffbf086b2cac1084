-- The readers of a typed date, piece by piece: each is what its first digit, letter or separator decides. Assumes nothing.
use Rattle.std.specs.Prelude.{if◌then◌else◌}
use Prim.Native.Nat.{ℕ, zero, suc, ◌+◌, ◌*◌, ◌-◌, ◌≤◌, ◌<◌}
use mathlib.Core.Path.{◌≡◌, refl, ◌∙◌, ap}
use mathlib.Core.Bool.{Bool, true, false}
use mathlib.Core.List.{[], ◌∷◌}
use mathlib.Core.Option.{Option, none, some}
use native.Mathlib.Omega.{arith}
use lib.ListN.{length, drop, get_or, drop_of_length-le}
use lib.Seq.{drop-cons}
use native.Mathlib.Numerals.{add-one}
use Rattle.paper.specs.Bytes.{Bytes, is_digit, digit_value}
use Rattle.paper.specs.Grammar.{Reader, follow, all_read, ahead, this, numeral, more_digits}
use Rattle.std.specs.Prelude.{Result, Ok, Err}
use Rattle.paper.specs.Refusals.{Res}
use Rattle.paper.specs.Numbers.{Number, plus, natural, signed}
use Rattle.std.specs.Int.{abs_diff}
use lib.Dec.{leb, ltb}
use borrow.Author.Tests.{leb-true, leb-false, le-ltb, lt-ltb}
use Rattle.paper.specs.declared.Read.{Read}
use Rattle.paper.specs.declared.Refusal.{Refusal}
use Rattle.dates.specs.Scans.{found, Within, further, parting, second, ordered, ended, form}
use Rattle.paper.specs.Dates.{Date}
use Rattle.paper.specs.TypedDates.{typed_digit, typed_pair, typed_year, typed_form, typed, dated, century}

-- what a reader finds and within which bounds, by what its code answers
abbrev pub Told : Option (ℕ × Bytes) → ℕ → Bytes → Result (Read ℕ) Refusal → Type 0
Told x most text r = record { reads : x ≡ found text r; within : Within most text r }

pub within_more : {m n : ℕ} (text : Bytes) (r : Result (Read ℕ) Refusal) → m ≤ n → Within m text r → Within n text r
within_more text (Ok r) h w = (omega arith, w.1)
within_more text (Err e) h w = w

-- the byte at a place, and what stands behind it
pub ahead_is : (text : Bytes) (at b : ℕ) → at < length text → ((d : ℕ) → b ≡ get_or text at d) → drop at text ≡ b ∷ drop (at + 1) text
ahead_is text at b h e = rw (drop-cons text at 0 h, add-one, e 0)

pub ahead_none : (text : Bytes) (at : ℕ) → length text ≤ at → drop at text ≡ []
ahead_none text at h = drop_of_length-le text {i = at} h

-- a reader that looks for a digit goes on as one digit more decides
abbrev pub either : {A : Type 0} → Option (ℕ × Bytes) → (ℕ → Reader A) → Option (A × Bytes) → Option (A × Bytes)
either none k other = other
either (some r) k other = k r.0 r.1

ahead_further : {A : Type 0} (n : ℕ) (k : ℕ → Reader A) (other : Reader A) (bs : Bytes)
    → ahead is_digit (λ b. k (n * 10 + digit_value b)) other bs ≡ either (further n bs) k (other bs)
unfolding further typed_digit numeral more_digits
ahead_further n k other [] = refl
ahead_further n k other (b ∷ bs) = go (is_digit b)
  where
    go : (t : Bool) → (if t then k (n * 10 + digit_value b) bs else other (b ∷ bs))
        ≡ either (follow (if t then some (digit_value b, bs) else none) (λ d end. some (n * 10 + d, end))) k (other (b ∷ bs))
    go true = refl
    go false = refl

follow_same : {A B : Type 0} (r : Option (A × Bytes)) (k k' : A → Reader B)
    → ((v : A) (rest : Bytes) → k v rest ≡ k' v rest) → follow r k ≡ follow r k'
follow_same none k k' e = refl
follow_same (some r) k k' e = e r.0 r.1

-- the first digit
digit_first : (bs : Bytes) → typed_digit bs ≡ further 0 bs
unfolding further
digit_first bs = go (typed_digit bs)
  where
    go : (r : Option (ℕ × Bytes)) → r ≡ follow r (λ d end. some (0 * 10 + d, end))
    go none = refl
    go (some r) = ap (λ (v : ℕ). some (v, r.1)) (omega arith)

-- "one or two digits"
abbrev pub pair_after : ℕ → Reader ℕ
pair_after a rest = either (further a rest) (λ v end. some (v, end)) (some (a, rest))

numeral_first : (bs : Bytes) → numeral 1 bs ≡ follow (typed_digit bs) (more_digits 1)
unfolding numeral typed_digit more_digits
numeral_first [] = refl
numeral_first (b ∷ bs) = go (is_digit b)
  where
    go : (t : Bool) → (if t then more_digits 1 (digit_value b) bs else none)
        ≡ follow (if t then some (digit_value b, bs) else none) (more_digits 1)
    go true = refl
    go false = refl

second_digit : (a : ℕ) (rest : Bytes) → more_digits 1 a rest ≡ pair_after a rest
unfolding more_digits
second_digit a rest = ahead_further a (λ v end. some (v, end)) (λ end. some (a, end)) rest

pub pair_is : (bs : Bytes) → typed_pair bs ≡ follow (further 0 bs) pair_after
unfolding typed_pair
pair_is bs =
    numeral_first bs
    ∙ ap (λ (r : Option (ℕ × Bytes)). follow r (more_digits 1)) (digit_first bs)
    ∙ follow_same (further 0 bs) (more_digits 1) pair_after second_digit

-- "a year of 2 or 4 digits"
abbrev pub year_after : ℕ → Reader ℕ
year_after y rest = either (further y rest) further (some (century y, rest))

digit_further : (a : ℕ) (k : ℕ → Reader ℕ) (rest : Bytes) → follow (typed_digit rest) (λ b. k (a * 10 + b)) ≡ follow (further a rest) k
unfolding further
digit_further a k rest = go (typed_digit rest)
  where
    go : (r : Option (ℕ × Bytes)) → follow r (λ b. k (a * 10 + b)) ≡ follow (follow r (λ b end. some (a * 10 + b, end))) k
    go none = refl
    go (some r) = refl

-- what follows the first two digits
abbrev year_ahead : ℕ → Reader ℕ
year_ahead y = ahead is_digit (λ c. further (y * 10 + digit_value c)) (λ rest. some (century y, rest))

pub year_is : (bs : Bytes) → typed_year bs ≡ follow (further 0 bs) (λ a rest. follow (further a rest) year_after)
unfolding typed_year further
year_is bs =
    ap (λ (r : Option (ℕ × Bytes)). follow r (λ a rest. follow (typed_digit rest) (λ b. year_ahead (a * 10 + b)))) (digit_first bs)
    ∙ follow_same (further 0 bs) _ (λ a rest. follow (further a rest) year_after)
    (λ a rest. digit_further a year_ahead rest
    ∙ follow_same (further a rest) year_ahead year_after (λ y end. ahead_further y further (λ rest. some (century y, rest)) end))

-- a piece and its separator
parting_then : {B : Type 0} (s : ℕ) (r : Option (ℕ × Bytes)) (k : ℕ → Reader B)
    → follow r (λ x bs. follow (this s bs) (λ _. k x)) ≡ follow (follow r (parting s)) k
parting_then s none k = refl
parting_then {B} s (some r) k = go (this s r.1)
  where
    go : (e : Option (Unit {0} × Bytes)) → follow e (λ _. k r.0) ≡ follow (follow e (λ _ end. some (r.0, end))) k
    go none = refl
    go (some e) = refl

-- what follows the first piece
abbrev pub second_piece : Bool → ℕ → ℕ → Reader Date
second_piece letters s a rest = follow (follow (second letters rest) (parting s)) (λ b end. follow (typed_year end) (ended letters a b))

pub form_is : (letters : Bool) (s : ℕ) (text : Bytes) → form letters s text ≡ follow (follow (typed_pair text) (parting s)) (second_piece letters s)
unfolding form
form_is letters s text =
    follow_same (typed_pair text) _ _
    (λ a rest. follow_same (this s rest) _ _ (λ _ bs. parting_then s (second letters bs) (λ b end. follow (typed_year end) (ended letters a b))))
    ∙ parting_then s (typed_pair text) (second_piece letters s)

-- the year of a date in either order
pub ordered_year : (letters : Bool) (a b year : ℕ) → (ordered letters a b year).year ≡ year
ordered_year true a b year = refl
ordered_year false a b year = refl

-- the day counted from day zero
pub from_day_zero : (n : ℕ) → record { negative = ltb n 718_430; size = abs_diff n 718_430 } ≡ plus (natural n) (signed true 718_430)
unfolding plus natural signed
from_day_zero n = go (leb 718_430 n) refl
  where
    go : (t : Bool) → leb 718_430 n ≡ t → ◌≡◌ {A = Number} (record { negative = ltb n 718_430; size = abs_diff n 718_430 }) (plus (natural n) (signed true 718_430))
    go true e =
        let h : 718_430 ≤ n = leb-true _ _ e in
        let size : abs_diff n 718_430 ≡ n - 718_430 = omega arith in
        rw (e, le-ltb n 718_430 h, size)
    go false e =
        let h : n < 718_430 = leb-false _ _ e in
        let size : abs_diff n 718_430 ≡ 718_430 - n = omega arith in
        rw (e, lt-ltb n 718_430 h, size, lt-ltb 0 (718_430 - n) (omega arith))

-- the day that a text names, for any n but 0: without a separator the month has letters and blanks part the pieces
pub typed_blank : (n : ℕ) (text : Bytes) → (n ≡ 0 → ⊥) → typed n none text ≡ dated (all_read (form true 32 text))
unfolding typed form typed_form
typed_blank zero text h = absurd (h refl)
typed_blank (suc n) text h = refl

pub typed_byte : (n s : ℕ) (text : Bytes) → (n ≡ 0 → ⊥) → typed n (some s) text ≡ dated (all_read (form false s text))
unfolding typed form typed_form
typed_byte zero s text h = absurd (h refl)
typed_byte (suc n) s text h = refl
