-- What D prints, piece by piece over the lent buffer, and its refusals. Assumes nothing.
use Rattle.std.specs.Prelude.{if◌then◌else◌}
use Prim.Native.Nat.{ℕ, zero, suc, pred, ◌+◌, ◌-◌, ◌*◌, ◌≤◌, ◌<◌}
use mathlib.Core.Path.{◌≡◌, refl, sym, ◌∙◌, ap}
use mathlib.Core.Bool.{Bool, true, false}
use mathlib.Core.List.{[], ◌∷◌, ◌++◌}
use mathlib.Core.Option.{Option, none, some}
use native.Mathlib.Numerals.{sub-one}
use native.Mathlib.Omega.{arith}
use lib.ListN.{length, take, drop, get_or, set, length-append}
use lib.Dec.{leb}
use borrow.Author.Tests.{le-leb, leb-true}
use Rattle.std.specs.Prelude.{Some, None}
use Rattle.std.specs.Prelude.{Option as Maybe}
use Rattle.std.specs.Option.{SomeIff, ok_or}
use Rattle.paper.specs.declared.Refusal.{Refusal}
use Rattle.paper.specs.Bytes.{Bytes}
use Rattle.paper.specs.Sizes.{entry_most}
use Rattle.paper.specs.Refusals.{Res, given, refused, refuse◌unless◌, ◌>>=◌, ◌>>◌}
use Rattle.paper.specs.Answers.{told, sized, written}
use Rattle.paper.specs.Numbers.{Number, numeric, digits}
use Rattle.paper.specs.Steps.{limited}
use Rattle.paper.specs.Dates.{Date, month_names, ranged_day, year_text, date_of, date_text, date_gives}
use Rattle.paper.proofs.Calendar.{calendar_parts, date_of_in_calendar}
use Rattle.paper.proofs.Numerals.{length_digits}
use Rattle.lent.specs.Over.{over, Laid}
use Rattle.lent.proofs.Laws.{over_as, over_none, over_front}
use Rattle.lent.proofs.Laying.{laid_at, laid_one, laid_behind}
use Rattle.numbers.specs.Forms.{convertible}
use Rattle.numbers.proofs.FormLaws.{empty_stays, converts}
use Rattle.dates.specs.declared.Date.{Date as CodedDate}
use Rattle.dates.specs.Dated.{code_date, dated_text}
use Rattle.dates.proofs.Tables.{name_long}

-- digits laid over a buffer
pub digits_laid : (d : Bytes) (at k n : ℕ) → take at d ++ digits k n ++ drop (at + k) d ≡ over d at (digits k n)
digits_laid d at k n = over_as d at (digits k n) (length_digits k n)

-- the answers of `year_text`
pub year_none : (held : Bytes) (at n s year : ℕ) → n ≡ 0 → record { value : 0 ≡ length (year_text n s year); out_after : held ≡ over held at (year_text n s year) }
unfolding year_text
year_none held at n s year h = rw h (record { value = refl; out_after = sym (over_none held at) })

pub year_laid : (held last : Bytes) (at n s year : ℕ) → at + 5 ≤ length held → n ≤ 4 → (n ≡ 0 → ⊥)
    → last ≡ take (at + 1) (set held at s) ++ digits n year ++ drop (at + 1 + n) (set held at s)
    → record { value : n + 1 ≡ length (year_text n s year); out_after : last ≡ over held at (year_text n s year) }
unfolding year_text
year_laid held last at zero s year h k nz e = absurd (nz refl)
year_laid held last at (suc n) s year h k nz e =
    let both : Laid (s ∷ [] ++ digits (suc n) year) held (at + 1 + suc n) last at
    = laid_behind (laid_one held at s refl (omega arith)) (laid_at (e ∙ digits_laid (set held at s) (at + 1) (suc n) year) (rw (length_digits (suc n) year))) (omega arith) in
    record { value = omega (arith, both.place); out_after = both.bytes }

pub year_most : (n s year : ℕ) → n ≤ 4 → length (year_text n s year) ≤ 5
unfolding year_text
year_most zero s year h = omega arith
year_most (suc n) s year h = omega (arith, length_digits (suc n) year)

-- the answers of `date_text`
pub lettered_laid : (held one two last : Bytes) (n r : ℕ) (d : Date) → 1 ≤ d.month → d.month ≤ 12
    → one ≡ over held 0 (digits 2 d.day ++ 32 ∷ []) → two ≡ over one 3 (get_or month_names (pred d.month) [])
    → last ≡ over two 6 (year_text n 32 d.year) → r ≡ length (year_text n 32 d.year)
    → record { value : r + 6 ≡ length (date_text n none d); out_after : last ≡ over held 0 (date_text n none d) }
unfolding date_text digits
lettered_laid held one two last n r d m m' p q t e =
    let name = name_long (pred d.month) (omega arith) in
    let all : Laid (date_text n none d) held (r + 6) last 0 = laid_behind (laid_behind (laid_at p refl) (laid_at {end = 6} q (omega arith)) (omega arith)) (laid_at t (omega arith)) (omega arith) in
    record { value = omega (arith, all.place); out_after = all.bytes }

pub numbered_laid : (held one two last : Bytes) (n s r : ℕ) (d : Date)
    → one ≡ over held 0 (digits 2 d.month ++ s ∷ []) → two ≡ take 3 one ++ digits 2 d.day ++ drop (3 + 2) one
    → last ≡ over two 5 (year_text n s d.year) → r ≡ length (year_text n s d.year)
    → record { value : r + 5 ≡ length (date_text n (some s) d); out_after : last ≡ over held 0 (date_text n (some s) d) }
unfolding date_text digits
numbered_laid held one two last n s r d p q t e =
    let all : Laid (date_text n (some s) d) held (r + 5) last 0 = laid_behind (laid_behind (laid_at p refl) (laid_at (q ∙ digits_laid one 3 2 d.day) refl) (omega arith)) (laid_at t (omega arith)) (omega arith) in
    record { value = omega (arith, all.place); out_after = all.bytes }

-- what a day in its range is, and what is refused: 10 alone
pub data Reached : Res ℕ → Type 0 where
  reached : {day : ℕ} → day ≤ 3_652_058 → Reached (given day)
  outside : Reached (refused 10)

reach : (x : Number) → Reached (ranged_day x)
unfolding ranged_day
reach x = by_sign x.negative
  where
    in_range : (t : Bool) {day : ℕ} → (t ≡ true → day ≤ 3_652_058) → Reached ((refuse 10 unless t) >> given day)
    in_range true h = reached (h refl)
    in_range false h = outside

    by_sign : (neg : Bool)
        → Reached ((refuse 10 unless (if neg then leb x.size 718_430 else leb x.size 2_933_628)) >> given (if neg then 718_430 - x.size else 718_430 + x.size))
    by_sign true = in_range (leb x.size 718_430) (λ t. omega (arith, leb-true x.size 718_430 t))
    by_sign false = in_range (leb x.size 2_933_628) (λ t. omega (arith, leb-true x.size 2_933_628 t))

-- the day of a number below zero, by the library's `checked_sub`
pub before_zero : (size : ℕ) (r : Maybe ℕ) → SomeIff r (size ≤ 718_430) (718_430 - size)
    → told (ok_or r Refusal.OutOfRange) ≡ ((refuse 10 unless leb size 718_430) >> given (718_430 - size))
before_zero size None h = go (leb size 718_430) refl
  where
    go : (t : Bool) → leb size 718_430 ≡ t → refused 10 ≡ ((refuse 10 unless t) >> given (718_430 - size))
    go true e = absurd (h (leb-true size 718_430 e))
    go false e = refl
before_zero size (Some day) h = rw (le-leb size 718_430 h.0) (ap given h.1)

-- a day that is given is in range
pub day_in_range : (x : Number) {day : ℕ} → ranged_day x ≡ given day → day ≤ 3_652_058
day_in_range x e = go (reach x) e
  where
    go : {r : Res ℕ} {day : ℕ} → Reached r → r ≡ given day → day ≤ 3_652_058
    go {day = day} (reached {day = d} h) e = let same : d ≡ day = cc in omega arith
    go outside e = let z : ◌≡◌ {A = ℕ} 0 1 = cc in absurd (omega arith)

pub date_month : (day : ℕ) (d : CodedDate) → d ≡ code_date (date_of day) → (1 ≤ d.month) × (d.month ≤ 12)
date_month day d e = let p = calendar_parts (date_of day) (date_of_in_calendar day) in rw e (p.month_first, p.month_last)

-- the answer of `number_dated`
pub dated_given : (held last : Bytes) (n r : ℕ) (s : Option ℕ) (x : Number) (day : ℕ) (d : Date) → ranged_day x ≡ given day → d ≡ date_of day
    → r ≡ length (date_text n s d) → last ≡ over held 0 (date_text n s d)
    → record { value : given r ≡ sized (dated_text n s (ranged_day x)); out_after : last ≡ written held (dated_text n s (ranged_day x)) }
unfolding written
dated_given held last n r s x day d e f p q = rw (e, ← f) (record { value = ap given p; out_after = q ∙ over_front held (date_text n s d) })

-- no date is longer than a result may be
text_most : (n : ℕ) (s : Option ℕ) (d : Date) → n ≤ 4 → 1 ≤ d.month → d.month ≤ 12 → length (date_text n s d) ≤ 11
unfolding date_text digits
text_most n none d k m m' =
    let name = name_long (pred d.month) (omega arith) in
    omega (arith, name, year_most n 32 d.year k, length-append (get_or month_names (pred d.month) []) (year_text n 32 d.year))
text_most n (some s) d k m m' = omega (arith, year_most n s d.year k)

limited_dated : (n : ℕ) (s : Option ℕ) {r : Res ℕ} → n ≤ 4 → Reached r → limited entry_most (dated_text n s r) ≡ dated_text n s r
unfolding limited entry_most
limited_dated n s k (reached {day} h) =
    let p = calendar_parts (date_of day) (date_of_in_calendar day) in
    rw (le-leb (length (date_text n s (date_of day))) 1_024 (omega (arith, text_most n s (date_of day) k p.month_first p.month_last)))
limited_dated n s k outside = refl

-- "Empty stays empty"
pub limited_empty : (n : ℕ) (s : Option ℕ) (e : Bytes) → length e ≡ 0 → limited entry_most (date_gives n s e) ≡ given []
unfolding limited entry_most date_gives
limited_empty n s e h = ap (limited entry_most) (empty_stays (λ x. dated_text n s (ranged_day x)) e h)

limited_number : (n : ℕ) (s : Option ℕ) (v : Res Number) → n ≤ 4
    → limited entry_most (v >>= λ x. dated_text n s (ranged_day x)) ≡ (v >>= λ x. dated_text n s (ranged_day x))
unfolding limited
limited_number n s (given x) k = limited_dated n s k (reach x)
limited_number n s (refused m) k = refl

-- the answers of `give`
pub gives_by : (n : ℕ) (s : Option ℕ) (e : Bytes) {v : Res Number} → n ≤ 4 → (length e ≡ 0 → ⊥) → convertible (numeric e) ≡ v
    → limited entry_most (date_gives n s e) ≡ (v >>= λ x. dated_text n s (ranged_day x))
unfolding date_gives
gives_by n s e {v} k h f = ap (limited entry_most) (converts (λ x. dated_text n s (ranged_day x)) e h f) ∙ limited_number n s v k
