-- MX and MY: their scans, a byte or a pair of hex digits a turn, and that MY gives back what MX made.
use Rattle.std.specs.Prelude.{if◌then◌else◌}
use mathlib.Core.Path.{◌≡◌, refl, sym, ap, ◌∙◌}
use mathlib.Core.Bool.{Bool, true, false, not, ◌||◌}
use mathlib.Core.List.{[], ◌∷◌, ◌++◌}
use mathlib.Core.Option.{Option, none, some}
use Prim.Native.Nat.{ℕ, suc, ◌+◌, ◌-◌, ◌*◌, ◌/◌, ◌%◌, ◌≤◌, ◌<◌}
use native.Mathlib.Nat.{le_refl}
use native.Mathlib.Omega.{arith}
use lib.Dec.{ltb}
use lib.ListN.{length, drop, get_or, length-drop, drop_of_length-le}
use lib.Seq.{drop-drop}
use borrow.Author.Tests.{lt-ltb, le-ltb, ltb-true, ltb-false}
use Rattle.std.specs.Char.{is_ascii_hexdigit}
use Rattle.paper.specs.Bytes.{Bytes, is_digit, any, within}
use Rattle.paper.specs.Sizes.{is_mark, entry_most}
use Rattle.paper.specs.Refusals.{given, refused, not_convertible, mark_from_hex}
use Rattle.paper.specs.Codes.{Plain}
use Rattle.paper.specs.Texts.{plain_gives, hex_digit, hexed, hex_value, hex_pair, unhexed}
use Rattle.texts.specs.Codes.{outcome}
use Rattle.texts.specs.Scans.{is_none, is_other, worth, decoded}
use Rattle.paper.proofs.Truths.{neither, chosen}
use Rattle.paper.proofs.Limits.{limited_refused}
use Rattle.paper.proofs.Ranges.{within_yes, within_above, within_true}
use Rattle.lent.proofs.Scans.{next}

-- ---- MX

pub hexed_next : (e : Bytes) (i : ℕ) → i < length e → hexed (drop i e) ≡ hex_digit (get_or e i 0 / 16) ∷ hex_digit (get_or e i 0 % 16) ∷ hexed (drop (i + 1) e)
unfolding hexed
hexed_next e i h = rw (next e i h)

pub hexed_none : (e : Bytes) (i : ℕ) → length e ≤ i → hexed (drop i e) ≡ []
unfolding hexed
hexed_none e i h = rw (drop_of_length-le e h)

pub hexed_length : (e : Bytes) → length (hexed e) ≡ 2 * length e
unfolding hexed
hexed_length [] = refl
hexed_length (b ∷ bs) = omega (arith, hexed_length bs)

-- ---- one hex digit

pub digit_below : (n : ℕ) → n < 10 → 48 + n ≡ hex_digit n
unfolding hex_digit
digit_below n h = rw (lt-ltb n 10 h)

pub letter_above : (n : ℕ) → 10 ≤ n → 65 + (n - 10) ≡ hex_digit n
unfolding hex_digit
letter_above n h = rw (le-ltb n 10 h)

-- the three ranges of a hex digit
abbrev by_range : ℕ → Bool → Bool → Bool → Option ℕ
by_range b t u w = if t then some (b - 48) else (if u then some (b - 65 + 10) else (if w then some (b - 97 + 10) else none))

pub is_other_of : (b : ℕ) (t u w : Bool) → not ((t || u) || w) ≡ is_none (by_range b t u w)
is_other_of b true u w = refl
is_other_of b false true w = refl
is_other_of b false false true = refl
is_other_of b false false false = refl

pub not_hexdigit : (b : ℕ) → not (is_ascii_hexdigit b) ≡ is_other b
unfolding is_other hex_value is_digit
not_hexdigit b = is_other_of b (within 48 57 b) (within 65 70 b) (within 97 102 b)

-- what a hex digit stands for, by its own bits
halves : (b high letter v : ℕ) → b % 16 ≡ b - high * 16 → b / 64 ≡ letter → v ≡ (b - high * 16 + letter * 9) % 16 → some v ≡ some (worth b)
halves b high letter v low top e = rw (low, top) (ap some e)

digit_worth : (b : ℕ) → is_other b ≡ false → hex_value b ≡ some (worth b)
unfolding is_other hex_value is_digit
digit_worth b e = go (within 48 57 b) refl (within 65 70 b) refl (within 97 102 b) refl e
  where
    go : (t : Bool) → within 48 57 b ≡ t → (u : Bool) → within 65 70 b ≡ u → (w : Bool) → within 97 102 b ≡ w
        → is_none (by_range b t u w) ≡ false → by_range b t u w ≡ some (worth b)
    go true s u p w q r = let (least, most) = within_true 48 57 b s in halves b 3 0 _ (omega arith) (omega arith) (omega arith)
    go false s true p w q r = let (least, most) = within_true 65 70 b p in halves b 4 1 _ (omega arith) (omega arith) (omega arith)
    go false s false p true q r = let (least, most) = within_true 97 102 b q in halves b 6 1 _ (omega arith) (omega arith) (omega arith)
    go false s false p false q r = cc

-- ---- MY

-- a pair off the front of what is left after k of them
pub pair_off : (e : Bytes) (k : ℕ) (two rest : Bytes) → 2 * k ≤ length e → drop (2 * k) e ≡ two ++ rest → length two ≡ 2
    → (2 * (k + 1) ≤ length e) × (rest ≡ drop (2 * (k + 1)) e)
    × (decoded (drop (2 * k) e) ≡ (worth (get_or two 0 0) * 16 + worth (get_or two 1 0)) ∷ decoded (drop (2 * (k + 1)) e))
unfolding decoded
pair_off e k [] rest inside d n = absurd (omega arith)
pair_off e k (h ∷ []) rest inside d n = absurd (omega arith)
pair_off e k (h ∷ l ∷ []) rest inside d n =
    let two : 2 * k + 2 ≡ 2 * (k + 1) = omega arith in
    let left : rest ≡ drop (2 * (k + 1)) e = ap (drop 2) (sym d) ∙ drop-drop 2 (2 * k) e ∙ ap (λ (n : ℕ). drop n e) two in (
      omega (arith, ap length d, length-drop (2 * k) e),
      left,
      ap decoded d ∙ ap (λ (r : Bytes). (worth h * 16 + worth l) ∷ decoded r) left,
    )
pair_off e k (h ∷ l ∷ x ∷ xs) rest inside d n = absurd (omega arith)

short_decoded : (e : Bytes) → length e ≤ 1 → decoded e ≡ []
unfolding decoded
short_decoded [] h = refl
short_decoded (b ∷ []) h = refl
short_decoded (b ∷ c ∷ bs) h = absurd (omega arith)

pub decoded_none : (e : Bytes) (i : ℕ) → length e ≤ i + 1 → decoded (drop i e) ≡ []
decoded_none e i h = short_decoded (drop i e) (omega (arith, length-drop i e))

pub decoded_fits : (e : Bytes) → length (decoded e) ≤ length e
unfolding decoded
decoded_fits [] = le_refl 0
decoded_fits (h ∷ []) = omega arith
decoded_fits (h ∷ l ∷ bs) = omega (arith, decoded_fits bs)

-- "odd length or a non-hex byte is 12"
pair_refused : (o p : Option ℕ) → hex_pair o p (refused not_convertible) ≡ refused not_convertible
pair_refused none p = refl
pair_refused (some x) none = refl
pair_refused (some x) (some y) = refl

odd_refused : (e : Bytes) → (length e % 2 ≡ 0 → ⊥) → unhexed e ≡ refused not_convertible
unfolding unhexed
odd_refused [] h = absurd (h refl)
odd_refused (b ∷ []) h = refl
odd_refused (b ∷ c ∷ bs) h = rw (odd_refused bs (λ z. h (omega arith))) (pair_refused (hex_value b) (hex_value c))

other_refused : (e : Bytes) → any is_other e ≡ true → unhexed e ≡ refused not_convertible
unfolding unhexed any is_other
other_refused [] t = cc
other_refused (b ∷ []) t = refl
other_refused (b ∷ c ∷ bs) t = go (hex_value b) (hex_value c) t (other_refused bs)
  where
    go : (o p : Option ℕ) → (is_none o || (is_none p || any is_other bs)) ≡ true → (any is_other bs ≡ true → unhexed bs ≡ refused not_convertible)
        → hex_pair o p (unhexed bs) ≡ refused not_convertible
    go none p t rest = refl
    go (some x) none t rest = refl
    go (some x) (some y) t rest = rw (rest t)

digits_spelled : (e : Bytes) → length e % 2 ≡ 0 → any is_other e ≡ false → unhexed e ≡ given (decoded e)
unfolding unhexed decoded any
digits_spelled [] h t = refl
digits_spelled (b ∷ []) h t = absurd (omega arith)
digits_spelled (b ∷ c ∷ bs) h t =
    let (p, more) = neither (is_other b) (any is_other (c ∷ bs)) t in
    let (q, rest) = neither (is_other c) (any is_other bs) more in
    rw (digit_worth b p, digit_worth c q, digits_spelled bs (omega arith) rest)

-- what MY comes to: 12, or 13, or the bytes
unspelled : (e : Bytes) → unhexed e ≡ refused not_convertible → outcome Plain.unhex e ≡ refused not_convertible
unfolding plain_gives
unspelled e r = limited_refused entry_most (rw r)

pub unhex_odd : (e : Bytes) → (length e % 2 ≡ 0 → ⊥) → outcome Plain.unhex e ≡ refused not_convertible
unhex_odd e h = unspelled e (odd_refused e h)

pub unhex_other : (e : Bytes) → any is_other e ≡ true → outcome Plain.unhex e ≡ refused not_convertible
unhex_other e t = unspelled e (other_refused e t)

module _ (e : Bytes) (even : length e % 2 ≡ 0) (digits : any is_other e ≡ false) where
  pub unhex_marked : any is_mark (decoded e) ≡ true → outcome Plain.unhex e ≡ refused mark_from_hex
  unfolding plain_gives
  unhex_marked t = limited_refused entry_most (rw (digits_spelled e even digits, t))

  pub unhex_given : any is_mark (decoded e) ≡ false → plain_gives Plain.unhex e ≡ given (decoded e)
  unfolding plain_gives
  unhex_given t = rw (digits_spelled e even digits, t)

-- ---- there and back

-- a digit that MX writes is read by MY
digit_back : (n : ℕ) → n < 16 → hex_value (hex_digit n) ≡ some n
unfolding hex_value hex_digit is_digit
digit_back n h =
    chosen (λ d. hex_value d ≡ some n) (ltb n 10)
    (λ s. let l : n < 10 = ltb-true n 10 s in rw (within_yes 48 57 (48 + n) (omega arith) (omega arith)) (ap some (omega arith)))
    (λ s. let l : 10 ≤ n = ltb-false n 10 s in
    rw (within_above 48 57 (65 + (n - 10)) (omega arith), within_yes 65 70 (65 + (n - 10)) (omega arith) (omega arith)) (ap some (omega arith)))

-- the bytes that MX spells are read back
pub unhexed_hexed : (bs : Bytes) → ((k : ℕ) → get_or bs k 0 < 256) → unhexed (hexed bs) ≡ given bs
unfolding hexed unhexed
unhexed_hexed [] h = refl
unhexed_hexed (b ∷ bs) h =
    let small : b < 256 = h 0 in
    let whole : b / 16 * 16 + b % 16 ≡ b = omega arith in
    rw (digit_back (b / 16) (omega arith), digit_back (b % 16) (omega arith), unhexed_hexed bs (λ k. h (suc k)), whole)

-- MY gives back what MX made, of bytes with no mark among them
pub unhex_hex : (bs : Bytes) → ((k : ℕ) → get_or bs k 0 < 256) → any is_mark bs ≡ false → plain_gives Plain.unhex (hexed bs) ≡ given bs
unfolding plain_gives
unhex_hex bs h s = rw (unhexed_hexed bs h, s)
