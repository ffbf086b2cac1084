-- A text's pieces in the shapes of the code, and their lengths. Assumes nothing.
use Rattle.std.specs.Prelude.{if◌then◌else◌}
use mathlib.Core.Path.{◌≡◌, refl, sym, ◌∙◌}
use mathlib.Core.Bool.{Bool, true, false, not, ◌&&◌, ◌||◌}
use mathlib.Core.List.{[], ◌∷◌, ◌++◌, append_assoc}
use Prim.Native.Nat.{ℕ, zero, suc, ◌+◌, ◌-◌, ◌/◌, ◌^◌, ◌≤◌}
use native.Mathlib.Nat.{le_refl}
use native.Mathlib.Omega.{arith}
use lib.Dec.{eqb}
use lib.ListN.{length, take, drop, length-append}
use Rattle.std.specs.Prelude.{None, Some}
use Rattle.std.specs.Prelude.{Option as Maybe}
use Rattle.std.specs.Bool.{then_some}
use Rattle.paper.specs.Bytes.{Bytes, bytes}
use Rattle.paper.specs.Numbers.{Number, digits, decimal}
use Rattle.paper.specs.Codes.{Credit, Mask}
use Rattle.paper.specs.Masks.{integer_text, point_text, digits_text, before_digits, after_digits, masked_text}
use Rattle.paper.proofs.Numerals.{length_digits, length_decimal}
use Rattle.lent.proofs.Laws.{over_as}
use Rattle.lent.specs.Over.{Laid}
use Rattle.masks.specs.Pieces.{alone, when, or_blank}
use Rattle.lent.proofs.Laying.{laid_ahead, laid_as}
use Rattle.masks.proofs.GroupLaws.{parted, length_parted}

pub length_alone : (byte : Maybe ℕ) → length (alone byte) ≤ 1
length_alone None = omega arith
length_alone (Some b) = omega arith

-- a byte that is asked for
pub alone_when : (byte : Maybe ℕ) (on : Bool) (b : ℕ) → byte ≡ then_some on b → alone byte ≡ when on b
unfolding when
alone_when byte true b e = rw e
alone_when byte false b e = rw e

-- "without the point" where n is 0
pub no_point : (decimals size : ℕ) → decimals ≡ 0 → [] ≡ point_text decimals size
unfolding point_text
no_point decimals size e = rw e

pub laid_digits : (d after : Bytes) (at count n : ℕ) → count ≤ at
    → after ≡ take (at - count) d ++ digits count n ++ drop (at - count + count) d → Laid (digits count n) d at after (at - count)
laid_digits d after at count n room e =
    record { place = omega (arith, length_digits count n); bytes = e ∙ over_as d (at - count) (digits count n) (length_digits count n) }

pub pointed : (decimals size : ℕ) → (decimals ≡ 0 → ⊥) → 46 ∷ [] ++ digits decimals size ≡ point_text decimals size
unfolding point_text
pointed zero size some = absurd (some refl)
pointed (suc k) size some = refl

pub length_point : (decimals size : ℕ) → length (point_text decimals size) ≤ decimals + 1
unfolding point_text
length_point zero size = omega arith
length_point (suc k) size = omega (arith, length_digits (suc k) size)

length_integer : (commas : Bool) (n : ℕ) → length (integer_text commas n) ≤ 19
unfolding integer_text parted
length_integer commas n = omega (arith, length_parted commas (decimal n), (length_decimal n).1)

pub length_pieces : (commas : Bool) (decimals size : ℕ) → decimals ≤ 9
    → length (integer_text commas (size / 10 ^ decimals) ++ point_text decimals size) ≤ 29
length_pieces commas decimals size h =
    omega (
      arith,
      length-append (integer_text commas (size / 10 ^ decimals)) (point_text decimals size),
      length_integer commas (size / 10 ^ decimals),
      length_point decimals size,
    )

-- two bytes or two blanks, one byte or one blank: the suffixes in the shapes of the code
pub pair_or_blanks : (on : Bool) (a b : ℕ) → or_blank on a ∷ or_blank on b ∷ [] ≡ if on then a ∷ b ∷ [] else (32 ∷ 32 ∷ [])
unfolding or_blank
pair_or_blanks true a b = refl
pair_or_blanks false a b = refl

pub byte_or_blank : (on : Bool) (b : ℕ) → or_blank on b ∷ [] ≡ if on then b ∷ [] else (32 ∷ [])
unfolding or_blank
byte_or_blank true b = refl
byte_or_blank false b = refl

pub turned_round : (t : Bool) (x y : Bytes) → if not t then x else y ≡ if t then y else x
turned_round true x y = refl
turned_round false x y = refl

within : (t : Bool) (x y : Bytes) (n : ℕ) → length x ≤ n → length y ≤ n → length (if t then x else y) ≤ n
within true x y n p q = p
within false x y n p q = q

pub length_after : (credits : Credit) (y : Number) → length (after_digits credits y) ≤ 2
unfolding after_digits bytes
length_after Credit.no_credit y = omega arith
length_after Credit.suppressed y = omega arith
length_after Credit.credit y = within y.negative (bytes "CR") (bytes "  ") 2 (omega arith) (omega arith)
length_after Credit.debit y = within (y.negative || eqb y.size 0) (bytes "  ") (bytes "DB") 2 (omega arith) (omega arith)
length_after Credit.enclosed y = within y.negative (bytes ">") (bytes " ") 2 (omega arith) (omega arith)
length_after Credit.trailing y = within y.negative (bytes "-") (bytes " ") 2 (omega arith) (omega arith)

-- no credit has a byte before the digits of a positive number
pub none_before : (credits : Credit) → [] ≡ before_digits credits false
unfolding before_digits
none_before Credit.no_credit = refl
none_before Credit.debit = refl
none_before Credit.enclosed = refl
none_before Credit.credit = refl
none_before Credit.trailing = refl
none_before Credit.suppressed = refl

-- "`$` is the leftmost byte of the text": the pieces in the order in which they are laid
texted : (k : Mask) (y : Number) (sign dollar : Maybe ℕ) → alone sign ≡ before_digits k.credits y.negative → dollar ≡ then_some k.dollar 36
    → alone dollar ++ (alone sign ++ (integer_text k.commas (y.size / 10 ^ k.decimals) ++ point_text k.decimals y.size ++ after_digits k.credits y))
    ≡ masked_text k y
unfolding masked_text digits_text when bytes
texted k y sign dollar e f = rw (e, alone_when dollar k.dollar 36 f) (simp append_assoc)

pub laid_text : (k : Mask) (y : Number) (byte mark : Maybe ℕ) {before suffixed numbered signed text : Bytes} {suffix digits sign r : ℕ}
    → alone byte ≡ before_digits k.credits y.negative → mark ≡ then_some k.dollar 36
    → Laid (after_digits k.credits y) before (length before) suffixed suffix
    → Laid (integer_text k.commas (y.size / 10 ^ k.decimals) ++ point_text k.decimals y.size) suffixed suffix numbered digits
    → Laid (alone byte) numbered digits signed sign → Laid (alone mark) signed sign text r → Laid (masked_text k y) before (length before) text r
laid_text k y byte mark {before} e f suffixed numbered signed dollar =
    let fits = le_refl (length before) in
    laid_as (texted k y byte mark e f) (laid_ahead (laid_ahead (laid_ahead suffixed numbered fits) signed fits) dollar fits)

-- no text is longer than the buffer
length_before : (credits : Credit) (negative : Bool) → length (before_digits credits negative) ≤ 1
unfolding before_digits bytes
length_before Credit.no_credit t = within t (bytes "-") [] 1 (omega arith) (omega arith)
length_before Credit.debit t = within t (bytes "-") [] 1 (omega arith) (omega arith)
length_before Credit.enclosed t = within t (bytes "<") [] 1 (omega arith) (omega arith)
length_before Credit.credit t = omega arith
length_before Credit.trailing t = omega arith
length_before Credit.suppressed t = omega arith

pub length_masked : (k : Mask) (y : Number) → k.decimals ≤ 9 → length (masked_text k y) ≤ 33
unfolding masked_text digits_text bytes
length_masked k y h =
    let dollar : Bytes = if k.dollar then bytes "$" else [] in
    let sign : Bytes = before_digits k.credits y.negative in
    let whole : Bytes = integer_text k.commas (y.size / 10 ^ k.decimals) in
    let point : Bytes = point_text k.decimals y.size in
    let suffix : Bytes = after_digits k.credits y in
    omega (
      arith,
      length-append (dollar ++ sign ++ (whole ++ point)) suffix,
      length-append (dollar ++ sign) (whole ++ point),
      length-append dollar sign,
      within k.dollar (bytes "$") [] 1 (omega arith) (omega arith),
      length_before k.credits y.negative,
      length_pieces k.commas k.decimals y.size h,
      length_after k.credits y,
    )
