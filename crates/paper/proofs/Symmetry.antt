-- Document 02, L2: "Halves are to round away from zero", and "a number and its negative show the same digits before fill whenever both are converted",
-- for every n and m at once: of rounding, of the scaled value, of what ML and MR show, and of converting. Assumes nothing.
use Rattle.std.specs.Prelude.{if◌then◌else◌}
use Prim.Native.Nat.{ℕ, zero, suc, ◌+◌, ◌-◌, ◌*◌, ◌/◌, ◌%◌, ◌^◌, ◌≤◌, ◌<◌}
use mathlib.Core.Path.{◌≡◌, refl, sym, ap, ◌∙◌}
use mathlib.Core.Bool.{Bool, true, false, not, ◌&&◌, ◌||◌}
use mathlib.Core.List.{List, [], ◌∷◌, ◌++◌, append-nil}
use mathlib.Core.Option.{Option, none, some}
use native.Mathlib.Nat.{zero-mul, sub-zero, div-add-mod, mod-lt, mul-add, mul-one, mul-le-mul_right}
use native.Mathlib.Omega.{arith}
use lib.Dec.{leb, ltb, eqb}
use lib.ListN.{length, replicate}
use borrow.Author.Tests.{leb-true, leb-false, ltb-false}
use Rattle.paper.specs.Bytes.{Bytes, ch, bytes, is_digit, only}
use Rattle.paper.specs.Sizes.{number_most}
use Rattle.paper.specs.Refusals.{Res, given, refused, ◌>>=◌, ◌>>◌, refuse◌unless◌, out_of_range, wider_than_mask}
use Rattle.paper.specs.Numbers.{Number, signed, negated, numeric, ranged, digits, trimmed, decimal}
use Rattle.paper.specs.Codes.{Credit, Mask, Conversion}
use Rattle.paper.specs.Steps.{conversion_gives}
use Rattle.paper.specs.Converting.{Element}
use Rattle.paper.specs.Masks.{number_gives, rounded, scaled_size, scaled, grouped, integer_text, point_text, digits_text, before_digits, after_digits}
use Rattle.paper.specs.Masks.{masked_text, padded, laid_out, blank_text, number_masked, mask_gives}
use Rattle.paper.proofs.Blanks.{blanks_alone}
use Rattle.paper.proofs.Alone.{Pieces, no_more, piece}
use Rattle.paper.proofs.Refusing.{never_given, never_held}
use Rattle.paper.proofs.Predicates.{Holds, holds, held_by, holds_then, holds_unless, All, none_of, and_all, all_append}
use Rattle.paper.proofs.Truths.{chosen}
use Rattle.paper.proofs.Numerals.{digit_byte, pow_pos}

-- ---- rounding

-- "to nearest", a half up: what a size over d is rounded to is at most a half above it and less than a half below it
pub rounded_nearest : (size d : ℕ) → 0 < d → (2 * (d * rounded size d) ≤ 2 * size + d) × (2 * size < 2 * (d * rounded size d) + d)
unfolding rounded
rounded_nearest size d pos = go (leb d (2 * (size % d))) refl
  where
    go : (t : Bool) → leb d (2 * (size % d)) ≡ t
        → (2 * (d * (if t then size / d + 1 else size / d)) ≤ 2 * size + d) × (2 * size < 2 * (d * (if t then size / d + 1 else size / d)) + d)
    go true e =
        let up : d * (size / d + 1) ≡ d * (size / d) + d = mul-add d (size / d) 1 ∙ ap (λ k. d * (size / d) + k) (mul-one d) in
        let half = leb-true d (2 * (size % d)) e in
        rw up (omega (arith, half, div-add-mod size d), omega (arith, div-add-mod size d, mod-lt size {m = d} pos))
    go false e =
        let less = leb-false d (2 * (size % d)) e in
        (omega (arith, div-add-mod size d), omega (arith, less, div-add-mod size d))

-- rounding never makes a size larger: a half that is dropped is at least one
pub rounded_below : (size d : ℕ) → 0 < d → rounded size d ≤ size
unfolding rounded
rounded_below size d pos = go (leb d (2 * (size % d))) refl
  where
    least : size / d ≤ d * (size / d)
    least = omega (arith, mul-le-mul_right (size / d) pos)

    go : (t : Bool) → leb d (2 * (size % d)) ≡ t → (if t then size / d + 1 else size / d) ≤ size
    go true e = omega (arith, leb-true d (2 * (size % d)) e, div-add-mod size d, least)
    go false e = omega (arith, div-add-mod size d, least)

-- ---- the scaled value

scaled_zero : (n m : ℕ) → scaled_size n m 0 ≡ 0
unfolding scaled_size
scaled_zero n m = rw (zero-mul (10 ^ (n - m))) (omega (arith, rounded_below 0 (10 ^ (m - n)) (pow_pos (m - n))))

-- zero is scaled to zero, which has no sign
no_sign : (n m size : ℕ) → ltb 0 size ≡ false → ltb 0 (scaled_size n m size) ≡ false
no_sign n m size e = let none : size ≡ 0 = omega (arith, ltb-false 0 size e) in rw (none, scaled_zero n m)

-- The scaled value of a number's negative is the negative of its scaled value, for any decimals and scale.
pub scaled_negated : (k : Mask) (x : Number) → scaled k (negated x) ≡ negated (scaled k x)
unfolding scaled negated signed
scaled_negated k x =
    ap (λ (t : Bool). record { negative = t; size = scaled_size k.decimals k.scale x.size })
    (go x.negative (ltb 0 x.size) (ltb 0 (scaled_size k.decimals k.scale x.size)) (no_sign k.decimals k.scale x.size))
  where
    go : (negative t u : Bool) → (t ≡ false → u ≡ false) → ((not negative && t) && u) ≡ (not (negative && u) && u)
    go true t true h = refl
    go true t false h = refl
    go false true u h = refl
    go false false u h = sym (h refl)

-- ---- the digits, point and commas of a text

abbrev pub is_figure : ℕ → Bool
is_figure b = is_digit b || eqb b (ch ".") || eqb b (ch ",")

abbrev pub figures : Bytes → Bytes
figures text = only is_figure text

only_append : (p : ℕ → Bool) (xs ys : Bytes) → only p (xs ++ ys) ≡ only p xs ++ only p ys
unfolding only
only_append p [] ys = refl
only_append p (x ∷ xs) ys = rw (only_append p xs ys) (go (p x))
  where
    go : (t : Bool) → (if t then x ∷ (only p xs ++ only p ys) else (only p xs ++ only p ys)) ≡ (if t then x ∷ only p xs else only p xs) ++ only p ys
    go true = refl
    go false = refl

abbrev Figure : ℕ → Type 0
Figure b = is_figure b ≡ true

all_figures : {bs : Bytes} → All Figure bs → figures bs ≡ bs
unfolding only
all_figures none_of = refl
all_figures (and_all h hs) = rw (h, all_figures hs)

digits_figures : (n size : ℕ) → All Figure (digits n size)
unfolding digits
digits_figures zero size = none_of
digits_figures (suc n) size =
    all_append (digits_figures n (size / 10)) (and_all (rw (digit_byte (size % 10) (omega arith))) none_of)

trimmed_figures : {ds : Bytes} → All Figure ds → All Figure (trimmed ds)
unfolding trimmed
trimmed_figures none_of = none_of
trimmed_figures (and_all h none_of) = and_all h none_of
trimmed_figures (and_all {a = d} h (and_all g gs)) =
    chosen (All Figure) (eqb d 48) (λ _. trimmed_figures (and_all g gs)) (λ _. and_all h (and_all g gs))

grouped_figures : {ds : Bytes} → All Figure ds → All Figure (grouped ds)
unfolding grouped is_digit
grouped_figures none_of = none_of
grouped_figures (and_all h none_of) = and_all h none_of
grouped_figures (and_all h (and_all {a = e} {rest = ds} g gs)) =
    let rest = grouped_figures (and_all g gs) in
    chosen (All Figure) (eqb (length (e ∷ ds) % 3) 0) (λ _. and_all h (and_all refl rest)) (λ _. and_all h rest)

integer_figures : (commas : Bool) (n : ℕ) → All Figure (integer_text commas n)
unfolding integer_text decimal
integer_figures commas n =
    let plain = trimmed_figures (digits_figures 15 n) in
    chosen (All Figure) commas (λ _. grouped_figures plain) (λ _. plain)

point_figures : (n size : ℕ) → All Figure (point_text n size)
unfolding point_text is_digit
point_figures zero size = none_of
point_figures (suc n) size = and_all refl (digits_figures (suc n) size)

-- "`$`", signs and suffixes have none of them
abbrev Plain : Bytes → Type 0
Plain text = figures text ≡ []

before_plain : (credits : Credit) (negative : Bool) → Plain (before_digits credits negative)
unfolding before_digits bytes only is_digit
before_plain Credit.no_credit t = chosen Plain t (λ _. refl) (λ _. refl)
before_plain Credit.debit t = chosen Plain t (λ _. refl) (λ _. refl)
before_plain Credit.enclosed t = chosen Plain t (λ _. refl) (λ _. refl)
before_plain Credit.credit t = refl
before_plain Credit.trailing t = refl
before_plain Credit.suppressed t = refl

after_plain : (credits : Credit) (y : Number) → Plain (after_digits credits y)
unfolding after_digits bytes only is_digit
after_plain Credit.no_credit y = refl
after_plain Credit.credit y = chosen Plain y.negative (λ _. refl) (λ _. refl)
after_plain Credit.debit y = chosen Plain (y.negative || eqb y.size 0) (λ _. refl) (λ _. refl)
after_plain Credit.enclosed y = chosen Plain y.negative (λ _. refl) (λ _. refl)
after_plain Credit.trailing y = chosen Plain y.negative (λ _. refl) (λ _. refl)
after_plain Credit.suppressed y = refl

dollar_plain : (dollar : Bool) → Plain (if dollar then bytes "$" else [])
unfolding bytes only is_digit
dollar_plain dollar = chosen Plain dollar (λ _. refl) (λ _. refl)

-- The digits, point and commas of what is shown of a scaled value are those of its size.
pub figures_shown : (k : Mask) (y : Number) → figures (masked_text k y) ≡ digits_text k y.size
unfolding masked_text digits_text bytes only is_digit
figures_shown k y =
    let dollar : Bytes = if k.dollar then bytes "$" else [] in
    let sign = before_digits k.credits y.negative in
    let whole = integer_text k.commas (y.size / 10 ^ k.decimals) in
    let point = point_text k.decimals y.size in
    let all = all_figures (all_append (integer_figures k.commas (y.size / 10 ^ k.decimals)) (point_figures k.decimals y.size)) in
    only_append is_figure (dollar ++ sign ++ (whole ++ point)) (after_digits k.credits y)
    ∙ rw (
      only_append is_figure (dollar ++ sign) (whole ++ point),
      only_append is_figure dollar sign,
      before_plain k.credits y.negative,
      after_plain k.credits y,
      dollar_plain k.dollar,
      all,
    ) (append-nil (whole ++ point))

-- ---- what ML and MR show

-- what is shown of a number before fill: nothing of a 0 that Z turns into empty text
unfoldable pub before_fill : Mask → Number → Bytes
before_fill k x = if k.blank_zero && eqb x.size 0 then [] else masked_text k (scaled k x)

-- "Fill goes outside that": an answer is a text as it stands or, in a field, filled up on the code's side to the field's width, with one byte
pub data Filled (left : Bool) : Option (ℕ × ℕ) → Bytes → Bytes → Type 0 where
  no_field : {text : Bytes} → Filled left none text text
  in_field : {f : ℕ × ℕ} {text answer : Bytes} (fill : ℕ) → answer ≡ padded left fill f.1 text → Filled left (some f) text answer

-- A number and its negative show the same digits, point and commas before fill.
pub same_figures : (k : Mask) (x : Number) → figures (before_fill k (negated x)) ≡ figures (before_fill k x)
unfolding before_fill negated signed
same_figures k x = go (k.blank_zero && eqb x.size 0)
  where
    shown : figures (masked_text k (scaled k (negated x))) ≡ figures (masked_text k (scaled k x))
    shown = figures_shown k (scaled k (negated x)) ∙ rw (scaled_negated k x) (sym (figures_shown k (scaled k x)))

    go : (t : Bool) → figures (if t then [] else masked_text k (scaled k (negated x))) ≡ figures (if t then [] else masked_text k (scaled k x))
    go true = refl
    go false = shown

blank_filled : (left : Bool) (filled : Option (ℕ × ℕ)) → Filled left filled [] (blank_text filled)
unfolding blank_text
blank_filled left none = no_field
blank_filled left (some f) = in_field 32 (go left)
  where
    go : (left : Bool) → replicate f.1 32 ≡ padded left 32 f.1 []
    go true = rw (sub-zero f.1)
    go false = rw (sub-zero f.1) (sym (append-nil (replicate {A = ℕ} f.1 32)))

laid_filled : (left : Bool) (filled : Option (ℕ × ℕ)) (text : Bytes) → Holds (Filled left filled text) (laid_out left filled text)
unfolding laid_out
laid_filled left none text = holds no_field
laid_filled left (some f) text = holds_unless wider_than_mask (leb (length text) f.1) _ (λ _. in_field f.0 refl)

-- a number in range, and what goes on from it
ranged_holds : {P : Bytes → Type 0} (x : Number) (f : Number → Res Bytes) → Holds P (f x) → Holds P (ranged x >>= f)
unfolding ranged
ranged_holds x f h = holds_then (holds_unless {P = λ y. x ≡ y} out_of_range (leb x.size number_most) x (λ _. refl)) (λ y e. rw (sym e) h)

-- What is given of a number is what is shown of it, with its fill outside.
pub masked_filled : (k : Mask) (x : Number) → Holds (Filled k.left k.filled (before_fill k x)) (number_masked k x)
unfolding number_masked before_fill
masked_filled k x = go (k.blank_zero && eqb x.size 0)
  where
    go : (t : Bool)
        → Holds (Filled k.left k.filled (if t then [] else masked_text k (scaled k x)))
        (if t then given (blank_text k.filled) else (ranged (scaled k x) >>= λ y. laid_out k.left k.filled (masked_text k y)))
    go true = holds (blank_filled k.left k.filled)
    go false = ranged_holds (scaled k x) _ (laid_filled k.left k.filled (masked_text k (scaled k x)))

-- ---- refusal 10

-- of both, or of neither
abbrev pub Together : ℕ → Res Bytes → Res Bytes → Type 0
Together n r r' = (r ≡ refused n → r' ≡ refused n) × (r' ≡ refused n → r ≡ refused n)

-- two numbers of one size are out of range together, and what goes on from them may be refused so together
ranged_alike : (x y : Number) (f : Number → Res Bytes) → x.size ≡ y.size → Together out_of_range (f x) (f y)
    → Together out_of_range (ranged x >>= f) (ranged y >>= f)
unfolding ranged
ranged_alike x y f e h = rw (ap (λ (n : ℕ). leb n number_most) (sym e)) (go (leb x.size number_most))
  where
    go : (t : Bool) → Together out_of_range (((refuse out_of_range unless t) >> given x) >>= f) (((refuse out_of_range unless t) >> given y) >>= f)
    go true = h
    go false = (λ _. refl, λ _. refl)

never_laid : {G : Type 0} (left : Bool) (filled : Option (ℕ × ℕ)) (text : Bytes) → laid_out left filled text ≡ refused out_of_range → G
unfolding laid_out
never_laid left none text h = never_given (sym h)
never_laid left (some f) text h = never_held wider_than_mask out_of_range (leb (length text) f.1) _ (λ e. omega arith) h

-- Both are refused 10 or neither.
pub masked_alike : (k : Mask) (x : Number) → Together out_of_range (number_masked k x) (number_masked k (negated x))
unfolding number_masked negated signed
masked_alike k x = go (k.blank_zero && eqb x.size 0)
  where
    laid : Number → Res Bytes
    laid y = laid_out k.left k.filled (masked_text k y)

    never : (y : Number) {G : Type 0} → laid y ≡ refused out_of_range → G
    never y = never_laid k.left k.filled (masked_text k y)

    go : (t : Bool)
        → Together out_of_range (if t then given (blank_text k.filled) else (ranged (scaled k x) >>= laid))
        (if t then given (blank_text k.filled) else (ranged (scaled k (negated x)) >>= laid))
    go true = (λ h. h, λ h. h)
    go false = ranged_alike (scaled k x) (scaled k (negated x)) laid (rw (scaled_negated k x)) (never (scaled k x), never (scaled k (negated x)))

-- ---- elements and answers

-- two elements, the one a number and the other its negative
pub record Opposite (e e' : Bytes) : Type 0 where
  pub number : Number
  pub reads : numeric e ≡ some number
  pub reads' : numeric e' ≡ some (negated number)

-- what was given of a number and of its negative: of each what is shown of it, its fill outside, with the same digits, point and commas
pub record Mirrored (k : Mask) (x : Number) (r r' : Bytes) : Type 0 where
  pub shows : Filled k.left k.filled (before_fill k x) r
  pub shows' : Filled k.left k.filled (before_fill k (negated x)) r'
  pub same : figures (before_fill k (negated x)) ≡ figures (before_fill k x)

module _ (k : Mask) where
  -- what ML or MR gives on an element with numeric form
  mask_number : (e : Bytes) (x : Number) → numeric e ≡ some x → mask_gives k e ≡ (ranged x >>= number_masked k)
  unfolding mask_gives number_gives
  mask_number [] x h = absurd (let z : ◌≡◌ {A = Option Number} none (some x) = sym (blanks_alone 0) ∙ h in let n : ◌≡◌ {A = ℕ} 0 1 = cc in omega arith)
  mask_number (b ∷ bs) x h = rw h

  given_filled : (e : Bytes) (x : Number) → numeric e ≡ some x → Holds (Filled k.left k.filled (before_fill k x)) (mask_gives k e)
  given_filled e x h = rw (mask_number e x h) (ranged_holds x (number_masked k) (masked_filled k x))

  pub mirrored : {e e' r r' : Bytes} (o : Opposite e e') → mask_gives k e ≡ given r → mask_gives k e' ≡ given r' → Mirrored k o.number r r'
  mirrored {e} {e'} o g g' =
      record {
        shows = held_by (given_filled e o.number o.reads) g;
        shows' = held_by (given_filled e' (negated o.number) o.reads') g';
        same = same_figures k o.number;
      }

  -- 10 is told of both elements or of neither
  pub out_of_range_alike : {e e' : Bytes} → Opposite e e' → Together out_of_range (mask_gives k e) (mask_gives k e')
  unfolding negated signed
  out_of_range_alike {e} {e'} o =
      let x = o.number in
      rw (mask_number e x o.reads, mask_number e' (negated x) o.reads') (ranged_alike x (negated x) (number_masked k) refl (masked_alike k x))

-- The answers of two conversions, element for element, each behind the mark kept before it: what the code gives on each, and so of a number and its
-- negative, wherever they stand over against one another, what shows the same digits, point and commas.
pub data Answers (k : Mask) : List Element → List Element → Bytes → Bytes → Type 0 where
  both_end : Answers k [] [] [] []
  both_show : {e e' : Element} {es es' : List Element} {r r' rest rest' : Bytes} → mask_gives k e.text ≡ given r → mask_gives k e'.text ≡ given r'
      → ((o : Opposite e.text e'.text) → Mirrored k o.number r r') → Answers k es es' rest rest'
      → Answers k (e ∷ es) (e' ∷ es') (e.before ++ r ++ rest) (e'.before ++ r' ++ rest')

pub pieces_mirrored : (k : Mask) {es es' : List Element} {bs bs' : Bytes} → length es ≡ length es'
    → Pieces (Conversion.mask k) es bs → Pieces (Conversion.mask k) es' bs' → Answers k es es' bs bs'
unfolding conversion_gives
pieces_mirrored k e no_more no_more = both_end
pieces_mirrored k e no_more (piece g' more') = absurd (omega arith)
pieces_mirrored k e (piece g more) no_more = absurd (omega arith)
pieces_mirrored k e (piece g more) (piece g' more') = both_show g g' (λ o. mirrored k o g g') (pieces_mirrored k (omega arith) more more')
