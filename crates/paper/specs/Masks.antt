-- Document 01, "What each code gives", and document 02, L2: ML and MR on one element.
use Rattle.std.specs.Prelude.{ℕ, zero, suc, ◌+◌, ◌-◌, ◌*◌, ◌/◌, ◌%◌, ◌^◌, Bool, ◌&&◌, ◌||◌, [], ◌∷◌, ◌++◌, length, replicate, leb, eqb, if◌then◌else◌}
use Rattle.std.proofs.Math.Option.{Option, none, some}
use Rattle.paper.specs.Bytes.{Bytes, ch, bytes}
use Rattle.paper.specs.Numbers.{Number, signed, numeric, ranged, digits, decimal}
use Rattle.paper.specs.Codes.{Credit, Mask}
use Rattle.paper.specs.Refusals.{
  Res,
  given,
  refused,
  ◌>>=◌,
  ◌>>◌,
  refuse◌unless◌,
  not_convertible,
  wider_than_mask,
}

-- what a number code gives on an element: "empty stays empty", "other non-numeric is 12", then 10 (ML, MR and D alike)
abbrev pub on_number : (Number → Res Bytes) → Option Number → Res Bytes
on_number f none = refused not_convertible
on_number f (some x) = ranged x >>= f

unfoldable pub number_gives : (Number → Res Bytes) → Bytes → Res Bytes
number_gives f [] = given []
number_gives f (b ∷ bs) = on_number f (numeric (b ∷ bs))

-- "dropped digits round to nearest", and by document 02, L2, "Halves are to round away from zero": the size of a number over d, rounded
unfoldable pub rounded : ℕ → ℕ → ℕ
rounded size d = if leb d (2 * (size % d)) then size / d + 1 else size / d

-- "The element over ten to the m is shown with n decimals (without the point: the scaled value)": its size, from n, m and the element's
unfoldable pub scaled_size : ℕ → ℕ → ℕ → ℕ
scaled_size n m size = rounded (size * 10 ^ (n - m)) (10 ^ (m - n))

-- "The sign is that of the rounded value."
unfoldable pub scaled : Mask → Number → Number
scaled k x = signed x.negative (scaled_size k.decimals k.scale x.size)

-- digits, first digit first, with a comma before every third from the end
unfoldable pub grouped : Bytes → Bytes
grouped [] = []
grouped (d ∷ []) = d ∷ []
grouped (d ∷ e ∷ ds) =
    if eqb (length (e ∷ ds) % 3) 0 then d ∷ ch "," ∷ grouped (e ∷ ds) else d ∷ grouped (e ∷ ds)

-- "A comma goes in at every three integer digits."; "at least one digit before the point", as the decimal text of 0 has
unfoldable pub integer_text : Bool → ℕ → Bytes
integer_text commas n = if commas then grouped (decimal n) else decimal n

-- the point and n decimals; where n is 0 neither (001, 4.9)
unfoldable pub point_text : ℕ → ℕ → Bytes
point_text zero size = []
point_text (suc n) size = ch "." ∷ digits (suc n) size

unfoldable pub digits_text : Mask → ℕ → Bytes
digits_text k size = integer_text k.commas (size / 10 ^ k.decimals) ++ point_text k.decimals size

-- what stands left and right of the digits: for a negative value, for zero, for a positive one
unfoldable pub before_digits : Credit → Bool → Bytes
before_digits Credit.no_credit negative = if negative then bytes "-" else []
before_digits Credit.debit negative = if negative then bytes "-" else []
before_digits Credit.enclosed negative = if negative then bytes "<" else []
-- "C, E, M, N drop the leading minus"
before_digits Credit.credit negative = []
before_digits Credit.trailing negative = []
before_digits Credit.suppressed negative = []

-- "Suffixes as in 000 section 2.9, blanks included"
unfoldable pub after_digits : Credit → Number → Bytes
after_digits Credit.no_credit x = []
after_digits Credit.credit x = if x.negative then bytes "CR" else bytes "  "
after_digits Credit.debit x = if x.negative || eqb x.size 0 then bytes "  " else bytes "DB"
after_digits Credit.enclosed x = if x.negative then bytes ">" else bytes " "
after_digits Credit.trailing x = if x.negative then bytes "-" else bytes " "
after_digits Credit.suppressed x = []

-- "`$` is the leftmost byte of the text, left of any `<`."
unfoldable pub masked_text : Mask → Number → Bytes
masked_text k x =
    (if k.dollar then bytes "$" else [])
    ++ before_digits k.credits x.negative
    ++ digits_text k x.size
    ++ after_digits k.credits x

abbrev pub padded : Bool → ℕ → ℕ → Bytes → Bytes
padded left fill width text =
    if left then text ++ replicate (width - length text) fill else replicate (width - length text) fill ++ text

-- "Fill goes outside that: MR fills on the left, ML on the right." 14: "text wider than its mask"
unfoldable pub laid_out : Bool → Option (ℕ × ℕ) → Bytes → Res Bytes
laid_out left none text = given text
laid_out left (some fill) text = do
  refuse wider_than_mask unless leb (length text) fill.1
  given (padded left fill.0 fill.1 text)

-- "Z turns an element of 0 into empty text, and into blanks under a mask of any fill"
unfoldable pub blank_text : Option (ℕ × ℕ) → Bytes
blank_text none = []
blank_text (some fill) = replicate fill.1 (ch " ")

unfoldable pub number_masked : Mask → Number → Res Bytes
number_masked k x =
    if k.blank_zero && eqb x.size 0 then given (blank_text k.filled)
    else (ranged (scaled k x) >>= λ y. laid_out k.left k.filled (masked_text k y))

unfoldable pub mask_gives : Mask → Bytes → Res Bytes
mask_gives k e = number_gives (number_masked k) e
