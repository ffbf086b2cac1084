-- Document 01, "What each code gives": G, T, L, MC, MX and MY on one element.
use Rattle.std.specs.Prelude.{ℕ, pred, ◌+◌, ◌-◌, ◌*◌, ◌/◌, ◌%◌, Bool, false, not, [], ◌∷◌, map, length, take, drop, ltb, if◌then◌else◌}
use Rattle.std.proofs.Math.Option.{Option, none, some}
use Rattle.paper.specs.Bytes.{Bytes, ch, within, is_digit, is_upper, is_lower, is_letter, any, only}
use Rattle.paper.specs.Sizes.{is_mark}
use Rattle.paper.specs.Records.{split, join}
use Rattle.paper.specs.Numbers.{decimal}
use Rattle.paper.specs.Codes.{Plain}
use Rattle.paper.specs.Refusals.{
  Res,
  given,
  refused,
  ◌>>=◌,
  ◌>>◌,
  refuse◌when◌,
  not_convertible,
  mark_from_hex,
}

unfoldable pub raised : ℕ → ℕ
raised b = if is_lower b then b - 32 else b

unfoldable pub lowered : ℕ → ℕ
lowered b = if is_upper b then b + 32 else b

-- "MCT treats the element's first byte as following a non-letter": a letter after a letter is lowered, any other raised
unfoldable pub titled : Bool → Bytes → Bytes
titled after_letter [] = []
titled after_letter (b ∷ bs) = (if after_letter then lowered b else raised b) ∷ titled (is_letter b) bs

-- "MX writes upper-case hex"
unfoldable pub hex_digit : ℕ → ℕ
hex_digit n = if ltb n 10 then ch "0" + n else ch "A" + (n - 10)

unfoldable pub hexed : Bytes → Bytes
hexed [] = []
hexed (b ∷ bs) = hex_digit (b / 16) ∷ hex_digit (b % 16) ∷ hexed bs

-- "MY reads either case"
unfoldable pub hex_value : ℕ → Option ℕ
hex_value b =
    if is_digit b then some (b - ch "0")
    else (if within (ch "A") (ch "F") b then some (b - ch "A" + 10)
    else (if within (ch "a") (ch "f") b then some (b - ch "a" + 10) else none))

abbrev pub hex_pair : Option ℕ → Option ℕ → Res Bytes → Res Bytes
hex_pair (some h) (some l) rest = rest >>= λ bs. given ((h * 16 + l) ∷ bs)
hex_pair (some h) none rest = refused not_convertible
hex_pair none l rest = refused not_convertible

-- "odd length or a non-hex byte is 12"
unfoldable pub unhexed : Bytes → Res Bytes
unhexed [] = given []
unhexed (h ∷ []) = refused not_convertible
unhexed (h ∷ l ∷ bs) = hex_pair (hex_value h) (hex_value l) (unhexed bs)

-- What the code gives on one element. G: "skips fields, then takes up to the number asked, separators between them kept"
unfoldable pub plain_gives : Plain → Bytes → Res Bytes
plain_gives (Plain.group skip x n) e = given (join x (take n (drop skip (split x e))))
-- "`Tn` gives the first n bytes, `Tm,n` n bytes from byte m on, fewer if the element ends"
plain_gives (Plain.extract start n) e = given (take n (drop (pred start) e))
-- "L alone gives the length; `Ln` and `Ln,m` give the element or empty" (001, 4.7)
plain_gives Plain.measure e = given (decimal (length e))
plain_gives (Plain.admit least most) e = given (if within least most (length e) then e else [])
-- 001, 4.8
plain_gives Plain.letters e = given (only is_letter e)
plain_gives Plain.other_than_letters e = given (only (λ b. not (is_letter b)) e)
plain_gives Plain.numerals e = given (only is_digit e)
plain_gives Plain.other_than_numerals e = given (only (λ b. not (is_digit b)) e)
plain_gives Plain.upper e = given (map raised e)
plain_gives Plain.lower e = given (map lowered e)
plain_gives Plain.title e = given (titled false e)
plain_gives Plain.hex e = given (hexed e)
-- "12, tried before 13": "MY would produce a byte 251 to 255"
plain_gives Plain.unhex e = do
  bs ← unhexed e
  refuse mark_from_hex when any is_mark bs
  given bs
