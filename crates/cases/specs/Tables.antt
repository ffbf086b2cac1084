-- What a table of cases spells: numbers, bytes in braces, marks as they are drawn; and how much of a text is laid into a buffer.
use Rattle.std.specs.Prelude.{ℕ, ◌+◌, ◌-◌, ◌*◌, min, Bool, true, ◌&&◌, [], ◌∷◌, ◌++◌, map, ltb, eqb, length, take, replicate, if◌then◌else◌}
use Rattle.std.proofs.Math.Option.{Option, none, some}
use Rattle.paper.specs.Bytes.{Bytes, ch, is_digit, digit_value}
use Rattle.paper.specs.Sizes.{attribute_mark, value_mark, subvalue_mark}
use Rattle.paper.specs.Program.{drawn}
use Rattle.lent.specs.Over.{over}
use Rattle.lent.specs.Scan.{upto, piece}

-- of a text so many bytes are shown
abbrev pub shown : ℕ
shown = 64

-- a mark as the paper draws it, and a zero as `.`
unfoldable pub shown_byte : ℕ → ℕ
shown_byte b = if eqb b 0 then ch "." else drawn b

-- the byte that a drawn mark stands for, where marks are drawn
unfoldable pub meant : Bool → ℕ → ℕ
meant marks b =
    if marks && eqb b (ch "^") then attribute_mark
    else (if marks && eqb b (ch "]") then value_mark else (if marks && eqb b (ch "\\") then subvalue_mark else b))

-- as many of the bytes as there is room for, laid over a buffer from place n on; the place behind them
unfoldable pub laid : Bytes → ℕ → Bytes → Bytes
laid out n bs = over out n (take (length out - n) bs)

unfoldable pub behind : Bytes → ℕ → Bytes → ℕ
behind out n bs = min (n + length bs) (length out)

-- the largest number of 64 bits
abbrev pub most : ℕ
most = 18_446_744_073_709_551_615

-- a byte as a digit: 0 where it is none
unfoldable pub digit : ℕ → ℕ
digit b = if is_digit b then digit_value b else 0

-- the value of digits, n being that of the digits before them
unfoldable pub value : ℕ → Bytes → ℕ
value n [] = n
value n (b ∷ bs) = value (n * 10 + digit b) bs

-- the number that a text's digits make, or the largest there is
unfoldable pub number : Bytes → ℕ
number text = min (value 0 text) most

-- n bytes x, the first one of a text; where that is empty, the byte n, and `?` where there is none
unfoldable pub repeated : ℕ → Bytes → Bytes
repeated n [] = (if ltb n 256 then n else ch "?") ∷ []
repeated n (x ∷ xs) = replicate n x

-- what stands in braces: `n*x` or `n`
unfoldable pub braced : Bytes → Bytes
braced text = repeated (number (piece (ch "*") 0 text)) (piece (ch "*") 1 text)

-- whether a closing brace is still to come
unfoldable pub closed : Bytes → Bool
closed bs = ltb (length (upto (ch "}") (ch "}") bs)) (length bs)

-- what a text spells, outside of braces or within them behind the bytes held; a brace that nothing closes is a byte as it stands
unfoldable pub unbraced : Option Bytes → Bytes → Bytes
unbraced held [] = []
unbraced none (b ∷ bs) = if eqb b (ch "{") && closed bs then unbraced (some []) bs else (b ∷ unbraced none bs)
unbraced (some held) (b ∷ bs) =
    if eqb b (ch "}") then braced held ++ unbraced none bs else unbraced (some (held ++ b ∷ [])) bs

-- the bytes that a field stands for
unfoldable pub spelled : Bool → Bytes → Bytes
spelled marks text = map (meant marks) (unbraced none text)

-- field k of a case, whose fields are parted by bars
abbrev pub in_field : ℕ → Bytes → Bytes
in_field k line = piece (ch "|") k line

-- number k of the address that is field 1
abbrev pub typed_part : ℕ → Bytes → ℕ
typed_part k line = number (piece (ch ",") k (in_field 1 line))

-- the number of a field, or the usual one where it is empty
unfoldable pub number_or : ℕ → Bytes → ℕ
number_or usual text = if eqb (length text) 0 then usual else number text

-- whether all bytes are zeros
unfoldable pub all_zeros : Bytes → Bool
all_zeros [] = true
all_zeros (b ∷ bs) = eqb b 0 && all_zeros bs
