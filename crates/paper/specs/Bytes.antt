-- Bytes, and how these definitions write them: quoted text, a character's byte, and a choice between two answers.
use Rattle.std.specs.Prelude.{ℕ, ◌-◌, Bool, true, false, ◌&&◌, ◌||◌, List, [], ◌∷◌, ◌++◌, length, replicate, leb, eqb, if◌then◌else◌}
use Prim.Native.Char.{Char, code}
use Prim.Native.String.{String, [] as no_text, ◌∷◌ as ◌then◌}

abbrev pub Bytes : Type 0
Bytes = List ℕ

-- the byte of a quoted character
abbrev pub ch : Char → ℕ
ch c = code c

-- the bytes of a quoted text
unfoldable pub bytes : String → Bytes
bytes no_text = []
bytes (c then s) = code c ∷ bytes s

-- from the one bound to the other
abbrev pub within : ℕ → ℕ → ℕ → Bool
within low high b = leb low b && leb b high

unfoldable pub is_digit : ℕ → Bool
is_digit b = within (ch "0") (ch "9") b

-- "Letters are ASCII"
unfoldable pub is_upper : ℕ → Bool
is_upper b = within (ch "A") (ch "Z") b

unfoldable pub is_lower : ℕ → Bool
is_lower b = within (ch "a") (ch "z") b

unfoldable pub is_letter : ℕ → Bool
is_letter b = is_upper b || is_lower b

-- what a digit byte stands for
unfoldable pub digit_value : ℕ → ℕ
digit_value b = b - ch "0"

-- some byte passes the test
unfoldable pub any : (ℕ → Bool) → Bytes → Bool
any p [] = false
any p (b ∷ bs) = p b || any p bs

-- the bytes that pass the test
unfoldable pub only : (ℕ → Bool) → Bytes → Bytes
only p [] = []
only p (b ∷ bs) = if p b then b ∷ only p bs else only p bs

unfoldable pub same_bytes : Bytes → Bytes → Bool
same_bytes [] [] = true
same_bytes [] (c ∷ cs) = false
same_bytes (b ∷ bs) [] = false
same_bytes (b ∷ bs) (c ∷ cs) = eqb b c && same_bytes bs cs

-- "that buffer holds the answer and then zeros to its end"
unfoldable pub buffer : ℕ → Bytes → Bytes
buffer n answer = answer ++ replicate (n - length answer) 0
