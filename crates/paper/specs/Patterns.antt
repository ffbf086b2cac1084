-- Document 02, L1: what the P code gives on one element (SMA:301, 4.13; SMA:101, 2.12).
use Rattle.std.specs.Prelude.{ℕ, zero, suc, ◌+◌, Bool, true, false, ◌&&◌, ◌||◌, List, [], ◌∷◌, length, eqb, if◌then◌else◌}
use Rattle.paper.specs.Bytes.{Bytes, is_digit, is_letter, same_bytes}
use Rattle.paper.specs.Codes.{Class, Test, Pattern}

-- "Letters are ASCII"
unfoldable pub of_class : Class → ℕ → Bool
of_class Class.numeric b = is_digit b
of_class Class.alpha b = is_letter b
of_class Class.character b = true

unfoldable pub every : (ℕ → Bool) → Bytes → Bool
every p [] = true
every p (b ∷ bs) = p b && every p bs

-- "0 meaning any number and none"
unfoldable pub is_so_many : ℕ → Bytes → Bool
is_so_many zero part = true
is_so_many (suc n) part = eqb (length part) (suc n)

-- a part meets a test
unfoldable pub meets : Test → Bytes → Bool
meets (Test.so_many n c) part = is_so_many n part && every (of_class c) part
meets (Test.literal bs) part = same_bytes part bs

-- some cut of the bytes in two, into a part and what is left
unfoldable pub some_cut : (Bytes → Bytes → Bool) → Bytes → Bool
some_cut p [] = p [] []
some_cut p (b ∷ bs) = p [] (b ∷ bs) || some_cut (λ part. p (b ∷ part)) bs

-- "if it can be cut into consecutive parts that meet the tests in turn": by any cut, and nothing is left over
unfoldable pub passes : Pattern → Bytes → Bool
passes [] bs = eqb (length bs) 0
passes (t ∷ ts) bs = some_cut (λ part rest. meets t part && passes ts rest) bs

-- "Several patterns pass if one does."
unfoldable pub some_passes : List Pattern → Bytes → Bool
some_passes [] e = false
some_passes (p ∷ ps) e = passes p e || some_passes ps e

-- "The code gives the element if .., else empty."
unfoldable pub patterns_give : List Pattern → Bytes → Bytes
patterns_give ps e = if some_passes ps e then e else []

-- "With T tests in the code": those of all patterns, tried or not
unfoldable pub tests_in : List Pattern → ℕ
tests_in [] = 0
tests_in (p ∷ ps) = length p + tests_in ps
