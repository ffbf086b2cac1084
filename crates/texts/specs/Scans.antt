-- What the private functions of this crate give, as scans over the bytes: proofs/ shows that they come to document 01's definitions.
use Rattle.std.specs.Prelude.{ℕ, zero, suc, ◌+◌, ◌*◌, ◌/◌, ◌%◌, Bool, true, false, [], ◌∷◌, eqb, take, drop}
use Rattle.std.proofs.Math.Option.{Option, none, some}
use Rattle.paper.specs.Bytes.{Bytes}
use Rattle.paper.specs.Texts.{hex_value}

-- a byte that is a separator or not, with n separators still to pass: the bytes up to the next one that counts
abbrev pub ended : Bool → ℕ → (ℕ → ℕ) → ℕ
ended true zero rest = 0
ended true (suc n) rest = suc (rest n)
ended false n rest = suc (rest n)

-- how many bytes stand before the separator x that has n others before it; all of them where there is none
unfoldable pub field_end : ℕ → ℕ → Bytes → ℕ
field_end x n [] = 0
field_end x n (b ∷ bs) = ended (eqb b x) n (λ m. field_end x m bs)

-- what follows the n-th separator, counted from 1
unfoldable pub fields_after : ℕ → ℕ → Bytes → Bytes
fields_after x zero e = e
fields_after x (suc n) e = drop (suc (field_end x n e)) e

-- the first n fields with the separators between them
unfoldable pub first_fields : ℕ → ℕ → Bytes → Bytes
first_fields x zero e = []
first_fields x (suc n) e = take (field_end x n e) e

abbrev pub is_none : Option ℕ → Bool
is_none none = true
is_none (some v) = false

-- a byte that is no hex digit
unfoldable pub is_other : ℕ → Bool
is_other b = is_none (hex_value b)

-- what a byte stands for, where it is a hex digit
abbrev pub worth : ℕ → ℕ
worth b = (b % 16 + b / 64 * 9) % 16

-- the bytes that pairs of hex digits spell, where every byte is a hex digit and their number is even
unfoldable pub decoded : Bytes → Bytes
decoded [] = []
decoded (h ∷ []) = []
decoded (h ∷ l ∷ bs) = (worth h * 16 + worth l) ∷ decoded bs
