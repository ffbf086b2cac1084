-- The paper's readers (crates/paper/specs/Grammar.antt) by place: what stands at a place of the bytes and the place after it, or none.
-- Past the end stands the segment mark, which no reader takes. proofs/Agreement.antt ties each to the paper's.
use Rattle.std.specs.Prelude.{ℕ, zero, suc, ◌+◌, ◌-◌, ◌*◌, ◌≡◌, Bool, true, false, List, [], ◌∷◌, length, get_or, drop, ltb, eqb, if◌then◌else◌}
use Rattle.std.proofs.Math.Option.{Option, none, some}
use Rattle.paper.specs.Bytes.{Bytes, is_digit, digit_value}
use Rattle.paper.specs.Sizes.{segment_mark}

infixl 5 ◌>>=◌ ◌>>◌
abbrev pub Placed : Type 0 → Type 0
Placed A = Bytes → ℕ → Option (A × ℕ)

unfoldable pub byte_at : Bytes → ℕ → ℕ
byte_at s at = get_or s at segment_mark

-- the place after a byte; past the end there is none
unfoldable pub after : Bytes → ℕ → ℕ
after s at = if ltb at (length s) then at + 1 else at

-- what peeking tells: the byte at a place, and the place after it
pub record Peeked (s : Bytes) (at byte next : ℕ) : Type 0 where
  pub stands : byte ≡ byte_at s at
  pub leads : next ≡ after s at

abbrev pub follow : {A B : Type 0} → Option (A × ℕ) → (A → Placed B) → Bytes → Option (B × ℕ)
follow none k s = none
follow (some r) k s = k r.0 s r.1

abbrev pub ◌>>=◌ : {A B : Type 0} → Placed A → (A → Placed B) → Placed B
◌>>=◌ r k s at = follow (r s at) k s

abbrev pub ◌>>◌ : {A B : Type 0} → Placed A → Placed B → Placed B
◌>>◌ r q s at = follow (r s at) (λ _. q) s

abbrev pub gives : {A : Type 0} → A → Placed A
gives a s at = some (a, at)

abbrev pub fails : {A : Type 0} → Placed A
fails s at = none

abbrev pub only_if : Bool → Placed (Unit {0})
only_if true s at = some (tt, at)
only_if false s at = none

-- one byte ahead: if it passes the test it is eaten, and k goes on with it; if not, `other` does
abbrev pub ahead : {A : Type 0} → (ℕ → Bool) → (ℕ → Placed A) → Placed A → Placed A
ahead p k other s at = if p (byte_at s at) then k (byte_at s at) s (after s at) else other s at

-- the reader that the next byte names; if it names none, `other`
unfoldable pub choose_or : {A : Type 0} → List (ℕ × Placed A) → Placed A → Placed A
choose_or [] other = other
choose_or (c ∷ cs) other = ahead (eqb c.0) (λ _. c.1) (choose_or cs other)

abbrev pub choose : {A : Type 0} → List (ℕ × Placed A) → Placed A
choose cs = choose_or cs fails

unfoldable pub this : ℕ → Placed (Unit {0})
this c = choose ((c, gives tt) ∷ [])

unfoldable pub flag : ℕ → Placed Bool
flag c = choose_or ((c, gives true) ∷ []) (gives false)

-- a digit, as its value
unfoldable pub digit : Placed ℕ
digit = ahead is_digit (λ b. gives (digit_value b)) fails

abbrev pub follow_or : {A B : Type 0} → Option (A × ℕ) → (A → Placed B) → Bytes → Option (B × ℕ) → Option (B × ℕ)
follow_or none k s other = other
follow_or (some r) k s other = k r.0 s r.1

abbrev pub digit_ahead : {A : Type 0} → (ℕ → Placed A) → Placed A → Placed A
digit_ahead k other s at = follow_or (digit s at) k s (other s at)

unfoldable pub more_digits : ℕ → ℕ → Placed ℕ
more_digits zero n = gives n
more_digits (suc k) n = digit_ahead (λ d. more_digits k (n * 10 + d)) (gives n)

unfoldable pub numeral : ℕ → Placed ℕ
numeral k = digit_ahead (more_digits k) fails

abbrev pub num : Placed ℕ
num = numeral 3

-- a numeral ahead: if none stands there, `other`
abbrev pub numeral_ahead : {A : Type 0} → ℕ → (ℕ → Placed A) → Placed A → Placed A
numeral_ahead j k other s at = follow_or (numeral j s at) k s (other s at)

-- the place of the first byte q from `at` on, where these bytes begin
unfoldable pub closing : ℕ → Bytes → ℕ → Option ℕ
closing q [] at = none
closing q (b ∷ bs) at = if eqb b q then some at else closing q bs (suc at)

-- the bytes from `start` up to the quote's place: how many, and the place after the quote
abbrev pub enclosed : ℕ → Option ℕ → Option (ℕ × ℕ)
enclosed start none = none
enclosed start (some close) = some (close - start, close + 1)

-- "zero or more bytes .. without that quote", up to the quote
unfoldable pub quoted : ℕ → Placed ℕ
quoted q s at = enclosed at (closing q (drop at s) at)

-- what is made of a literal's place and length
abbrev pub literal : {A : Type 0} → (ℕ → ℕ → A) → ℕ → Placed A
literal make q s at = follow (quoted q s at) (λ len. gives (make at len)) s
