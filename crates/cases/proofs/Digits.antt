-- A number digit by digit, the sum held at the largest number once it is there.
use Rattle.std.specs.List.{fold}
use Prim.Native.Nat.{ℕ, ◌+◌, ◌*◌, min}
use mathlib.Core.Path.{◌≡◌, refl}
use mathlib.Core.List.{[], ◌∷◌}
use native.Mathlib.Omega.{arith}
use Rattle.paper.specs.Bytes.{Bytes}
use Rattle.cases.specs.Tables.{most, digit, value, number}

-- one digit more, as the library's sum and product that stop at m give it
abbrev pub held : ℕ → ℕ → ℕ → ℕ
held m n d = min (min (n * 10) m + d) m

held_more : (m n d : ℕ) → held m (min n m) d ≡ min (n * 10 + d) m
held_more m n d = omega arith

held_value : (m n : ℕ) (bs : Bytes) → fold (λ n b. held m n (digit b)) (min n m) bs ≡ min (value n bs) m
unfolding value
held_value m n [] = refl
held_value m n (b ∷ bs) = rw (held_more m n (digit b)) (held_value m (n * 10 + digit b) bs)

pub held_number : (text : Bytes) → fold (λ n b. held most n (digit b)) 0 text ≡ number text
unfolding number
held_number text = held_value most 0 text
