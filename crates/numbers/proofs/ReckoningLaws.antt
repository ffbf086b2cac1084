-- Operands, and arithmetic on a sign and a size, against the definitions. Assumes nothing.
use mathlib.Core.Path.{◌≡◌, refl, sym, ◌∙◌}
use mathlib.Core.Option.{Option, none, some}
use Prim.Native.Nat.{ℕ, ◌*◌, ◌/◌, ◌^◌, ◌≤◌}
use native.Mathlib.Nat.{mul_comm, div-lt_iff_lt-mul}
use native.Mathlib.Omega.{arith}
use lib.Dec.{ltb}
use borrow.Author.Tests.{lt-ltb, ltb-true}
use Rattle.paper.specs.Bytes.{Bytes}
use Rattle.paper.specs.Sizes.{number_most}
use Rattle.paper.specs.Refusals.{Res, given, refused, ◌>>=◌}
use Rattle.paper.specs.Numbers.{Number as Whole, signed, natural, ranged, or_zero, numeric, number, number_text, times, quotient, arithmetic, binary_gives}
use Rattle.paper.proofs.Truths.{alike}
use Rattle.paper.proofs.Predicates.{held_by, holds_after}
use Rattle.std.specs.Prelude.{false, Result, Ok, None, Some}
use Rattle.std.specs.Prelude.{Option as Maybe}
use Rattle.std.specs.Option.{unwrap_or}
use Rattle.paper.specs.declared.Refusal.{Refusal}
use Rattle.paper.specs.Answers.{told_by, maybe_by}
use Rattle.codes.specs.declared.Arithmetic.{Arithmetic}
use Rattle.codes.specs.Meaning.{arithmetic_of}
use Rattle.numbers.specs.declared.Number.{Number}
use Rattle.numbers.specs.Forms.{whole, in_range}
use Rattle.numbers.specs.Reckonings.{operated, reckoning, calculation}
use Rattle.numbers.proofs.FormLaws.{Small, ranged_small}
use Rattle.numbers.proofs.ReadingLaws.{in_limit}

-- an operand by its form
pub read_operand : (r : Maybe (Result Number Refusal)) (o : Option Whole) → maybe_by (told_by whole) r ≡ in_range o
    → told_by whole (unwrap_or r (Ok (record { negative = false; size = 0 }))) ≡ ranged (or_zero o)
unfolding ranged natural
read_operand None none h = refl
read_operand None (some x) h = cc
read_operand (Some v) none h = cc
read_operand (Some v) (some x) h = cc

-- one that is read is in range
pub number_small : (s : Bytes) (x : Number) → given (whole x) ≡ number s → x.size ≤ number_most
unfolding number
number_small s x h = held_by {P = Small} (ranged_small (or_zero (numeric s))) (sym h)

-- "the undivided product must be in range"
pub product_scaled : (x y : Whole) (n : ℕ) {k : ℕ} {p q : Whole} → x.size * y.size ≤ number_most → p ≡ times x y → k ≡ 10 ^ n
    → q ≡ quotient p (natural k) → ranged q ≡ reckoning (Arithmetic.Multiply n) x y
unfolding reckoning operated times signed
product_scaled x y n h e f g = rw (g, f, e, ← in_limit (times x y) h)

-- "product in range" by a division
pub product_passes : (a b : ℕ) → (a ≡ 0 → ⊥) → ltb (number_most / a) b ≡ ltb number_most (a * b)
product_passes a b h =
    alike (ltb (number_most / a) b) (ltb number_most (a * b))
    (λ l. lt-ltb number_most (a * b) (rw (mul_comm a b) ((div-lt_iff_lt-mul {k = a} (omega arith)).0 (ltb-true _ _ l))))
    (λ l. lt-ltb (number_most / a) b ((div-lt_iff_lt-mul {k = a} (omega arith)).1 (rw (mul_comm a b) at (ltb-true number_most (a * b) l))))

-- a reckoning ends in a number in range
pub calculated_small : (op : Arithmetic) (s t : Bytes) (x : Number) → given (whole x) ≡ calculation op s t → x.size ≤ number_most
unfolding calculation reckoning
calculated_small op s t x h =
    held_by {P = Small} (holds_after (number s) (λ x _. holds_after (number t) (λ y _. holds_after (operated op x y) (λ z _. ranged_small z)))) (sym h)

-- the text of what two entries give as numbers
pub texted : (op : Arithmetic) (s t : Bytes) → binary_gives (arithmetic_of op) s t ≡ (calculation op s t >>= λ r. given (number_text r))
unfolding binary_gives arithmetic_of operated calculation reckoning
texted op s t = by_operation op ∙ in_turn (number s) (number t)
  where
    by_operation : (op : Arithmetic) → binary_gives (arithmetic_of op) s t ≡ arithmetic (operated op) s t
    by_operation (Arithmetic.Multiply n) = refl
    by_operation Arithmetic.Divide = refl
    by_operation Arithmetic.Rest = refl
    by_operation Arithmetic.Add = refl
    by_operation Arithmetic.Subtract = refl

    ranged_then : (r : Res Whole) → (r >>= λ z. ranged z >>= λ w. given (number_text w)) ≡ (r >>= ranged >>= λ w. given (number_text w))
    ranged_then (given z) = refl
    ranged_then (refused n) = refl

    in_turn : (r q : Res Whole) → (r >>= λ x. q >>= λ y. operated op x y >>= λ z. ranged z >>= λ w. given (number_text w))
        ≡ ((r >>= λ x. q >>= λ y. operated op x y >>= ranged) >>= λ w. given (number_text w))
    in_turn (given x) (given y) = ranged_then (operated op x y)
    in_turn (given x) (refused n) = refl
    in_turn (refused n) q = refl
