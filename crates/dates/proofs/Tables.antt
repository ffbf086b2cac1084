-- The rule of each table, proved at all of its entries by one test that is computed. Assumes nothing.
use Rattle.std.specs.Int.{from_bool}
use Prim.Native.Nat.{ℕ, ◌+◌, ◌<◌}
use mathlib.Core.Path.{◌≡◌, refl, ap₂}
use mathlib.Core.Bool.{Bool, true, false, ◌&&◌, false≢true}
use mathlib.Core.List.{List, [], ◌∷◌}
use lib.ListN.{length, get_or}
use lib.Dec.{eqb}
use borrow.Author.Tests.{eqb-true}
use Rattle.paper.specs.Bytes.{bytes, same_bytes}
use Rattle.paper.specs.Dates.{leap, month_lengths, month_names}
use Rattle.paper.proofs.Calendar.{lengths_by, lengths_are}
use Rattle.paper.proofs.Truths.{both, below, passed}

-- the lengths of the months, with so many days in February; and those of a common year
abbrev pub months : ℕ → List ℕ
months february = 31 ∷ february ∷ 31 ∷ 30 ∷ 31 ∷ 30 ∷ 31 ∷ 31 ∷ 30 ∷ 31 ∷ 30 ∷ 31 ∷ []

abbrev pub lengths : List ℕ
lengths = months 28

abbrev length_right : Bool → ℕ → Bool
length_right b k = eqb (get_or lengths k 0 + from_bool (b && eqb k 1)) (get_or (lengths_by b) k 0)

lengths_right : (b : Bool) → below (length_right b) 12 ≡ true
lengths_right true = refl
lengths_right false = refl

pub length_at : (y k : ℕ) → k < 12 → get_or lengths k 0 + from_bool (leap y && eqb k 1) ≡ get_or (month_lengths y) k 0
length_at y k h = rw lengths_are (eqb-true _ _ (passed (length_right (leap y)) 12 k (lengths_right (leap y)) h))

name_lengths : below (λ k. eqb (length (get_or month_names k [])) 3) 12 ≡ true
unfolding bytes month_names
name_lengths = refl

pub name_long : (k : ℕ) → k < 12 → length (get_or month_names k []) ≡ 3
name_long k h = eqb-true _ _ (passed (λ k. eqb (length (get_or month_names k [])) 3) 12 k name_lengths h)

pub same_bytes_eq : (xs ys : List ℕ) → same_bytes xs ys ≡ true → xs ≡ ys
unfolding same_bytes
same_bytes_eq [] [] t = refl
same_bytes_eq [] (y ∷ ys) t = absurd (false≢true t)
same_bytes_eq (x ∷ xs) [] t = absurd (false≢true t)
same_bytes_eq (x ∷ xs) (y ∷ ys) t =
    let p = both (eqb x y) (same_bytes xs ys) t in
    ap₂ (λ (z : ℕ) (zs : List ℕ). z ∷ zs) (eqb-true x y p.0) (same_bytes_eq xs ys p.1)
