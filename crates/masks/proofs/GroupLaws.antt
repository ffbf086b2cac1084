-- Integer digits from the last one on, with a comma in front of every third. Assumes nothing.
use Rattle.std.specs.Prelude.{if◌then◌else◌}
use mathlib.Core.Path.{◌≡◌, refl, sym, ap, ◌∙◌}
use mathlib.Core.Bool.{Bool, true, false, ◌&&◌}
use mathlib.Core.List.{[], ◌∷◌, ◌++◌, append_assoc}
use mathlib.Core.Logic.{inl, inr, ⊎_elim}
use Prim.Native.Nat.{ℕ, suc, ◌+◌, ◌-◌, ◌*◌, ◌/◌, ◌%◌, ◌^◌, ◌≤◌, ◌<◌}
use native.Mathlib.Nat.{not-suc-le-zero, eq-or-lt_of_le, div-eq_of_lt, div-div-eq-div-mul, pow-suc, le-div_iff_mul-le, div-lt_iff_lt-mul}
use native.Mathlib.Numerals.{add-one}
use native.Mathlib.Omega.{arith}
use lib.Dec.{eqb}
use lib.ListN.{length, length-append}
use borrow.Author.Tests.{eqb-true, eqb-false}
use Rattle.paper.specs.Bytes.{Bytes}
use Rattle.paper.specs.Sizes.{number_most}
use Rattle.paper.specs.Numbers.{digits, decimal}
use Rattle.paper.specs.Masks.{grouped, integer_text}
use Rattle.paper.proofs.Numerals.{digits_front, decimal_digits, length_digits, pow_pos}
use Rattle.lent.specs.Over.{Laid}
use Rattle.masks.specs.Pieces.{when}
use Rattle.lent.proofs.Laying.{laid_none, laid_ahead, laid_as}

-- digits with a comma before every third from the end, or without commas
unfoldable pub parted : Bool → Bytes → Bytes
parted commas ds = if commas then grouped ds else ds

parted_one : (commas : Bool) (d : ℕ) → parted commas (d ∷ []) ≡ d ∷ []
unfolding parted grouped
parted_one true d = refl
parted_one false d = refl

-- one digit more in front, and a comma behind it after every three
parted_front : (commas : Bool) (d : ℕ) (ds : Bytes) → 1 ≤ length ds
    → d ∷ [] ++ (when (commas && eqb (length ds % 3) 0) 44 ++ parted commas ds) ≡ parted commas (d ∷ ds)
unfolding parted grouped when
parted_front commas d [] some = absurd (not-suc-le-zero some)
parted_front false d (e ∷ es) some = refl
parted_front true d (e ∷ es) some = go (eqb (length (e ∷ es) % 3) 0)
  where
    go : (t : Bool) → d ∷ ((if t then 44 ∷ [] else []) ++ grouped (e ∷ es)) ≡ if t then d ∷ 44 ∷ grouped (e ∷ es) else d ∷ grouped (e ∷ es)
    go true = refl
    go false = refl

length_grouped : (ds : Bytes) → length (grouped ds) ≡ length ds + (length ds - 1) / 3
unfolding grouped
length_grouped [] = refl
length_grouped (d ∷ []) = refl
length_grouped (d ∷ e ∷ es) = go (length_grouped (e ∷ es)) (eqb (length (e ∷ es) % 3) 0) refl
  where
    go : length (grouped (e ∷ es)) ≡ suc (length es) + (suc (length es) - 1) / 3 → (t : Bool) → eqb (suc (length es) % 3) 0 ≡ t
        → length (if t then d ∷ 44 ∷ grouped (e ∷ es) else d ∷ grouped (e ∷ es)) ≡ suc (suc (length es)) + (suc (suc (length es)) - 1) / 3
    go onward true h = omega (arith, eqb-true (suc (length es) % 3) 0 h)
    go onward false h = omega (arith, eqb-false (suc (length es) % 3) 0 h)

pub length_parted : (commas : Bool) (ds : Bytes) → length (parted commas ds) ≤ length ds + (length ds - 1) / 3
unfolding parted
length_parted true ds = omega (arith, length_grouped ds)
length_parted false ds = omega arith

-- After some turns, the last digit being laid before the first: `front` stands before it, with which it makes the last `count` digits of n
-- and their commas, and `rest` is what is left of n.
pub record Turned (start : Bytes) (from : ℕ) (commas : Bool) (n : ℕ) (text : Bytes) (place rest count : ℕ) : Type 0 where
  pub ranged : n ≤ number_most
  pub some : 1 ≤ count
  pub most : count ≤ 15
  pub same : length text ≡ length start
  pub left : rest ≡ n / 10 ^ count
  pub whole : rest ≡ 0 → decimal n ≡ digits count n
  pub front : Bytes
  pub joined : front ++ (48 + n % 10) ∷ [] ≡ parted commas (digits count n)
  pub laid : Laid front start from text place

pub turned_none : (start : Bytes) (from : ℕ) (commas : Bool) (n : ℕ) → n ≤ number_most → Turned start from commas n start from (n / 10) 1
unfolding digits
turned_none start from commas n ranged =
    record {
      ranged = ranged;
      some = omega arith;
      most = omega arith;
      same = refl;
      left = refl;
      whole = λ (e : n / 10 ≡ 0). decimal_digits 0 n (omega arith) (omega arith) (inl refl);
      front = [];
      joined = sym (parted_one commas (48 + n % 10));
      laid = laid_none start from;
    }

module _ {start : Bytes} {from : ℕ} {commas : Bool} {n : ℕ} {text : Bytes} {place rest count : ℕ} (turned : Turned start from commas n text place rest count) where
  -- something is left, so not all digits are laid
  fewer : 0 < rest → count < 15
  fewer some = ⊎_elim (λ (e : count ≡ 15). absurd (none e)) (λ (l : count < 15). l) (eq-or-lt_of_le turned.most)
    where
      none : count ≡ 15 → ⊥
      none e =
          let z : rest ≡ 0 = turned.left ∙ ap (λ (k : ℕ). n / 10 ^ k) e ∙ div-eq_of_lt (omega (arith, turned.ranged)) in
          omega arith

  comma : Bytes
  comma = when (commas && eqb (count % 3) 0) 44

  -- what a turn makes of the front
  fronted : (48 + rest % 10) ∷ [] ++ (comma ++ turned.front) ++ (48 + n % 10) ∷ [] ≡ parted commas (digits (count + 1) n)
  unfolding comma
  fronted =
      rw (append_assoc comma turned.front ((48 + n % 10) ∷ []), turned.joined)
      (ap (λ (k : ℕ). (48 + rest % 10) ∷ (when (commas && eqb (k % 3) 0) 44 ++ parted commas (digits count n))) (sym (length_digits count n))
      ∙ parted_front commas (48 + rest % 10) (digits count n) (omega (arith, length_digits count n, turned.some))
      ∙ ap (parted commas) (sym (rw (add-one count, turned.left) (digits_front count n))))

  -- room for a comma and a digit
  pub turned_room : 0 < rest → 18 ≤ from → length (when (commas && eqb (count % 3) 0) 44) + 1 ≤ place
  unfolding comma
  turned_room some room =
      omega (
        arith,
        ap length fronted,
        length-append ((48 + rest % 10) ∷ [] ++ (comma ++ turned.front)) ((48 + n % 10) ∷ []),
        length-append comma turned.front,
        length_parted commas (digits (count + 1) n),
        length_digits (count + 1) n,
        fewer some,
        turned.laid.place,
      )

  pub turned_again : {parting text' : Bytes} {middle place' : ℕ} → 0 < rest → from ≤ length start → length text' ≡ length text
      → Laid (when (commas && eqb (count % 3) 0) 44) text place parting middle → Laid ((48 + rest % 10) ∷ []) parting middle text' place'
      → Turned start from commas n text' place' (rest / 10) (count + 1)
  unfolding comma
  turned_again {parting} {text'} {middle} {place'} some room same parts digit =
      record {
        ranged = turned.ranged;
        some = omega arith;
        most = omega (arith, fewer some);
        same = same ∙ turned.same;
        left = over_ten;
        whole = λ (e : rest / 10 ≡ 0). rw (add-one count) (decimal_digits count n (fewer some) (below e) (inr reaches));
        front = (48 + rest % 10) ∷ [] ++ (comma ++ turned.front);
        joined = fronted;
        laid = laid_ahead (laid_ahead turned.laid parts room) digit room;
      }
    where
      over_ten : rest / 10 ≡ n / 10 ^ (count + 1)
      over_ten =
          ap (λ (k : ℕ). k / 10) turned.left ∙ div-div-eq-div-mul n (10 ^ count) 10
          ∙ ap (λ (k : ℕ). n / k) (sym (pow-suc 10 count) ∙ ap (λ (k : ℕ). 10 ^ k) (sym (add-one count)))

      below : rest / 10 ≡ 0 → n < 10 ^ suc count
      below e =
          let z : n / 10 ^ suc count ≡ 0 = ap (λ (k : ℕ). n / 10 ^ k) (sym (add-one count)) ∙ sym over_ten ∙ e in
          let h : n < 1 * 10 ^ suc count = (div-lt_iff_lt-mul (pow_pos (suc count))).0 (omega arith) in
          omega arith

      reaches : 10 ^ count ≤ n
      reaches =
          let h : 1 * 10 ^ count ≤ n = (le-div_iff_mul-le (pow_pos count)).0 (omega (arith, turned.left)) in
          omega arith

  pub turned_all : {before : Bytes} {at : ℕ} → rest ≤ 0 → at ≤ length before → Laid ((48 + n % 10) ∷ []) before at start from
      → Laid (integer_text commas n) before at text place
  unfolding integer_text parted
  turned_all none room last =
      laid_as (turned.joined ∙ ap (parted commas) (sym (turned.whole (omega arith)))) (laid_ahead last turned.laid room)
