-- Orders by numbers and by bytes, a byte at a time, against the definitions. Assumes nothing.
use Rattle.std.specs.Prelude.{if◌then◌else◌}
use mathlib.Core.Path.{◌≡◌, refl, sym}
use mathlib.Core.Bool.{Bool, true, false}
use mathlib.Core.List.{[], ◌∷◌}
use mathlib.Core.Option.{Option, none, some}
use Prim.Native.Nat.{◌<◌}
use native.Mathlib.Omega.{arith}
use lib.Dec.{leb, ltb, eqb}
use borrow.Author.Tests.{lt-ltb, le-ltb, eq-eqb, ne_eqb}
use Rattle.std.specs.declared.cmp.Ordering.{Ordering}
use Rattle.std.specs.declared.cmp.Ordering.TheVariants.{Less, Equal, Greater}
use Rattle.std.specs.Ordering.{nat_cmp, MatchOrdering, ordering_then}
use Rattle.std.specs.Cmp.Lexicographic.{slice_cmp}
use Rattle.std.proofs.lemmas.Cmp.{ranked}
use Rattle.paper.specs.Bytes.{Bytes}
use Rattle.paper.specs.Sizes.{number_most}
use Rattle.paper.specs.Refusals.{Res, given, ◌>>◌, refuse◌unless◌}
use Rattle.paper.specs.Numbers.{Number as Whole, numeric, ranged, below, bytes_below, Order as Standing, order_by, compare_forms, compared}
use Rattle.numbers.specs.Forms.{in_range}
use Rattle.numbers.specs.Orders.{order_of, numbers_order, bytes_order}

-- by bytes: equal ones go by, the first that differ decide, and a prefix is smaller
pub bytes_compared : (s t : Bytes) → order_of (slice_cmp nat_cmp s t) ≡ bytes_order s t
unfolding bytes_order bytes_below
bytes_compared [] [] = refl
bytes_compared [] (c ∷ cs) = refl
bytes_compared (b ∷ bs) [] = refl
bytes_compared (b ∷ bs) (c ∷ cs) = go (bytes_compared bs cs) (nat_cmp b c) (ranked b c (nat_cmp b c) refl)
  where
    go : order_of (slice_cmp nat_cmp bs cs) ≡ order_by (bytes_below bs cs) (bytes_below cs bs) → (o : Ordering) → MatchOrdering o (b < c) (b ≡ c) (c < b)
        → order_of (ordering_then o (slice_cmp nat_cmp bs cs))
        ≡ order_by (if eqb b c then bytes_below bs cs else ltb b c) (if eqb c b then bytes_below cs bs else ltb c b)
    go onward Less h = rw (ne_eqb b c (λ e. omega arith), ne_eqb c b (λ e. omega arith), lt-ltb b c h)
    go onward Equal h = rw (eq-eqb b c h, eq-eqb c b (sym h)) onward
    go onward Greater h = rw (ne_eqb b c (λ e. omega arith), ne_eqb c b (λ e. omega arith), le-ltb b c (omega arith), lt-ltb c b h)

-- by the forms of both
module _ (second top : Bytes) where
  -- "else by bytes"; "as numbers when both have numeric form"; "out of range is 10 wherever it is read as a number"
  abbrev by_forms : Option Whole → Option Whole → Res Standing
  by_forms = compare_forms second top

  pub second_apart : none ≡ in_range (numeric second) → given (bytes_order second top) ≡ compared second top
  unfolding compared bytes_order
  second_apart h = go (numeric second) h
    where
      go : (x : Option Whole) → none ≡ in_range x → given (bytes_order second top) ≡ by_forms x (numeric top)
      go none h = refl
      go (some x) h = cc

  pub top_apart : none ≡ in_range (numeric top) → given (bytes_order second top) ≡ compared second top
  unfolding compared bytes_order
  top_apart h = go (numeric second) (numeric top) h
    where
      go : (x y : Option Whole) → none ≡ in_range y → given (bytes_order second top) ≡ by_forms x y
      go none y h = refl
      go (some x) none h = refl
      go (some x) (some y) h = cc

  pub both_numeric : {v w : Res Whole} → some v ≡ in_range (numeric second) → some w ≡ in_range (numeric top) → numbers_order v w ≡ compared second top
  unfolding compared numbers_order ranged
  both_numeric {v} {w} p q = go (numeric second) (numeric top) p q
    where
      in_turn : (x y : Whole) (a b : Bool) → numbers_order (refuse 10 unless a >> given x) (refuse 10 unless b >> given y)
          ≡ (refuse 10 unless a >> given x >> (refuse 10 unless b >> given y >> given (order_by (below x y) (below y x))))
      in_turn x y false b = refl
      in_turn x y true false = refl
      in_turn x y true true = refl

      go : (x y : Option Whole) → some v ≡ in_range x → some w ≡ in_range y → numbers_order v w ≡ by_forms x y
      go none y p q = cc
      go (some x) none p q = cc
      go (some x) (some y) p q =
          let l : v ≡ ranged x = cc in
          let m : w ≡ ranged y = cc in
          rw (l, m) (in_turn x y (leb x.size number_most) (leb y.size number_most))

-- what comparing comes to, by the forms of both
pub ruleset by_both = (second_apart, top_apart, both_numeric)
