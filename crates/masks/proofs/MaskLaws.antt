-- What ML and MR give, case by case, and that no text is wider than 99: the limit on a result is never met. Assumes nothing.
use Rattle.std.specs.Prelude.{if◌then◌else◌}
use mathlib.Core.Path.{◌≡◌, refl, ap, ◌∙◌}
use mathlib.Core.Bool.{Bool, true, false, ◌&&◌}
use mathlib.Core.List.{[], ◌∷◌, ◌++◌}
use mathlib.Core.Option.{Option, none, some}
use Prim.Native.Nat.{ℕ, ◌+◌, ◌-◌, ◌≤◌, ◌<◌}
use native.Mathlib.Omega.{arith}
use lib.Dec.{leb, ltb, eqb}
use lib.ListN.{length, replicate, length-append, length-replicate}
use borrow.Author.Tests.{le-leb, lt-leb, leb-true, leb-false}
use Rattle.paper.specs.Bytes.{Bytes}
use Rattle.paper.specs.Sizes.{number_most, entry_most}
use Rattle.paper.specs.Refusals.{Res, given, refused, ◌>>=◌, ◌>>◌, refuse◌unless◌, out_of_range}
use Rattle.paper.specs.Numbers.{Number as Whole, signed, numeric, ranged}
use Rattle.paper.specs.Codes.{Mask}
use Rattle.paper.specs.Masks.{on_number, number_gives, scaled_size, scaled, masked_text, laid_out, blank_text, number_masked, mask_gives}
use Rattle.paper.specs.Steps.{limited}
use Rattle.paper.proofs.Predicates.{Holds, holds, refuses, holds_after}
use Rattle.masks.specs.Bounds.{Bounded, field_width}
use Rattle.masks.specs.Scaling.{in_range}
use Rattle.masks.proofs.PieceLaws.{length_masked}

-- the paper's scaled size
abbrev size_of : Mask → Whole → ℕ
size_of k x = scaled_size k.decimals k.scale x.size

-- a size in range is what was scaled; none is out of range
size_in : (n m : ℕ) → given n ≡ in_range m → (n ≡ m) × (m ≤ number_most)
size_in n m = go (leb m number_most) refl
  where
    go : (t : Bool) → leb m number_most ≡ t → given n ≡ (refuse out_of_range unless t >> given m) → (n ≡ m) × (m ≤ number_most)
    go true h e = (cc, leb-true m number_most h)
    go false h e = cc

-- 10 is passed up
outside : (n m : ℕ) → refused n ≡ in_range m → (n ≡ out_of_range) × (number_most < m)
outside n m = go (leb m number_most) refl
  where
    go : (t : Bool) → leb m number_most ≡ t → refused n ≡ (refuse out_of_range unless t >> given m) → (n ≡ out_of_range) × (number_most < m)
    go true h e = cc
    go false h e = (cc, leb-false m number_most h)

module _ (k : Mask) (x : Whole) where
  -- "Z turns an element of 0 into empty text, and into blanks under a mask of any fill"
  pub blanked : k.blank_zero && eqb x.size 0 ≡ true → given (blank_text k.filled) ≡ number_masked k x
  unfolding number_masked
  blanked e = rw e

  pub size_ranged : (n : ℕ) → given n ≡ in_range (size_of k x) → n ≤ number_most
  size_ranged n e = omega (arith, size_in n (size_of k x) e)

  module _ (e : k.blank_zero && eqb x.size 0 ≡ false) where
    -- 10 is tried on the scaled value
    pub beyond : (n : ℕ) → refused n ≡ in_range (size_of k x) → number_masked k x ≡ refused n
    unfolding number_masked ranged scaled signed
    beyond n h = let out = outside n (size_of k x) h in rw (e, out.0, lt-leb (size_of k x) number_most out.1)

    -- "The sign is that of the rounded value."
    pub laid : (n : ℕ) → given n ≡ in_range (size_of k x)
        → laid_out k.left k.filled (masked_text k (record { negative = x.negative && ltb 0 n; size = n })) ≡ number_masked k x
    unfolding number_masked ranged scaled signed
    laid n h =
        let same = size_in n (size_of k x) h in
        rw (e, same.0, le-leb (size_of k x) number_most same.1)

-- no text is wider than the widest mask
abbrev Narrow : Bytes → Type 0
Narrow bs = length bs ≤ 99

laid_narrow : (left : Bool) (filled : Option (ℕ × ℕ)) (text : Bytes) → field_width filled ≤ 99 → Narrow text
    → Holds Narrow (laid_out left filled text)
unfolding laid_out field_width
laid_narrow left none text width h = holds h
laid_narrow left (some fill) text width h = go (leb (length text) fill.1) refl
  where
    fills : Bytes
    fills = replicate (fill.1 - length text) fill.0

    spread : length text ≤ fill.1 → length text + length fills ≤ 99
    spread l = omega (arith, length-replicate (fill.1 - length text) fill.0)

    put : (t : Bool) → length text ≤ fill.1 → Narrow (if t then text ++ fills else fills ++ text)
    put true l = omega (arith, length-append text fills, spread l)
    put false l = omega (arith, length-append fills text, spread l)

    go : (t : Bool) → leb (length text) fill.1 ≡ t
        → Holds Narrow ((refuse 14 unless t) >> given (if left then text ++ fills else fills ++ text))
    go true e = holds (put left (leb-true (length text) fill.1 e))
    go false e = refuses

blank_narrow : (filled : Option (ℕ × ℕ)) → field_width filled ≤ 99 → Narrow (blank_text filled)
unfolding blank_text field_width
blank_narrow none h = omega arith
blank_narrow (some fill) h = omega (arith, length-replicate {A = ℕ} fill.1 32)

masked_narrow : (k : Mask) (x : Whole) → Bounded k → Holds Narrow (number_masked k x)
unfolding number_masked
masked_narrow k x bound = go (k.blank_zero && eqb x.size 0)
  where
    go : (t : Bool) → Holds Narrow (if t then given (blank_text k.filled) else (ranged (scaled k x) >>= λ y. laid_out k.left k.filled (masked_text k y)))
    go true = holds (blank_narrow k.filled bound.width)
    go false =
        holds_after (ranged (scaled k x))
        (λ y e. laid_narrow k.left k.filled (masked_text k y) bound.width (omega (arith, length_masked k y bound.decimals)))

pub mask_narrow : (k : Mask) (e : Bytes) → Bounded k → Holds Narrow (mask_gives k e)
unfolding mask_gives number_gives
mask_narrow k [] bound = holds {a = []} (omega arith)
mask_narrow k (b ∷ bs) bound = go (numeric (b ∷ bs))
  where
    go : (o : Option Whole) → Holds Narrow (on_number (number_masked k) o)
    go none = refuses
    go (some x) = holds_after (ranged x) (λ y e. masked_narrow k y bound)

-- so the limit on a result is never met
kept : (r : Res Bytes) → Holds Narrow r → limited entry_most r ≡ r
unfolding limited entry_most
kept (given bs) (holds h) = rw (le-leb (length bs) entry_most (omega arith))
kept (refused n) refuses = refl

pub mask_limited : (k : Mask) (e : Bytes) → Bounded k → limited entry_most (mask_gives k e) ≡ mask_gives k e
mask_limited k e bound = kept (mask_gives k e) (mask_narrow k e bound)
