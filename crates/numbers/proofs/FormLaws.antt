-- What a number code (ML, MR and D alike) gives by it. Assumes nothing.
use mathlib.Core.Path.{◌≡◌, refl, ap, ◌∙◌}
use mathlib.Core.List.{[], ◌∷◌}
use mathlib.Core.Option.{Option, none, some}
use Prim.Native.Nat.{◌≤◌}
use native.Mathlib.Omega.{arith}
use lib.Dec.{leb}
use lib.ListN.{length}
use borrow.Author.Tests.{leb-true}
use Rattle.paper.specs.Bytes.{Bytes}
use Rattle.paper.specs.Sizes.{number_most}
use Rattle.paper.specs.Refusals.{Res, given, ◌>>=◌, out_of_range}
use Rattle.paper.specs.Numbers.{Number as Whole, numeric, ranged}
use Rattle.paper.specs.Masks.{on_number, number_gives}
use Rattle.paper.proofs.Predicates.{Holds, refuses, held_by, holds_unless}
use Rattle.numbers.specs.Forms.{convertible}

-- a number that was ranged is in range
abbrev pub Small : Whole → Type 0
Small x = x.size ≤ number_most

pub ranged_small : (x : Whole) → Holds Small (ranged x)
unfolding ranged
ranged_small x = holds_unless out_of_range (leb x.size number_most) x (leb-true x.size number_most)

pub convertible_size : (o : Option Whole) (x : Whole) → convertible o ≡ given x → x.size ≤ number_most
convertible_size none x h = held_by {P = Small} refuses h
convertible_size (some y) x h = held_by (ranged_small y) h

module _ (f : Whole → Res Bytes) where
  -- "empty stays empty"
  pub empty_stays : (e : Bytes) → length e ≡ 0 → number_gives f e ≡ given []
  unfolding number_gives
  empty_stays [] h = refl
  empty_stays (b ∷ bs) h = absurd (omega arith)

  -- any other element
  pub converts : (e : Bytes) {v : Res Whole} → (length e ≡ 0 → ⊥) → convertible (numeric e) ≡ v → number_gives f e ≡ (v >>= f)
  unfolding number_gives
  converts [] h k = absurd (h refl)
  converts (b ∷ bs) h k = go (numeric (b ∷ bs)) ∙ ap (λ (v : Res Whole). v >>= f) k
    where
      go : (o : Option Whole) → on_number f o ≡ (convertible o >>= f)
      go none = refl
      go (some x) = refl
