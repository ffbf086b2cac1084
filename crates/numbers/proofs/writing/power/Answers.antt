-- `writing::power` meets its contract: the table's rule is one test, which antt computes over the whole table.
use mathlib.Core.Path.{refl}
use mathlib.Core.Bool.{Bool}
use mathlib.Core.List.{List, [], ◌∷◌}
use Prim.Native.Nat.{ℕ, ◌^◌}
use lib.Dec.{eqb}
use lib.ListN.{get_or}
use borrow.Author.Rules.{rules}
use borrow.Author.Tests.{eqb-true}
use Rattle.paper.proofs.Truths.{passed}
use Rattle.numbers.proofs.writing.power.Goals as goal

powers : List ℕ
powers =
    1 ∷ 10 ∷ 100 ∷ 1_000 ∷ 10_000 ∷ 100_000 ∷ 1_000_000 ∷ 10_000_000 ∷ 100_000_000 ∷ 1_000_000_000 ∷ 10_000_000_000 ∷ 100_000_000_000
    ∷ 1_000_000_000_000 ∷ 10_000_000_000_000 ∷ 100_000_000_000_000 ∷ 1_000_000_000_000_000 ∷ []

right : ℕ → Bool
right k = eqb (get_or powers k 0) (10 ^ k)

pub returns : goal.returns
unfolding powers right
returns c = eqb-true (get_or powers c.args.n 0) (10 ^ c.args.n) (passed right 16 c.args.n refl (search rules))
