-- `measure` writes the decimal text of the length.
use mathlib.Core.Path.{refl}
use native.Mathlib.Nat.{zero-add}
use native.Mathlib.Omega.{arith}
use lib.ListN.{length}
use Rattle.paper.specs.Sizes.{entry_most}
use Rattle.paper.specs.Texts.{plain_gives}
use Rattle.paper.proofs.Numerals.{length_decimal}
use Rattle.paper.proofs.Limits.{entry_limit, limited_within, gives_bytes}
use Rattle.texts.proofs.measure.Goals as goal

pub decimal-requires : goal.decimal-requires
unfolding plain_gives
decimal-requires c = omega (arith, entry_limit)

pub returns : goal.returns
unfolding plain_gives
returns c =
    let n = length c.args.e.now in gives_bytes _ _ (limited_within entry_most refl (omega (arith, entry_limit, length_decimal n))) c.decimal.ensures.value (rw zero-add at c.decimal.ensures.out_after)
