-- `stack::charging::charge_entry` meets its contract: 15 with nothing put, or the bytes in slot k.
use mathlib.Core.Path.{refl}
use native.Mathlib.Omega.{arith}
use Rattle.std.proofs.lemmas.Result.{err_from_is_err_and}
use Rattle.paper.specs.Sizes.{entry_most}
use Rattle.stack.proofs.Charges.{put_over, put_within}
use Rattle.stack.proofs.charging.charge_entry.Goals as goal

pub charge-requires : goal.charge-requires
unfolding entry_most
charge-requires c = (c.requires.2, omega arith)

pub returns-in_err-cost : goal.returns-in_err-cost
returns-in_err-cost c =
    let p = err_from_is_err_and c.from_residual.result c.from_residual.ensures.1 in rw (p.1, p.2)
    (put_over c.args.slots.now.slotted c.args.left _ _ _ _ refl c.in_err-cost.ensures)

pub returns : goal.returns
returns c = put_within c.args.slots.now.slotted c.args.left _ _ _ _ c.requires.0 c.requires.1 refl c.in_ok-cost.ensures c.put.ensures
