-- `stack::charging::charge_copy` meets its contract: 15 with nothing put, or what the slot holds in slot k.
use mathlib.Core.Path.{sym}
use native.Mathlib.Omega.{arith}
use Rattle.std.proofs.lemmas.Result.{err_from_is_err_and}
use Rattle.paper.specs.Sizes.{entry_most}
use Rattle.stack.proofs.Putting.{entry_length, entry_fits}
use Rattle.stack.proofs.Charges.{put_over, put_within}
use Rattle.stack.proofs.charging.charge_copy.Goals as goal

pub charge-requires : goal.charge-requires
unfolding entry_most
charge-requires c = (c.requires.2, omega (arith, c.args.slots.now.slotted.fits c.args.from))

pub returns-in_err-cost : goal.returns-in_err-cost
returns-in_err-cost c =
    let p = err_from_is_err_and c.from_residual.result c.from_residual.ensures.1 in rw (p.1, p.2)
    (put_over c.args.slots.now.slotted c.args.left _ _ _ _ (sym (entry_length c.args.slots.now.slotted c.args.from c.requires.1)) c.in_err-cost.ensures)

pub returns : goal.returns
returns c =
    put_within c.args.slots.now.slotted c.args.left _ _ _ _ c.requires.0
    (entry_fits c.args.slots.now.slotted c.args.from c.requires.1)
    (sym (entry_length c.args.slots.now.slotted c.args.from c.requires.1))
    c.in_ok-cost.ensures
    c.copy.ensures
