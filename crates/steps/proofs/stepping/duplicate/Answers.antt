-- `steps::stepping::duplicate` meets its contract: the top entry once more, by the length that its slot says.
use native.Mathlib.Omega.{arith}
use Rattle.paper.specs.Sizes.{entry_most}
use Rattle.stack.proofs.Putting.{entry_length}
use Rattle.stack.proofs.Charges.{charges_as}
use Rattle.steps.proofs.Elms.{duplicate_taken}
use Rattle.steps.proofs.stepping.duplicate.Goals as goal

pub overflow_add-top : goal.overflow_add-top
unfolding entry_most
overflow_add-top c = omega (arith, c.args.slots.now.slotted.fits c.args.k)

pub charge_copy-requires : goal.charge_copy-requires
unfolding entry_most
charge_copy-requires c = (c.requires, omega arith, omega (arith, c.args.slots.now.slotted.fits c.args.k))

pub returns : goal.returns
returns c = charges_as (duplicate_taken _ _ _ _ _ (entry_length c.args.slots.now.slotted c.args.k (omega arith))) c.charge_copy.ensures
