-- `stack::charging::charge_operand` meets its contract: 9 for an operand over the limit, else as `charge_entry`.
use mathlib.Core.Path.{refl}
use native.Mathlib.Omega.{arith}
use Rattle.paper.specs.Sizes.{entry_most}
use Rattle.paper.proofs.Limits.{limited_within}
use Rattle.stack.proofs.Charges.{operand_over, puts_as}
use Rattle.stack.proofs.charging.charge_operand.Goals as goal

pub returns-then-bytes : goal.returns-then-bytes
unfolding entry_most
returns-then-bytes c = operand_over c.args.slots.now.slotted c.args.left _ _ _ c.if-bytes.true

pub charge_entry-requires : goal.charge_entry-requires
unfolding entry_most
charge_entry-requires c = (c.requires.0, omega arith, c.requires.1)

pub returns : goal.returns
unfolding entry_most
returns c = puts_as _ _ (limited_within entry_most refl (omega arith)) c.charge_entry.ensures
