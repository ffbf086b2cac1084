-- `stack::slots::Slots::exchange` meets its contract: three copies, each between two slots.
use Rattle.stack.proofs.Putting.{exchanged_by_copies}
use Rattle.stack.proofs.slots.Slots.exchange.Goals as goal

pub returns : goal.returns
returns c = exchanged_by_copies c.args.self.now.slotted c.args.k c.requires c.copy.ensures c.copy-2.ensures c.copy-3.ensures
