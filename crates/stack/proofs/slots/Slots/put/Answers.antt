-- `stack::slots::Slots::put` meets its contract: one copy into the slot, and its length.
use mathlib.Core.Path.{refl}
use Rattle.paper.specs.Sizes.{entry_most}
use Rattle.stack.specs.Slots.{put_in, put_length}
use Rattle.stack.proofs.Putting.{room}
use Rattle.stack.proofs.slots.Slots.put.Goals as goal

pub copy_in-requires : goal.copy_in-requires
unfolding entry_most
copy_in-requires c = let s = c.args.self.now in room s.slotted c.args.k c.args.src.now c.requires.0 c.requires.1

pub returns : goal.returns
unfolding entry_most put_in put_length
returns c = record { scratch_after = c.copy_in.ensures; lens_after = refl }
