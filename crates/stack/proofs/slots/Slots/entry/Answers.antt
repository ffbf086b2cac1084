-- `stack::slots::Slots::entry` meets its contract: the slot's bytes lie within the scratch.
use Prim.Native.Nat.{◌*◌}
use native.Mathlib.Omega.{arith}
use lib.ListN.{get_or}
use Rattle.paper.specs.Sizes.{entry_most}
use Rattle.stack.specs.Slots.{entry_at}
use Rattle.stack.proofs.Putting.{slot_ends, from_to}
use Rattle.stack.proofs.slots.Slots.entry.Goals as goal

pub overflow_add-to : goal.overflow_add-to
unfolding entry_most
overflow_add-to c = let s = c.args.self.now in omega (arith, slot_ends s.slotted c.args.k c.requires)

pub slice_bounds-result-end : goal.slice_bounds-result-end
unfolding entry_most
slice_bounds-result-end c = let s = c.args.self.now in slot_ends s.slotted c.args.k c.requires

pub returns : goal.returns
unfolding entry_most entry_at
returns c =
    let a = c.args in
    from_to a.self.now.scratch.now (a.k * entry_most) (get_or a.self.now.lens a.k 0)
