-- `stack::slots::Slots::copy` meets its contract: the bytes of one slot go to the other within the scratch, and the length with them.
use mathlib.Core.Path.{sym, ap}
use Prim.Native.Nat.{ℕ}
use native.Mathlib.Omega.{arith}
use lib.ListN.{set}
use Rattle.paper.specs.Sizes.{entry_most}
use Rattle.stack.specs.Slots.{put_in, put_length, entry_at}
use Rattle.stack.proofs.Putting.{slot_ends, slot_within, entry_length}
use Rattle.stack.proofs.slots.Slots.copy.Goals as goal

pub copy_within-requires : goal.copy_within-requires
unfolding entry_most
copy_within-requires c =
    let s = c.args.self.now.slotted in (
      slot_ends s c.args.from c.requires.0,
      omega (arith, slot_within c.args.to c.requires.1, s.fits c.args.from, s.long),
    )

pub returns : goal.returns
unfolding entry_most entry_at put_in put_length
returns c =
    let same = entry_length c.args.self.now.slotted c.args.from c.requires.0 in record {
      scratch_after = c.copy_within.ensures;
      lens_after = ap (λ (n : ℕ). set c.args.self.now.lens c.args.to n) (sym same);
    }
