use Prim.Native.Nat.{◌≤◌}
use mathlib.Core.Path.{◌≡◌}
use lib.ListN.{length, drop}
use Rattle.std.specs.Slice.Iter.{chunks_exact_rest, chunks_exact_size}
use Rattle.lent.specs.Scan.{range}
use Rattle.records.specs.Scan.{skip}
use Rattle.records.proofs.skip_blocks.Given as goal

abbrev pub invariant-loop-block : goal.invariant-loop-block
invariant-loop-block l =
    record {
      inside : l.at ≤ length l.item;
      size : chunks_exact_size l.block-iterator ≡ 16;
      rest : chunks_exact_rest l.block-iterator ≡ range l.item l.at (length l.item);
      same : skip l.mark.byte (drop l.from l.item) l.from l.n ≡ skip l.mark.byte (drop l.at l.item) l.at l.left;
    }
