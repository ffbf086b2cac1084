use Prim.Native.Nat.{◌≤◌}
use mathlib.Core.Path.{◌≡◌}
use Rattle.std.specs.Slice.Iter.{chunks_exact_rest, chunks_exact_size}
use Rattle.lent.specs.Scan.{range, first_place}
use Rattle.lent.proofs.pass_blocks.Given as goal

abbrev pub invariant-loop-block : goal.invariant-loop-block
invariant-loop-block l =
    record {
      inside : l.at ≤ l.to;
      size : chunks_exact_size l.block-iterator ≡ 16;
      rest : chunks_exact_rest l.block-iterator ≡ range l.text l.at l.to;
      same : first_place l.low l.high l.text l.from l.to ≡ first_place l.low l.high l.text l.at l.to;
    }
