use mathlib.Core.Path.{◌≡◌}
use Prim.Native.Nat.{◌*◌, ◌≤◌}
use lib.ListN.{length, drop}
use Rattle.std.specs.Iterator.Adapters.{enumerate_source, enumerate_count}
use Rattle.std.specs.Slice.Iter.{chunks_exact_rest, chunks_exact_size}
use Rattle.texts.specs.Scans.{decoded}
use Rattle.texts.proofs.Writing.{Progress}
use Rattle.texts.proofs.decode.Given as goal

abbrev pub invariant-loop-i : goal.invariant-loop-i
invariant-loop-i l =
    record {
      size : chunks_exact_size (enumerate_source l.i-iterator) ≡ 2;
      rest : chunks_exact_rest (enumerate_source l.i-iterator) ≡ drop (2 * enumerate_count l.i-iterator) l.e;
      inside : 2 * enumerate_count l.i-iterator ≤ length l.e;
      laid : Progress l.initial.out l.out (enumerate_count l.i-iterator) (decoded (drop (2 * enumerate_count l.i-iterator) l.e)) (decoded l.e);
    }
