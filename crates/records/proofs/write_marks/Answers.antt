-- `records::write_marks` meets its contract: three runs of marks, one behind the other.
use Prim.Native.Nat.{◌≤◌}
use mathlib.Core.Path.{refl}
use native.Mathlib.Omega.{arith}
use lib.ListN.{length}
use Rattle.lent.proofs.Laying.{laid_at, laid_fill, laid_behind}
use Rattle.records.specs.Scan.{marks}
use Rattle.records.proofs.write_marks.Goals as goal

pub returns : goal.returns
unfolding marks
returns c =
    let inside : c.args.at ≤ length c.args.out.now = omega arith in
    (laid_behind (laid_behind (laid_fill _ _ c.fill.ensures) (laid_fill _ _ c.fill-2.ensures) inside) (laid_at c.fill-3.ensures refl) inside).bytes
