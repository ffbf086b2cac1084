-- `records::write_rest` meets its contract: the new bytes, the rest of the record and zeros, one behind the other.
use Prim.Native.Nat.{◌≤◌}
use native.Mathlib.Omega.{arith}
use mathlib.Core.Path.{refl, ◌∙◌}
use lib.ListN.{length}
use Rattle.lent.proofs.Laying.{laid_at, laid_behind}
use Rattle.records.proofs.write_rest.Goals as goal

pub returns : goal.returns
returns c =
    let inside : c.args.at ≤ length c.args.out.now = omega arith in
    rw (c.copy_in-2.auto.dst ∙ c.copy_in.auto.dst)
    at (laid_behind (laid_behind (laid_at c.copy_in.ensures refl) (laid_at c.copy_in-2.ensures refl) inside) (laid_at c.fill.ensures refl) inside).bytes
