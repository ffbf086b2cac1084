-- `records::write_front` meets its contract: the record up to the spot, and the marks behind it.
use mathlib.Core.Path.{refl, sym, ◌∙◌}
use native.Mathlib.Omega.{arith}
use native.Mathlib.Nat.{zero-add, sub-zero}
use lib.Seq.{length-take-le}
use Rattle.lent.proofs.Laying.{laid_at, laid_behind}
use Rattle.records.proofs.write_front.Goals as goal

pub returns-clause-out_after : goal.returns-clause-out_after
returns-clause-out_after c =
    (laid_behind (laid_at (rw sub-zero at c.copy_in.ensures) (sym (zero-add _ ∙ length-take-le _ _ c.requires.0))) (laid_at c.write_marks.ensures refl)
    (omega arith)).bytes
