-- `laid_out` meets its contract: the text alone, or in its field.
use mathlib.Core.Path.{sym}
use native.Mathlib.Nat.{zero-add}
use Rattle.paper.specs.Masks.{laid_out}
use Rattle.lent.proofs.Laying.{laid_at}
use Rattle.masks.specs.Bounds.{field_width}
use Rattle.masks.proofs.LayoutLaws.{same_answer, gives}
use Rattle.masks.proofs.laid_out.Goals as goal

pub in_field-requires : goal.in_field-requires
unfolding field_width
in_field-requires c = rw c.in-Some.is at c.requires.1

pub returns-in-Some : goal.returns-in-Some
returns-in-Some c = same_answer _ c.in_field.result (rw c.in-Some.is) c.in_field.ensures

pub returns : goal.returns
unfolding laid_out
returns c = gives _ (rw c.in_default.is) (laid_at c.copy_in.ensures (sym (zero-add _)))
