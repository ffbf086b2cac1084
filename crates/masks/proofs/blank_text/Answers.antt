-- `blank_text` meets its contract: nothing, or blanks of the full width.
use mathlib.Core.Path.{sym, ◌∙◌}
use native.Mathlib.Nat.{zero-add}
use native.Mathlib.Omega.{arith}
use lib.ListN.{length-replicate}
use Rattle.paper.specs.Masks.{blank_text}
use Rattle.lent.proofs.Laying.{laid_none, laid_at}
use Rattle.masks.specs.Bounds.{field_width}
use Rattle.masks.proofs.LayoutLaws.{gives}
use Rattle.masks.proofs.blank_text.Goals as goal

pub fill-requires : goal.fill-requires
unfolding field_width
fill-requires c = let wide = rw c.in-Some.is at c.requires in omega (arith, wide)

pub returns-in_default : goal.returns-in_default
unfolding blank_text
returns-in_default c = gives _ (rw c.in_default.is) (laid_none _ 0)

pub returns : goal.returns
unfolding blank_text
returns c = gives _ (rw c.in-Some.is) (laid_at c.fill.ensures (sym (zero-add _ ∙ length-replicate _ _)))
