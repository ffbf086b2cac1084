-- `in_field` meets its contract: a text too wide, filled on the right, or filled on the left.
use mathlib.Core.Path.{sym, ◌∙◌}
use Prim.Native.Nat.{◌-◌}
use native.Mathlib.Nat.{zero-add}
use native.Mathlib.Omega.{arith}
use lib.ListN.{length, length-replicate}
use borrow.Author.Tests.{lt-leb}
use Rattle.paper.specs.declared.Refusal.{Refusal}
use Rattle.paper.specs.Masks.{laid_out}
use Rattle.paper.proofs.Limits.{refuses_with}
use Rattle.lent.proofs.Laying.{laid_at, laid_behind}
use Rattle.masks.proofs.LayoutLaws.{gives, fitting}
use Rattle.masks.proofs.in_field.Goals as goal

pub returns-then-width-count : goal.returns-then-width-count
unfolding laid_out
returns-then-width-count c = refuses_with Refusal.WiderThanMask (rw (lt-leb _ _ c.if-width-count.true))

pub returns-then-left : goal.returns-then-left
returns-then-left c =
    let a = c.args in
    gives _ (fitting a.left a.fill.byte a.fill.width a.text.now c.if-left.true c.if-width-count.false)
    (laid_behind (laid_at c.copy_in.ensures (sym (zero-add _)))
    (laid_at c.fill.ensures (omega (arith, length-replicate (a.fill.width - length a.text.now) a.fill.byte, c.if-width-count.false)))
    (omega arith))

pub returns-else-left : goal.returns-else-left
returns-else-left c =
    let a = c.args in
    gives _ (fitting a.left a.fill.byte a.fill.width a.text.now c.if-left.false c.if-width-count.false)
    (laid_behind (laid_at c.fill-else-left.ensures (sym (zero-add _ ∙ length-replicate _ _)))
    (laid_at c.copy_in-else-left.ensures (omega (arith, c.if-width-count.false)))
    (omega arith))
