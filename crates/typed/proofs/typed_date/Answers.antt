-- `typed_date` meets its contract: over 512 bytes, a mark, or what the head of the code says.
use mathlib.Core.Path.{sym, ap, ◌∙◌}
use mathlib.Core.Option.{some}
use Rattle.std.proofs.lemmas.Result.{err_from_is_err_and}
use Rattle.typed.proofs.Typed.{head_found, typed_long, typed_marked, typed_function, typed_bad, typed_single}
use Rattle.typed.proofs.typed_date.Goals as goal

pub returns-then-code : goal.returns-then-code
returns-then-code c = typed_long _ _ c.if-code.true

pub returns-then-marked : goal.returns-then-marked
returns-then-marked c = typed_marked _ _ c.if-code.false (sym c.marked.ensures ∙ c.if-marked.true)

pub returns-in_err-conversion : goal.returns-in_err-conversion
returns-in_err-conversion c =
    let p = err_from_is_err_and c.from_residual.result c.from_residual.ensures.1 in
    rw (p.1, p.2) (typed_bad _ _ c.if-code.false (sym c.marked.ensures ∙ c.if-marked.false) c.in_err-conversion.ensures)

pub returns-in_default : goal.returns-in_default
returns-in_default c =
    typed_function _ _ c.if-code.false (sym c.marked.ensures ∙ c.if-marked.false) (head_found _ c.in_ok-conversion.ensures ∙ ap some c.in_default.is)

pub returns : goal.returns
returns c =
    c.typed_by.ensures _ ∙ typed_single _ _ c.if-code.false (sym c.marked.ensures ∙ c.if-marked.false) (head_found _ c.in_ok-conversion.ensures ∙ ap some c.in-Single.is)
