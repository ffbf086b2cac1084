-- `algebra::shown_text` meets its contract: the F text is judged where it stands.
use mathlib.Core.Path.{◌∙◌}
use Rattle.std.proofs.lemmas.Result.{err_from_is_err_and}
use Rattle.algebra.proofs.Telling.{shown_refused, shown_is}
use Rattle.algebra.proofs.shown_text.Goals as goal

pub returns-in_err-spelt_out : goal.returns-in_err-spelt_out
returns-in_err-spelt_out c =
    let p = err_from_is_err_and c.from_residual.result c.from_residual.ensures.1 in
    rw (p.1, p.2) (shown_refused c.args.code.now c.in_err-spelt_out.ensures)

pub returns : goal.returns
returns c = rw c.as_slice.ensures at c.lawful.ensures ∙ shown_is c.args.code.now c.in_ok-spelt_out.ensures
