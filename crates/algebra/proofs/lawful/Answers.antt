-- `algebra::lawful` meets its contract: as the check says.
use mathlib.Core.Path.{◌≡◌, sym, ap, ◌∙◌}
use Rattle.std.proofs.Common.{rules}
use Rattle.std.proofs.lemmas.Result.{err_from_is_err_and}
use Rattle.paper.specs.declared.Refusal.{Refusal}
use Rattle.judging.specs.Verdicts.{verdict_in}
use Rattle.judging.proofs.Mapped.{mapped_ok, mapped_err}
use Rattle.algebra.proofs.Telling.{lawful_accepted, lawful_refused}
use Rattle.algebra.proofs.lawful.Goals as goal

pub returns-in_err-map_err : goal.returns-in_err-map_err
returns-in_err-map_err c =
    let p = err_from_is_err_and c.from_residual.result c.from_residual.ensures.1 in
    let q = mapped_err _ c.check.result c.map_err.ensures.cases c.in_err-map_err.was in
    let is : ◌≡◌ {A = Refusal} c.in_err-map_err.field-0.0 q.0.refusal = search rules in
    rw (p.1, p.2, is) (sym (lawful_refused _ (sym (ap verdict_in q.1) ∙ c.check.ensures.value)))

pub returns : goal.returns
returns c =
    let q = mapped_ok _ c.check.result c.map_err.ensures.cases c.in_ok-map_err.was in
    sym (lawful_accepted _ (sym (ap verdict_in q) ∙ c.check.ensures.value))
