-- `typing::month` reads three letters where the definition does.
use mathlib.Core.Path.{◌∙◌}
use Rattle.std.proofs.lemmas.Result.{err_from_is_err_and}
use Rattle.dates.proofs.NameLaws.{month_found}
use Rattle.dates.proofs.typing.month.Goals as goal

pub returns-in_err-value-clause-reads : goal.returns-in_err-value-clause-reads
returns-in_err-value-clause-reads c =
    let p = err_from_is_err_and c.from_residual.result c.from_residual.ensures.1 in
    month_found c.args.text.now c.args.at _ _ _ c.month_called.result c.if-text-at-lt3.false c.to_ascii_uppercase.ensures.value c.to_ascii_uppercase-2.ensures.value
    c.to_ascii_uppercase-3.ensures.value c.month_called.ensures.is
    ∙ rw (c.in_err-value.ensures.ok_part, p.1)

pub returns-clause-reads : goal.returns-clause-reads
returns-clause-reads c =
    month_found c.args.text.now c.args.at _ _ _ c.month_called.result c.if-text-at-lt3.false c.to_ascii_uppercase.ensures.value c.to_ascii_uppercase-2.ensures.value
    c.to_ascii_uppercase-3.ensures.value c.month_called.ensures.is
    ∙ rw c.in_ok-value.ensures.ok_part
