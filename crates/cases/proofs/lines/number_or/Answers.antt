-- `lines::number_or` meets its contract: an empty field names none.
use mathlib.Core.Path.{sym, ◌∙◌}
use Rattle.cases.specs.Tables.{number_or}
use Rattle.cases.proofs.lines.number_or.Goals as goal

pub returns-then-is_empty : goal.returns-then-is_empty
unfolding number_or
returns-then-is_empty c = rw (sym c.field-text.ensures) (rw (sym c.is_empty.ensures ∙ c.if-is_empty.true))

pub returns : goal.returns
unfolding number_or
returns c = rw (sym c.field-text.ensures) (rw (sym c.is_empty.ensures ∙ c.if-is_empty.false) c.number.ensures)
