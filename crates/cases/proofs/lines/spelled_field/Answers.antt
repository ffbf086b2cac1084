-- `lines::spelled_field` meets its contract: what the field spells.
use Rattle.cases.proofs.lines.spelled_field.Goals as goal

pub returns : goal.returns
returns c = rw c.field.ensures at c.spelled.ensures
