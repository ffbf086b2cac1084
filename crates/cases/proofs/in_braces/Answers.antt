-- `cases::in_braces` meets its contract: one byte, or many.
use mathlib.Core.Path.{refl}
use Rattle.cases.proofs.Spelling.{one_byte, many_bytes}
use Rattle.cases.proofs.in_braces.Goals as goal

pub returns-in-None : goal.returns-in-None
returns-in-None c = (refl, one_byte _ c.field.ensures c.number-n.ensures c.field-2.ensures c.in-None.ensures.value c.byte_of.ensures)

pub returns-in-Some : goal.returns-in-Some
returns-in-Some c = (refl, many_bytes _ c.field.ensures c.number-n.ensures c.field-2.ensures c.in-Some.ensures.value)
