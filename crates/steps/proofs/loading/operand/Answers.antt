-- `steps::loading::operand` meets its contract: a part of the record, or of the code, or none.
use native.Mathlib.Omega.{arith}
use Rattle.steps.proofs.Operands.{literal_ends, attribute_operand, literal_operand, previous_operand}
use Rattle.steps.proofs.loading.operand.Goals as goal

pub returns-in-Attribute : goal.returns-in-Attribute
returns-in-Attribute c = attribute_operand _ _ c.in-Attribute.is c.load.ensures

pub returns-in-Literal : goal.returns-in-Literal
returns-in-Literal c = literal_operand _ _ c.in-Literal.is

pub returns-in-Previous : goal.returns-in-Previous
returns-in-Previous c = previous_operand _ _ c.in-Previous.is
