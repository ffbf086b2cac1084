-- `steps::stepping::push` meets its contract: the operand, or the element's slot, as the elm's step puts it.
use Rattle.stack.proofs.Charges.{charges_as}
use Rattle.steps.proofs.Elms.{attribute_on, literal_on, previous_on}
use Rattle.steps.proofs.stepping.push.Goals as goal

pub returns-in-Attribute : goal.returns-in-Attribute
returns-in-Attribute c =
    charges_as
    (attribute_on _ _ _ _ _ _ c.requires.3 c.in-Attribute.is c.operand-part.ensures)
    c.charge_operand.ensures

pub returns-in-Literal : goal.returns-in-Literal
returns-in-Literal c =
    charges_as
    (literal_on _ _ _ _ _ _ c.requires.3 c.in-Literal.is c.operand-part-in-Literal.ensures)
    c.charge_operand-in-Literal.ensures

pub returns-in-Previous : goal.returns-in-Previous
returns-in-Previous c =
    charges_as
    (previous_on _ _ _ _ _ _ c.requires.3 c.in-Previous.is c.args.slots.now.slotted)
    c.charge_copy.ensures
