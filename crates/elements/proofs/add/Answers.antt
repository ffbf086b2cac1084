-- `elements::add` meets its contract: the element's refusal is passed up, its answer gathered from its slot.
use Rattle.elements.proofs.Elements.{adds_gathered, gather_fits}
use Rattle.elements.proofs.add.Goals as goal

pub gather-length-requires : goal.gather-length-requires
gather-length-requires c = gather_fits c.element.new.slots.slotted _ _ _ c.requires.lent.3 c.entry-answer.ensures

pub returns : goal.returns
returns c = adds_gathered _ _ c.element.new.slots.slotted c.in_ok-steps.ensures c.entry-answer.ensures c.gather-length.ensures.value c.gather-length.ensures.out_after
