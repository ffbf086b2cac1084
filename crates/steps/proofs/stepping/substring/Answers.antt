-- `steps::stepping::substring` meets its contract: what `[]` gives of the three entries, put in their place.
use native.Mathlib.Omega.{arith}
use Rattle.paper.specs.Sizes.{entry_most}
use Rattle.stack.proofs.Putting.{entry_read}
use Rattle.stack.proofs.Charges.{gave_fits, charges_as}
use Rattle.steps.proofs.Elms.{substring_gave}
use Rattle.steps.proofs.stepping.substring.Goals as goal

pub overflow_add-taken-2 : goal.overflow_add-taken-2
unfolding entry_most
overflow_add-taken-2 c =
    let slotted = c.args.slots.now.slotted in
    omega (
      arith,
      entry_read slotted _ (omega arith) c.entry-third.ensures,
      entry_read slotted _ (omega arith) c.entry-second.ensures,
      entry_read slotted _ (omega arith) c.entry-top.ensures,
    )

pub charge_given-requires : goal.charge_given-requires
unfolding entry_most
charge_given-requires c =
    let slotted = c.args.slots.now.slotted in let room = c.requires.0 in record {
      room = (
        omega arith,
        omega (
          arith,
          entry_read slotted _ (omega arith) c.entry-third.ensures,
          entry_read slotted _ (omega arith) c.entry-second.ensures,
          entry_read slotted _ (omega arith) c.entry-top.ensures,
        ),
      );
      answer_bound = (gave_fits c.substring-answer.result entry_most _ c.substring-answer.ensures.value, omega (arith, c.requires.1, c.substring-answer.auto));
    }

pub returns : goal.returns
returns c =
    charges_as
    (substring_gave _ _ _ _ _ _ c.entry-third.ensures c.entry-second.ensures c.entry-top.ensures c.substring-answer.ensures)
    c.charge_given.ensures
