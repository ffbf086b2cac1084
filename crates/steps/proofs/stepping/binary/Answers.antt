-- `steps::stepping::binary` meets its contract: what the operator gives of the two entries, put in their place.
use native.Mathlib.Omega.{arith}
use Rattle.paper.specs.Sizes.{entry_most}
use Rattle.stack.proofs.Putting.{entry_read}
use Rattle.steps.proofs.Operands.{operator_scale}
use Rattle.stack.proofs.Charges.{gave_fits, charges_as}
use Rattle.steps.proofs.Elms.{binary_gave}
use Rattle.steps.proofs.stepping.binary.Goals as goal

pub charge_given-requires : goal.charge_given-requires
unfolding entry_most
charge_given-requires c =
    let slotted = c.args.slots.now.slotted in let room = c.requires.0 in record {
      room = (
        omega arith,
        omega (
          arith,
          entry_read slotted _ (omega arith) c.entry-second.ensures,
          entry_read slotted _ (omega arith) c.entry-top.ensures,
        ),
      );
      answer_bound = (gave_fits c.binary-answer.result entry_most _ c.binary-answer.ensures.value, omega (arith, c.requires.2, c.binary-answer.auto));
    }

pub returns : goal.returns
returns c =
    charges_as
    (binary_gave _ _ _ _ _ _ _ c.entry-second.ensures c.entry-top.ensures c.binary-answer.ensures)
    c.charge_given.ensures
