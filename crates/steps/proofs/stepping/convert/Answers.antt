-- `steps::stepping::convert` meets its contract: what the code gives of the entry, put in its place.
use native.Mathlib.Omega.{arith}
use Rattle.paper.specs.Sizes.{entry_most}
use Rattle.stack.proofs.Putting.{entry_read}
use Rattle.stack.proofs.Charges.{gave_fits, charges_as}
use Rattle.giving.proofs.Numbers.{tests_within}
use Rattle.steps.proofs.Elms.{converted_gave}
use Rattle.steps.proofs.stepping.convert.Goals as goal

pub charged-taken-requires : goal.charged-taken-requires
charged-taken-requires c = (entry_read c.args.slots.now.slotted _ (omega arith) c.entry-top.ensures, tests_within c.requires.1)

pub give-answer-requires : goal.give-answer-requires
give-answer-requires c = (entry_read c.args.slots.now.slotted _ (omega arith) c.entry-top.ensures, c.requires.2, c.requires.1)

pub charge_given-requires : goal.charge_given-requires
unfolding entry_most
charge_given-requires c =
    record {
      room = (c.requires.0, omega (arith, c.charged-taken.ensures.upper_bound));
      answer_bound = (gave_fits c.give-answer.result entry_most _ c.give-answer.ensures.value, omega (arith, c.requires.2, c.give-answer.auto));
    }

pub returns : goal.returns
returns c =
    charges_as (converted_gave _ _ _ _ _ _ _ _ c.entry-top.ensures c.give-answer.ensures c.charged-taken.ensures.value) c.charge_given.ensures
