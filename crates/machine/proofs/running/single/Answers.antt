-- `machine::running::single` meets its contract: what the code gives on the element, put in its place.
use mathlib.Core.Path.{ap}
use native.Mathlib.Omega.{arith}
use Rattle.paper.specs.Bytes.{Bytes}
use Rattle.paper.specs.Sizes.{entry_most}
use Rattle.paper.specs.Steps.{Run}
use Rattle.stack.proofs.Putting.{entry_read}
use Rattle.stack.proofs.Charges.{gave_fits}
use Rattle.giving.proofs.Numbers.{tests_within}
use Rattle.machine.specs.Runs.{metered}
use Rattle.machine.proofs.Turns.{runs_as}
use Rattle.machine.proofs.CodeRuns.{single_gave, charge_takes}
use Rattle.machine.proofs.running.single.Goals as goal

pub charged-taken-requires : goal.charged-taken-requires
charged-taken-requires c = (entry_read c.args.slots.now.slotted _ (omega arith) c.entry-element.ensures, tests_within c.requires.2)

pub give-answer-requires : goal.give-answer-requires
give-answer-requires c = (entry_read c.args.slots.now.slotted _ (omega arith) c.entry-element.ensures, c.requires.0, c.requires.2)

pub charge_code-requires : goal.charge_code-requires
charge_code-requires c =
    record { counted = (charge_takes c.charged-taken.ensures.upper_bound, c.requires.1); answer_bound = (gave_fits _ entry_most _ c.give-answer.ensures.value, omega (arith, c.requires.0, c.give-answer.auto)) }

pub returns : goal.returns
returns c =
    let a = c.args in
    runs_as
    (ap (λ (r : Run Bytes). metered a.meter r)
    (single_gave _ _ _ a.conversion _ _ c.entry-element.ensures c.give-answer.ensures c.charged-taken.ensures.value))
    c.charge_code.ensures
