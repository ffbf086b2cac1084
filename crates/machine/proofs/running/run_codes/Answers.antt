-- `machine::running::run_codes` meets its contract: an empty string leaves the element; any other is run by its plan.
use mathlib.Core.Path.{ap}
use Rattle.paper.specs.Checking.{Checked}
use Rattle.machine.specs.Runs.{codes_outcome}
use Rattle.machine.proofs.Turns.{runs_as}
use Rattle.machine.proofs.Parts.{no_codes, checked_short, checked_parts}
use Rattle.machine.proofs.running.run_codes.Goals as goal

pub returns-then-string-eq0 : goal.returns-then-string-eq0
returns-then-string-eq0 c = no_codes _ _ _ _ c.if-string-eq0.true

pub run_planned-requires-clause-accepted : goal.run_planned-requires-clause-accepted
run_planned-requires-clause-accepted c =
    (rw (checked_parts c.args.string.now c.requires.2 c.if-string-eq0.false) at c.requires.2, checked_short _ c.requires.2)

pub returns : goal.returns
returns c =
    let a = c.args in
    runs_as
    (ap (λ (x : Checked). codes_outcome a.item.now x a.here.place a.here.meter a.slots.now.scratch.now a.slots.now.lens)
    (checked_parts a.string.now c.requires.2 c.if-string-eq0.false))
    c.run_planned.ensures
