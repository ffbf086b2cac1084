-- `machine::running::run_planned` meets its contract: the one step of a single code, or the codes in their turn.
use mathlib.Core.Path.{ap, sym, ◌∙◌}
use Rattle.paper.specs.Bytes.{Bytes}
use Rattle.paper.specs.Steps.{Run}
use Rattle.machine.specs.Runs.{metered}
use Rattle.machine.proofs.Turns.{runs_as}
use Rattle.machine.proofs.Plans.{plan_within, plan_run}
use Rattle.machine.proofs.running.run_planned.Goals as goal

pub single-requires : goal.single-requires
single-requires c = (
  c.requires.lent.0.work_fits,
  c.requires.lent.1,
  plan_within c.args.string.now c.requires.accepted.0 c.requires.accepted.1 (sym c.in-Some.is ∙ c.requires.lent.2),
)

pub returns-in-Some : goal.returns-in-Some
returns-in-Some c =
    runs_as
    (ap (λ (r : Run Bytes). metered c.args.here.meter r)
    (plan_run c.args.string.now c.requires.accepted.0 c.requires.accepted.1 (sym c.in-Some.is ∙ c.requires.lent.2) _ _ _))
    c.single.ensures
