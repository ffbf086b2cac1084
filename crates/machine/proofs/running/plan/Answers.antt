-- `machine::running::plan` meets its contract: way by way.
use mathlib.Core.Path.{ap, ◌∙◌}
use mathlib.Core.Option.{some}
use Rattle.machine.proofs.Endings.{head_is, head_none}
use Rattle.machine.proofs.Plans.{plan_function, plan_single, plan_bad}
use Rattle.machine.proofs.running.plan.Goals as goal

pub returns-in-Ok-Single : goal.returns-in-Ok-Single
returns-in-Ok-Single c =
    plan_single _ (head_is _ c.in-Ok-Single.ensures ∙ ap some c.in-Ok-Single.field-0-is) c.code_end.ensures c.then_some.ensures

pub returns-in-Ok-Function : goal.returns-in-Ok-Function
returns-in-Ok-Function c = plan_function _ (head_is _ c.in-Ok-Function.ensures ∙ ap some c.in-Ok-Function.field-0-is)

pub returns-in-Err : goal.returns-in-Err
returns-in-Err c = plan_bad _ (head_none _ c.in-Err.ensures)
