-- `machine::running::charge_code` meets its contract: the refusal as it is, or the bytes in front of the work buffer as `charge_element`.
use Rattle.std.proofs.Common.{rules}
use Rattle.std.proofs.lemmas.Result.{err_from_is_err_and}
use mathlib.Core.Path.{◌≡◌}
use Rattle.machine.specs.declared.Stopped.{Stopped}
use Rattle.machine.proofs.Endings.{mapped_err}
use Rattle.machine.proofs.Turns.{runs_stopped}
use Rattle.machine.proofs.CodeRuns.{converting_refused}
use Rattle.machine.proofs.running.charge_code.Goals as goal

pub returns-in_err-n : goal.returns-in_err-n
returns-in_err-n c =
    let p = err_from_is_err_and c.from_residual.result c.from_residual.ensures.1 in
    let q = mapped_err _ c.args.answer c.map_err.ensures.cases c.in_err-n.was in
    let is : ◌≡◌ {A = Stopped} c.in_err-n.field-0.0 (record { refusal = q.0; steps = c.args.meter.steps }) = search rules in
    rw (p.1, p.2, is) (runs_stopped q.0 c.args.meter.steps (converting_refused c.args.meter _ c.requires.counted.1 _ q.1))
