-- `machine::running::function` meets its contract: the elms' refusal as it is, or the top of the stack that they leave.
use Rattle.std.proofs.lemmas.Result.{err_from_is_err_and}
use native.Mathlib.Omega.{arith}
use Rattle.stack.proofs.Putting.{entry_fits}
use Rattle.machine.proofs.Turns.{runs_as, runs_answered, function_stops, function_held, function_answers}
use Rattle.machine.proofs.running.function.Goals as goal

pub returns-in_err-stretch : goal.returns-in_err-stretch
returns-in_err-stretch c =
    let p = err_from_is_err_and c.from_residual.result c.from_residual.ensures.1 in
    rw (p.1, p.2) (function_stops _ _ c.in_err-stretch.ensures)

pub returns : goal.returns
returns c =
    let left = c.in_ok-stretch.ensures in
    let held = function_held _ _ left in
    runs_as (function_answers _ _ left) (runs_answered c.run_elms.new.slots.slotted _ _ (entry_fits c.run_elms.new.slots.slotted _ (omega (arith, held))) c.copy.ensures)
