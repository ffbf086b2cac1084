-- `machine::running::charge_element` meets its contract: 15 with nothing put, or the bytes in the element's slot.
use Rattle.std.proofs.Common.{rules}
use Rattle.std.proofs.lemmas.Result.{err_from_is_err_and}
use mathlib.Core.Path.{◌≡◌}
use native.Mathlib.Omega.{arith}
use Rattle.paper.specs.Sizes.{entry_most}
use Rattle.machine.specs.declared.Stopped.{Stopped}
use Rattle.machine.proofs.Endings.{mapped_ok, mapped_err}
use Rattle.machine.proofs.Turns.{runs_as, runs_stopped, runs_answered}
use Rattle.machine.proofs.CodeRuns.{converting_charged, converting_over}
use Rattle.machine.proofs.running.charge_element.Goals as goal

pub charge-requires : goal.charge-requires
unfolding entry_most
charge-requires c = (c.requires.1, omega (arith, c.requires.0))

pub returns-in_err-cost : goal.returns-in_err-cost
returns-in_err-cost c =
    let p = err_from_is_err_and c.from_residual.result c.from_residual.ensures.1 in
    let q = mapped_err _ c.charge.result c.map_err.ensures.cases c.in_err-cost.was in
    let is : ◌≡◌ {A = Stopped} c.in_err-cost.field-0.0 (record { refusal = q.0; steps = c.args.meter.steps }) = search rules in
    rw (p.1, p.2, is)
    (runs_stopped q.0 c.args.meter.steps (converting_over c.args.meter _ c.requires.2 c.args.bytes.now c.charge.ensures q.1))

pub overflow_add-result : goal.overflow_add-result
overflow_add-result c =
    let is = mapped_ok _ c.charge.result c.map_err.ensures.cases c.in_ok-cost.was in
    omega (arith, (converting_charged c.args.meter _ c.requires.2 c.args.bytes.now c.charge.ensures is).0, c.ranges)

pub returns : goal.returns
returns c =
    let is = mapped_ok _ c.charge.result c.map_err.ensures.cases c.in_ok-cost.was in
    runs_as
    (converting_charged c.args.meter _ c.requires.2 c.args.bytes.now c.charge.ensures is).1
    (runs_answered c.args.slots.now.slotted _ _ c.requires.0 c.put.ensures)
