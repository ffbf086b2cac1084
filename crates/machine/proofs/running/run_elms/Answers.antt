-- `machine::running::run_elms` meets its contract: each turn reads an elm, takes its step and counts it; the last leaves the stack.
use Rattle.std.proofs.Common.{rules}
use Rattle.std.proofs.lemmas.Result.{err_from_is_err_and}
use mathlib.Core.Path.{◌≡◌, refl, sym, ◌∙◌}
use native.Mathlib.Omega.{arith}
use Rattle.machine.specs.declared.Stopped.{Stopped}
use Rattle.machine.proofs.Endings.{mapped_ok, mapped_err, read_is, read_there}
use Rattle.machine.proofs.Turns.{turn_first, turn_not, turn_room, turn_elm, turn_place, turn_stops, turn_counted, turn_more, turn_last}
use Rattle.machine.proofs.running.run_elms.Goals as goal

pub loop-taken-init : goal.loop-taken-init
loop-taken-init c = (turn_first _ _ _ _ _ _ _ c.requires.0 c.requires.1 c.requires.2 c.requires.3 c.requires.4, refl)

pub unwrap-read-requires : goal.unwrap-read-requires
unwrap-read-requires c = rw c.elm.ensures (read_there _ (turn_not _ _ _ _ _ _ _ c.loop-taken.invariant.0))

pub step-requires : goal.step-requires
step-requires c =
    let turn = c.loop-taken.invariant.0 in
    let elm = read_is _ (sym c.unwrap-read.ensures ∙ c.elm.ensures) in
    (turn.lent, turn_elm _ _ _ _ _ _ _ turn elm, turn.few, turn_room _ _ _ _ _ _ _ turn elm)

pub returns-in_err-taken : goal.returns-in_err-taken
returns-in_err-taken c =
    let p = err_from_is_err_and c.from_residual.result c.from_residual.ensures.1 in
    let q = mapped_err _ c.step.result c.map_err.ensures.cases c.in_err-taken.was in
    let is : ◌≡◌ {A = Stopped} c.in_err-taken.field-0.0 (record { refusal = q.0; steps = c.loop-taken.steps }) = search rules in
    let elm = read_is _ (sym c.unwrap-read.ensures ∙ c.elm.ensures) in
    rw (p.1, p.2, is) (turn_stops _ _ _ _ _ _ _ c.loop-taken.invariant.0 elm c.step.ensures q.1)

pub overflow_add-steps : goal.overflow_add-steps
overflow_add-steps c =
    let taken = mapped_ok _ c.step.result c.map_err.ensures.cases c.in_ok-taken.was in
    omega (
      arith,
      turn_counted _ _ _ _ _ _ _ c.loop-taken.invariant.0 (read_is _ (sym c.unwrap-read.ensures ∙ c.elm.ensures)) c.step.ensures taken,
      c.ranges,
    )

pub returns-then-read-code : goal.returns-then-read-code
returns-then-read-code c =
    let elm = read_is _ (sym c.unwrap-read.ensures ∙ c.elm.ensures) in
    let taken = mapped_ok _ c.step.result c.map_err.ensures.cases c.in_ok-taken.was in
    turn_last _ _ _ _ _ _ _ c.loop-taken.invariant.0 elm c.step.ensures taken c.loop-taken.slots.slotted c.if-read-code.true

pub overflow_add-at : goal.overflow_add-at
overflow_add-at c =
    omega (arith, turn_place _ _ _ _ _ _ _ c.loop-taken.invariant.0 (read_is _ (sym c.unwrap-read.ensures ∙ c.elm.ensures)), c.well_formed)

pub loop-taken-smaller : goal.loop-taken-smaller
loop-taken-smaller c =
    omega (arith, turn_place _ _ _ _ _ _ _ c.loop-taken.invariant.0 (read_is _ (sym c.unwrap-read.ensures ∙ c.elm.ensures)))

pub loop-taken-preserved : goal.loop-taken-preserved
loop-taken-preserved c =
    let here = c.loop-taken.invariant in
    let elm = read_is _ (sym c.unwrap-read.ensures ∙ c.elm.ensures) in
    let taken = mapped_ok _ c.step.result c.map_err.ensures.cases c.in_ok-taken.was in (
      turn_more _ _ _ _ _ _ _ here.0 elm c.step.ensures taken c.loop-taken.slots.slotted c.step.auto.work c.if-read-code.false,
      c.step.auto.work ∙ here.1,
    )
