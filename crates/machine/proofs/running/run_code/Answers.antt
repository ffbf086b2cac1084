-- `machine::running::run_code` meets its contract: the elms of an F code, or one step on the element.
use mathlib.Core.Path.{sym, ap, ◌∙◌}
use mathlib.Core.Option.{some}
use native.Mathlib.Omega.{arith}
use Rattle.paper.specs.Bytes.{Bytes}
use Rattle.paper.specs.Steps.{Run}
use Rattle.grammar.proofs.HeadReads.{head_first}
use Rattle.machine.specs.Runs.{metered}
use Rattle.machine.proofs.Endings.{head_is, head_there}
use Rattle.machine.proofs.Turns.{runs_as}
use Rattle.machine.proofs.CodeRuns.{function_code, single_code, single_within, bad_code}
use Rattle.machine.proofs.running.run_code.Goals as goal

pub unwrap-requires : goal.unwrap-requires
unwrap-requires c = rw c.head.ensures (head_there _ (bad_code c.args.code.now c.requires.2))

pub function-requires : goal.function-requires
function-requires c =
    let is = head_is _ (sym c.unwrap.ensures ∙ c.head.ensures) ∙ ap some c.in-Function.is in
    (c.requires.0, omega (arith, head_first c.args.code.now _ is), c.requires.1, (function_code c.args.code.now c.requires.2 is).0, c.requires.3)

pub single-requires : goal.single-requires
single-requires c =
    let is = head_is _ (sym c.unwrap.ensures ∙ c.head.ensures) ∙ ap some c.in-Single.is in
    (c.requires.0.work_fits, c.requires.1, single_within c.args.code.now c.requires.2 c.requires.3 is)

pub returns-in-Function : goal.returns-in-Function
returns-in-Function c =
    let is = head_is _ (sym c.unwrap.ensures ∙ c.head.ensures) ∙ ap some c.in-Function.is in
    runs_as
    (ap (λ (r : Run Bytes). metered c.args.here.meter r) ((function_code c.args.code.now c.requires.2 is).1 _))
    c.function.ensures

pub returns-in-Single : goal.returns-in-Single
returns-in-Single c =
    let is = head_is _ (sym c.unwrap.ensures ∙ c.head.ensures) ∙ ap some c.in-Single.is in
    runs_as
    (ap (λ (r : Run Bytes). metered c.args.here.meter r) (single_code c.args.code.now c.requires.2 c.requires.3 is _))
    c.single.ensures
