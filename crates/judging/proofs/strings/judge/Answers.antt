-- `strings::judge` meets its contract: what the head of the code says, since it has no mark.
use mathlib.Core.Path.{ap, ◌∙◌}
use mathlib.Core.Option.{some}
use native.Mathlib.Omega.{arith}
use Rattle.std.proofs.lemmas.Result.{err_from_is_err_and}
use Rattle.grammar.specs.Heads.{head}
use Rattle.grammar.proofs.HeadReads.{head_first}
use Rattle.judging.proofs.Taken.{head_is, no_head}
use Rattle.judging.proofs.Judging.{judged_function, judged_single, judged_bad}
use Rattle.judging.proofs.strings.judge.Goals as goal

pub returns-in_err-first : goal.returns-in_err-first
returns-in_err-first c =
    let p = err_from_is_err_and c.from_residual.result c.from_residual.ensures.1 in
    let w = no_head (head c.args.code.now) c.in_err-first.ensures in
    rw (p.1, p.2, w.1) (judged_bad _ c.requires w.0)

pub judge_elms-requires : goal.judge_elms-requires
judge_elms-requires c =
    let h = head_first c.args.code.now _
    (head_is (head c.args.code.now) c.in_ok-first.ensures ∙ ap some c.in-Function.is) in
    omega (arith, h)

pub returns-in-Function : goal.returns-in-Function
returns-in-Function c =
    c.judge_elms.ensures ∙ judged_function _ c.requires
    (head_is (head c.args.code.now) c.in_ok-first.ensures ∙ ap some c.in-Function.is)

pub returns-in-Single : goal.returns-in-Single
returns-in-Single c =
    judged_single _ c.requires
    (head_is (head c.args.code.now) c.in_ok-first.ensures ∙ ap some c.in-Single.is) c.conversion_kind.ensures c.one_step.ensures
