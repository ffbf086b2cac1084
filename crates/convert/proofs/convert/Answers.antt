-- `convert::convert` meets its contract: a refusal before the run, or the run and its end.
use mathlib.Core.Path.{◌≡◌, ap, ◌∙◌}
use lib.ListN.{length}
use borrow.Author.Rules.{rules}
use Rattle.paper.specs.Converting.{scratch_after}
use Rattle.convert.proofs.Stages.{at_once, run_finished}
use Rattle.convert.proofs.convert.Goals as goal

pub returns-in-Ok : goal.returns-in-Ok
returns-in-Ok c =
    let same : length c.run-walked.new.scratch ≡ length c.args.scratch.now = search rules in
    run_finished _ _ _ _ _ _ c.args.out.now c.args.scratch.now _ c.in-Ok.ensures c.run-walked.ensures c.finish.ensures.value c.finish.ensures.out_after
    (c.finish.ensures.scratch_after ∙ ap scratch_after same)

pub returns-in-Err : goal.returns-in-Err
returns-in-Err c =
    at_once _ _ _ _ _ _ c.args.out.now c.args.scratch.now _ c.in-Err.ensures c.finish-in-Err.ensures.value c.finish-in-Err.ensures.out_after
    c.finish-in-Err.ensures.scratch_after
