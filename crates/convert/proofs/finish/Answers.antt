-- `convert::finish` meets its contract: zeros behind the answer, or throughout, and in the scratch.
use Prim.Native.Nat.{ℕ, ◌≤◌}
use mathlib.Core.Path.{ap, ◌∙◌}
use lib.ListN.{length}
use borrow.Author.Rules.{rules}
use Rattle.paper.specs.Converting.{Ending}
use Rattle.convert.specs.Finishing.{finished_out}
use Rattle.convert.proofs.Answering.{filled}
use Rattle.convert.proofs.Stages.{zero_scratch}
use Rattle.convert.proofs.finish.Goals as goal

pub returns-clause-out_after : goal.returns-clause-out_after
returns-clause-out_after c =
    let out = c.args.out.now in
    let e = c.unwrap_or-length.ensures in
    let inside : c.unwrap_or-length.result ≤ length c.args.out.now = search rules in
    rw e at c.fill.ensures ∙ filled out c.fitted-converted.result.answer (rw e at inside)
    ∙ ap (λ (x : Ending ℕ). finished_out out x.answer) c.fitted-converted.ensures

pub returns-clause-scratch_after : goal.returns-clause-scratch_after
returns-clause-scratch_after c = c.clear.ensures ∙ zero_scratch _
