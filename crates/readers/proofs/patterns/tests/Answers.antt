-- `patterns::tests` meets its contract: from test to test those counted and those still to be read stay the same.
use mathlib.Core.Path.{refl, sym, ◌∙◌}
use lib.ListN.{length}
use native.Mathlib.Omega.{arith}
use Rattle.std.proofs.lemmas.Result.{err_from_is_err_and}
use Rattle.readers.proofs.Answering.{read_some, passed}
use Rattle.readers.proofs.Bytes.{peeked_within}
use Rattle.readers.proofs.Skimming.{skimmed_none, skimmed_last, skimmed_more}
use Rattle.readers.proofs.PatternReads.{test_within, tests_none, tests_last, tests_more}
use Rattle.readers.proofs.patterns.tests.Goals as goal

pub returns-in_err-at : goal.returns-in_err-at
returns-in_err-at c =
    let l = c.loop-at in
    let p = err_from_is_err_and c.from_residual.result c.from_residual.ensures.1 in
    rw (p.1, p.2) (passed c.in_err-at.ensures (λ e. sym l.invariant.1 ∙ skimmed_none length _ l.count (tests_none _ _ e)))

pub overflow_add-count : goal.overflow_add-count
overflow_add-count c = omega (arith, test_within _ _ (read_some c.in_ok-at.ensures))

pub returns-then-ahead-eq41 : goal.returns-then-ahead-eq41
returns-then-ahead-eq41 c =
    let l = c.loop-at in
    let e = read_some c.in_ok-at.ensures in
    let p = c.peek-ahead.ensures in
    let within = peeked_within (test_within _ _ e).1 p in
    let last = skimmed_last length _ l.count _ 1 _ (tests_last _ _ e p c.if-ahead-eq41.true) refl within.1 in
    rw (sym l.invariant.1 ∙ last)

pub loop-at-smaller : goal.loop-at-smaller
loop-at-smaller c = omega (arith, test_within _ _ (read_some c.in_ok-at.ensures))

pub loop-at-preserved : goal.loop-at-preserved
loop-at-preserved c =
    let l = c.loop-at in
    let e = read_some c.in_ok-at.ensures in (
      omega (arith, test_within _ _ e),
      sym (skimmed_more length _ l.count 1 _ _ (tests_more _ _ e c.peek-ahead.ensures c.if-ahead-eq41.false) (λ xs. omega arith)) ∙ l.invariant.1,
    )
