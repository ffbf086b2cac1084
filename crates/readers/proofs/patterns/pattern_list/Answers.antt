-- `patterns::pattern_list` meets its contract: from pattern to pattern the tests counted and those still to be read stay the same.
use Prim.Native.Nat.{ℕ, ◌+◌}
use mathlib.Core.Path.{◌≡◌, sym, ◌∙◌}
use mathlib.Core.List.{List, [], ◌∷◌}
use lib.ListN.{length}
use native.Mathlib.Omega.{arith}
use Rattle.std.proofs.lemmas.Result.{err_from_is_err_and}
use Rattle.paper.specs.Codes.{Pattern}
use Rattle.paper.specs.Patterns.{tests_in}
use Rattle.readers.proofs.Answering.{read_some, passed}
use Rattle.readers.proofs.Bytes.{peeked_within}
use Rattle.readers.proofs.Skimming.{skimmed_none, skimmed_last, skimmed_more, unskimmed}
use Rattle.readers.proofs.PatternReads.{pattern_found, patterns_none, patterns_last, patterns_more}
use Rattle.readers.proofs.patterns.pattern_list.Goals as goal

-- the tests of one pattern, and of it and others
sized : (x : Pattern) (v : ℕ) (xs : List Pattern) → length x ≡ v → tests_in (x ∷ xs) ≡ v + tests_in xs
unfolding tests_in
sized x v xs e = rw e

one : (x : Pattern) (v : ℕ) → length x ≡ v → tests_in (x ∷ []) ≡ v
unfolding tests_in
one x v e = omega arith

pub returns-in_err-tests : goal.returns-in_err-tests
returns-in_err-tests c =
    let s = c.args.code.now in
    let l = c.loop-tests in
    let p = err_from_is_err_and c.from_residual.result c.from_residual.ensures.1 in
    rw (p.1, p.2) (passed c.in_err-tests.ensures (λ e. sym l.invariant.1 ∙ skimmed_none tests_in _ l.total (patterns_none s l.at (unskimmed length _ _ e))))

pub overflow_add-total : goal.overflow_add-total
overflow_add-total c =
    let (x, e, f, far, within) = pattern_found _ _ _ _ (read_some c.in_ok-tests.ensures) in
    omega arith

pub returns-then-ahead-ne59 : goal.returns-then-ahead-ne59
returns-then-ahead-ne59 c =
    let l = c.loop-tests in
    let (x, e, f, far, within) = pattern_found _ _ _ _ (read_some c.in_ok-tests.ensures) in
    let last = patterns_last _ l.at e c.peek-ahead.ensures c.if-ahead-ne59.true in
    rw (sym l.invariant.1 ∙ skimmed_last tests_in _ l.total _ _ _ last (one x _ f) within)

pub loop-tests-smaller : goal.loop-tests-smaller
loop-tests-smaller c =
    let (x, e, f, far, within) = pattern_found _ _ _ _ (read_some c.in_ok-tests.ensures) in
    omega (arith, peeked_within within c.peek-ahead.ensures)

pub loop-tests-preserved : goal.loop-tests-preserved
loop-tests-preserved c =
    let l = c.loop-tests in
    let (x, e, f, far, within) = pattern_found _ _ _ _ (read_some c.in_ok-tests.ensures) in
    let p = c.peek-ahead.ensures in
    let more = patterns_more _ l.at e p c.if-ahead-ne59.false in
    (omega (arith, peeked_within within p), sym (skimmed_more tests_in _ l.total _ x _ more (λ xs. sized x _ xs f)) ∙ l.invariant.1)
