-- `strings::judge_elms` meets its contract: from elm to elm what the rest gives stays the same. An elm takes two bytes at least for its step
-- and each of its tests, so no count wraps.
use mathlib.Core.Path.{refl, sym, ◌∙◌}
use native.Mathlib.Omega.{arith}
use Rattle.std.proofs.lemmas.Result.{err_from_is_err_and}
use Rattle.grammar.specs.Reading.{elm}
use Rattle.grammar.proofs.Parted.{elm_within}
use Rattle.grammar.proofs.Counted.{elm_counted}
use Rattle.judging.proofs.Taken.{read_is, unread_is}
use Rattle.judging.proofs.Tallying.{no_step, after_steps, after_held}
use Rattle.judging.proofs.Sizes.{elm_sized}
use Rattle.judging.proofs.Judging.{finished_none, finished_last, finished_more, finished_stray}
use Rattle.judging.proofs.strings.judge_elms.Goals as goal

pub loop-read-init : goal.loop-read-init
loop-read-init c = (c.requires, omega arith, omega (arith, no_step), refl)

pub returns-in_err-read : goal.returns-in_err-read
returns-in_err-read c =
    let l = c.loop-read in
    let p = err_from_is_err_and c.from_residual.result c.from_residual.ensures.1 in
    let w = unread_is (elm c.args.code.now l.at) c.in_err-read.ensures in
    rw (p.1, p.2, w.1) (sym (finished_none _ l.at l.invariant.0 l.tally w.0) ∙ l.invariant.3)

pub tally_after-tally-requires : goal.tally_after-tally-requires
tally_after-tally-requires c =
    let l = c.loop-read in
    let read = read_is (elm c.args.code.now l.at) c.in_ok-read.ensures in
    (l.invariant.1, omega (arith, elm_within _ l.at l.invariant.0 _ _ read, elm_sized _ l.at l.invariant.0 _ _ read))

pub returns-then-read-code : goal.returns-then-read-code
returns-then-read-code c =
    let l = c.loop-read in
    let read = read_is (elm c.args.code.now l.at) c.in_ok-read.ensures in
    c.judgement.ensures
    ∙ (sym (finished_last _ l.at l.invariant.0 l.tally _ _ read (c.tally_after-tally.ensures _ (elm_counted _ l.at read)) c.if-read-code.true) ∙ l.invariant.3)

pub bounds-code-read : goal.bounds-code-read
bounds-code-read c =
    let l = c.loop-read in
    omega (arith, elm_within _ l.at l.invariant.0 _ _ (read_is (elm c.args.code.now l.at) c.in_ok-read.ensures))

pub returns-then-code-read-ne59 : goal.returns-then-code-read-ne59
returns-then-code-read-ne59 c =
    let l = c.loop-read in
    let read = read_is (elm c.args.code.now l.at) c.in_ok-read.ensures in
    let within = elm_within _ l.at l.invariant.0 _ _ read in
    sym (finished_stray _ l.at l.invariant.0 l.tally _ _ read (c.tally_after-tally.ensures _ (elm_counted _ l.at read))
    (omega (arith, within)) c.if-code-read-ne59.true)
    ∙ l.invariant.3

pub loop-read-smaller : goal.loop-read-smaller
loop-read-smaller c =
    let l = c.loop-read in
    omega (arith, elm_within _ l.at l.invariant.0 _ _ (read_is (elm c.args.code.now l.at) c.in_ok-read.ensures))

pub loop-read-preserved : goal.loop-read-preserved
loop-read-preserved c =
    let l = c.loop-read in
    let read = read_is (elm c.args.code.now l.at) c.in_ok-read.ensures in
    let within = elm_within _ l.at l.invariant.0 _ _ read in
    let g = c.tally_after-tally.ensures _ (elm_counted _ l.at read) in (
      omega (arith, within),
      after_held _ _ g l.invariant.1,
      omega (arith, within, elm_sized _ l.at l.invariant.0 _ _ read, after_steps _ _ g),
      sym (finished_more _ l.at l.invariant.0 l.tally _ _ read g (omega (arith, within)) c.if-code-read-ne59.false) ∙ l.invariant.3,
    )
