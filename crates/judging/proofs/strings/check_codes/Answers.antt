-- `strings::check_codes` meets its contract: from code to code what the rest gives stays the same; two bytes go with each step counted, so no count wraps.
use Prim.Native.Nat.{◌-◌}
use mathlib.Core.Path.{◌≡◌, sym, ap, ◌∙◌}
use native.Mathlib.Omega.{arith}
use lib.ListN.{take, drop, length-take}
use Rattle.std.proofs.Common.{rules}
use Rattle.std.proofs.lemmas.Result.{err_from_is_err_and}
use Rattle.paper.specs.Answers.{told}
use Rattle.judging.specs.declared.BadCode.{BadCode}
use Rattle.judging.proofs.Mapped.{mapped_ok, mapped_err}
use Rattle.judging.proofs.Tallying.{no_step, together_steps}
use Rattle.judging.proofs.Turns.{turn_fault, turn_last, turn_more, turns_start, mark_within, marks_clear, marks_stray}
use Rattle.judging.proofs.Sizes.{judged_sized}
use Rattle.judging.proofs.strings.check_codes.Goals as goal

pub loop-counts-init : goal.loop-counts-init
loop-counts-init c = (omega arith, omega (arith, no_step), omega arith, turns_start c.args.code.now)

pub returns-then-stray : goal.returns-then-stray
returns-then-stray c =
    let l = c.loop-counts in
    sym (marks_stray _ l.at l.invariant.0 c.first_within-end.ensures l.counts l.number (sym c.stray.ensures ∙ c.if-stray.true)) ∙ l.invariant.3

pub slice_bounds-judge-count : goal.slice_bounds-judge-count
slice_bounds-judge-count c = (mark_within _ c.loop-counts.at c.loop-counts.invariant.0 c.first_within-end.ensures).0

pub slice_bounds-judge-start : goal.slice_bounds-judge-start
slice_bounds-judge-start c = (mark_within _ c.loop-counts.at c.loop-counts.invariant.0 c.first_within-end.ensures).0

pub slice_bounds-judge-end : goal.slice_bounds-judge-end
slice_bounds-judge-end c = (mark_within _ c.loop-counts.at c.loop-counts.invariant.0 c.first_within-end.ensures).1

pub judge-requires : goal.judge-requires
judge-requires c =
    let l = c.loop-counts in
    (marks_clear _ l.at l.invariant.0 c.first_within-end.ensures (sym c.stray.ensures ∙ c.if-stray.false)).1

pub returns-in_err-more : goal.returns-in_err-more
returns-in_err-more c =
    let l = c.loop-counts in
    let clear = marks_clear _ l.at l.invariant.0 c.first_within-end.ensures (sym c.stray.ensures ∙ c.if-stray.false) in
    let p = err_from_is_err_and c.from_residual.result c.from_residual.ensures.1 in
    let q = mapped_err _ c.judge.result c.map_err.ensures.cases c.in_err-more.was in
    let is : ◌≡◌ {A = BadCode} c.in_err-more.field-0.0 (record { refusal = q.0; code = l.number }) = search rules in
    rw (p.1, p.2, is) (sym (turn_fault _ l.at l.counts l.number l.invariant.0 clear.0 c.judge.ensures _ (ap told q.1)) ∙ l.invariant.3)

pub add-counts-requires : goal.add-counts-requires
add-counts-requires c =
    let l = c.loop-counts in
    let end = c.first_within-end.result in
    let code = take (end - l.at) (drop l.at c.args.code.now) in
    let sized = judged_sized code _ (sym c.judge.ensures ∙ ap told (mapped_ok _ c.judge.result c.map_err.ensures.cases c.in_ok-more.was)) in
    let within = mark_within c.args.code.now l.at l.invariant.0 c.first_within-end.ensures in
    omega (arith, sized, within, length-take (end - l.at) (drop l.at c.args.code.now), l.invariant.1)

pub returns-then-end-code : goal.returns-then-end-code
returns-then-end-code c =
    let l = c.loop-counts in
    let clear = marks_clear _ l.at l.invariant.0 c.first_within-end.ensures (sym c.stray.ensures ∙ c.if-stray.false) in
    let lawful = ap told (mapped_ok _ c.judge.result c.map_err.ensures.cases c.in_ok-more.was) in
    sym (turn_last _ l.at l.counts l.number l.invariant.0 clear.0 c.judge.ensures lawful c.add-counts.ensures c.if-end-code.true) ∙ l.invariant.3

pub overflow_add-at : goal.overflow_add-at
overflow_add-at c = omega (arith, mark_within c.args.code.now c.loop-counts.at c.loop-counts.invariant.0 c.first_within-end.ensures)

pub overflow_add-number : goal.overflow_add-number
overflow_add-number c = omega (arith, mark_within c.args.code.now c.loop-counts.at c.loop-counts.invariant.0 c.first_within-end.ensures)

pub loop-counts-smaller : goal.loop-counts-smaller
loop-counts-smaller c = omega (arith, mark_within c.args.code.now c.loop-counts.at c.loop-counts.invariant.0 c.first_within-end.ensures)

pub loop-counts-preserved : goal.loop-counts-preserved
loop-counts-preserved c =
    let l = c.loop-counts in
    let end = c.first_within-end.result in
    let code = take (end - l.at) (drop l.at c.args.code.now) in
    let clear = marks_clear _ l.at l.invariant.0 c.first_within-end.ensures (sym c.stray.ensures ∙ c.if-stray.false) in
    let lawful = ap told (mapped_ok _ c.judge.result c.map_err.ensures.cases c.in_ok-more.was) in
    let sized = judged_sized code _ (sym c.judge.ensures ∙ lawful) in
    let within = mark_within c.args.code.now l.at l.invariant.0 c.first_within-end.ensures in
    let long = length-take (end - l.at) (drop l.at c.args.code.now) in (
      omega (arith, within),
      omega (arith, within, sized, long, together_steps _ _ c.add-counts.ensures),
      omega (arith, within),
      sym (turn_more _ l.at l.counts l.number l.invariant.0 clear.0 c.judge.ensures lawful c.add-counts.ensures c.if-end-code.false) ∙ l.invariant.3,
    )
