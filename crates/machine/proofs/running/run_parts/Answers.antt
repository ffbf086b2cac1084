-- `machine::running::run_parts` meets its contract: each turn runs the code up to the next mark; a refusal or the last code's answer is the run's.
use Rattle.std.proofs.lemmas.Result.{err_from_is_err_and}
use mathlib.Core.Path.{◌∙◌}
use native.Mathlib.Omega.{arith}
use Rattle.machine.proofs.Parts.{part_ends, part_well, part_short, part_stops, part_last, part_more}
use Rattle.machine.proofs.running.run_parts.Goals as goal

pub slice_bounds-code-count : goal.slice_bounds-code-count
slice_bounds-code-count c = (part_ends _ _ _ _ _ _ c.loop-counted.invariant.0 c.code_end-end.ensures).0

pub slice_bounds-code-start : goal.slice_bounds-code-start
slice_bounds-code-start c = (part_ends _ _ _ _ _ _ c.loop-counted.invariant.0 c.code_end-end.ensures).0

pub slice_bounds-code-end : goal.slice_bounds-code-end
slice_bounds-code-end c = (part_ends _ _ _ _ _ _ c.loop-counted.invariant.0 c.code_end-end.ensures).1

pub run_code-requires : goal.run_code-requires
run_code-requires c =
    let part = c.loop-counted.invariant.0 in
    (part.lent, part.counted, part_well _ _ _ _ _ _ part c.code_end-end.ensures, part_short _ _ _ _ _ _ part c.code_end-end.ensures)

pub returns-in_err-counted : goal.returns-in_err-counted
returns-in_err-counted c =
    let p = err_from_is_err_and c.from_residual.result c.from_residual.ensures.1 in
    rw (p.1, p.2) (part_stops _ _ _ _ _ _ c.loop-counted.invariant.0 c.code_end-end.ensures c.in_err-counted.ensures)

pub returns-then-end-string : goal.returns-then-end-string
returns-then-end-string c =
    part_last _ _ _ _ _ _ c.loop-counted.invariant.0 c.code_end-end.ensures c.in_ok-counted.ensures c.if-end-string.true

pub loop-counted-smaller : goal.loop-counted-smaller
loop-counted-smaller c = omega (arith, part_ends _ _ _ _ _ _ c.loop-counted.invariant.0 c.code_end-end.ensures)

pub loop-counted-preserved : goal.loop-counted-preserved
loop-counted-preserved c =
    let here = c.loop-counted.invariant in (
      part_more _ _ _ _ _ _ here.0 c.code_end-end.ensures c.in_ok-counted.ensures c.run_code.auto.work c.if-end-string.false,
      c.run_code.auto.work ∙ here.1,
    )
