-- `convert::most_steps` meets its contract: the paper's number, and nothing wraps.
use mathlib.Core.Path.{sym}
use native.Mathlib.Omega.{arith}
use Rattle.paper.proofs.Ceiling.{ceiling_read}
use Rattle.convert.proofs.Counting.{loads_fit, counted_fit, ceiling_fits}
use Rattle.convert.proofs.most_steps.Goals as goal

pub overflow_mul-patterns : goal.overflow_mul-patterns
overflow_mul-patterns c = omega (arith, counted_fit _ c.requires)

pub overflow_mul-patterns-2 : goal.overflow_mul-patterns-2
overflow_mul-patterns-2 c = omega (arith, counted_fit _ c.requires)

pub overflow_add-patterns : goal.overflow_add-patterns
overflow_add-patterns c = omega (arith, counted_fit _ c.requires)

pub overflow_add-result : goal.overflow_add-result
overflow_add-result c = omega (arith, c.requires.record_fits)

pub overflow_mul-result : goal.overflow_mul-result
overflow_mul-result c = omega (arith, loads_fit _ c.requires)

pub overflow_mul-result-2 : goal.overflow_mul-result-2
overflow_mul-result-2 c = omega (arith, counted_fit _ c.requires)

pub overflow_add-result-2 : goal.overflow_add-result-2
overflow_add-result-2 c = omega (arith, loads_fit _ c.requires, counted_fit _ c.requires)

pub overflow_add-result-3 : goal.overflow_add-result-3
overflow_add-result-3 c = omega (arith, loads_fit _ c.requires, counted_fit _ c.requires)

pub overflow_mul-result-3 : goal.overflow_mul-result-3
overflow_mul-result-3 c = omega (arith, ceiling_fits _ c.requires)

pub returns : goal.returns
returns c = sym (ceiling_read _ _ _)
