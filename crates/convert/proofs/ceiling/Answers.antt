-- `convert::ceiling` meets its contract: the figures of an accepted string are small.
use native.Mathlib.Omega.{arith}
use Rattle.convert.proofs.Counting.{figures}
use Rattle.convert.proofs.ceiling.Goals as goal

pub overflow_add-m : goal.overflow_add-m
overflow_add-m c = omega (arith, (figures _ _ _ _ _ c.in_ok-counts.ensures c.part.ensures.bytes c.inner_marks-m.ensures).elements)

pub most_steps-requires : goal.most_steps-requires
most_steps-requires c = figures _ _ _ _ _ c.in_ok-counts.ensures c.part.ensures.bytes c.inner_marks-m.ensures
