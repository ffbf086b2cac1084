-- `giving::charged` meets its contract: the bytes taken, or so many tests of each place, which do not wrap.
use native.Mathlib.Omega.{arith}
use Rattle.paper.specs.Sizes.{entry_most}
use Rattle.codes.specs.Counting.{kind_of}
use Rattle.giving.proofs.Numbers.{charged_fits}
use Rattle.giving.proofs.charged.Goals as goal

pub overflow_add-result : goal.overflow_add-result
unfolding entry_most
overflow_add-result c = omega (arith, c.requires.0)

pub overflow_mul-result : goal.overflow_mul-result
unfolding entry_most kind_of
overflow_mul-result c =
    let few = rw c.in-Patterns.is at c.requires.1 in
    record { fits = omega (arith, charged_fits few c.requires.0) }
