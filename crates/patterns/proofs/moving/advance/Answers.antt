-- `advance` moves the flags on by the test.
use Prim.Native.Nat.{◌+◌, ◌-◌}
use mathlib.Core.Path.{◌≡◌}
use native.Mathlib.Omega.{arith}
use Rattle.patterns.proofs.Testing.{any_test, run_test, literal_test}
use Rattle.patterns.proofs.moving.advance.Goals as goal

pub returns-then-count-eq0 : goal.returns-then-count-eq0
returns-then-count-eq0 c = any_test _ c.in-SoMany.is c.if-count-eq0.true c.extend.ensures

pub returns-else-count-eq0 : goal.returns-else-count-eq0
returns-else-count-eq0 c = run_test _ c.in-SoMany.is c.run_on.ensures

pub returns-in-Literal : goal.returns-in-Literal
returns-in-Literal c =
    let n : c.in-Literal.start + c.in-Literal.len - c.in-Literal.start ≡ c.in-Literal.len = omega arith in
    literal_test _ (c.in-Literal.start + c.in-Literal.len - c.in-Literal.start) c.in-Literal.is n c.literal.ensures
