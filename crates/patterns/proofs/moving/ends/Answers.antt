-- `ends` tells whether the element's end is reached behind the test: a literal by its place alone, any other test by the flag there.
use Prim.Native.Nat.{◌+◌, ◌-◌}
use mathlib.Core.Path.{◌≡◌}
use native.Mathlib.Omega.{arith}
use Rattle.patterns.proofs.Testing.{literal_told}
use Rattle.patterns.proofs.moving.ends.Goals as goal

pub returns-in-Literal : goal.returns-in-Literal
returns-in-Literal c =
    let n : c.in-Literal.start + c.in-Literal.len - c.in-Literal.start ≡ c.in-Literal.len = omega arith in
    literal_told _ (c.in-Literal.start + c.in-Literal.len - c.in-Literal.start) c.in-Literal.is n c.ends_with.ensures
