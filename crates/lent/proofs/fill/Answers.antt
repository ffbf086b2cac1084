-- `lent::fill` meets its contract: the part between is `count` times the byte.
use mathlib.Core.Path.{◌≡◌}
use native.Mathlib.Omega.{arith}
use Prim.Native.Nat.{◌+◌, ◌-◌}
use lib.ListN.{replicate, length-replicate}
use Rattle.lent.proofs.Laws.{over_part, length_from}
use Rattle.lent.proofs.fill.Goals as goal

pub returns : goal.returns
returns c =
    let a = c.args in
    let n : a.at + a.count - a.at ≡ a.count = omega arith in
    rw (n, c.fill.ensures.after (λ y e. e), n, length_from a.buf.now a.at a.count c.requires)
    (over_part a.buf.now a.at a.count (replicate a.count a.b) (length-replicate a.count a.b))
