-- `extend` moves the flags on over any number of bytes of a class: the places in front of j are moved on, and `carried` leads on to j.
use mathlib.Core.Path.{◌≡◌}
use native.Mathlib.Omega.{arith}
use lib.ListN.{length}
use Rattle.patterns.proofs.Marking.{extended_next, extended_moved}
use Rattle.patterns.proofs.moving.extend.Goals as goal

pub loop-j-preserved : goal.loop-j-preserved
loop-j-preserved c = extended_next c.loop-j.invariant (omega arith) c.requires c.loop-j-test.true c.mark.ensures

pub returns : goal.returns
returns c =
    let l = c.loop-j in
    let here : length c.args.e.now ≡ l.j = omega (arith, l.auto.j-end, c.loop-j-test.false) in
    rw here (extended_moved l.invariant (omega (arith, l.auto.j-end)) c.requires c.loop-j-test.false)
