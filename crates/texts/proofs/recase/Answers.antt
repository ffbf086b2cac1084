-- `recase` turns each byte by its case, knowing whether a letter stands before it. The loop's invariant: the rest, turned, goes behind what is written.
use mathlib.Core.Bool.{false}
use mathlib.Core.Path.{◌≡◌}
use native.Mathlib.Omega.{arith}
use lib.ListN.{length}
use Rattle.texts.proofs.Laws.{cased_next, cased_none, cased_fits, recase_gives}
use Rattle.texts.proofs.Writing.{begun, put, onto, answered}
use Rattle.texts.proofs.recase.Goals as goal

pub loop-i-init : goal.loop-i-init
loop-i-init c = begun (omega (arith, cased_fits c.args.case false c.args.e.now))

pub loop-i-preserved : goal.loop-i-preserved
loop-i-preserved c = rw (c.turn.ensures, c.is_letter-after_letter.ensures) (put (onto c.loop-i.invariant (cased_next _ _ _ _ c.loop-i-test.true)))

pub returns : goal.returns
returns c =
    let e = c.args.e.now in
    let k = c.args.case in
    let at = c.loop-i in
    let all : length e ≡ at.i = omega arith in
    rw all (answered (onto at.invariant (cased_none k at.after_letter e at.i c.loop-i-test.false)) (omega (arith, cased_fits k false e)) (recase_gives k e))
