-- `carry_run` goes from right to left: the run that goes on from place i is known, and the places from i on are carried over theirs.
use native.Mathlib.Omega.{arith}
use Rattle.patterns.proofs.Marking.{running_start, running_next}
use Rattle.patterns.proofs.moving.carry_run.Goals as goal

pub loop-i-init : goal.loop-i-init
loop-i-init c = running_start _ _ _ _ c.requires.0

pub loop-i-preserved : goal.loop-i-preserved
loop-i-preserved c = running_next _ c.loop-i.invariant (omega arith) c.requires.0 (omega (arith, c.loop-i.auto.reach)) c.longer-run.ensures c.if_long.ensures
