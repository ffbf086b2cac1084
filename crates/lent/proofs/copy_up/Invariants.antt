use lib.ListN.{take, drop}
use Rattle.lent.proofs.Laying.{Laying}
use Rattle.lent.proofs.copy_up.Given as goal

abbrev pub invariant-loop-j : goal.invariant-loop-j
invariant-loop-j l = Laying l.initial.buf l.to (take l.count (drop l.from l.initial.buf)) l.count l.j l.count l.buf

abbrev pub decreases-loop-j : goal.decreases-loop-j
decreases-loop-j l = l.j
