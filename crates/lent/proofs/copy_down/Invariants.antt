use lib.ListN.{take, drop}
use Rattle.lent.proofs.Laying.{Laying}
use Rattle.lent.proofs.copy_down.Given as goal

abbrev pub invariant-loop-j : goal.invariant-loop-j
invariant-loop-j l = Laying l.initial.buf l.to (take l.count (drop l.from l.initial.buf)) l.count 0 l.j l.buf
