use lib.ListN.{length}
use Rattle.lent.proofs.Laying.{Laying}
use Rattle.lent.proofs.copy_in.Given as goal

abbrev pub invariant-loop-j : goal.invariant-loop-j
invariant-loop-j l = Laying l.initial.dst l.at l.src (length l.src) 0 l.j l.dst
