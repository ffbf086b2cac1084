use lib.ListN.{length}
use Rattle.patterns.specs.Reach.{Carried, starts}
use Rattle.patterns.proofs.moving.carry_text.Given as goal

abbrev pub invariant-loop-i : goal.invariant-loop-i
invariant-loop-i l = Carried (starts l.text) (length l.text) l.e l.i l.initial.reach l.reach
