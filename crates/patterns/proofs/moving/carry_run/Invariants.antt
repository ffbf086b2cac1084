use Rattle.codes.specs.Meaning.{class_of}
use Rattle.patterns.proofs.Marking.{Running}
use Rattle.patterns.proofs.moving.carry_run.Given as goal

abbrev pub invariant-loop-i : goal.invariant-loop-i
invariant-loop-i l = Running (class_of l.class) l.count l.e l.initial.reach l.run l.i l.reach
