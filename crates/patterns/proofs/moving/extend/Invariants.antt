use Rattle.codes.specs.Meaning.{class_of}
use Rattle.patterns.proofs.Marking.{Extended}
use Rattle.patterns.proofs.moving.extend.Given as goal

abbrev pub invariant-loop-j : goal.invariant-loop-j
invariant-loop-j l = Extended (class_of l.class) l.e l.initial.reach l.j l.reach l.carried
