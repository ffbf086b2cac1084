use lib.ListN.{drop}
use Rattle.paper.specs.Bytes.{only}
use Rattle.texts.specs.Codes.{kept}
use Rattle.texts.proofs.Writing.{Progress}
use Rattle.texts.proofs.keep.Given as goal

abbrev pub invariant-loop-b : goal.invariant-loop-b
invariant-loop-b l = Progress l.initial.out l.out l.n (only (kept l.class) (drop l.b-index l.e)) (only (kept l.class) l.e)
