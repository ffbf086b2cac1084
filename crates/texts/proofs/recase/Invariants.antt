use mathlib.Core.Bool.{false}
use lib.ListN.{drop}
use Rattle.texts.proofs.Laws.{cased}
use Rattle.texts.proofs.Writing.{Progress}
use Rattle.texts.proofs.recase.Given as goal

abbrev pub invariant-loop-i : goal.invariant-loop-i
invariant-loop-i l = Progress l.initial.out l.out l.i (cased l.case l.after_letter (drop l.i l.e)) (cased l.case false l.e)
