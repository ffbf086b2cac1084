use Prim.Native.Nat.{◌*◌}
use lib.ListN.{drop}
use Rattle.paper.specs.Texts.{hexed}
use Rattle.texts.proofs.Writing.{Progress}
use Rattle.texts.proofs.hex.Given as goal

abbrev pub invariant-loop-i : goal.invariant-loop-i
invariant-loop-i l = Progress l.initial.out l.out (2 * l.i) (hexed (drop l.i l.e)) (hexed l.e)
