use Prim.Native.Nat.{◌-◌}
use lib.ListN.{length, take}
use mathlib.Core.List.{map}
use Rattle.lent.proofs.Laying.{Laying}
use Rattle.cases.specs.Tables.{shown_byte}
use Rattle.cases.proofs.draw.Given as goal

abbrev pub invariant-loop-j : goal.invariant-loop-j
invariant-loop-j l = Laying l.initial.line 0 (take (length l.initial.line - 0) (map shown_byte l.text)) l.n 0 l.j l.line
