use mathlib.Core.List.{map}
use lib.ListN.{length}
use Rattle.paper.specs.Program.{drawn}
use Rattle.lent.proofs.Laying.{Laying}
use Rattle.console.proofs.draw.Given as goal

abbrev pub invariant-loop-j : goal.invariant-loop-j
invariant-loop-j l = Laying l.initial.line l.at (map drawn l.text) (length l.text) 0 l.j l.line
