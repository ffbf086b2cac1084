use mathlib.Core.Path.{◌≡◌}
use lib.ListN.{drop}
use Rattle.paper.specs.Numbers.{value}
use Rattle.numbers.specs.Scans.{value_form}
use Rattle.numbers.proofs.reading.value_form.Given as goal

abbrev pub invariant-loop-b : goal.invariant-loop-b
invariant-loop-b l = value_form l.negative (value l.size (drop l.b-index l.s)) ≡ value_form l.negative (value 0 l.s)
