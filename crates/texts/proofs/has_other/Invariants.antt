use mathlib.Core.Path.{◌≡◌}
use mathlib.Core.Bool.{◌||◌}
use lib.ListN.{drop}
use Rattle.paper.specs.Bytes.{any}
use Rattle.texts.specs.Scans.{is_other}
use Rattle.texts.proofs.has_other.Given as goal

abbrev pub invariant-loop-b : goal.invariant-loop-b
invariant-loop-b l = any is_other l.e ≡ l.found || any is_other (drop l.b-index l.e)
