use mathlib.Core.Path.{◌≡◌}
use Prim.Native.Nat.{◌+◌}
use lib.ListN.{drop}
use Rattle.texts.specs.Scans.{field_end}
use Rattle.texts.proofs.part.end_of_field.Given as goal

abbrev pub invariant-loop-i : goal.invariant-loop-i
invariant-loop-i l = l.i + field_end l.separator l.left (drop l.i l.e) ≡ field_end l.separator l.fields l.e
