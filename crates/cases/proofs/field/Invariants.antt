use Prim.Native.Nat.{◌-◌, ◌≤◌}
use mathlib.Core.Path.{◌≡◌}
use lib.ListN.{length, drop}
use Rattle.lent.specs.Scan.{piece}
use Rattle.cases.proofs.field.Given as goal

abbrev pub invariant-loop : goal.invariant-loop
invariant-loop l =
    (l.at ≤ length l.text) × (piece l.parted l.number l.text ≡ piece l.parted (l.number - l.counter) (drop l.at l.text))
