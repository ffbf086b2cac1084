use Prim.Native.Nat.{◌+◌, ◌-◌, ◌*◌, ◌^◌, ◌≤◌}
use mathlib.Core.Path.{◌≡◌}
use Rattle.readers.specs.Places.{more_digits}
use Rattle.readers.proofs.places.more_digits.Given as goal

abbrev pub invariant-loop : goal.invariant-loop
invariant-loop l =
    ((l.number.value + 1) * 10 ^ (l.most - l.counter) ≤ 100_000)
    × (more_digits (l.most - l.counter) l.number.value l.code l.number.next ≡ more_digits l.most l.fn.first.value l.code l.fn.first.next)
