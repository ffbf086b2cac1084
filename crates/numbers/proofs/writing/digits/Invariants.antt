use mathlib.Core.List.{◌++◌}
use mathlib.Core.Path.{◌≡◌}
use Prim.Native.Nat.{◌+◌}
use lib.ListN.{length, take, drop}
use Rattle.paper.specs.Numbers.{digits}
use Rattle.numbers.proofs.writing.digits.Given as goal

abbrev pub invariant-loop-i : goal.invariant-loop-i
invariant-loop-i l =
    (length l.out ≡ length l.initial.out) × (take (l.at + l.i) l.out ≡ take (l.at + l.i) l.initial.out)
    × (digits l.i l.rest ++ drop (l.at + l.i) l.out ≡ digits l.k l.n ++ drop (l.at + l.k) l.initial.out)
