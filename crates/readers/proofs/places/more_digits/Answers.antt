-- `places::more_digits` meets its contract: from digit to digit what is still to be read stays the same, and the value stays below 100,000.
use Prim.Native.Nat.{suc, ◌+◌, ◌-◌, ◌≤◌, ◌<◌}
use mathlib.Core.Path.{◌≡◌, sym, ◌∙◌}
use native.Mathlib.Omega.{arith}
use Rattle.readers.proofs.Answering.{read_some, read_none}
use Rattle.readers.proofs.Taken.{digit_small, digits_more, digits_stop, digits_done, digits_room, digits_step}
use Rattle.readers.proofs.places.more_digits.Goals as goal

pub returns-in_default : goal.returns-in_default
returns-in_default c =
    let n = c.loop.number in
    sym (digits_stop _ n.next _ n.value (omega (arith, c.loop-test.true)) (read_none c.in_default.ensures)) ∙ c.loop.invariant.1

pub overflow_mul-number : goal.overflow_mul-number
overflow_mul-number c =
    let l = c.loop in
    let small : l.number.value < 100_000 = digits_room l.number.value _ l.invariant.0 in
    omega (arith, small)

pub overflow_add-number : goal.overflow_add-number
overflow_add-number c =
    let l = c.loop in
    let small : (c.in-Ok.d.value ≤ 9) × (l.number.value < 100_000) = (digit_small _ _ (read_some c.in-Ok.ensures), digits_room l.number.value _ l.invariant.0) in
    omega (arith, small)

pub loop-preserved : goal.loop-preserved
loop-preserved c =
    let l = c.loop in
    let left : c.args.most - l.counter ≡ suc (c.args.most - (l.counter + 1)) = omega (arith, c.loop-test.true) in
    let e = read_some c.in-Ok.ensures in
    (digits_step l.number.value _ _ _ left (digit_small _ _ e) l.invariant.0, sym (digits_more _ _ _ _ l.number.value _ _ left e) ∙ l.invariant.1)

pub returns : goal.returns
returns c = let l = c.loop in sym (digits_done _ _ _ _ (omega (arith, c.loop-test.false))) ∙ l.invariant.1
