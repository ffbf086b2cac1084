-- `cases::field` meets its contract: the fields before it are passed one by one.
use native.Mathlib.Omega.{arith}
use Rattle.cases.proofs.Fields.{field_here, field_later, field_missing}
use Rattle.cases.proofs.field.Goals as goal

pub returns-then-end-text : goal.returns-then-end-text
returns-then-end-text c =
    let l = c.loop in
    field_missing _ _ _ l.at l.counter l.invariant.0 l.invariant.1 c.place_of-end.ensures.value (omega (arith, c.loop-test.true)) (omega (arith, c.if-end-text.true))

pub loop-preserved : goal.loop-preserved
loop-preserved c =
    let l = c.loop in
    (omega (arith, c.place_of-end.ensures), field_later _ _ _ l.at l.counter l.invariant.0 l.invariant.1 c.place_of-end.ensures.value (omega (arith, c.loop-test.true)))

pub returns : goal.returns
returns c =
    let l = c.loop in field_here _ _ _ l.at l.counter l.invariant.0 l.invariant.1 c.place_of-end-2.ensures.value (omega (arith, c.loop-test.false))
