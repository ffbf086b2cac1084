-- `text::integer_text` meets its contract. The invariant: the last `count` digits are laid, with their commas, and `rest` is what stands
-- before them. The measure is `rest`.
use native.Mathlib.Omega.{arith}
use Rattle.lent.proofs.Laying.{laid_as}
use Rattle.masks.proofs.PieceLaws.{alone_when}
use Rattle.masks.proofs.GroupLaws.{turned_none, turned_room, turned_again, turned_all}
use Rattle.masks.proofs.text.integer_text.Goals as goal

pub loop-rest-init : goal.loop-rest-init
loop-rest-init c = turned_none _ _ _ _ c.requires.0

pub put_some-place-requires : goal.put_some-place-requires
put_some-place-requires c =
    let l = c.loop-rest in
    omega (arith, turned_room l.invariant (omega arith) (omega arith), l.invariant.laid.place)

pub put-place-requires-in-loop-rest : goal.put-place-requires-in-loop-rest
put-place-requires-in-loop-rest c =
    let l = c.loop-rest in
    let comma = laid_as (alone_when _ _ _ c.then_some.ensures) c.put_some-place.ensures in
    omega (arith, turned_room l.invariant (omega arith) (omega arith), l.invariant.laid.place, comma.place)

pub loop-rest-preserved : goal.loop-rest-preserved
loop-rest-preserved c =
    let comma = laid_as (alone_when _ _ _ c.then_some.ensures) c.put_some-place.ensures in
    turned_again c.loop-rest.invariant (omega arith) (omega arith) (omega arith) comma c.put-place-in-loop-rest.ensures

pub returns : goal.returns
returns c = turned_all c.loop-rest.invariant c.loop-rest-test.false (omega arith) c.put-place.ensures
