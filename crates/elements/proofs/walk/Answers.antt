-- `elements::walk` meets its contract: each turn adds an element and the mark behind it.
use borrow.Author.Rules.{rules}
use Rattle.std.proofs.lemmas.Result.{err_from_is_err_and}
use mathlib.Core.Path.{refl}
use native.Mathlib.Omega.{arith}
use Rattle.elements.proofs.Looping.{end_inside, first_turn, turn_stopped, turn_last, turn_gather, turn_next, turn_small}
use Rattle.elements.proofs.walk.Goals as goal

pub loop-added-init : goal.loop-added-init
loop-added-init c =
    (first_turn _ _ _ _ _ c.requires.v_le_position_most.0 c.requires.v_le_position_most.1, refl)

pub slice_bounds-element-end : goal.slice_bounds-element-end
slice_bounds-element-end c = let e = end_inside _ _ _ c.loop-added.invariant.0.inside c.next_within-end.ensures in omega (arith, e.0, e.1)

pub returns-in_err-added : goal.returns-in_err-added
returns-in_err-added c =
    let p = err_from_is_err_and c.from_residual.result c.from_residual.ensures.1 in
    rw (p.1, p.2) (turn_stopped _ _ _ _ c.loop-added.invariant.0 _ c.next_within-end.ensures c.in_err-added.ensures refl)

pub returns-then-text-end : goal.returns-then-text-end
returns-then-text-end c =
    turn_last _ _ _ _ c.loop-added.invariant.0 _ c.next_within-end.ensures c.in_ok-added.ensures c.if-text-end.true refl

pub put_mark-so_far-requires : goal.put_mark-so_far-requires
put_mark-so_far-requires c =
    let inv = c.loop-added.invariant.0 in
    turn_gather _ _ _ _ inv _ c.next_within-end.ensures c.in_ok-added.ensures
    (turn_small _ _ _ inv.inside c.requires.lent.2 inv.small)

pub loop-added-preserved : goal.loop-added-preserved
loop-added-preserved c = (
  turn_next _ _ _ _ c.loop-added.invariant.0 _ c.next_within-end.ensures c.in_ok-added.ensures c.if-text-end.false
      c.put_mark-so_far.ensures.value c.put_mark-so_far.ensures.out_after c.pass-place.ensures,
  search rules,
)
