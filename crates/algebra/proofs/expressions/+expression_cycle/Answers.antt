-- The proof of the cycle of calls of an expression and its operands: "An expression holds operands, and an operand in parentheses holds an expression again."
use mathlib.Core.Path.{refl, sym, ◌∙◌}
use native.Mathlib.Omega.{arith}
use lib.ListN.{length}
use lib.Dec.{lit<}
use Rattle.lent.proofs.Laying.{laid_behind}
use Rattle.algebra.specs.Expressions.{elms_in, operand_elms}
use Rattle.algebra.specs.Grammar.{brackets, operations}
use Rattle.algebra.specs.Grammar.{expression as read_expression}
use Rattle.algebra.specs.Laying.{laid, unread, pair_elms, bracket_elms, operation_elms}
use Rattle.algebra.proofs.Ahead.{hit}
use Rattle.algebra.proofs.Laying.{lays_upto, lays_unread, lays_none, lays_from, ended, room_len, room_on, room_spare}
use Rattle.algebra.proofs.Going.{going_stops}
use Rattle.algebra.proofs.Signs.{signs_missing, signs_operator}
use Rattle.algebra.proofs.Lines.{up_to_none, up_to_laid, up_to_stray, pair_none, pair_lays, base_by_parenthesis, base_by_remainder, base_fetch}
use Rattle.algebra.proofs.Lines.{remainder_stray, remainder_none, remainder_lays, bracket_lays}
use Rattle.algebra.proofs.Lines.{brackets_stop, operand_none, operand_going, operand_on, operand_ends}
use Rattle.algebra.proofs.Lines.{operation_lays, operations_stop, expression_lays, expression_none, expression_going, expression_on, expression_ends}
use Rattle.algebra.proofs.expressions.+expression_cycle.Goals as goal

pub base-up_to-requires : goal.base-up_to-requires
base-up_to-requires t c =
    let w = hit c.peek-ahead.ensures c.in-40.is (lit< tt) in
    (omega (arith, w.1, w.2), (room_on c.requires refl (omega (arith, w.1, w.2)) (omega (arith, w.1, c.requires.few)), lit< tt))

pub base-remainder-requires : goal.base-remainder-requires
base-remainder-requires t c =
    let w = hit c.peek-ahead.ensures c.in-82.is (lit< tt) in
    (omega (arith, w.1, w.2), room_on c.requires refl (omega (arith, w.1, w.2)) (omega (arith, w.1, c.requires.few)))

pub base-returns-in-40 : goal.base-returns-in-40
base-returns-in-40 t c =
    λ depth h. let w = hit c.peek-ahead.ensures c.in-40.is (lit< tt) in
    base_by_parenthesis (read_expression depth) c.peek-ahead.ensures c.in-40.is
    (c.up_to.ensures depth (omega (arith, w.1)))

pub base-returns-in-82 : goal.base-returns-in-82
base-returns-in-82 t c =
    λ depth h. let w = hit c.peek-ahead.ensures c.in-82.is (lit< tt) in
    base_by_remainder (read_expression depth) c.peek-ahead.ensures c.in-82.is
    (c.remainder.ensures depth (omega (arith, w.1)))

pub base-returns-in_default : goal.base-returns-in_default
base-returns-in_default t c =
    λ depth h. lays_from c.fetch.ensures (omega arith)
    (base_fetch (read_expression depth) c.peek-ahead.ensures c.in_default.in_default-own.rest.0.1
    c.in_default.in_default-own.rest.1)

pub bracket-returns-in_err-next : goal.bracket-returns-in_err-next
bracket-returns-in_err-next t c =
    λ from depth i h. ended c.from_residual.ensures (lays_none bracket_elms from (c.in_err-next.ensures depth h) (λ e. e))

pub bracket-sign-requires : goal.bracket-sign-requires
bracket-sign-requires t c =
    let x = lays_upto (c.in_ok-next.ensures (length c.args.code.now) (omega arith)) refl in
    omega (arith, x.few, x.inside, c.requires.few, c.requires.enough, c.pair.new.text.whole, c.args.text.now.whole)

pub bracket-push-requires : goal.bracket-push-requires
bracket-push-requires t c =
    let x = lays_upto (c.in_ok-next.ensures (length c.args.code.now) (omega arith)) refl in
    omega (arith, x.few, x.inside, c.requires.few, c.requires.enough, c.pair.new.text.whole, c.args.text.now.whole, c.sign.ensures.place, c.sign.new.self.whole)

pub bracket-returns : goal.bracket-returns
bracket-returns t c =
    let x = lays_upto (c.in_ok-next.ensures (length c.args.code.now) (omega arith)) refl in
    λ from depth i h. laid (bracket_lays (read_expression depth) i (lays_upto (c.in_ok-next.ensures depth h) refl) (room_len (room_spare c.requires))
    (laid_behind c.sign.ensures c.push.ensures
    (omega (arith, x.few, x.inside, c.requires.few, c.requires.enough, c.pair.new.text.whole, c.args.text.now.whole))))

pub expression-returns-in_err-next : goal.expression-returns-in_err-next
expression-returns-in_err-next t c =
    λ depth h. ended c.from_residual.ensures
    (expression_lays (λ d i. unread (expression_none d _ (lays_unread (c.in_err-next.ensures d i) refl))) depth h)

pub expression-loop-sign-init : goal.expression-loop-sign-init
expression-loop-sign-init t c =
    let x = lays_upto (c.in_ok-next.ensures (length c.args.code.now) (omega arith)) refl in
    (x.inside, λ u k depth f h g. g)

pub expression-returns-in_default : goal.expression-returns-in_default
expression-returns-in_default t c =
    expression_lays
    (λ depth h. laid (going_stops (operations (read_expression depth))
    (c.loop-sign.invariant.1 _ _ depth (room_len c.requires) h (expression_going depth (lays_upto (c.in_ok-next.ensures depth h) refl)))
    (operations_stop (read_expression depth) _ (signs_missing c.operator.ensures c.in_default.is))))

pub expression-operation-requires : goal.expression-operation-requires
expression-operation-requires t c =
    let x = (c.loop-sign.invariant.1 _ _ (length c.args.code.now) (room_len c.requires) (omega arith)
    (expression_going (length c.args.code.now) (lays_upto (c.in_ok-next.ensures (length c.args.code.now) (omega arith)) refl))).read in
    let o = signs_operator c.operator.ensures c.in-Some.is in (
      omega (arith, c.requires.inside, x.forward, o.forward, o.inside),
      room_on c.requires (c.loop-sign.text.whole ∙ sym c.args.text.now.whole) o.inside (omega (arith, x.few, c.requires.few, o.forward)),
    )

pub expression-returns-in_err-next-2 : goal.expression-returns-in_err-next-2
expression-returns-in_err-next-2 t c =
    let o = signs_operator c.operator.ensures c.in-Some.is in
    λ depth h. ended c.from_residual-in_err-next-2.ensures
    (expression_lays
    (λ d i. let g = (c.loop-sign.invariant.1 _ _ d (room_len c.requires) i (expression_going d (lays_upto (c.in_ok-next.ensures d i) refl))) in
    unread (expression_ends (read_expression d) g o
    (lays_unread (c.in_err-next-2.ensures _ d o.thing o.forward o.spelling (omega (arith, g.read.forward, o.forward))) refl)))
    depth h)

pub expression-loop-sign-smaller : goal.expression-loop-sign-smaller
expression-loop-sign-smaller t c =
    let o = signs_operator c.operator.ensures c.in-Some.is in
    let y = lays_upto (c.in_ok-next-2.ensures _ (length c.args.code.now) o.thing o.forward o.spelling (omega arith)) refl in
    omega (arith, y.forward, y.inside)

pub expression-loop-sign-preserved : goal.expression-loop-sign-preserved
expression-loop-sign-preserved t c =
    let x = (c.loop-sign.invariant.1 _ _ (length c.args.code.now) (room_len c.requires) (omega arith)
    (expression_going (length c.args.code.now) (lays_upto (c.in_ok-next.ensures (length c.args.code.now) (omega arith)) refl))).read in
    let o = signs_operator c.operator.ensures c.in-Some.is in (
      (lays_upto (c.in_ok-next-2.ensures _ (length c.args.code.now) o.thing o.forward o.spelling (omega arith)) refl).inside,
      λ u k depth f h g. expression_on (read_expression depth) (c.loop-sign.invariant.1 u k depth f h g) o f
          (lays_upto (c.in_ok-next-2.ensures _ depth o.thing o.forward o.spelling (omega (arith, x.forward, o.forward))) refl),
    )

pub operand-returns-in_err-next : goal.operand-returns-in_err-next
operand-returns-in_err-next t c =
    λ depth h. ended c.from_residual.ensures (unread (operand_none (read_expression depth) _ (lays_unread (c.in_err-next.ensures depth h) refl)))

pub operand-loop-ahead-init : goal.operand-loop-ahead-init
operand-loop-ahead-init t c =
    let x = lays_upto (c.in_ok-next.ensures (length c.args.code.now) (omega arith)) refl in
    (x.inside, λ u k depth f h g. g)

pub operand-returns-then-ahead-ne91 : goal.operand-returns-then-ahead-ne91
operand-returns-then-ahead-ne91 t c =
    λ depth h. laid (going_stops (brackets (read_expression depth))
    (c.loop-ahead.invariant.1 _ _ depth (room_len c.requires) h (operand_going (read_expression depth) (lays_upto (c.in_ok-next.ensures depth h) refl)))
    (brackets_stop (read_expression depth) c.peek-ahead.ensures c.if-ahead-ne91.true))

pub operand-bracket-requires : goal.operand-bracket-requires
operand-bracket-requires t c =
    let x = (c.loop-ahead.invariant.1 _ _ (length c.args.code.now) (room_len c.requires) (omega arith)
    (operand_going (read_expression (length c.args.code.now)) (lays_upto (c.in_ok-next.ensures (length c.args.code.now) (omega arith)) refl))).read in
    let w = hit c.peek-ahead.ensures c.if-ahead-ne91.false (lit< tt) in (
      omega (arith, w.1, w.2, x.forward),
      room_on c.requires (c.loop-ahead.text.whole ∙ sym c.args.text.now.whole) (omega (arith, w.1, w.2)) (omega (arith, w.1, x.few, c.requires.few)),
    )

pub operand-returns-in_err-next-2 : goal.operand-returns-in_err-next-2
operand-returns-in_err-next-2 t c =
    let w = hit c.peek-ahead.ensures c.if-ahead-ne91.false (lit< tt) in
    λ depth h. let g = (c.loop-ahead.invariant.1 _ _ depth (room_len c.requires) h
    (operand_going (read_expression depth) (lays_upto (c.in_ok-next.ensures depth h) refl))) in
    ended c.from_residual-in_err-next-2.ensures (unread (operand_ends (read_expression depth) g c.peek-ahead.ensures c.if-ahead-ne91.false
    (lays_unread (c.in_err-next-2.ensures c.loop-ahead.next depth (omega (arith, w.1)) (omega (arith, g.read.forward, w.1))) refl)))

pub operand-loop-ahead-smaller : goal.operand-loop-ahead-smaller
operand-loop-ahead-smaller t c =
    let w = hit c.peek-ahead.ensures c.if-ahead-ne91.false (lit< tt) in
    let y = lays_upto (c.in_ok-next-2.ensures c.loop-ahead.next (length c.args.code.now) (omega (arith, w.1)) (omega arith)) refl in
    omega (arith, y.forward, y.inside)

pub operand-loop-ahead-preserved : goal.operand-loop-ahead-preserved
operand-loop-ahead-preserved t c =
    let x = (c.loop-ahead.invariant.1 _ _ (length c.args.code.now) (room_len c.requires) (omega arith)
    (operand_going (read_expression (length c.args.code.now)) (lays_upto (c.in_ok-next.ensures (length c.args.code.now) (omega arith)) refl))).read in
    let w = hit c.peek-ahead.ensures c.if-ahead-ne91.false (lit< tt) in (
      (lays_upto (c.in_ok-next-2.ensures c.loop-ahead.next (length c.args.code.now) (omega (arith, w.1)) (omega arith)) refl).inside,
      λ u k depth f h g. operand_on (read_expression depth) (c.loop-ahead.invariant.1 u k depth f h g) c.peek-ahead.ensures c.if-ahead-ne91.false f
          (lays_upto (c.in_ok-next-2.ensures _ depth (omega (arith, w.1)) (omega (arith, x.forward, w.1))) refl),
    )

pub operation-returns-in_err-next : goal.operation-returns-in_err-next
operation-returns-in_err-next t c =
    λ from depth o i e h. ended c.from_residual.ensures (lays_none (operation_elms o) from (c.in_err-next.ensures depth h) (λ z. z))

pub operation-sign-requires : goal.operation-sign-requires
operation-sign-requires t c =
    let x = lays_upto (c.in_ok-next.ensures (length c.args.code.now) (omega arith)) refl in
    omega (arith, x.few, x.inside, c.requires.few, c.requires.enough, c.operand.new.text.whole, c.args.text.now.whole)

pub operation-returns : goal.operation-returns
operation-returns t c =
    λ from depth o i e h. laid (operation_lays (read_expression depth) o e i (lays_upto (c.in_ok-next.ensures depth h) refl)
    (room_len (room_spare c.requires)) c.sign.ensures)

pub pair-returns-in_err-next : goal.pair-returns-in_err-next
pair-returns-in_err-next t c =
    λ depth h. ended c.from_residual.ensures (lays_none pair_elms _ (c.in_err-next.ensures depth h) (pair_none (read_expression depth) _ _))

pub pair-up_to-requires-2 : goal.pair-up_to-requires-2
pair-up_to-requires-2 t c =
    let x = lays_upto (c.in_ok-next.ensures (length c.args.code.now) (omega arith)) refl in (
      omega (arith, c.requires.0.inside, x.forward, x.inside),
      (room_on c.requires.0 (c.up_to.new.text.whole ∙ sym c.args.text.now.whole) x.inside (omega (arith, x.few, c.requires.0.few)), c.requires.1),
    )

pub pair-returns : goal.pair-returns
pair-returns t c =
    λ depth h. let x = lays_upto (c.in_ok-next.ensures depth h) refl in
    pair_lays (read_expression depth) _ x (room_len c.requires.0) (c.up_to-2.ensures depth (omega (arith, x.forward)))

pub remainder-returns-then-ahead-ne40 : goal.remainder-returns-then-ahead-ne40
remainder-returns-then-ahead-ne40 t c =
    λ depth h. unread (remainder_stray (read_expression depth) c.peek-ahead.ensures c.if-ahead-ne40.true)

pub remainder-pair-requires : goal.remainder-pair-requires
remainder-pair-requires t c =
    let w = hit c.peek-ahead.ensures c.if-ahead-ne40.false (lit< tt) in
    (omega (arith, w.1, w.2), (room_on c.requires refl (omega (arith, w.1, w.2)) (omega (arith, w.1, c.requires.few)), lit< tt))

pub remainder-returns-in_err-next : goal.remainder-returns-in_err-next
remainder-returns-in_err-next t c =
    λ depth h. let w = hit c.peek-ahead.ensures c.if-ahead-ne40.false (lit< tt) in
    ended c.from_residual.ensures (lays_none operand_elms _ (c.in_err-next.ensures depth (omega (arith, w.1)))
    (remainder_none (read_expression depth) c.peek-ahead.ensures c.if-ahead-ne40.false))

pub remainder-sign-requires : goal.remainder-sign-requires
remainder-sign-requires t c =
    let w = hit c.peek-ahead.ensures c.if-ahead-ne40.false (lit< tt) in
    let x = lays_upto (c.in_ok-next.ensures (length c.args.code.now) (omega arith)) refl in
    omega (arith, w.1, x.few, x.inside, c.requires.few, c.requires.enough, c.pair.new.text.whole, c.args.text.now.whole)

pub remainder-returns : goal.remainder-returns
remainder-returns t c =
    λ depth h. let w = hit c.peek-ahead.ensures c.if-ahead-ne40.false (lit< tt) in
    laid (remainder_lays (read_expression depth) c.peek-ahead.ensures c.if-ahead-ne40.false
    (lays_upto (c.in_ok-next.ensures depth (omega (arith, w.1))) refl) (room_len c.requires) c.sign.ensures)

pub up_to-returns-in_err-next : goal.up_to-returns-in_err-next
up_to-returns-in_err-next t c =
    λ depth h. ended c.from_residual.ensures (lays_none elms_in _ (c.in_err-next.ensures depth h) (up_to_none (read_expression depth) _ _))

pub up_to-returns-then-last-close : goal.up_to-returns-then-last-close
up_to-returns-then-last-close t c =
    λ depth h. unread (up_to_stray (read_expression depth) (lays_upto (c.in_ok-next.ensures depth h) refl) c.peek-last.ensures c.if-last-close.true)

pub up_to-returns : goal.up_to-returns
up_to-returns t c =
    λ depth h. laid (up_to_laid (read_expression depth) (lays_upto (c.in_ok-next.ensures depth h) refl) c.peek-last.ensures c.if-last-close.false c.requires.1)
