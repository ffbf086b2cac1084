-- `algebra::spelt_out` meets its contract: the tests in their order, and the elms behind an `F`.
use mathlib.Core.Path.{sym, ◌∙◌}
use native.Mathlib.Omega.{arith}
use Prim.Native.Nat.{◌≤◌}
use lib.ListN.{length, length-drop}
use lib.Dec.{lit<}
use Rattle.algebra.proofs.Ahead.{hit}
use Rattle.algebra.proofs.Telling.{spelt_long, spelt_marked, spelt_first, spelt_otherwise, spelt_so}
use Rattle.algebra.proofs.spelt_out.Goals as goal

pub returns-then-code : goal.returns-then-code
returns-then-code c = sym (spelt_long _ c.if-code.true)

pub returns-then-marked : goal.returns-then-marked
returns-then-marked c = sym (spelt_marked _ (omega (arith, c.if-code.false)) (sym c.marked.ensures ∙ c.if-marked.true))

pub returns-then-first-ne65 : goal.returns-then-first-ne65
returns-then-first-ne65 c =
    sym (spelt_first _ (omega (arith, c.if-code.false)) (sym c.marked.ensures ∙ c.if-marked.false) c.peek-first.ensures c.if-first-ne65.true)

pub expression-requires : goal.expression-requires
expression-requires c =
    let w = hit c.peek-first.ensures c.if-first-ne65.false (lit< tt) in
    record {
      inside = omega (arith, w.1, w.2);
      few = omega (arith, w.1, c.push.ensures.place, c.requires);
      enough = omega (arith, c.if-code.false, c.push.new.self.whole);
    }

pub returns-then-ne : goal.returns-then-ne
returns-then-ne c =
    sym (spelt_otherwise _ (omega (arith, c.if-code.false)) (sym c.marked.ensures ∙ c.if-marked.false) c.peek-first.ensures c.if-first-ne65.false
    (c.expression.ensures _ (omega (arith, length-drop c.peek-first.result.next c.args.code.now))) c.if-ne.ensures)

pub returns : goal.returns
returns c =
    let room : c.expression.new.text.len ≤ length c.args.text.now.bytes =
    omega (arith, c.expression.new.text.inside, c.expression.new.text.whole, c.args.text.now.whole) in
    sym (spelt_so _ (omega (arith, c.if-code.false)) (sym c.marked.ensures ∙ c.if-marked.false) c.peek-first.ensures c.if-first-ne65.false
    (c.expression.ensures _ (omega (arith, length-drop c.peek-first.result.next c.args.code.now))) (rw c.requires at c.push.ensures) room c.if-ne.ensures)
