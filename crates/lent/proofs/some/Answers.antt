-- `lent::some` meets its contract: the flag has what the bytes passed tell, and the rest tells the rest.
use mathlib.Core.Path.{sym, ◌∙◌}
use mathlib.Core.Bool.{not}
use lib.Dec.{eqb}
use Rattle.lent.proofs.Scans.{any_hit, any_miss, any_all}
use Rattle.lent.proofs.some.Goals.{then-test, else-test}
use Rattle.lent.proofs.some.Goals as goal

pub loop-b-preserved : goal.loop-b-preserved
loop-b-preserved g c p h =
    let text = c.args.text.now in
    let l = c.loop-b in
    elim c.if-test.branch [
      | then-test w ↦ rw w.found-is (any_hit p text (not (eqb l.found 0)) l.b-index (l.invariant p h) c.loop-b-test.true (sym (h _ _ c.test.ensures) ∙ w.if-test.true))
      | else-test w ↦ rw w.found-is (any_miss p text (not (eqb l.found 0)) l.b-index (l.invariant p h) c.loop-b-test.true (sym (h _ _ c.test.ensures) ∙ w.if-test.false))
    ]

pub returns : goal.returns
returns g c p h =
    let l = c.loop-b in
    any_all p c.args.text.now (not (eqb l.found 0)) l.b-index (l.invariant p h) c.loop-b-test.false
