-- `part::end_of_field` passes the separators asked for and stops at the next one. The loop's invariant: the place is i plus where the rest ends.
use mathlib.Core.Path.{◌≡◌, sym, ◌∙◌}
use native.Mathlib.Omega.{arith}
use lib.ListN.{length}
use Rattle.texts.proofs.Fields.{field_stops, field_over, field_goes, field_passes}
use Rattle.texts.proofs.part.end_of_field.Goals as goal
use Rattle.texts.proofs.part.end_of_field.Goals.{then-b-separator+else-left-eq0, else-b-separator}

pub returns-then-left-eq0 : goal.returns-then-left-eq0
returns-then-left-eq0 c =
    let at = c.loop-i in
    sym (field_stops c.args.separator c.args.e.now at.i c.loop-i-test.true c.if-b-separator.true) ∙ (rw c.if-left-eq0.true at at.invariant)

pub loop-i-preserved : goal.loop-i-preserved
loop-i-preserved c =
    let at = c.loop-i in
    let e = c.args.e.now in
    let x = c.args.separator in
    elim c.if-b-separator.branch [
      | then-b-separator+else-left-eq0 w ↦ rw w.left-is
          (sym (field_passes x e at.i at.left c.loop-i-test.true w.if-b-separator.true (omega (arith, w.if-left-eq0.false))) ∙ at.invariant)
      | else-b-separator w ↦ rw w.left-is (sym (field_goes x e at.i at.left c.loop-i-test.true w.if-b-separator.false) ∙ at.invariant)
    ]

pub returns : goal.returns
returns c =
    let at = c.loop-i in
    let all : length c.args.e.now ≡ at.i = omega arith in
    all ∙ sym (field_over c.args.separator c.args.e.now at.i at.left c.loop-i-test.false) ∙ at.invariant
