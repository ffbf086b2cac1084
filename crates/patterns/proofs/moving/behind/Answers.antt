-- `behind` tells a literal by the flag of the place in front, by its first byte and by the rest.
use mathlib.Core.Path.{refl, ◌∙◌}
use native.Mathlib.Omega.{arith}
use Rattle.patterns.proofs.Marking.{first_differs, rest_told, zero_flag}
use Rattle.patterns.proofs.moving.behind.Goals as goal
use Rattle.patterns.proofs.moving.behind.Goals.{else-flag-ne0-via-then-flag-ne0+then-e-i+else-eq}
use Rattle.patterns.proofs.moving.behind.Goals.{else-flag-ne0-via-then-flag-ne0+else-e-i, else-flag-ne0-via-else-flag-ne0}

pub returns-then-eq : goal.returns-then-eq
returns-then-eq c =
    let a = c.args in rw (rest_told a.text.now a.e.now a.i (omega arith) (omega arith) c.if-e-i.true c.eq.ensures ∙ c.if-eq.true) refl

pub returns-else-flag-ne0 : goal.returns-else-flag-ne0
returns-else-flag-ne0 c =
    let a = c.args in elim c.else-flag-ne0.branch [
      | else-flag-ne0-via-then-flag-ne0+then-e-i+else-eq w ↦
          rw (rest_told a.text.now a.e.now a.i (omega arith) (omega arith) w.if-e-i.true w.eq.ensures ∙ w.if-eq.false) refl
      | else-flag-ne0-via-then-flag-ne0+else-e-i w ↦ rw (first_differs a.text.now a.e.now a.i (omega arith) (omega arith) w.if-e-i.false) refl
      | else-flag-ne0-via-else-flag-ne0 w ↦ zero_flag _ _ w.if-flag-ne0.false
    ]
