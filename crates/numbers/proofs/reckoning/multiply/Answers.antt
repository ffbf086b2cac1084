-- `reckoning::multiply` meets its contract: the product in range, and then its quotient.
use mathlib.Core.Path.{◌≡◌, refl, sym, ap, ◌∙◌}
use mathlib.Core.Bool.{Bool, true, false, not, beq}
use Prim.Native.Nat.{◌*◌, ◌≤◌}
use native.Mathlib.Omega.{arith}
use borrow.Author.Tests.{ltb-true, ltb-false, lt-leb}
use Rattle.paper.specs.Sizes.{number_most}
use Rattle.paper.specs.Numbers.{Number, differ, signed, quotient, natural, ranged, times}
use Rattle.paper.proofs.Numerals.{pow_pos}
use Rattle.numbers.specs.Forms.{whole}
use Rattle.numbers.specs.Reckonings.{operated, reckoning}
use Rattle.numbers.proofs.ReckoningLaws.{product_scaled}
use Rattle.numbers.proofs.reckoning.multiply.Goals as goal

apart : (a b : Bool) → not (beq a b) ≡ differ a b
apart true true = refl
apart true false = refl
apart false true = refl
apart false false = refl

pub returns-then-passes : goal.returns-then-passes
unfolding operated reckoning ranged times signed natural
returns-then-passes c = rw (lt-leb _ number_most (ltb-true _ _ (sym c.passes.ensures ∙ c.if-passes.true)))

pub overflow_mul-x : goal.overflow_mul-x
unfolding operated reckoning ranged times signed natural
overflow_mul-x c =
    let within : c.args.x.size * c.args.y.size ≤ number_most = ltb-false _ _ (sym c.passes.ensures ∙ c.if-passes.false) in
    omega (arith, within)

pub quotient-requires : goal.quotient-requires
unfolding operated reckoning ranged times signed natural
quotient-requires c = omega (arith, ap (λ (w : Number). w.size) c.signed-scale.ensures, c.power.ensures, pow_pos c.args.n)

pub returns : goal.returns
unfolding operated reckoning ranged times signed natural
returns c =
    let within : c.args.x.size * c.args.y.size ≤ number_most = ltb-false _ _ (sym c.passes.ensures ∙ c.if-passes.false) in
    let a = c.args in
    c.ranged.ensures
    ∙ product_scaled (whole a.x) (whole a.y) a.n within (c.signed-product.ensures ∙ rw (apart a.x.negative a.y.negative)) c.power.ensures
    (c.quotient.ensures ∙ ap (quotient (whole c.signed-product.result)) c.signed-scale.ensures)
