-- `give` meets its contract: an empty element, a refusal passed up, or what the number gives.
use mathlib.Core.Path.{sym, ◌∙◌}
use native.Mathlib.Omega.{arith}
use borrow.Author.Tests.{eqb-true, eqb-false}
use Rattle.std.specs.Prelude.{Ok, Err}
use Rattle.std.proofs.lemmas.Result.{err_from_is_err_and}
use Rattle.paper.specs.Sizes.{entry_most}
use Rattle.paper.specs.Numbers.{numeric}
use Rattle.paper.specs.Masks.{number_masked, mask_gives}
use Rattle.paper.proofs.Limits.{refuses_with}
use Rattle.codes.specs.Meaning.{mask_of}
use Rattle.numbers.specs.Forms.{whole}
use Rattle.numbers.proofs.FormLaws.{convertible_size, empty_stays, converts}
use Rattle.lent.proofs.Laying.{laid_none}
use Rattle.masks.proofs.LayoutLaws.{same_answer, gives}
use Rattle.masks.proofs.MaskLaws.{mask_limited}
use Rattle.masks.proofs.give.Goals as goal

pub returns-then-is_empty : goal.returns-then-is_empty
unfolding mask_gives
returns-then-is_empty c =
    let a = c.args in
    let k = mask_of a.mask in
    same_answer a.out.now (Ok 0) (sym (mask_limited k a.e.now c.requires.1))
    (gives (mask_gives k a.e.now) (empty_stays (number_masked k) a.e.now (eqb-true _ 0 (sym c.if-is_empty.ensures))) (laid_none a.out.now 0))

pub returns-in_err-convertible : goal.returns-in_err-convertible
unfolding mask_gives
returns-in_err-convertible c =
    let a = c.args in
    let k = mask_of a.mask in
    let p = err_from_is_err_and c.from_residual.result c.from_residual.ensures.1 in
    rw (p.1, p.2)
    (same_answer a.out.now (Err c.in_err-convertible.field-0.0) (sym (mask_limited k a.e.now c.requires.1))
    (refuses_with _ (converts (number_masked k) a.e.now (eqb-false _ 0 (sym c.if-is_empty.ensures)) (sym c.in_err-convertible.ensures))))

pub number_masked-requires : goal.number_masked-requires
unfolding entry_most
number_masked-requires c = (
  convertible_size (numeric c.args.e.now) (whole c.in_ok-convertible.field-0) (sym c.in_ok-convertible.ensures),
  omega (arith, c.requires),
  c.requires.1,
)

pub returns : goal.returns
unfolding mask_gives
returns c =
    let a = c.args in
    let k = mask_of a.mask in
    same_answer a.out.now c.number_masked.result
    (sym (converts (number_masked k) a.e.now (eqb-false _ 0 (sym c.if-is_empty.ensures)) (sym c.in_ok-convertible.ensures)) ∙ sym (mask_limited k a.e.now c.requires.1))
    c.number_masked.ensures
