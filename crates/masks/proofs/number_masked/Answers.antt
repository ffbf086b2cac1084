-- `number_masked` meets its contract: blanks for zero, a value out of range, or its text.
use mathlib.Core.Path.{◌≡◌, ap}
use native.Mathlib.Omega.{arith}
use Rattle.std.proofs.lemmas.Result.{err_from_is_err_and}
use Rattle.paper.proofs.Limits.{refuses_with}
use Rattle.paper.specs.Numbers.{Number, signed}
use Rattle.codes.specs.Meaning.{mask_of}
use Rattle.numbers.specs.Forms.{whole}
use Rattle.masks.proofs.LayoutLaws.{same_answer}
use Rattle.masks.proofs.MaskLaws.{blanked, size_ranged, beyond, laid}
use Rattle.masks.proofs.number_masked.Goals as goal

pub blank_text-requires : goal.blank_text-requires
unfolding mask_of
blank_text-requires c = let pre = c.requires in omega (arith, pre, pre.2.width)

pub returns-then-mask-x : goal.returns-then-mask-x
unfolding mask_of
returns-then-mask-x c = same_answer _ c.blank_text.result (blanked _ _ c.if-mask-x.true) c.blank_text.ensures

pub scaled-requires : goal.scaled-requires
unfolding mask_of
scaled-requires c = let pre = c.requires in omega (arith, pre, pre.2.decimals, pre.2.scale)

pub returns-in_err-size : goal.returns-in_err-size
unfolding mask_of
returns-in_err-size c =
    let p = err_from_is_err_and c.from_residual.result c.from_residual.ensures.1 in
    rw (p.1, p.2) (refuses_with _ (beyond _ _ c.if-mask-x.false _ c.in_err-size.ensures))

pub shown-requires : goal.shown-requires
unfolding mask_of signed
shown-requires c =
    let same : c.signed.result.size ≡ c.in_ok-size.size = ap (λ (w : Number). w.size) c.signed.ensures in
    (rw same (size_ranged (mask_of c.args.mask) (whole c.args.x) c.in_ok-size.size c.in_ok-size.ensures), omega (arith, c.requires), c.requires.2)

pub returns : goal.returns
unfolding mask_of signed
returns c =
    same_answer _ c.shown.result (laid _ _ c.if-mask-x.false c.in_ok-size.size c.in_ok-size.ensures) (rw c.signed.ensures at c.shown.ensures)
