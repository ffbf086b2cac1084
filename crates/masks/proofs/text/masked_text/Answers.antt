-- `text::masked_text` meets its contract: the pieces from the suffix to the `$`.
use Prim.Native.Nat.{◌≤◌}
use native.Mathlib.Omega.{arith}
use Rattle.codes.specs.Meaning.{credit_of, mask_of}
use Rattle.numbers.specs.Forms.{whole}
use Rattle.masks.proofs.PieceLaws.{length_after, length_alone, length_pieces, laid_text}
use Rattle.masks.proofs.text.masked_text.Goals as goal

pub digits_text-digits-requires : goal.digits_text-digits-requires
digits_text-digits-requires c =
    let a = c.args in
    omega (arith, length_after (credit_of a.mask.credits) (whole a.y))

pub put_some-sign-requires : goal.put_some-sign-requires
put_some-sign-requires c =
    let a = c.args in
    let suffix = c.after_digits-suffix.ensures.place in
    let room : 2 ≤ c.digits_text-digits.result =
    omega (arith, c.requires, length_after (credit_of a.mask.credits) (whole a.y), suffix, length_pieces a.mask.commas a.mask.decimals a.y.size (omega (arith, c.requires))) in
    omega (arith, room)

pub put_some-requires : goal.put_some-requires
put_some-requires c =
    let a = c.args in
    let suffix = c.after_digits-suffix.ensures.place in
    let room : 2 ≤ c.digits_text-digits.result =
    omega (arith, c.requires, length_after (credit_of a.mask.credits) (whole a.y), suffix, length_pieces a.mask.commas a.mask.decimals a.y.size (omega (arith, c.requires))) in
    omega (arith, room, c.digits_text-digits.ensures.place, length_alone c.sign_byte.result)

pub returns : goal.returns
unfolding mask_of
returns c =
    let a = c.args in
    laid_text (mask_of a.mask) (whole a.y) c.sign_byte.result c.then_some.result c.sign_byte.ensures c.then_some.ensures c.after_digits-suffix.ensures
    c.digits_text-digits.ensures c.put_some-sign.ensures c.put_some.ensures
