-- `text::digits_text` meets its contract: the decimals, and the integer digits before them.
use native.Mathlib.Nat.{div-le_self}
use native.Mathlib.Omega.{arith}
use Rattle.paper.proofs.Numerals.{pow_pos}
use Rattle.lent.proofs.Laying.{laid_as, laid_ahead}
use Rattle.masks.proofs.PieceLaws.{length_point}
use Rattle.masks.proofs.text.digits_text.Goals as goal

pub nonzero_div-size : goal.nonzero_div-size
nonzero_div-size c = omega (arith, c.power-over.ensures, pow_pos c.args.decimals)

pub integer_text-requires : goal.integer_text-requires
integer_text-requires c =
    let a = c.args in
    omega (arith, div-le_self a.size c.power-over.result, length_point a.decimals a.size)

pub returns : goal.returns
returns c =
    laid_as (rw c.power-over.ensures) (laid_ahead c.point_text-point.ensures c.integer_text.ensures c.requires.3)
