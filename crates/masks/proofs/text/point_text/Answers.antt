-- `text::point_text` meets its contract: the decimals, and a point before them.
use native.Mathlib.Omega.{arith}
use Rattle.lent.proofs.Laying.{laid_as, laid_none, laid_ahead}
use Rattle.masks.proofs.PieceLaws.{laid_digits, no_point, pointed}
use Rattle.masks.proofs.text.point_text.Goals as goal

pub returns-then-decimals-eq0 : goal.returns-then-decimals-eq0
returns-then-decimals-eq0 c = laid_as (no_point _ _ c.if-decimals-eq0.true) (laid_none _ _)

pub returns : goal.returns
returns c =
    laid_as
    (pointed c.args.decimals c.args.size c.if-decimals-eq0.false)
    (laid_ahead (laid_digits _ _ _ _ _ (omega (arith, c.requires)) c.digits.ensures) c.put.ensures c.requires.2)
