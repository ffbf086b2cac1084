-- `shown` meets its contract: the text in its buffer, from its place to the end, laid out.
use mathlib.Core.Path.{ap}
use lib.ListN.{drop, length-take}
use native.Mathlib.Omega.{arith}
use Prim.Native.Nat.{◌-◌}
use Rattle.paper.specs.Masks.{laid_out}
use Rattle.codes.specs.Meaning.{fill_of, mask_of}
use Rattle.masks.proofs.LayoutLaws.{same_answer}
use Rattle.lent.proofs.Laying.{laid_read}
use Rattle.masks.proofs.shown.Goals as goal

pub masked_text-at-requires : goal.masked_text-at-requires
unfolding mask_of
masked_text-at-requires c = omega (arith, c.requires.2.decimals)

pub laid_out-requires : goal.laid_out-requires
unfolding mask_of
laid_out-requires c =
    omega (arith, c.requires, c.requires.2.width, length-take (33 - c.masked_text-at.result) (drop c.masked_text-at.result c.masked_text-at.new.text))

pub returns : goal.returns
returns c =
    let a = c.args in
    same_answer a.out.now c.laid_out.result (ap (laid_out a.mask.left (fill_of a.mask.filled)) (laid_read (omega arith) c.masked_text-at.ensures)) c.laid_out.ensures
