-- `text::sign_byte` meets its contract: no number but a negative one has a byte before its digits.
use Rattle.masks.proofs.PieceLaws.{none_before}
use Rattle.masks.proofs.text.sign_byte.Goals as goal

pub returns-then-not-negative : goal.returns-then-not-negative
returns-then-not-negative c = rw c.if-not-negative.true (none_before _)
