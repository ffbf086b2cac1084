-- `convert::ready` meets its contract: where no test refuses, the codes of the string.
use Rattle.convert.proofs.Stages.{ready_given}
use Rattle.convert.proofs.ready.Goals as goal

pub returns : goal.returns
returns c = ready_given _ _ _ _ _ _ c.in_ok-counted.ensures c.if-scratch.false
