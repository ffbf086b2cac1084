-- `stack::charging::charge_given` meets its contract: the refusal as it is, or the bytes in front of the work buffer as `charge_entry`.
use Rattle.std.proofs.lemmas.Result.{err_from_is_err_and}
use Rattle.stack.proofs.Charges.{given_refused}
use Rattle.stack.proofs.charging.charge_given.Goals as goal

pub returns-in_err-n : goal.returns-in_err-n
returns-in_err-n c =
    let p = err_from_is_err_and c.from_residual.result c.from_residual.ensures.1 in rw (p.1, p.2)
    (rw (c.in_err-n.was) (given_refused c.args.slots.now.slotted c.args.left _ _ _))
