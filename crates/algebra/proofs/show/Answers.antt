-- `algebra::show` meets its contract: the F text and then zeros, or the refusal and zeros.
use lib.ListN.{length}
use Rattle.algebra.proofs.Telling.{show_refused, show_given}
use Rattle.algebra.proofs.show.Goals as goal

pub returns-in-Ok : goal.returns-in-Ok
returns-in-Ok c =
    let told = rw c.as_slice.ensures at c.hand_over.ensures in
    rw (show_given c.args.code.now _ (length c.args.out.now) c.in-Ok.ensures) (record { answers = told.value; writes = told.out_after })

pub returns-in-Err : goal.returns-in-Err
returns-in-Err c =
    let told = show_refused c.args.code.now _ _ c.in-Err.ensures c.clear.ensures in
    record { answers = told.value; writes = told.out_after }
