-- `records::prepare` meets its contract: behind the tests no part of the sum is large.
use Rattle.records.proofs.Replacing.{small_spot}
use Rattle.records.proofs.prepare.Goals as goal

pub changed_len-total-requires : goal.changed_len-total-requires
changed_len-total-requires c = rw c.locate-spot.ensures (small_spot _ _ _ _ _ c.args.room c.in_ok-lawful_find.ensures c.in_ok-lawful_new.ensures)
