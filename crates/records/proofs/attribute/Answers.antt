-- `records::attribute` meets its contract: the scan for attribute marks from the record's beginning.
use Rattle.std.proofs.Math.Dec.{lit≤}
use native.Mathlib.Omega.{arith}
use Rattle.records.specs.Scan.{attribute}
use Rattle.records.proofs.Scanning.{stop_told}
use Rattle.records.proofs.attribute.Goals as goal

pub returns-then-item-lt-SHORT : goal.returns-then-item-lt-SHORT
unfolding attribute
returns-then-item-lt-SHORT c = stop_told c.args.item.now 0 _ (lit≤ tt) (omega arith) c.skip.ensures

pub returns : goal.returns
unfolding attribute
returns c = stop_told c.args.item.now 0 _ (lit≤ tt) (omega arith) c.far_pass.ensures
