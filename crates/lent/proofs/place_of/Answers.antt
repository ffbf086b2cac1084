-- `lent::place_of` meets its contract: where a scan to the end of the text stops, and that it stays within the text.
use native.Mathlib.Omega.{arith}
use Rattle.lent.proofs.Pieces.{scan_end, end_inside}
use Rattle.lent.proofs.place_of.Goals as goal

pub first_within-requires : goal.first_within-requires
first_within-requires c = (omega arith, omega arith)

pub returns : goal.returns
returns c =
    let a = c.args in let e = scan_end a.b a.text.now a.from c.first_within.ensures in record { in_bounds = end_inside a.b a.text.now a.from c.requires e; value = e }
