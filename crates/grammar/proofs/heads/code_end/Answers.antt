-- `heads::code_end` meets its contract: the scan for byte 253 goes over all that is left.
use Prim.Native.Nat.{◌+◌}
use mathlib.Core.Path.{sym, ap, ◌∙◌}
use native.Mathlib.Omega.{arith}
use lib.ListN.{length, drop}
use Rattle.paper.specs.Bytes.{Bytes}
use Rattle.lent.specs.Scan.{upto}
use Rattle.lent.proofs.Scans.{range_rest}
use Rattle.grammar.proofs.Cuts.{end_upto}
use Rattle.grammar.proofs.heads.code_end.Goals as goal

pub first_within-requires : goal.first_within-requires
first_within-requires c = (omega arith, omega arith)

pub returns : goal.returns
returns c =
    let a = c.args in
    c.first_within.ensures
    ∙ ap (λ (l : Bytes). a.from + length (upto 253 253 l)) (range_rest a.code.now a.from)
    ∙ sym (end_upto (drop a.from a.code.now) a.from)
