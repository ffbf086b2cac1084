-- `lent::next_within` meets its contract: the first bytes have the answer, or it is the rest's.
use mathlib.Core.Path.{sym, ◌∙◌}
use native.Mathlib.Omega.{arith}
use Rattle.lent.proofs.Scans.{upto_hit, upto_none}
use Rattle.lent.proofs.Blocks.{first_near, first_far}
use Rattle.lent.proofs.next_within.Goals as goal

pub returns-then-from-to : goal.returns-then-from-to
returns-then-from-to c =
    let a = c.args in
    omega (arith, upto_none a.low a.high a.text.now a.to c.requires.1 a.from (omega arith))

pub returns-then-low-b : goal.returns-then-low-b
returns-then-low-b c =
    let a = c.args in
    omega (arith, upto_hit a.low a.high a.text.now a.to c.requires.1 a.from (omega arith) c.if-low-b.true)

pub returns-then-at-end : goal.returns-then-at-end
returns-then-at-end c =
    let a = c.args in
    let n = c.near-end in
    c.first_within-at.ensures ∙ sym (first_near a.low a.high a.text.now a.from n.result a.to n.ensures.0 n.ensures.1 c.requires.1 (omega arith))

pub returns : goal.returns
returns c =
    let a = c.args in
    let n = c.near-end in
    c.far_within.ensures ∙ sym (first_far a.low a.high a.text.now a.from n.result a.to n.ensures.0 n.ensures.1 c.requires.1 (omega arith))
