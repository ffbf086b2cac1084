-- `writing::digits` meets its contract. The invariant: the i digits that are left, before what is written behind them, are all k digits
-- before what stood behind them, and nothing in front is touched.
use mathlib.Core.Path.{◌∙◌}
use Prim.Native.Nat.{◌+◌, ◌-◌, ◌%◌}
use native.Mathlib.Omega.{arith}
use lib.ListN.{length-set}
use Rattle.numbers.proofs.WritingLaws.{digit_back, take_back, all_back}
use Rattle.numbers.proofs.writing.digits.Goals as goal

pub loop-i-preserved : goal.loop-i-preserved
loop-i-preserved c =
    let a = c.args in
    let l = c.loop-i in
    let put = a.at + (l.i - 1) in (
      length-set l.out put (48 + l.rest % 10) ∙ l.invariant.0,
      take_back put (a.at + l.i) (48 + l.rest % 10) l.out a.out.now (omega arith) l.invariant.1,
      digit_back a.at l.i l.rest l.out c.loop-i-test.true (omega arith) ∙ l.invariant.2,
    )

pub returns : goal.returns
returns c =
    let a = c.args in let l = c.loop-i in
    all_back a.at l.i a.k a.n l.rest l.out a.out.now c.loop-i-test.false l.invariant.1 l.invariant.2
