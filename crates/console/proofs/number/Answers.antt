-- `number` meets its contract: its digits, and a blank behind them.
use Prim.Native.Nat.{ℕ, ◌+◌}
use mathlib.Core.Path.{refl, sym, ap, ◌∙◌}
use native.Mathlib.Omega.{arith}
use Rattle.paper.proofs.Numerals.{length_decimal}
use Rattle.lent.proofs.Laws.{over_as}
use Rattle.lent.proofs.Laying.{laid_at, laid_one, laid_behind}
use Rattle.console.specs.Lines.{numbered}
use Rattle.console.proofs.number.Goals as goal

pub overflow_add-end : goal.overflow_add-end
overflow_add-end c = omega (arith, length_decimal c.args.n)

pub bounds-line-end : goal.bounds-line-end
bounds-line-end c = omega (arith, length_decimal c.args.n)

pub overflow_add-result : goal.overflow_add-result
overflow_add-result c = omega (arith, length_decimal c.args.n)

pub returns : goal.returns
unfolding numbered
returns c =
    let at = c.args.at in
    let both = laid_behind (laid_at (c.decimal.ensures.out_after ∙ over_as _ _ _ refl) (ap (λ (k : ℕ). at + k) c.decimal.ensures.value)) (laid_one _ _ _ refl (omega (arith, length_decimal c.args.n))) (omega arith) in
    record { value = sym both.place; line_after = both.bytes }
