-- `lent::first_within` meets its contract: the position of the first such byte among those between, or their number.
use Prim.Native.Nat.{ℕ, ◌+◌}
use mathlib.Core.Path.{sym, ap, ◌∙◌}
use Rattle.std.proofs.lemmas.Iterator.{YieldsList-from_slice, IsFirst-from_position}
use Rattle.std.proofs.Common.{rules, tests}
use Rattle.lent.specs.Scan.{range}
use Rattle.lent.proofs.Scans.{Hit, Miss, upto_first}
use Rattle.lent.proofs.Blocks.{length_range}
use Rattle.lent.proofs.first_within.Goals as goal

pub returns : goal.returns
unfolding range
returns c =
    let a = c.args in
    let between = YieldsList-from_slice (range a.text.now a.from a.to) c.iter.ensures.rest in
    let first = IsFirst-from_position _ _ c.position.result (Hit a.low a.high) (Miss a.low a.high) c.position.ensures.ran between
    (λ x q k. search (rules, tests)) (λ x q k. search (rules, tests)) in
    let n = length_range a.text.now a.from a.to c.requires.0 c.requires.1 in
    ap (λ (k : ℕ). a.from + k) (c.unwrap_or-passed.ensures ∙ sym (rw n at (upto_first a.low a.high _ c.position.result first)))
