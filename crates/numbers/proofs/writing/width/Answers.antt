-- `writing::width` meets its contract: the first k whose power of ten is above the size; no size in range has more than 15 digits.
use mathlib.Core.Path.{sym, ap, ◌∙◌}
use Prim.Native.Nat.{ℕ, ◌^◌, ◌≤◌, ◌<◌}
use borrow.Author.Rules.{rules}
use borrow.Author.Tests.{tests}
use Rattle.std.proofs.lemmas.Iterator.{first_from_Range}
use Rattle.paper.specs.Numbers.{digits}
use Rattle.numbers.proofs.WritingLaws.{width_found}
use Rattle.numbers.proofs.writing.width.Goals as goal

pub returns : goal.returns
returns c =
    let n = c.args.n in
    let f = first_from_Range _ _ _ c.find.result (λ k. n < 10 ^ k) (λ k. 10 ^ k ≤ n) c.find.ensures.ran (λ x q k. search (rules, tests))
    (λ x q k. search (rules, tests)) in
    width_found n c.find.result c.requires f ∙ ap (λ (k : ℕ). digits k n) (sym c.unwrap_or.ensures)
