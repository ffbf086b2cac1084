-- `cases::number` meets its contract: a sum held at the largest number is the sum, or that number.
use mathlib.Core.Path.{◌∙◌}
use Rattle.std.proofs.Common.{rules}
use Rattle.std.proofs.lemmas.Iterator.{YieldsList-from_slice}
use Rattle.std.proofs.lemmas.Iterator.Consumers.{fold_from_yields_List}
use Rattle.cases.specs.Tables.{most, digit}
use Rattle.cases.proofs.Digits.{held, held_number}
use Rattle.cases.proofs.number.Goals as goal

pub returns : goal.returns
returns c =
    let text = c.args.text.now in
    fold_from_yields_List _ (λ n b. held most n (digit b)) 0 c.fold.result c.fold.ensures.ran
    (YieldsList-from_slice text c.iter.ensures.rest) (λ a x b q k. search rules)
    ∙ held_number text
