-- `typing::month_called` finds the month that the definition does: the library's `position` is the search of the table.
use Rattle.std.proofs.Common.{◌∙◌, rules, tests, bytes_eq}
use Rattle.std.proofs.lemmas.Iterator.{YieldsList-from_slice}
use Rattle.std.proofs.lemmas.Iterator.Search.{position_from_yields_List}
use Rattle.paper.specs.Bytes.{bytes}
use Rattle.paper.specs.Dates.{month_names}
use Rattle.dates.proofs.NameLaws.{called_at}
use Rattle.dates.proofs.typing.month_called.Goals as goal

pub returns-in_err-k-clause-is : goal.returns-in_err-k-clause-is
unfolding month_names bytes
returns-in_err-k-clause-is c =
    let found = called_at c.args.name c.position.result (position_from_yields_List (bytes_eq c.args.name) _ _ c.position.result c.position.ensures.ran (YieldsList-from_slice _ c.iter.ensures.rest) (λ x b q k. search (rules, tests))) in
    λ rest. found rest ∙ rw (c.in_err-k.was, c.from_residual.ensures)

pub returns-clause-is : goal.returns-clause-is
unfolding month_names bytes
returns-clause-is c =
    let found = called_at c.args.name c.position.result (position_from_yields_List (bytes_eq c.args.name) _ _ c.position.result c.position.ensures.ran (YieldsList-from_slice _ c.iter.ensures.rest) (λ x b q k. search (rules, tests))) in
    λ rest. found rest ∙ rw c.in_ok-k.was
