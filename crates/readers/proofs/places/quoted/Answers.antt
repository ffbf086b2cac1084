-- `places::quoted` meets its contract: what `position` finds is the paper's closing quote.
use mathlib.Core.Path.{◌≡◌, ◌∙◌}
use lib.Dec.{eqb}
use lib.ListN.{drop}
use Rattle.std.specs.List.{position_from}
use Rattle.std.proofs.Common.{rules, tests}
use Rattle.std.proofs.lemmas.List.{drop_min, take_rest}
use Rattle.std.proofs.lemmas.Iterator.{YieldsList-from_slice}
use Rattle.std.proofs.lemmas.Iterator.Adapters.{position_from-zero}
use Rattle.std.proofs.lemmas.Iterator.Search.{position_from_yields_List}
use Rattle.readers.proofs.Quotes.{found_quote}
use Rattle.readers.proofs.places.quoted.Goals as goal

pub returns-in_default : goal.returns-in_default
returns-in_default c =
    let a = c.args in
    let behind : c.iter.result.rest.now ≡ drop a.from a.code.now = c.iter.ensures.rest ∙ take_rest a.code.now c.min.result ∙ rw c.min.ensures (drop_min a.from a.code.now) in
    let first : c.position.result ≡ position_from (λ b. eqb b a.quote) 0 (drop a.from a.code.now) =
    position_from_yields_List (λ b. eqb b a.quote) _ _ c.position.result c.position.ensures.ran (YieldsList-from_slice {s = c.iter.result} (drop a.from a.code.now) behind) (λ x b q k. search (rules, tests))
    ∙ position_from-zero (λ b. eqb b a.quote) (drop a.from a.code.now) in
    rw (found_quote a.quote a.code.now a.from c.position.result first, c.in_default.is)

pub returns : goal.returns
returns c =
    let a = c.args in
    let behind : c.iter.result.rest.now ≡ drop a.from a.code.now = c.iter.ensures.rest ∙ take_rest a.code.now c.min.result ∙ rw c.min.ensures (drop_min a.from a.code.now) in
    let first : c.position.result ≡ position_from (λ b. eqb b a.quote) 0 (drop a.from a.code.now) =
    position_from_yields_List (λ b. eqb b a.quote) _ _ c.position.result c.position.ensures.ran (YieldsList-from_slice {s = c.iter.result} (drop a.from a.code.now) behind) (λ x b q k. search (rules, tests))
    ∙ position_from-zero (λ b. eqb b a.quote) (drop a.from a.code.now) in
    rw (found_quote a.quote a.code.now a.from c.position.result first, c.in-Some.is)
