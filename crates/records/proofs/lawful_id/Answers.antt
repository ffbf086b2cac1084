-- `records::lawful_id` meets its contract: the first attribute mark ends the id, and the two tests are those of the id.
use mathlib.Core.Path.{sym, ◌∙◌}
use mathlib.Core.Bool.{true, false}
use Rattle.records.proofs.Refusing.{long_id, tested_id, id_inside}
use Rattle.records.proofs.lawful_id.Goals as goal

pub returns-then-end : goal.returns-then-end
returns-then-end c = long_id c.args.item.now _ c.place_of-end.ensures.value c.if-end.true

pub slice_bounds-holds-end : goal.slice_bounds-holds-end
slice_bounds-holds-end c = id_inside c.args.item.now _ c.place_of-end.ensures.value

pub returns-then-holds : goal.returns-then-holds
returns-then-holds c = tested_id c.args.item.now _ c.place_of-end.ensures.value true c.if-end.false (sym c.if-holds.true ∙ c.holds.ensures)

pub returns : goal.returns
returns c = tested_id c.args.item.now _ c.place_of-end.ensures.value false c.if-end.false (sym c.if-holds.false ∙ c.holds.ensures)
