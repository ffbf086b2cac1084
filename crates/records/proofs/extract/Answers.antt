-- `records::extract` meets its contract: what is cut at the place that finding answers is the part.
use mathlib.Core.Path.{ap, ◌∙◌}
use Rattle.records.specs.Found.{part_bytes}
use Rattle.records.proofs.Finding.{part_found, inside_find, inside_within, inside_bytes}
use Rattle.records.proofs.extract.Goals as goal

pub cut-requires : goal.cut-requires
cut-requires c = rw (c.unwrap_or.ensures ∙ part_found _ _ c.find.ensures) (inside_within (inside_find c.args.item.now _ _ _))

pub returns-clause-bytes : goal.returns-clause-bytes
returns-clause-bytes c =
    c.cut.ensures.bytes ∙ ap (part_bytes c.args.item.now) (c.unwrap_or.ensures ∙ part_found _ _ c.find.ensures)
    ∙ inside_bytes (inside_find c.args.item.now _ _ _)
