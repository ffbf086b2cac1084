-- `records::part` meets its contract: what is cut at the place of the address is what it reads.
use mathlib.Core.Path.{ap, ◌∙◌}
use Rattle.records.specs.Found.{part_bytes}
use Rattle.records.proofs.Finding.{inside_place, inside_within, inside_bytes, reads_place}
use Rattle.records.proofs.part.Goals as goal

pub cut-requires : goal.cut-requires
cut-requires c =
    let at = c.args.at in
    rw c.place.ensures (inside_within (inside_place c.args.item.now at.a at.v at.s))

pub returns-clause-bytes : goal.returns-clause-bytes
returns-clause-bytes c =
    let at = c.args.at in
    c.cut.ensures.bytes ∙ ap (part_bytes c.args.item.now) c.place.ensures ∙ inside_bytes (inside_place c.args.item.now at.a at.v at.s)
    ∙ reads_place c.args.item.now at.a at.v at.s
