-- `cases::lay` meets its contract: as often as there is room.
use mathlib.Core.Path.{◌∙◌}
use Rattle.cases.proofs.Laying.{filled}
use Rattle.cases.proofs.lay.Goals as goal

pub returns : goal.returns
returns c =
    let a = c.args in
    let r = filled a.out.now a.from a.count a.b c.requires c.min-n.ensures in
    record { value = r.0; out_after = c.fill.ensures ∙ r.1 }
