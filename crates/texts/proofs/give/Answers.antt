-- `give` copies the part to the front of the output.
use mathlib.Core.Path.{refl, ◌∙◌}
use Rattle.paper.specs.Sizes.{entry_most}
use Rattle.paper.proofs.Limits.{limited_within, gives_bytes}
use Rattle.lent.proofs.Laws.{over_front}
use Rattle.texts.proofs.give.Goals as goal

pub returns : goal.returns
returns c = gives_bytes _ _ (limited_within entry_most refl c.requires.0) refl (c.copy_in.ensures ∙ over_front _ _)
