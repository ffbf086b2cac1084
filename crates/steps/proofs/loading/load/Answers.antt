-- `steps::loading::load` meets its contract: the part at the place that the elm's `R`s name.
use mathlib.Core.Path.{◌∙◌, ap}
use mathlib.Core.List.{List}
use Rattle.paper.specs.Records.{Turn, reads}
use Rattle.codes.specs.Meaning.{repeat_of}
use Rattle.steps.proofs.Operands.{load_id, loads}
use Rattle.steps.proofs.loading.load.Goals as goal
use Rattle.steps.proofs.loading.load.Goals.{in-0-default, in_default-Each, in_default-FirstValue, in_default-FirstSubvalue}

pub returns : goal.returns
unfolding repeat_of
returns c =
    let part = c.part.ensures.bytes in
    elim c.match-number.branch [
      | in-0-default w ↦ (rw w.a-is at part) ∙ ap (λ (ts : List Turn). reads c.args.item.now ts) (load_id _ _ _ _ w.in-0-default.is-0)
      | in_default-Each w ↦ loads _ _ _ _ w.in_default-Each.is-1 w.in_default-Each.is-0.1 (rw w.a-is at part)
      | in_default-FirstValue w ↦ loads _ _ _ _ w.in_default-FirstValue.is-1 w.in_default-FirstValue.is-0.1 (rw w.a-is at part)
      | in_default-FirstSubvalue w ↦ loads _ _ _ _ w.in_default-FirstSubvalue.is-1 w.in_default-FirstSubvalue.is-0.1 (rw w.a-is at part)
    ]
