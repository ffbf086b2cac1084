-- `answer` meets its contract: the first line shown, and what is told of it.
use mathlib.Core.Path.{refl, sym, ap, ◌∙◌}
use lib.ListN.{length}
use lib.Seq.{length-take-le}
use Rattle.lent.specs.Over.{over}
use Rattle.formula.proofs.Lines.{first_line, showed_text, showed_refusal}
use Rattle.formula.proofs.answer.Goals as goal

pub slice_bounds-text-end : goal.slice_bounds-text-end
slice_bounds-text-end c =
    (showed_text c.args.input.now _ (first_line _ c.front.ensures c.field-code.ensures) 512 refl c.show.result c.show.new.out c.show.ensures.answers c.show.ensures.writes c.in-Ok.is).1

pub slice_bounds-tell-end : goal.slice_bounds-tell-end
slice_bounds-tell-end c =
    let w = showed_text c.args.input.now _ (first_line _ c.front.ensures c.field-code.ensures) 512 refl c.show.result c.show.new.out c.show.ensures.answers c.show.ensures.writes c.in-Ok.is in
    sym (length-take-le _ _ w.1)

pub returns-in-Ok : goal.returns-in-Ok
returns-in-Ok c =
    let w = showed_text c.args.input.now _ (first_line _ c.front.ensures c.field-code.ensures) 512 refl c.show.result c.show.new.out c.show.ensures.answers c.show.ensures.writes c.in-Ok.is in
    record { value = c.tell.ensures.value ∙ ap length w.0; line_after = c.tell.ensures.line_after ∙ ap (over _ 0) w.0 }

pub returns-in-Err : goal.returns-in-Err
returns-in-Err c =
    let e = showed_refusal c.args.input.now _ (first_line _ c.front.ensures c.field-code.ensures) 512 refl c.show.result c.show.new.out c.show.ensures.answers c.show.ensures.writes c.in-Err.is in
    record { value = c.tell-in-Err.ensures.value ∙ ap length e; line_after = c.tell-in-Err.ensures.line_after ∙ ap (over _ 0) e }
