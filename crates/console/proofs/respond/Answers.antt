-- `respond` meets its contract: another form than an address, or the line of what is converted.
use mathlib.Core.Path.{sym, ap, ◌∙◌}
use native.Mathlib.Omega.{arith}
use lib.ListN.{length}
use Prim.Native.Nat.{◌≤◌}
use lib.Seq.{length-take-le}
use Rattle.lent.specs.Over.{over}
use Rattle.console.proofs.Answering.{lent_output, lent_scratch, steps_short, text_is, refusal_is, line_is, address_bad, address_good, refused_line}
use Rattle.console.proofs.respond.Goals as goal

pub returns-in-Err : goal.returns-in-Err
returns-in-Err c =
    let e = refused_line c.args.code.now c.args.item.now (address_bad _ c.in-Err.ensures) in
    record { value = c.show.ensures.value ∙ ap length e; line_after = c.show.ensures.line_after ∙ ap (over _ 0) e }

pub slice_bounds-out-end : goal.slice_bounds-out-end
slice_bounds-out-end c =
    let r = c.convert-converted.ensures in
    omega (arith, (text_is _ _ _ _ _ c.convert-converted.result r.answer r.steps r.out_after lent_output lent_scratch c.in-Ok-answer.is).1)

pub slice_bounds-show-end : goal.slice_bounds-show-end
slice_bounds-show-end c =
    let r = c.convert-converted.ensures in
    let n : c.in-Ok-answer.length ≤ length c.convert-converted.new.out = omega (arith, (text_is _ _ _ _ _ c.convert-converted.result r.answer r.steps r.out_after lent_output lent_scratch c.in-Ok-answer.is).1) in
    sym (length-take-le _ _ n)

pub show-requires-in-Ok-answer : goal.show-requires-in-Ok-answer
show-requires-in-Ok-answer c =
    let r = c.convert-converted.ensures in
    let n = (text_is _ _ _ _ _ c.convert-converted.result r.answer r.steps r.out_after lent_output lent_scratch c.in-Ok-answer.is).1 in
    let k : c.in-Ok-answer.length ≤ length c.convert-converted.new.out = omega (arith, n) in
    (omega (arith, length-take-le c.in-Ok-answer.length c.convert-converted.new.out k, n, lent_output), steps_short _ _ _ _ _ c.convert-converted.result r.answer r.steps r.out_after lent_output lent_scratch, c.requires)

pub show-requires-in-Err-answer : goal.show-requires-in-Err-answer
show-requires-in-Err-answer c =
    let r = c.convert-converted.ensures in
    (omega arith, steps_short _ _ _ _ _ c.convert-converted.result r.answer r.steps r.out_after lent_output lent_scratch, c.requires)

pub returns-in-Ok-answer : goal.returns-in-Ok-answer
returns-in-Ok-answer c =
    let r = c.convert-converted.ensures in
    let text = text_is _ _ _ _ _ c.convert-converted.result r.answer r.steps r.out_after lent_output lent_scratch c.in-Ok-answer.is in
    let e = line_is _ _ _ _ _ c.convert-converted.result r.answer r.steps r.out_after lent_output lent_scratch text.0 (address_good _ c.in-Ok.ensures) in
    record { value = c.show-in-Ok-answer.ensures.value ∙ ap length e; line_after = c.show-in-Ok-answer.ensures.line_after ∙ ap (over _ 0) e }

pub returns-in-Err-answer : goal.returns-in-Err-answer
returns-in-Err-answer c =
    let r = c.convert-converted.ensures in
    let refusal = refusal_is _ _ _ _ _ c.convert-converted.result r.answer r.steps r.out_after lent_output lent_scratch c.in-Err-answer.is in
    let e = line_is _ _ _ _ _ c.convert-converted.result r.answer r.steps r.out_after lent_output lent_scratch refusal (address_good _ c.in-Ok.ensures) in
    record { value = c.show-in-Err-answer.ensures.value ∙ ap length e; line_after = c.show-in-Err-answer.ensures.line_after ∙ ap (over _ 0) e }
