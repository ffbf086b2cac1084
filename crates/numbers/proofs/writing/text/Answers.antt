-- `writing::text` meets its contract: a minus before a size, or the size alone.
use mathlib.Core.Path.{◌∙◌}
use native.Mathlib.Omega.{arith}
use lib.ListN.{length-set}
use Rattle.paper.proofs.Numerals.{length_decimal}
use Rattle.numbers.specs.Forms.{whole}
use Rattle.numbers.proofs.WritingLaws.{minus_written, plain_written}
use Rattle.numbers.proofs.writing.text.Goals as goal

pub overflow_add-result : goal.overflow_add-result
overflow_add-result c = omega (arith, length_decimal c.args.x.size)

pub shape_of-out-then-x : goal.shape_of-out-then-x
shape_of-out-then-x c = c.decimal.auto.out ∙ simp length-set

pub returns-then-x : goal.returns-then-x
returns-then-x c =
    let a = c.args in
    let it = minus_written (whole a.x) c.decimal.result a.out.now c.decimal.new.out c.if-x.true (omega arith) c.decimal.ensures.value
    c.decimal.ensures.out_after in
    record { value = it.0; out_after = it.1 }

pub returns : goal.returns
returns c =
    let a = c.args in
    let it = plain_written (whole a.x) c.decimal-2.result a.out.now c.decimal-2.new.out c.if-x.false c.decimal-2.ensures.value c.decimal-2.ensures.out_after in
    record { value = it.0; out_after = it.1 }
