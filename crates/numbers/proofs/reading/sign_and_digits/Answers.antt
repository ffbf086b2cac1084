-- `reading::sign_and_digits` meets its contract: a sign or none, and the digits after it.
use mathlib.Core.Path.{sym, ap, ◌∙◌}
use lib.Dec.{eqb}
use lib.ListN.{get_or}
use borrow.Author.Tests.{eqb-true}
use Rattle.paper.specs.Bytes.{Bytes}
use Rattle.paper.specs.Numbers.{digits_alone}
use Rattle.lent.proofs.Scans.{whole_rest}
use Rattle.numbers.specs.Forms.{in_range}
use Rattle.numbers.proofs.ReadingLaws.{no_bytes, after_sign, no_sign, no_digit}
use Rattle.numbers.proofs.reading.sign_and_digits.Goals as goal
use Rattle.numbers.proofs.reading.sign_and_digits.Goals.{then-first-lt48+in-43, else-first-lt48}

pub returns-then-is_empty : goal.returns-then-is_empty
returns-then-is_empty c = no_bytes c.args.s.now (eqb-true _ 0 (sym c.if-is_empty.ensures))

pub returns-in_default : goal.returns-in_default
returns-in_default c = no_digit c.args.s.now c.if-first-lt48.true c.in_default.in_default-own.rest.1

pub returns : goal.returns
returns c =
    let s = c.args.s.now in
    c.digits_alone.ensures
    ∙ ap (λ (l : Bytes). in_range (digits_alone (eqb (get_or s 0 0) 45) l)) (whole_rest s c.if-first-lt48.at)
    ∙ elim c.if-first-lt48.branch [
      | then-first-lt48+in-43 w ↦ rw w.at-is (after_sign s w.in-43.is)
      | else-first-lt48 w ↦ rw w.at-is (no_sign s w.if-first-lt48.false)
    ]
