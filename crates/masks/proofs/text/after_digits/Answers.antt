-- `text::after_digits` meets its contract, arm by arm.
use mathlib.Core.Path.{◌≡◌, ◌∙◌}
use mathlib.Core.Bool.{◌||◌}
use lib.Dec.{eqb}
use Rattle.std.specs.Prelude.{Some}
use Rattle.std.specs.Prelude.{Option as Maybe}
use Rattle.paper.specs.Bytes.{bytes}
use Rattle.paper.specs.Numbers.{Number}
use Rattle.paper.specs.Masks.{after_digits}
use Rattle.codes.specs.declared.Credit.{Credit}
use Rattle.codes.specs.Meaning.{credit_of}
use Rattle.lent.proofs.Laying.{laid_as, laid_none}
use Rattle.masks.proofs.PieceLaws.{pair_or_blanks, byte_or_blank, turned_round}
use Rattle.masks.proofs.text.after_digits.Goals as goal

-- the suffixes of two credits that are one
alike : {a : Maybe Credit} {k l : Credit} (y : Number) → a ≡ Some k → k ≡ l → after_digits (credit_of (Some l)) y ≡ after_digits (credit_of a) y
alike y e f = rw (e, f)

pub returns-in_default : goal.returns-in_default
unfolding after_digits credit_of
returns-in_default c = laid_as (rw c.in_default.is) (laid_none _ _)

pub returns-in-Suppressed : goal.returns-in-Suppressed
unfolding after_digits credit_of bytes
returns-in-Suppressed c = laid_as (alike _ c.in-Some.is c.in-Suppressed.is) (laid_none _ _)

pub returns-in-Credit : goal.returns-in-Credit
unfolding after_digits credit_of bytes
returns-in-Credit c = laid_as (pair_or_blanks _ 67 82 ∙ alike _ c.in-Some.is c.in-Credit.is) c.put_pair.ensures

pub returns-in-Debit : goal.returns-in-Debit
unfolding after_digits credit_of bytes
returns-in-Debit c =
    let y = c.args.y in
    laid_as (pair_or_blanks _ 68 66 ∙ turned_round (y.negative || eqb y.size 0) _ _ ∙ alike _ c.in-Some.is c.in-Debit.is) c.put_pair-in-Debit.ensures

pub returns-in-Enclosed : goal.returns-in-Enclosed
unfolding after_digits credit_of bytes
returns-in-Enclosed c = laid_as (rw c.or_blank.ensures (byte_or_blank _ 62) ∙ alike _ c.in-Some.is c.in-Enclosed.is) c.put.ensures

pub returns-in-Trailing : goal.returns-in-Trailing
unfolding after_digits credit_of bytes
returns-in-Trailing c =
    laid_as (rw c.or_blank-in-Trailing.ensures (byte_or_blank _ 45) ∙ alike _ c.in-Some.is c.in-Trailing.is) c.put-in-Trailing.ensures
