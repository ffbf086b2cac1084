-- `printing::give` gives what the definition does, refusals included.
use mathlib.Core.Path.{refl, sym}
use native.Mathlib.Omega.{arith}
use borrow.Author.Tests.{eqb-true, eqb-false}
use Rattle.std.proofs.lemmas.Result.{err_from_is_err_and}
use Rattle.paper.specs.Sizes.{entry_most}
use Rattle.paper.specs.Answers.{maybe, written}
use Rattle.dates.proofs.PrintingLaws.{limited_empty, gives_by}
use Rattle.dates.proofs.printing.give.Goals as goal

pub returns-then-is_empty : goal.returns-then-is_empty
unfolding written
returns-then-is_empty c =
    let a = c.args in
    rw (limited_empty a.n (maybe a.separator) a.e.now (eqb-true _ _ (sym c.if-is_empty.ensures))) (record { value = refl; out_after = refl })

pub returns-in_err-convertible : goal.returns-in_err-convertible
unfolding written
returns-in_err-convertible c =
    let a = c.args in
    let p = err_from_is_err_and c.from_residual.result c.from_residual.ensures.1 in
    rw (gives_by a.n (maybe a.separator) a.e.now c.requires.1 (eqb-false _ _ (sym c.if-is_empty.ensures)) (sym c.in_err-convertible.ensures), p.1, p.2)
    (record { value = refl; out_after = refl })

pub number_dated-requires : goal.number_dated-requires
unfolding entry_most
number_dated-requires c = (omega arith, c.requires.1)

pub returns : goal.returns
returns c =
    let a = c.args in
    rw (gives_by a.n (maybe a.separator) a.e.now c.requires.1 (eqb-false _ _ (sym c.if-is_empty.ensures)) (sym c.in_ok-convertible.ensures)) c.number_dated.ensures
