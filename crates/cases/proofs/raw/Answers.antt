-- `cases::raw` meets its contract: a drawn mark and the mark, and any other byte.
use borrow.Author.Tests.{ne_eqb}
use Rattle.cases.specs.Tables.{meant}
use Rattle.cases.proofs.raw.Goals as goal

pub returns-in-94 : goal.returns-in-94
unfolding meant
returns-in-94 c = rw c.in-94.is

pub returns-in-93 : goal.returns-in-93
unfolding meant
returns-in-93 c = rw c.in-93.is

pub returns-in-92 : goal.returns-in-92
unfolding meant
returns-in-92 c = rw c.in-92.is

pub returns-in_default : goal.returns-in_default
unfolding meant
returns-in_default c =
    rw (ne_eqb _ 94 c.in_default.in_default-own.rest.0.0.1, ne_eqb _ 93 c.in_default.in_default-own.rest.0.1, ne_eqb _ 92 c.in_default.in_default-own.rest.1)
