-- `give` writes the element where a pattern passes, else nothing.
use native.Mathlib.Omega.{arith}
use Rattle.paper.proofs.Limits.{entry_limit}
use Rattle.patterns.proofs.Choosing.{gives_element, gives_nothing}
use Rattle.patterns.proofs.give.Goals as goal

pub some_passes-requires : goal.some_passes-requires
some_passes-requires c = omega (arith, entry_limit)

pub returns-then-some_passes : goal.returns-then-some_passes
returns-then-some_passes c =
    gives_element c.args.e.now c.requires.2 c.args.out.now c.requires.0 c.some_passes.ensures c.if-some_passes.true
    c.copy_in.ensures

pub returns : goal.returns
returns c = gives_nothing c.args.e.now c.requires.2 c.args.out.now c.requires.0 c.some_passes.ensures c.if-some_passes.false
