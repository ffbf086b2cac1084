-- `draw` meets its contract: each turn lays one byte more of the text, drawn.
use native.Mathlib.Omega.{arith}
use mathlib.Core.Path.{sym, ◌∙◌}
use lib.ListN.{length-map, get_or-map}
use Rattle.paper.specs.Program.{drawn}
use Rattle.lent.proofs.Laying.{laying_none, laying_more, laying_all}
use Rattle.console.proofs.draw.Goals as goal

pub loop-j-init : goal.loop-j-init
loop-j-init c = laying_none _ _ _ _ 0 (length-map c.args.text.now drawn) c.requires (omega arith)

pub loop-j-preserved : goal.loop-j-preserved
unfolding drawn
loop-j-preserved c =
    laying_more c.loop-j.invariant _ c.loop-j-test.true (c.drawn.ensures ∙ sym (get_or-map drawn c.args.text.now c.loop-j.j 0))

pub returns-clause-line_after : goal.returns-clause-line_after
returns-clause-line_after c = laying_all c.loop-j.invariant (omega arith) c.loop-j-test.false
