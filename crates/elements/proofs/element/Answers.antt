-- `elements::element` meets its contract: 9 for an over-long element, and else the run of its slot through the codes.
use mathlib.Core.Path.{sym, subst}
use native.Mathlib.Omega.{arith}
use lib.Dec.{lit<}
use Rattle.paper.proofs.Limits.{entry_limit}
use Rattle.machine.specs.Runs.{Accepted, is_accepted}
use Rattle.elements.proofs.Elements.{over_long, put_and_run}
use Rattle.elements.proofs.element.Goals as goal

pub returns-then-text : goal.returns-then-text
returns-then-text c = over_long _ _ _ _ _ (omega (arith, entry_limit))

pub put-requires : goal.put-requires
put-requires c = (lit< tt, omega (arith, entry_limit))

pub run_codes-requires : goal.run_codes-requires
run_codes-requires c = (
  c.requires.0,
  c.requires.2,
  subst Accepted (sym c.requires.1) is_accepted,
  c.requires.3,
)

pub returns : goal.returns
returns c =
    put_and_run _ _ _ _ _ c.args.slots.now.slotted (omega (arith, entry_limit)) c.put.ensures.scratch_after c.put.ensures.lens_after c.requires.1 c.run_codes.ensures
