-- `keep` gives the bytes that pass its class's test. The loop's invariant: what is kept of the rest goes behind what is written.
use mathlib.Core.Path.{sym, ◌∙◌}
use Prim.Native.Nat.{◌<◌}
use native.Mathlib.Omega.{arith}
use lib.ListN.{length}
use Rattle.texts.specs.Codes.{kept}
use Rattle.texts.proofs.Laws.{keeps_next, drops_next, only_fits, only_none, keep_gives}
use Rattle.texts.proofs.Writing.{begun, room, put, onto, answered}
use Rattle.texts.proofs.keep.Goals as goal
use Rattle.texts.proofs.keep.Goals.{then-keeps, else-keeps}

pub loop-b-init : goal.loop-b-init
loop-b-init c = begun (omega (arith, only_fits (kept c.args.class) c.args.e.now))

pub bounds-out-n : goal.bounds-out-n
bounds-out-n c =
    let has_place : c.loop-b.n < length c.args.out.now =
    room (onto c.loop-b.invariant (keeps_next _ _ _ c.loop-b-test.true (sym c.keeps.ensures ∙ c.if-keeps.true))) in
    omega (arith, has_place)

pub loop-b-preserved : goal.loop-b-preserved
loop-b-preserved c =
    let tested = sym c.keeps.ensures in
    elim c.if-keeps.branch [
      | then-keeps w ↦ rw (w.n-is, w.out-is) (put (onto c.loop-b.invariant (keeps_next _ _ _ c.loop-b-test.true (tested ∙ w.if-keeps.true))))
      | else-keeps w ↦ rw (w.n-is, w.out-is) (onto c.loop-b.invariant (drops_next _ _ _ c.loop-b-test.true (tested ∙ w.if-keeps.false)))
    ]

pub returns : goal.returns
returns c =
    let e = c.args.e.now in
    let k = c.args.class in
    answered
    (onto c.loop-b.invariant (only_none (kept k) e c.loop-b.b-index c.loop-b-test.false))
    (omega (arith, only_fits (kept k) e))
    (keep_gives k e)
