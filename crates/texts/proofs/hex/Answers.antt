-- `hex` refuses what would pass the limit, and else writes two digits a byte. The loop's invariant: the rest, spelled, goes behind what is written.
use native.Mathlib.Omega.{arith}
use mathlib.Core.Path.{◌≡◌, refl}
use Prim.Native.Nat.{◌+◌, ◌*◌}
use lib.ListN.{length, length-set}
use Rattle.paper.specs.declared.Refusal.{Refusal}
use Rattle.paper.specs.Sizes.{entry_most}
use Rattle.paper.specs.Texts.{plain_gives}
use Rattle.paper.proofs.Limits.{entry_limit, limited_over, refuses_with}
use Rattle.texts.proofs.Spelling.{hexed_next, hexed_none, hexed_length}
use Rattle.texts.proofs.Writing.{begun, put_pair, onto, answered}
use Rattle.texts.proofs.hex.Goals as goal

pub returns-then-e : goal.returns-then-e
unfolding plain_gives
returns-then-e c = refuses_with Refusal.OverLongEntry (limited_over entry_most refl (omega (arith, entry_limit, hexed_length c.args.e.now)))

pub loop-i-init : goal.loop-i-init
loop-i-init c = begun (omega (arith, entry_limit, hexed_length c.args.e.now))

pub bounds-out-i : goal.bounds-out-i
bounds-out-i c = omega (arith, entry_limit)

pub bounds-out-i-in-loop-i : goal.bounds-out-i-in-loop-i
bounds-out-i-in-loop-i c = simp length-set (omega (arith, entry_limit))

pub loop-i-preserved : goal.loop-i-preserved
loop-i-preserved c =
    let i = c.loop-i.i in
    let two : 2 * (i + 1) ≡ 2 * i + 2 = omega arith in
    rw (two, c.digit.ensures, c.digit-in-loop-i.ensures) (put_pair (onto c.loop-i.invariant (hexed_next _ _ c.loop-i-test.true)))

pub returns : goal.returns
unfolding plain_gives
returns c =
    let e = c.args.e.now in
    let all : length e ≡ c.loop-i.i = omega arith in
    let p = answered (onto c.loop-i.invariant (hexed_none e _ c.loop-i-test.false)) (omega (arith, entry_limit, hexed_length e)) refl in
    rw all p
