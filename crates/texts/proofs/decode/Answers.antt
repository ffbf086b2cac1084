-- `decode` writes the byte that each pair spells, and counts them. The loop's invariant: what the rest spells goes behind what is written.
use mathlib.Core.Path.{◌≡◌, refl, sym, ap, ◌∙◌}
use Prim.Native.Nat.{◌+◌, ◌*◌, ◌/◌, ◌≤◌}
use native.Mathlib.Omega.{arith}
use lib.ListN.{length, length-drop}
use Rattle.std.specs.Iterator.Adapters.{enumerate_source, enumerate_count}
use Rattle.paper.specs.Answers.{written}
use Rattle.texts.proofs.Spelling.{pair_off, decoded_none, decoded_fits}
use Rattle.texts.proofs.Writing.{begun, put, onto, counted, stands}
use Rattle.texts.proofs.decode.Goals as goal

pub loop-i-init : goal.loop-i-init
loop-i-init c =
    let none : enumerate_count c.into_iter-i-iterator.result ≡ 0 =
    rw (c.into_iter-i-iterator.ensures.into_iter_gives, c.enumerate-i-items.ensures.count) refl in
    let begins : enumerate_source c.into_iter-i-iterator.result ≡ c.chunks_exact.result =
    rw c.into_iter-i-iterator.ensures.into_iter_gives c.enumerate-i-items.ensures.source in
    rw none
    (record {
      size = rw begins c.chunks_exact.ensures.size;
      rest = rw begins c.chunks_exact.ensures.rest;
      inside = omega arith;
      laid = begun (omega (arith, decoded_fits c.args.e.now));
    })

pub loop-i-preserved : goal.loop-i-preserved
loop-i-preserved c =
    let turn = c.in-Some.ensures.steps in
    let l = c.loop-i in
    let pair = pair_off c.args.e.now (enumerate_count l.i-iterator) c.in-Some.pair.now _ l.invariant.inside (sym l.invariant.rest ∙ turn.0.1.0)
    (turn.0.1.1 ∙ l.invariant.size) in
    rw (turn.2, turn.1, c.byte.ensures)
    (record { size = turn.0.0 ∙ l.invariant.size; rest = pair.1; inside = pair.0; laid = put (onto l.invariant.laid pair.2) })

pub returns : goal.returns
unfolding written
returns c =
    let turn = c.in-None.ensures.steps in
    let e = c.args.e.now in
    let l = c.loop-i in
    let k = enumerate_count l.i-iterator in
    let over : length e ≤ 2 * k + 1 = omega (arith, l.invariant.size, ap length l.invariant.rest, turn.0.1.0, length-drop (2 * k) e) in
    let all : length e / 2 ≡ k = omega (arith, l.invariant.inside) in
    let p = onto l.invariant.laid (decoded_none e (2 * k) over) in
    rw all (record { value = counted p; out_after = stands p })
