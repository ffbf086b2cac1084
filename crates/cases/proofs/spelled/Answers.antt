-- `cases::spelled` meets its contract: piece by piece, as far as there is room.
use Prim.Native.Nat.{ℕ}
use mathlib.Core.Path.{refl, sym, ap, ◌∙◌}
use native.Mathlib.Omega.{arith}
use lib.Seq.{length-take-le}
use Rattle.paper.specs.Bytes.{Bytes}
use Rattle.cases.proofs.Spelling.{one_piece, all_pieces}
use Rattle.cases.proofs.spelled.Goals as goal

pub loop-at-init : goal.loop-at-init
loop-at-init c = (omega arith, refl, omega arith, refl)

pub loop-at-smaller : goal.loop-at-smaller
loop-at-smaller c = omega (arith, c.next_piece-piece.ensures)

pub loop-at-preserved : goal.loop-at-preserved
loop-at-preserved c =
    let a = c.args in
    let more = one_piece a.marks a.text.now c.loop-at.out c.loop-at.n c.loop-at.at c.loop-at.invariant.0 c.loop-at.invariant.3
    c.next_piece-piece.result.next c.next_piece-piece.result.count c.next_piece-piece.result.byte c.next_piece-piece.ensures.text_value c.meant.result c.lay-n.result c.lay-n.new.out c.meant.ensures c.lay-n.ensures.value c.lay-n.ensures.out_after in
    (more.0, more.1 ∙ c.loop-at.invariant.1, c.next_piece-piece.ensures.at_lt_next.1, more.2)

pub returns : goal.returns
returns c =
    let a = c.args in
    let l = c.loop-at in
    let all = all_pieces a.marks a.text.now l.out l.n l.at l.invariant.0 l.invariant.3 c.loop-at-test.false in
    record {
      prefix_len = (l.invariant.0, sym (length-take-le l.n l.out l.invariant.0));
      value = ap (λ (w : ℕ × Bytes). w.0) all;
      out_after = ap (λ (w : ℕ × Bytes). w.1) all;
    }
