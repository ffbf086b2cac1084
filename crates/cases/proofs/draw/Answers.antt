-- `cases::draw` meets its contract: a byte a turn, as far as there is room.
use Prim.Native.Nat.{◌≤◌, ◌<◌}
use native.Mathlib.Omega.{arith}
use lib.ListN.{length, length-take}
use lib.Seq.{get_or-take, length-take-le}
use mathlib.Core.Path.{sym, ap, ◌∙◌}
use Rattle.cases.specs.Tables.{shown_byte}
use Rattle.cases.proofs.Laying.{drawn_none, drawn_more, drawn_all}
use Rattle.cases.proofs.draw.Goals as goal

pub loop-j-init : goal.loop-j-init
loop-j-init c = drawn_none c.args.text.now _ c.min-n.ensures

pub loop-j-preserved : goal.loop-j-preserved
loop-j-preserved c =
    let text = c.args.text.now in
    let n = c.min-n.result in
    let j = c.loop-j.j in
    let h : j < n = omega (arith, length-take n text) in
    drawn_more text _ c.min-n.ensures _ _ c.loop-j.invariant h (c.drawn.ensures ∙ ap shown_byte (get_or-take n text j 0 h))

pub returns : goal.returns
returns c =
    let l = c.loop-j in
    let inside : c.min-n.result ≤ length l.line = omega (arith, c.min-n.ensures, l.invariant.same) in
    let done : c.min-n.result ≤ l.j = omega (arith, c.min-n.ensures, length-take c.min-n.result c.args.text.now) in
    let all = drawn_all c.args.text.now _ c.min-n.ensures l.invariant done in
    record { prefix_len = (inside, sym (length-take-le c.min-n.result l.line inside)); value = all.0; line_after = all.1 }
