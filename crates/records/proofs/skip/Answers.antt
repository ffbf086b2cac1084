-- `records::skip` meets its contract: from byte to byte the scan of what is left stays the same.
use Prim.Native.Nat.{ℕ, ◌+◌}
use mathlib.Core.Path.{◌≡◌, sym, ap₂, ◌∙◌}
use native.Mathlib.Omega.{arith}
use lib.ListN.{length}
use Rattle.paper.specs.Bytes.{Bytes}
use Rattle.lent.proofs.Scans.{whole_rest}
use Rattle.records.specs.Scan.{skip}
use Rattle.records.proofs.Turns.{skip_end, skip_none, skip_closed, skip_mark, skip_other}
use Rattle.records.proofs.skip.Goals as goal
use Rattle.records.proofs.skip.Goals.{then-b-mark, else-b-mark}

pub loop-passed-init : goal.loop-passed-init
loop-passed-init c =
    let a = c.args in
    ap₂ (λ (l : Bytes) (k : ℕ). skip a.mark.byte l k a.n) (sym (whole_rest a.item.now a.from)) (omega arith)

pub returns-then-left-eq0 : goal.returns-then-left-eq0
returns-then-left-eq0 c =
    let l = c.loop-passed in
    let none : l.left ≡ 0 = c.if-left-eq0.true in
    rw none (sym (rw none at l.invariant ∙ skip_none _ _ (c.args.from + l.passed)))

pub returns-then-mark-b : goal.returns-then-mark-b
returns-then-mark-b c =
    let l = c.loop-passed in
    sym (l.invariant ∙ skip_closed _ _ l.passed (c.args.from + l.passed) l.left c.loop-passed-test.true (omega arith) c.if-mark-b.true)

pub loop-passed-preserved : goal.loop-passed-preserved
loop-passed-preserved c =
    let l = c.loop-passed in
    let next : c.args.from + (l.passed + 1) ≡ c.args.from + l.passed + 1 = omega arith in
    elim c.if-b-mark.branch [
      | then-b-mark w ↦ rw (next, w.left-is) (l.invariant ∙ skip_mark _ _ l.passed (c.args.from + l.passed) l.left c.loop-passed-test.true (omega arith) c.if-mark-b.false w.if-b-mark.true)
      | else-b-mark w ↦ rw (next, w.left-is) (l.invariant ∙ skip_other _ _ l.passed (c.args.from + l.passed) l.left c.loop-passed-test.true (omega arith) c.if-mark-b.false w.if-b-mark.false)
    ]

pub returns : goal.returns
returns c =
    let l = c.loop-passed in
    let end : length c.args.item.now ≡ c.args.from + l.passed = omega arith in
    rw end (sym (l.invariant ∙ skip_end _ _ l.passed (c.args.from + l.passed) l.left c.loop-passed-test.false))
