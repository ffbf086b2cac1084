-- `unhex` refuses an odd length and a byte that is no hex digit, spells the bytes beside the output, and gives them if there is no mark.
use mathlib.Core.Path.{◌≡◌, sym, ap, ◌∙◌}
use Prim.Native.Nat.{◌-◌}
use native.Mathlib.Omega.{arith}
use lib.ListN.{length, take}
use lib.Seq.{length-take-le}
use borrow.Author.Rules.{rules}
use Rattle.paper.specs.declared.Refusal.{Refusal}
use Rattle.paper.specs.Bytes.{any}
use Rattle.paper.specs.Sizes.{is_mark}
use Rattle.paper.proofs.Limits.{entry_limit, refuses_with}
use Rattle.texts.specs.Scans.{decoded}
use Rattle.texts.proofs.Spelling.{unhex_odd, unhex_other, unhex_marked, unhex_given, decoded_fits}
use Rattle.texts.proofs.Writing.{in_front, front}
use Rattle.texts.proofs.unhex.Goals as goal

pub returns-then-e-ne0 : goal.returns-then-e-ne0
returns-then-e-ne0 c = refuses_with Refusal.NotConvertible (unhex_odd _ c.if-e-ne0.true)

pub returns-then-has_other : goal.returns-then-has_other
returns-then-has_other c = refuses_with Refusal.NotConvertible (unhex_other _ (sym c.has_other.ensures ∙ c.if-has_other.true))

pub decode-n-requires : goal.decode-n-requires
decode-n-requires c = omega (arith, entry_limit)

pub slice_bounds-part-end : goal.slice_bounds-part-end
slice_bounds-part-end c = sym (length-take-le _ _ (in_front _ _ c.decode-n.ensures.value c.decode-n.ensures.out_after))

pub returns-then-marked : goal.returns-then-marked
returns-then-marked c =
    let spelled : take c.decode-n.result c.decode-n.new.out ≡ decoded c.args.e.now = front _ _ c.decode-n.ensures.value c.decode-n.ensures.out_after in
    let marks : any is_mark (decoded c.args.e.now) ≡ c.marked.result = sym (c.marked.ensures ∙ ap (any is_mark) (spelled)) in
    refuses_with Refusal.MarkFromHex
    (unhex_marked _ c.if-e-ne0.false (sym c.has_other.ensures ∙ c.if-has_other.false) (marks ∙ c.if-marked.true))

pub give-requires : goal.give-requires
give-requires c =
    let spelled : take c.decode-n.result c.decode-n.new.out ≡ decoded c.args.e.now = front _ _ c.decode-n.ensures.value c.decode-n.ensures.out_after in
    (omega (arith, ap length (spelled), decoded_fits c.args.e.now), search rules)

pub returns : goal.returns
returns c =
    let spelled : take c.decode-n.result c.decode-n.new.out ≡ decoded c.args.e.now = front _ _ c.decode-n.ensures.value c.decode-n.ensures.out_after in
    let marks : any is_mark (decoded c.args.e.now) ≡ c.marked.result = sym (c.marked.ensures ∙ ap (any is_mark) (spelled)) in
    rw (unhex_given _ c.if-e-ne0.false (sym c.has_other.ensures ∙ c.if-has_other.false)
    (marks ∙ c.if-marked.false))
    (rw (spelled) at c.give.ensures)

pub slice_bounds-spelled-end : goal.slice_bounds-spelled-end
slice_bounds-spelled-end c = in_front _ _ c.decode-n.ensures.value c.decode-n.ensures.out_after
