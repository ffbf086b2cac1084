-- `entries::cut` meets its contract.
use mathlib.Core.Path.{refl, ap, ◌∙◌}
use Prim.Native.Nat.{ℕ, ◌+◌, ◌-◌, min}
use native.Mathlib.Omega.{arith}
use lib.ListN.{length, drop, length-take}
use Rattle.paper.specs.declared.Refusal.{Refusal}
use Rattle.paper.specs.Sizes.{entry_most}
use Rattle.paper.proofs.Limits.{entry_limit, limited_within, limited_over, refuses_with, gives_bytes}
use Rattle.lent.proofs.Laws.{over_front}
use Rattle.numbers.proofs.EntryLaws.{clipped, clipped_length}
use Rattle.numbers.proofs.entries.cut.Goals as goal

pub returns-then-size : goal.returns-then-size
returns-then-size c =
    let s = c.args.third.now in
    let p = c.min-from.ensures ∙ ap (λ (m : ℕ). min m (length s)) c.skipped.ensures in
    let q = c.min-size.ensures ∙ ap (λ (n : ℕ). min n (length s - c.min-from.result)) c.taken.ensures in
    refuses_with Refusal.OverLongEntry (limited_over entry_most refl (omega (arith, entry_limit, clipped_length _ _ _ _ s p q)))

pub copy_in-requires : goal.copy_in-requires
copy_in-requires c =
    omega (
      arith,
      entry_limit,
      length-take (c.min-from.result + c.min-size.result - c.min-from.result)
          (drop c.min-from.result c.args.third.now),
    )

pub returns : goal.returns
returns c =
    let s = c.args.third.now in
    let p = c.min-from.ensures ∙ ap (λ (m : ℕ). min m (length s)) c.skipped.ensures in
    let q = c.min-size.ensures ∙ ap (λ (n : ℕ). min n (length s - c.min-from.result)) c.taken.ensures in
    let l = clipped_length _ _ _ _ s p q in
    gives_bytes _ _ (limited_within entry_most refl (omega (arith, entry_limit))) l (c.copy_in.ensures ∙ over_front _ _ ∙ rw (clipped _ _ _ _ s p q))
