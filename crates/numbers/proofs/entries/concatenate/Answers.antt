-- `entries::concatenate` meets its contract.
use mathlib.Core.Path.{refl, sym, ◌∙◌}
use native.Mathlib.Omega.{arith}
use lib.ListN.{length-append}
use Rattle.paper.specs.declared.Refusal.{Refusal}
use Rattle.paper.specs.Sizes.{entry_most}
use Rattle.paper.specs.Numbers.{binary_gives}
use Rattle.paper.proofs.Limits.{entry_limit, limited_within, limited_over, refuses_with, gives_bytes}
use Rattle.lent.proofs.Laws.{over_behind}
use Rattle.numbers.proofs.entries.concatenate.Goals as goal

pub returns-then-size : goal.returns-then-size
unfolding binary_gives
returns-then-size c = refuses_with Refusal.OverLongEntry (limited_over entry_most refl (rw length-append (omega (arith, entry_limit))))

pub copy_in-requires : goal.copy_in-requires
copy_in-requires c = omega (arith, entry_limit)

pub copy_in-requires-2 : goal.copy_in-requires-2
copy_in-requires-2 c = omega (arith, entry_limit, c.copy_in.auto.dst)

pub returns : goal.returns
unfolding binary_gives
returns c =
    let a = c.args in
    gives_bytes _ _ (limited_within entry_most refl (rw length-append (omega (arith, entry_limit)))) (sym (length-append a.second.now a.top.now))
    (c.copy_in-2.ensures ∙ rw c.copy_in.ensures (over_behind a.out.now a.second.now a.top.now _ refl))
