-- `entries::relate` meets its contract.
use mathlib.Core.Path.{refl, sym, ap, ◌∙◌}
use mathlib.Core.List.{[], ◌∷◌}
use native.Mathlib.Omega.{arith}
use Rattle.std.proofs.lemmas.Result.{err_from_is_err_and}
use Rattle.paper.specs.Sizes.{entry_most}
use Rattle.paper.specs.Refusals.{given}
use Rattle.paper.specs.Numbers.{binary_gives}
use Rattle.paper.proofs.Limits.{entry_limit, limited_within, limited_refused, refuses_with, gives_bytes}
use Rattle.numbers.proofs.EntryLaws.{first_byte}
use Rattle.numbers.proofs.entries.relate.Goals as goal

pub returns-in_err-order : goal.returns-in_err-order
unfolding binary_gives
returns-in_err-order c =
    let p = err_from_is_err_and c.from_residual.result c.from_residual.ensures.1 in
    rw (p.1, p.2) (refuses_with _ (limited_refused entry_most (rw (← c.in_err-order.ensures))))

pub bounds-out-0 : goal.bounds-out-0
bounds-out-0 c = omega (arith, entry_limit, c.requires)

pub returns : goal.returns
unfolding binary_gives
returns c =
    gives_bytes _ (c.truth.result ∷ [])
    (limited_within entry_most
    (rw (← c.in_ok-order.ensures) (ap given (sym (c.truth.ensures ∙ rw c.holds.ensures)))) (omega (arith, entry_limit)))
    refl (first_byte _ c.args.out.now (omega (arith, entry_limit, c.requires)))
