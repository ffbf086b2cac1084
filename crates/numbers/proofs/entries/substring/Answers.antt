-- `entries::substring` meets its contract: the start's range, the count's, and then the part.
use Rattle.std.proofs.lemmas.Result.{err_from_is_err_and}
use Rattle.paper.specs.Sizes.{entry_most}
use Rattle.paper.specs.Numbers.{substring_gives}
use Rattle.paper.proofs.Limits.{limited_refused, refuses_with}
use Rattle.numbers.proofs.entries.substring.Goals as goal

pub returns-in_err-start : goal.returns-in_err-start
unfolding substring_gives
returns-in_err-start c =
    let p = err_from_is_err_and c.from_residual.result c.from_residual.ensures.1 in
    rw (p.1, p.2) (refuses_with _ (limited_refused entry_most (rw (← c.in_err-start.ensures))))

pub returns-in_err-count : goal.returns-in_err-count
unfolding substring_gives
returns-in_err-count c =
    let p = err_from_is_err_and c.from_residual-in_err-count.result c.from_residual-in_err-count.ensures.1 in
    rw (p.1, p.2) (refuses_with _ (limited_refused entry_most (rw (← c.in_ok-start.ensures, ← c.in_err-count.ensures))))

pub returns : goal.returns
unfolding substring_gives
returns c = rw (← c.in_ok-start.ensures, ← c.in_ok-count.ensures) c.cut.ensures
