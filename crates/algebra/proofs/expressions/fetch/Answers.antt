-- `expressions::fetch` meets its contract: what F's reader of elms ate is copied.
use Prim.Native.Nat.{◌-◌}
use mathlib.Core.Path.{sym, ap, ◌∙◌}
use native.Mathlib.Omega.{arith}
use Rattle.std.specs.Result.{result_ok}
use Rattle.lent.proofs.Laws.{length_from}
use Rattle.grammar.specs.Reading.{elm}
use Rattle.algebra.specs.Laying.{laid, unread}
use Rattle.algebra.proofs.Fetching.{ok_read, ok_none, fetch_none, fetch_within, fetch_other, fetch_laid}
use Rattle.algebra.proofs.Laying.{ended}
use Rattle.algebra.proofs.expressions.fetch.Goals as goal

pub returns-in_err-read : goal.returns-in_err-read
returns-in_err-read c =
    let found = ok_none (elm c.args.code.now c.args.at) (c.in_err-read.ensures.value ∙ ap result_ok c.elm.ensures) in
    ended c.from_residual.ensures (unread (fetch_none _ _ c.requires.inside found))

pub returns-then-not-fetches : goal.returns-then-not-fetches
returns-then-not-fetches c =
    unread (fetch_other _ _ c.requires.inside _ _
    (ok_read (elm c.args.code.now c.args.at) (c.in_ok-read.ensures.value ∙ ap result_ok c.elm.ensures)) (sym c.if-not-fetches.ensures))

pub slice_bounds-spell-count : goal.slice_bounds-spell-count
slice_bounds-spell-count c =
    omega (
      arith,
      fetch_within c.args.code.now c.args.at c.requires.inside _ _
          (ok_read (elm c.args.code.now c.args.at) (c.in_ok-read.ensures.value ∙ ap result_ok c.elm.ensures)),
    )

pub slice_bounds-spell-start : goal.slice_bounds-spell-start
slice_bounds-spell-start c =
    omega (
      arith,
      fetch_within c.args.code.now c.args.at c.requires.inside _ _
          (ok_read (elm c.args.code.now c.args.at) (c.in_ok-read.ensures.value ∙ ap result_ok c.elm.ensures)),
    )

pub slice_bounds-spell-end : goal.slice_bounds-spell-end
slice_bounds-spell-end c =
    omega (
      arith,
      fetch_within c.args.code.now c.args.at c.requires.inside _ _
          (ok_read (elm c.args.code.now c.args.at) (c.in_ok-read.ensures.value ∙ ap result_ok c.elm.ensures)),
    )

pub spell-requires : goal.spell-requires
spell-requires c =
    let at = c.args.at in
    let within = fetch_within c.args.code.now at c.requires.inside _ _
    (ok_read (elm c.args.code.now at) (c.in_ok-read.ensures.value ∙ ap result_ok c.elm.ensures)) in
    omega (arith, within, c.requires.few, c.requires.enough, length_from c.args.code.now at (c.in_ok-read.read.next - at) (omega (arith, within)))

pub returns : goal.returns
returns c =
    laid (fetch_laid _ _ c.requires.inside _ _
    (ok_read (elm c.args.code.now c.args.at) (c.in_ok-read.ensures.value ∙ ap result_ok c.elm.ensures)) (sym c.if-not-fetches.ensures) c.spell.ensures)
