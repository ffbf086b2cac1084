-- `show` meets its contract: part behind part.
use Prim.Native.Nat.{ℕ, ◌+◌, ◌≤◌}
use mathlib.Core.Path.{refl, sym, ap, ◌∙◌}
use native.Mathlib.Omega.{arith}
use lib.ListN.{length, length-map}
use Rattle.paper.specs.Sizes.{record_most}
use Rattle.paper.specs.Program.{drawn}
use Rattle.lent.proofs.Laying.{laid_at, laid_one, laid_behind}
use Rattle.console.specs.Lines.{shown}
use Rattle.console.proofs.Writing.{numbered_short, number_told, bytes_told}
use Rattle.console.proofs.show.Goals as goal

pub number-second-requires : goal.number-second-requires
number-second-requires c = (c.requires.1, omega (arith, numbered_short c.map_or-refusal.result))

pub draw-end-requires : goal.draw-end-requires
draw-end-requires c =
    let short : length c.unwrap_or.result.now ≤ record_most = rw (bytes_told c.args.answer _ refl c.unwrap_or.ensures) c.requires.0 in
    omega (arith, numbered_short c.map_or-refusal.result, numbered_short c.args.steps)

pub bounds-line-end : goal.bounds-line-end
bounds-line-end c =
    let short : length c.unwrap_or.result.now ≤ record_most = rw (bytes_told c.args.answer _ refl c.unwrap_or.ensures) c.requires.0 in
    omega (arith, numbered_short c.map_or-refusal.result, numbered_short c.args.steps)

pub overflow_add-result : goal.overflow_add-result
overflow_add-result c =
    let short : length c.unwrap_or.result.now ≤ record_most = rw (bytes_told c.args.answer _ refl c.unwrap_or.ensures) c.requires.0 in
    omega (arith, numbered_short c.map_or-refusal.result, numbered_short c.args.steps)

pub returns : goal.returns
unfolding shown
returns c =
    let text = c.unwrap_or.result.now in
    let short : length text ≤ record_most = rw (bytes_told c.args.answer _ refl c.unwrap_or.ensures) c.requires.0 in
    let room : c.draw-end.result + 1 ≤ length c.args.line.now = omega (arith, numbered_short c.map_or-refusal.result, numbered_short c.args.steps) in
    let drawn_end = c.draw-end.ensures.value ∙ ap (λ (k : ℕ). c.number-second.result + k) (sym (length-map text drawn)) in
    let all = laid_behind (laid_behind (laid_behind (laid_at c.number-first.ensures.line_after c.number-first.ensures.value) (laid_at c.number-second.ensures.line_after c.number-second.ensures.value) (omega arith)) (laid_at c.draw-end.ensures.line_after drawn_end) (omega arith)) (laid_one _ _ 10 refl (omega arith)) (omega arith) in
    rw (← (number_told c.args.answer c.err.ensures.value c.map_or-refusal.ensures), ← (bytes_told c.args.answer _ refl c.unwrap_or.ensures))
    (record { value = omega (arith, all.place); line_after = all.bytes })
