-- `tell` meets its contract: part behind part.
use Prim.Native.Nat.{ℕ, ◌+◌, ◌≤◌}
use mathlib.Core.Path.{◌≡◌, refl, ◌∙◌}
use native.Mathlib.Omega.{arith}
use lib.ListN.{length, length-set}
use Rattle.paper.specs.Sizes.{code_most}
use Rattle.paper.specs.Numbers.{decimal}
use Rattle.paper.proofs.Numerals.{length_decimal}
use Rattle.lent.proofs.Laws.{over_as}
use Rattle.lent.proofs.Laying.{laid_at, laid_one, laid_behind}
use Rattle.formula.specs.Formula.{told_of}
use Rattle.formula.proofs.Lines.{number_told, bytes_told}
use Rattle.formula.proofs.tell.Goals as goal

pub bounds-line-blank : goal.bounds-line-blank
bounds-line-blank c = omega (arith, length_decimal c.map_or-refusal.result, c.decimal-blank.auto.out)

pub copy_in-requires : goal.copy_in-requires
copy_in-requires c =
    let short : length c.unwrap_or-text.result.now ≤ code_most = rw (bytes_told c.args.shown _ refl c.unwrap_or-text.ensures) c.requires.0 in
    omega (arith, length_decimal c.map_or-refusal.result, c.decimal-blank.auto.out, length-set {A = ℕ})

pub bounds-line-end : goal.bounds-line-end
bounds-line-end c =
    let short : length c.unwrap_or-text.result.now ≤ code_most = rw (bytes_told c.args.shown _ refl c.unwrap_or-text.ensures) c.requires.0 in
    omega (arith, length_decimal c.map_or-refusal.result, c.decimal-blank.auto.out, c.copy_in.auto.dst, length-set {A = ℕ})

pub returns : goal.returns
unfolding told_of
returns c =
    let refusal = c.map_or-refusal.result in
    let short : length c.unwrap_or-text.result.now ≤ code_most = rw (bytes_told c.args.shown _ refl c.unwrap_or-text.ensures) c.requires.0 in
    let room : c.decimal-blank.result + 1 + length c.unwrap_or-text.result.now + 1 ≤ length c.args.line.now = omega (arith, length_decimal refusal) in
    let size : c.decimal-blank.result ≡ 0 + length (decimal refusal) = omega (arith, c.decimal-blank.ensures.value) in
    let number = laid_at {s = decimal refusal} {d = c.args.line.now} (c.decimal-blank.ensures.out_after ∙ over_as _ _ _ refl) size in
    let blank = laid_behind number (laid_one _ _ 32 refl (omega (arith, c.decimal-blank.auto.out))) (omega arith) in
    let text = laid_behind blank (laid_at c.copy_in.ensures refl) (omega arith) in
    let all = laid_behind text (laid_one _ _ 10 refl (omega (arith, c.decimal-blank.auto.out, c.copy_in.auto.dst, length-set {A = ℕ}))) (omega arith) in
    rw (← (number_told c.args.shown c.err.ensures.value c.map_or-refusal.ensures), ← (bytes_told c.args.shown _ refl c.unwrap_or-text.ensures))
    (record { value = omega (arith, all.place); line_after = all.bytes })
