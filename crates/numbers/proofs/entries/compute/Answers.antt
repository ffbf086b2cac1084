-- `entries::compute` meets its contract.
use mathlib.Core.Path.{◌∙◌}
use native.Mathlib.Omega.{arith}
use Rattle.std.proofs.lemmas.Result.{err_from_is_err_and}
use Rattle.paper.specs.Sizes.{entry_most}
use Rattle.paper.specs.Numbers.{number_text}
use Rattle.paper.proofs.Numerals.{length_text}
use Rattle.paper.proofs.Limits.{entry_limit, limited_within, limited_refused, refuses_with, gives_bytes}
use Rattle.numbers.specs.Forms.{whole}
use Rattle.numbers.proofs.ReckoningLaws.{calculated_small, texted}
use Rattle.numbers.proofs.entries.compute.Goals as goal

pub returns-in_err-x : goal.returns-in_err-x
returns-in_err-x c =
    let a = c.args in
    let p = err_from_is_err_and c.from_residual.result c.from_residual.ensures.1 in
    rw (p.1, p.2) (refuses_with _ (limited_refused entry_most (texted a.op a.second.now a.top.now ∙ rw (← c.in_err-x.ensures))))

pub text-requires : goal.text-requires
text-requires c = (calculated_small _ _ _ c.in_ok-x.x c.in_ok-x.ensures, omega (arith, entry_limit, c.requires))

pub returns : goal.returns
returns c =
    let a = c.args in
    let x = whole c.in_ok-x.x in
    gives_bytes _ (number_text x)
    (limited_within entry_most (texted a.op a.second.now a.top.now ∙ rw (← c.in_ok-x.ensures)) (omega (arith, entry_limit, length_text x)))
    c.text.ensures.value c.text.ensures.out_after
