-- What the loops of this crate compute, in the shapes of the loops: proof furniture, which the laws tie to the definitions.
use Rattle.std.specs.Prelude.{Bool, ℕ, ◌+◌, ◌*◌, leb, if◌then◌else◌}
use Rattle.std.proofs.Math.Option.{Option}
use Rattle.paper.specs.Sizes.{number_most}
use Rattle.paper.specs.Refusals.{Res}
use Rattle.paper.specs.Numbers.{Number as Whole, as_signed}
use Rattle.numbers.specs.Forms.{in_range}

-- one digit more, unless the size is over the limit already: no digit can bring it back
unfoldable pub raised : ℕ → ℕ → ℕ
raised n d = if leb n number_most then n * 10 + d else n

-- what a sign and the value of what follows it give as a number
unfoldable pub value_form : Bool → Option ℕ → Option (Res Whole)
value_form negative o = in_range (as_signed negative o)
