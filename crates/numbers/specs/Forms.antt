-- The code's numbers beside those of the definitions, and what a numeric form is read as.
use Rattle.std.specs.Prelude.{◌∷◌, if◌then◌else◌}
use Rattle.std.specs.Fmt.{decimal}
use Rattle.std.proofs.Math.Option.{Option, none, some}
use Rattle.paper.specs.Bytes.{Bytes, ch}
use Rattle.paper.specs.Refusals.{Res, refused, not_convertible}
use Rattle.paper.specs.Numbers.{Number as Whole, ranged}
use Rattle.numbers.specs.declared.Number.{Number}

-- the code's number as the definitions have it, and back
abbrev pub whole : Number → Whole
whole x = record { negative = x.negative; size = x.size }

abbrev pub coded : Whole → Number
coded x = record { negative = x.negative; size = x.size }

-- "A string in numeric form with a value out of range is 10 wherever it is read as a number."
abbrev pub in_range : Option Whole → Option (Res Whole)
in_range none = none
in_range (some x) = some (ranged x)

-- what ML, MR and D convert: "other non-numeric is 12", then 10
abbrev pub convertible : Option Whole → Res Whole
convertible none = refused not_convertible
convertible (some x) = ranged x

-- a number as the programs print it: its size in decimal, behind a minus where it is negative
abbrev pub printed : Number → Bytes
printed x = if x.negative then ch "-" ∷ decimal x.size else decimal x.size
