-- How the elements go through a string: by the one code that it is, other than F, or by its codes in their turn.
use Rattle.std.specs.Prelude.{length, eqb, if◌then◌else◌, Some, None}
use Rattle.std.specs.Prelude.{Option as Maybe}
use Rattle.std.proofs.Math.Option.{Option, none, some}
use Rattle.paper.specs.Bytes.{Bytes}
use Rattle.codes.specs.declared.Conversion.{Conversion}
use Rattle.grammar.specs.declared.Head.{Head}
use Rattle.grammar.specs.Heads.{head, code_end}

-- by what the whole string begins with; a code stands alone where no mark parts the string
unfoldable pub planned : Bytes → Option Head → Maybe Conversion
planned string (some (Head.Function first)) = None
planned string (some (Head.Single c)) = if eqb (code_end string 0) (length string) then Some c else None
planned string none = None

unfoldable pub plan_of : Bytes → Maybe Conversion
plan_of string = planned string (head string)
