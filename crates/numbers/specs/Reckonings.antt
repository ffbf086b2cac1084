-- What reckoning gives before it is text, by the paper's own operations: proof furniture.
use Rattle.paper.specs.Bytes.{Bytes}
use Rattle.paper.specs.Refusals.{Res, given, ◌>>=◌}
use Rattle.paper.specs.Numbers.{Number as Whole, ranged, number, plus, negated, quotient, remainder, divided, multiplied}
use Rattle.codes.specs.declared.Arithmetic.{Arithmetic}

-- what two numbers in range give
unfoldable pub operated : Arithmetic → Whole → Whole → Res Whole
operated (Arithmetic.Multiply n) x y = multiplied n x y
operated Arithmetic.Divide x y = divided quotient x y
operated Arithmetic.Rest x y = divided remainder x y
operated Arithmetic.Add x y = given (plus x y)
operated Arithmetic.Subtract x y = given (plus x (negated y))

-- the same in range
unfoldable pub reckoning : Arithmetic → Whole → Whole → Res Whole
reckoning op x y = operated op x y >>= ranged

-- what two entries give as numbers
unfoldable pub calculation : Arithmetic → Bytes → Bytes → Res Whole
calculation op second top = do
  x ← number second
  y ← number top
  reckoning op x y
