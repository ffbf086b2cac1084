-- The paper's order for each case of the code's, and what comparing gives by the forms of both.
use Rattle.std.specs.declared.cmp.Ordering.{Ordering}
use Rattle.std.specs.declared.cmp.Ordering.TheVariants.{Less, Equal, Greater}
use Rattle.paper.specs.Bytes.{Bytes}
use Rattle.paper.specs.Refusals.{Res, given, ◌>>=◌}
use Rattle.paper.specs.Numbers.{Number as Whole, below, bytes_below, Order as Standing, less, same, more, order_by}

abbrev pub order_of : Ordering → Standing
order_of Less = less
order_of Equal = same
order_of Greater = more

-- "as numbers when both have numeric form"
unfoldable pub numbers_order : Res Whole → Res Whole → Res Standing
numbers_order second top = do
  x ← second
  y ← top
  given (order_by (below x y) (below y x))

-- "else by bytes, a prefix being smaller"
unfoldable pub bytes_order : Bytes → Bytes → Standing
bytes_order s t = order_by (bytes_below s t) (bytes_below t s)
