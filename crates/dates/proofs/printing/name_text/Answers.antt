-- `printing::name_text` lays the name that the definition has over the buffer.
use native.Mathlib.Numerals.{sub-one}
use Rattle.paper.specs.Bytes.{bytes}
use Rattle.paper.specs.Dates.{month_names}
use Rattle.dates.proofs.printing.name_text.Goals as goal

pub returns : goal.returns
unfolding month_names bytes
returns c = rw sub-one at c.copy_in.ensures
