-- `lines::typed_address` meets its contract: three numbers of one field.
use Rattle.cases.proofs.lines.typed_address.Goals as goal

pub returns : goal.returns
returns c =
    let whole = c.field-text.ensures in (
      rw (c.number.ensures, c.field.ensures, whole),
      rw (c.number-2.ensures, c.field-2.ensures, whole),
      rw (c.number-3.ensures, c.field-3.ensures, whole),
    )
