-- What finding answers, as the code has it: a part by its place and length, or none.
use Rattle.std.specs.Prelude.{ℕ, ◌+◌, ◌≤◌, [], length, take, drop, Some, None}
use Rattle.std.specs.Prelude.{Option as Maybe}
use Rattle.std.proofs.Math.Option.{Option, none, some}
use Rattle.paper.specs.Bytes.{Bytes}
use Rattle.paper.specs.Refusals.{Res, given, refused, ◌>>◌}
use Rattle.paper.specs.Records.{Part, lawful_record, lawful_address}
use Rattle.records.specs.declared.Span.{Span}

-- "Finding tries 1, 2, 3, 4": the tests alone
unfoldable pub lawful_find : Bytes → ℕ → ℕ → ℕ → Res (Unit {0})
lawful_find item a v s = do
  lawful_record item
  lawful_address a v s

-- "found" with the part's place and length, or "missing"
abbrev pub part_of : Option Part → Maybe Span
part_of (some p) = Some (record { start = p.start; len = length p.text })
part_of none = None

-- the same behind the tests
abbrev pub found_of : Res (Option Part) → Res (Maybe Span)
found_of (given o) = given (part_of o)
found_of (refused n) = refused n

-- none also where it is refused
abbrev pub part_in : Res (Option Part) → Maybe Span
part_in (given o) = part_of o
part_in (refused n) = None

-- a part that lies in `size` bytes
abbrev pub Within : ℕ → Maybe Span → Type 0
Within size (Some p) = p.start + p.len ≤ size
Within size None = Unit {0}

-- its bytes, none where there is no part
abbrev pub part_bytes : Bytes → Maybe Span → Bytes
part_bytes item (Some p) = take p.len (drop p.start item)
part_bytes item None = []

-- where they stand: in the record's own memory, as many bytes on from where it begins; an empty part stands where it begins
abbrev pub part_there : ℕ × ℕ → Maybe Span → ℕ × ℕ
part_there q (Some p) = (q.0, p.start + q.1)
part_there q None = q
