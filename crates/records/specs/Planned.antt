-- What a replacement is to do, as the code has it, and the tests that lead to it.
use Rattle.std.specs.Prelude.{ℕ, ◌≤◌, ◌&&◌, length, leb, ltb, eqb}
use Rattle.paper.specs.Bytes.{Bytes, any}
use Rattle.paper.specs.Sizes.{is_mark, entry_most, id_most, record_most, position_most}
use Rattle.paper.specs.Refusals.{Res, given, refused, ◌>>◌, refuse◌unless◌, refuse◌when◌, over_long_record, over_long_entry, mark_in_element, bad_id, short_output}
use Rattle.records.specs.declared.Plan.{Plan}
use Rattle.records.specs.declared.Spot.{Spot}

-- 9 and 17 of the new bytes, and 3 where they are to be the id
unfoldable pub lawful_new : Bytes → ℕ → Res (Unit {0})
lawful_new new a = do
  refuse over_long_entry unless leb (length new) entry_most
  refuse mark_in_element when any is_mark new
  refuse bad_id when eqb a 0 && ltb id_most (length new)

-- the spot lies in a record of `size` bytes, and no part of what is added up is over a record's or a position's size
pub record Small (size : ℕ) (p : Spot) (count : ℕ) : Type 0 where
  pub ordered : p.start ≤ p.end
  pub inside : p.end ≤ size
  pub short : size ≤ record_most
  pub few : count ≤ record_most
  pub attributes : p.attributes ≤ position_most
  pub values : p.values ≤ position_most
  pub subvalues : p.subvalues ≤ position_most

-- 1 and 16 of what would result
abbrev pub sized_plan : Spot → ℕ → ℕ → Res Plan
sized_plan p total room = do
  refuse over_long_record unless leb total record_most
  refuse short_output unless leb total room
  given (record { spot = p; total = total })

-- the spot to write at, where replacing gives a record; its refusal otherwise
abbrev pub planned : Spot → Res Bytes → Res Plan
planned p (given bs) = given (record { spot = p; total = length bs })
planned p (refused n) = refused n
