-- Document 01, "Examples on both sides": the program, from the bytes it reads to the bytes it writes.
use Rattle.std.specs.Prelude.{ℕ, [], ◌∷◌, ◌++◌, map, take, eqb, if◌then◌else◌}
use Rattle.std.proofs.Math.Option.{Option, none, some}
use Rattle.paper.specs.Bytes.{Bytes, ch, bytes}
use Rattle.paper.specs.Sizes.{attribute_mark, value_mark, subvalue_mark, record_most, scratch_least}
use Rattle.paper.specs.Records.{split, nth, or_empty}
use Rattle.paper.specs.Numbers.{decimal}
use Rattle.paper.specs.Grammar.{Reader, ◌>>=◌, ◌>>◌, gives, this, numeral, all_read}
use Rattle.paper.specs.Converting.{Outcome, convert}
use Rattle.paper.specs.Refusals.{refusal_of, answer_of}

-- "Below they are drawn `^` for 254, `]` for 253 and `\` for 252."
unfoldable pub drawn : ℕ → ℕ
drawn b =
    if eqb b attribute_mark then ch "^"
    else (if eqb b value_mark then ch "]" else (if eqb b subvalue_mark then ch "\\" else b))

-- "budget 1,000,000"
abbrev pub program_budget : ℕ
program_budget = 1_000_000

-- "only 65,536 bytes are read"
abbrev pub program_reads : ℕ
program_reads = 65_536

-- "A line ends at byte 10"; "missing lines are empty"
unfoldable pub line : ℕ → Bytes → Bytes
line n input = or_empty (nth n (split 10 (take program_reads input)))

-- An address as typed.
pub record Address : Type 0 where
  pub a : ℕ
  pub v : ℕ
  pub s : ℕ

-- "three numbers of 1 to 5 digits parted by commas"
unfoldable pub address_form : Reader Address
address_form = do
  a ← numeral 4
  this (ch ",")
  v ← numeral 4
  this (ch ",")
  s ← numeral 4
  gives (record { a = a; v = v; s = s })

-- "refusal number (0 for none), steps and answer, parted by single blanks, marks drawn", and a line end
unfoldable pub printed : Outcome → Bytes
printed o =
    decimal (refusal_of o.answer) ++ ch " " ∷ decimal o.steps ++ ch " " ∷ map drawn (answer_of o.answer) ++ 10 ∷ []

-- "If line 2 is not three numbers .., it prints `4 0 ` and a line end, before any other refusal"
unfoldable pub answered : Bytes → Bytes → Option Address → Bytes
answered string item none = bytes "4 0 \n"
answered string item (some p) =
    printed (convert item string p.a p.v p.s program_budget record_most scratch_least)

-- "line 1 the code, line 2 the address as `1,0,0`, line 3 the record, raw marks"
unfoldable pub program : Bytes → Bytes
program input = answered (line 0 input) (line 2 input) (all_read (address_form (line 1 input)))
