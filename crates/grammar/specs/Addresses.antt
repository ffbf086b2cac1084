-- A typed address by place, and what is answered.
use Rattle.std.specs.Prelude.{ℕ, Result, Ok, Err}
use Rattle.std.proofs.Math.Option.{Option, none, some}
use Rattle.paper.specs.Bytes.{ch}
use Rattle.paper.specs.Program as paper
use Rattle.paper.specs.declared.Address.{Address}
use Rattle.paper.specs.declared.Refusal.{Refusal}
use Rattle.readers.specs.Places.{Placed, ◌>>=◌, ◌>>◌, gives, this, numeral}

-- a comma and a number
abbrev pub another : Placed ℕ
another = this (ch ",") >> numeral 4

-- the paper's `address_form` by place
unfoldable pub address : Placed Address
address = do
  a ← numeral 4
  v ← another
  s ← another
  gives (record { a = a; v = v; s = s })

-- another form is 4: "If line 2 is not three numbers of 1 to 5 digits parted by commas, it prints `4 0 `"
abbrev pub address_read : Option paper.Address → Result Address Refusal
address_read none = Err Refusal.BadAddress
address_read (some p) = Ok (record { a = p.a; v = p.v; s = p.s })
