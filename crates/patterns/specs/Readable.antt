-- Patterns that are read again from the code string, and what trying them tells.
use Rattle.std.specs.Prelude.{ℕ, ◌≡◌, Bool, List, drop}
use Rattle.std.proofs.Math.Option.{Option, none, some}
use Rattle.paper.specs.Bytes.{Bytes}
use Rattle.paper.specs.Codes.{Pattern}
use Rattle.paper.specs.Grammar.{pattern_list}

-- patterns stand at this place, as they do in a code that was checked
pub data Readable (code : Bytes) (start : ℕ) : Type 0 where
  readable : {ps : List Pattern} {rest : Bytes} → pattern_list (drop start code) ≡ some (ps, rest) → Readable code start

-- the tests that were read, if they were: whether they hold, and the place behind them
pub data Judged (holds : Pattern → Bool) (code : Bytes) (passed : Bool) (next : ℕ) : Option (Pattern × Bytes) → Type 0 where
  judged : {ts : Pattern} {rest : Bytes} → passed ≡ holds ts → rest ≡ drop next code → Judged holds code passed next (some (ts, rest))
  unread : Judged holds code passed next none

-- the patterns that were read, if they were: whether they hold
pub data Decided (holds : List Pattern → Bool) (passed : Bool) : Option (List Pattern × Bytes) → Type 0 where
  decided : {ps : List Pattern} {rest : Bytes} → passed ≡ holds ps → Decided holds passed (some (ps, rest))
  unread : Decided holds passed none
