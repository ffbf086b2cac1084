-- The stack in the lent scratch: slots of one entry each, their lengths beside them.
use Rattle.std.specs.Prelude.{ℕ, zero, suc, ◌+◌, ◌*◌, ◌≤◌, ◌≡◌, List, [], ◌∷◌, length, get_or, take, drop, set}
use Rattle.paper.specs.Bytes.{Bytes}
use Rattle.paper.specs.Sizes.{entry_most, record_most, stack_most, scratch_least}
use Rattle.lent.specs.Over.{over}

-- the stack's entries, behind them the element on its way through the codes, and one to spare
abbrev pub element_slot : ℕ
element_slot = stack_most

abbrev pub spare_slot : ℕ
spare_slot = element_slot + 1

abbrev pub slots : ℕ
slots = spare_slot + 1

-- what slot k holds
unfoldable pub entry_at : Bytes → List ℕ → ℕ → Bytes
entry_at scratch lens k = take (get_or lens k 0) (drop (k * entry_most) scratch)

-- the first n slots as a stack, the top one first
unfoldable pub stack_of : Bytes → List ℕ → ℕ → List Bytes
stack_of scratch lens zero = []
stack_of scratch lens (suc k) = entry_at scratch lens k ∷ stack_of scratch lens k

-- the scratch and the lengths with bytes put into slot k
unfoldable pub put_in : Bytes → ℕ → Bytes → Bytes
put_in scratch k bs = over scratch (k * entry_most) bs

unfoldable pub put_length : List ℕ → ℕ → Bytes → List ℕ
put_length lens k bs = set lens k (length bs)

-- two neighbouring slots exchanged by way of the spare one
unfoldable pub exchanged : Bytes → List ℕ → ℕ → Bytes
exchanged scratch lens k =
    put_in (put_in (put_in scratch spare_slot (entry_at scratch lens k)) k (entry_at scratch lens (k + 1))) (k + 1)
    (entry_at scratch lens k)

unfoldable pub exchanged_lengths : Bytes → List ℕ → ℕ → List ℕ
exchanged_lengths scratch lens k =
    put_length (put_length (put_length lens spare_slot (entry_at scratch lens k)) k (entry_at scratch lens (k + 1))) (k + 1)
    (entry_at scratch lens k)

-- a scratch that is long enough, and a length for each slot, none over the limit
pub record Slotted (scratch : Bytes) (lens : List ℕ) : Type 0 where
  pub long : scratch_least ≤ length scratch
  pub each : length lens ≡ slots
  pub fits : (k : ℕ) → get_or lens k 0 ≤ entry_most

-- what is lent to the machine beside the slots: a record within its limit, and a work buffer for one entry
pub record Lent (item work : Bytes) : Type 0 where
  pub record_fits : length item ≤ record_most
  pub work_fits : entry_most ≤ length work
