-- Document 01, "Where each language form belongs": what the code answers, a Result or an Option, as the paper's answers and places.
use Rattle.std.specs.Prelude.{ℕ, ◌++◌, length, drop, Result, Ok, Err, Some, None}
use Rattle.std.specs.Prelude.{Option as Maybe}
use Rattle.std.proofs.Math.Option.{Option, none, some}
use Rattle.paper.specs.Bytes.{Bytes}
use Rattle.paper.specs.Refusals.{
  Res,
  given,
  refused,
  over_long_record,
  bad_byte,
  bad_id,
  bad_address,
  over_long_code,
  not_in_grammar,
  stack_fault,
  short_scratch,
  over_long_entry,
  out_of_range,
  zero_divisor,
  not_convertible,
  mark_from_hex,
  wider_than_mask,
  over_budget,
  short_output,
  mark_in_element,
  left_over_entries,
}
use Rattle.paper.specs.declared.Refusal.{Refusal}
use Rattle.paper.specs.declared.Read.{Read}

-- the number that the paper gives a refusal
abbrev pub number_of : Refusal → ℕ
number_of Refusal.OverLongRecord = over_long_record
number_of Refusal.BadByte = bad_byte
number_of Refusal.BadId = bad_id
number_of Refusal.BadAddress = bad_address
number_of Refusal.OverLongCode = over_long_code
number_of Refusal.NotInGrammar = not_in_grammar
number_of Refusal.StackFault = stack_fault
number_of Refusal.ShortScratch = short_scratch
number_of Refusal.OverLongEntry = over_long_entry
number_of Refusal.OutOfRange = out_of_range
number_of Refusal.ZeroDivisor = zero_divisor
number_of Refusal.NotConvertible = not_convertible
number_of Refusal.MarkFromHex = mark_from_hex
number_of Refusal.WiderThanMask = wider_than_mask
number_of Refusal.OverBudget = over_budget
number_of Refusal.ShortOutput = short_output
number_of Refusal.MarkInElement = mark_in_element
number_of Refusal.LeftOverEntries = left_over_entries

-- a Result as the paper's answer, what it holds read by f: the refusal is told by its number
abbrev pub told_by : {A B : Type 0} → (A → B) → Result A Refusal → Res B
told_by f (Ok a) = given (f a)
told_by f (Err r) = refused (number_of r)

-- and where the code holds what the paper has
abbrev pub told : {A : Type 0} → Result A Refusal → Res A
told (Ok a) = given a
told (Err r) = refused (number_of r)

-- a call that gives bytes tells how many
abbrev pub sized : Res Bytes → Res ℕ
sized (given bs) = given (length bs)
sized (refused n) = refused n

-- how many it tells, none on a refusal
abbrev pub length_in : Result ℕ Refusal → ℕ
length_in (Ok n) = n
length_in (Err r) = 0

-- an Option as the paper's, what it holds read by f
abbrev pub maybe_by : {A B : Type 0} → (A → B) → Maybe A → Option B
maybe_by f None = none
maybe_by f (Some a) = some (f a)

abbrev pub maybe : {A : Type 0} → Maybe A → Option A
maybe None = none
maybe (Some a) = some a

-- what is read and the place after it, or the one refusal of a reader
abbrev pub read_or : {A : Type 0} → Refusal → Option (A × ℕ) → Result (Read A) Refusal
read_or r none = Err r
read_or r (some (a, n)) = Ok (record { value = a; next = n })

-- a work buffer after a function that gives a text: the text laid over its front, the rest as it was; on a refusal all as it was
unfoldable pub written : Bytes → Res Bytes → Bytes
written held (given bs) = bs ++ drop (length bs) held
written held (refused n) = held
