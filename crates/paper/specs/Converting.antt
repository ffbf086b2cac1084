-- Document 01, "What each code gives" (the elements of an address) and "Steps" (budget, count, ceiling), and document 02, L1: converting.
use Rattle.std.specs.Prelude.{ℕ, zero, suc, ◌+◌, ◌*◌, List, [], ◌∷◌, ◌++◌, length, replicate, leb, if◌then◌else◌}
use Rattle.std.proofs.Math.Option.{Option, none, some}
use Rattle.paper.specs.Bytes.{Bytes, buffer}
use Rattle.paper.specs.Sizes.{value_mark, subvalue_mark, entry_most, scratch_least}
use Rattle.paper.specs.Records.{Part, split, place, lawful_record, lawful_address}
use Rattle.paper.specs.Codes.{Elm, Code}
use Rattle.paper.specs.Checking.{conversion_kind, shape, Counts, check, checked_codes}
use Rattle.paper.specs.Steps.{Run, done, stop, step, onward, step_ceiling, element_run}
use Rattle.paper.specs.Refusals.{Res, given, refused, ◌>>=◌, ◌>>◌, refuse◌unless◌, answer_of, short_scratch, over_budget, short_output}

-- An element of an address: the mark kept before it (none before the first), its own (v, s), its bytes.
pub record Element : Type 0 where
  pub before : Bytes
  pub v : ℕ
  pub s : ℕ
  pub text : Bytes

-- a value's subvalues from the s-th on
unfoldable pub subvalues : Bytes → ℕ → ℕ → List Bytes → List Element
subvalues before v s [] = []
subvalues before v s (x ∷ xs) =
    record { before = before; v = v; s = s; text = x } ∷ subvalues (subvalue_mark ∷ []) v (suc s) xs

-- an attribute's subvalues from the v-th value on
unfoldable pub values : Bytes → ℕ → List Bytes → List Element
values before v [] = []
values before v (x ∷ xs) = subvalues before v 1 (split subvalue_mark x) ++ values (value_mark ∷ []) (suc v) xs

-- "for the id, and a place named only in part, counting starts at 1"
unfoldable pub from_one : ℕ → ℕ
from_one zero = 1
from_one (suc n) = suc n

-- the elements inside a part that (a,v,s) named
unfoldable pub elements_in : ℕ → ℕ → Bytes → List Element
elements_in zero s text = values [] 1 (split value_mark text)
elements_in (suc v) zero text = subvalues [] (suc v) 1 (split subvalue_mark text)
elements_in (suc v) (suc s) text = record { before = []; v = suc v; s = suc s; text = text } ∷ []

-- "A missing place counts as one empty element."
unfoldable pub elements_of : ℕ → ℕ → Option Part → List Element
elements_of v s (some p) = elements_in v s p.text
elements_of v s none = record { before = []; v = from_one v; s = from_one s; text = [] } ∷ []

-- "Converting takes each subvalue inside the address, left to right"
unfoldable pub elements : Bytes → ℕ → ℕ → ℕ → List Element
elements item a v s = elements_of v s (place item a v s)

-- "and keeps the marks between"
unfoldable pub elements_run : ℕ → Bytes → List Code → List Element → Run Bytes
elements_run most item cs [] = done []
elements_run most item cs (e ∷ es) =
    onward (element_run most item e.v e.s cs e.text)
    (λ r. onward (elements_run most item cs es) (λ rest. done (e.before ++ r ++ rest)))

-- "The defined count is that sum with no budget."
unfoldable pub count : {A : Type 0} → Run A → ℕ
count (done a) = 0
count (stop n) = 0
count (step cost r) = cost + count r

-- the answer or refusal that the run comes to with no budget
unfoldable pub result : {A : Type 0} → Run A → Res A
result (done a) = given a
result (stop n) = refused n
result (step cost r) = result r

-- What a run comes to: an answer or a refusal, and the steps reported.
pub record Ending (A : Type 0) : Type 0 where
  pub answer : Res A
  pub steps : ℕ

-- and what converting comes to
abbrev pub Outcome : Type 0
Outcome = Ending Bytes

-- "then 15 if the steps so far plus this cost pass the budget. The count reported is the cost of completed steps"
unfoldable pub within_budget : {A : Type 0} → ℕ → ℕ → Run A → Ending A
within_budget budget so_far (done a) = record { answer = given a; steps = so_far }
within_budget budget so_far (stop n) = record { answer = refused n; steps = so_far }
within_budget budget so_far (step cost r) =
    if leb (so_far + cost) budget then within_budget budget (so_far + cost) r
    else record { answer = refused over_budget; steps = so_far }

-- "Converting: 1, 2, 3, 4 .."
unfoldable pub lawful_place : Bytes → ℕ → ℕ → ℕ → Res (Unit {0})
lawful_place item a v s = do
  lawful_record item
  lawful_address a v s

-- ".. 5, 6 or 7, 8 ..", and 18 where 6 and 7 stand
unfoldable pub lawful_code : Bytes → ℕ → Res (List Code)
lawful_code string scratch = do
  cs ← checked_codes (check string)
  refuse short_scratch unless leb scratch_least scratch
  given cs

unfoldable pub ready : Bytes → Bytes → ℕ → ℕ → ℕ → ℕ → Res (List Code)
ready item string a v s scratch = do
  lawful_place item a v s
  lawful_code string scratch

-- ".. then the run .."
unfoldable pub run : Bytes → ℕ → ℕ → ℕ → List Code → Run Bytes
run item a v s cs = elements_run entry_most item cs (elements item a v s)

-- ".. then 16"
unfoldable pub fitted : ℕ → Res Bytes → Res Bytes
fitted room (refused n) = refused n
fitted room (given bs) = do
  refuse short_output unless leb (length bs) room
  given bs

unfoldable pub finished : ℕ → Outcome → Outcome
finished room o = record { answer = fitted room o.answer; steps = o.steps }

-- the run under a reader of runs; "0 when the run never began"
unfoldable pub carried_out : (Run Bytes → Outcome) → Bytes → ℕ → ℕ → ℕ → ℕ → Res (List Code) → Outcome
carried_out reader item a v s room (refused n) = record { answer = refused n; steps = 0 }
carried_out reader item a v s room (given cs) = finished room (reader (run item a v s cs))

unfoldable pub convert : Bytes → Bytes → ℕ → ℕ → ℕ → ℕ → ℕ → ℕ → Outcome
convert item string a v s budget room scratch =
    carried_out (within_budget budget 0) item a v s room (ready item string a v s scratch)

-- the same with no budget: the run's own result and count
unfoldable pub unbudgeted : {A : Type 0} → Run A → Ending A
unbudgeted r = record { answer = result r; steps = count r }

unfoldable pub convert_freely : Bytes → Bytes → ℕ → ℕ → ℕ → ℕ → ℕ → Outcome
convert_freely item string a v s room scratch =
    carried_out unbudgeted item a v s room (ready item string a v s scratch)

-- the output after a call: the answer, which a refusal leaves empty, and then zeros
unfoldable pub output_after : ℕ → Outcome → Bytes
output_after room o = buffer room (answer_of o.answer)

-- "Scratch is zeros throughout after every call."
unfoldable pub scratch_after : ℕ → Bytes
scratch_after scratch = replicate scratch 0

-- "Ceiling": the most that the steps of codes can cost, where an entry has at most so many bytes and the record this length
module _ (most size : ℕ) where
  unfoldable pub elms_ceiling : List Elm → ℕ
  elms_ceiling [] = 0
  elms_ceiling (e ∷ es) = step_ceiling most size (shape e).kind + elms_ceiling es

  unfoldable pub code_ceiling : Code → ℕ
  code_ceiling (Code.function es) = elms_ceiling es
  code_ceiling (Code.single k) = step_ceiling most size (conversion_kind k)

  unfoldable pub codes_ceiling : List Code → ℕ
  codes_ceiling [] = 0
  codes_ceiling (c ∷ cs) = code_ceiling c + codes_ceiling cs

  -- "m elements, m x (..)"
  unfoldable pub ceiling_over : List Code → ℕ → ℕ
  ceiling_over cs m = m * codes_ceiling cs

-- over the string's codes, on a record of this length, with m elements
unfoldable pub ceiling : ℕ → List Code → ℕ → ℕ
ceiling size cs m = ceiling_over entry_most size cs m

-- the same from the numbers that checking gives, which proofs/Ceiling proves to be the sum:
-- "with A attribute loads and B other steps in the string, record length R and m elements, m x (A x (1,025 + R) + B x 4,097)", and where B does
-- not count P codes, P of them with T tests in all: "In the ceiling such a step stands for T x 1,025 + 1,025 in place of 4,097."
unfoldable pub counted_ceiling : Counts → ℕ → ℕ → ℕ
counted_ceiling k size m =
    m * (k.loads * (1 + entry_most + size) + k.others * (1 + 4 * entry_most) + (k.tests * (1 + entry_most) + k.patterns * (1 + entry_most)))
