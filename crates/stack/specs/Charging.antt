-- The end of a step, as the code answers it: its cost or its refusal, and what the slots hold then.
use Rattle.std.specs.Prelude.{ℕ, ◌+◌, ◌≡◌, List, [], ◌∷◌, length, take, leb, if◌then◌else◌, Result, Ok, Err}
use Rattle.paper.specs.Bytes.{Bytes}
use Rattle.paper.specs.Refusals.{Res, given, refused, over_budget}
use Rattle.paper.specs.Answers.{number_of, told}
use Rattle.paper.specs.declared.Refusal.{Refusal}
use Rattle.stack.specs.Slots.{entry_at, stack_of, element_slot}
use Rattle.stack.specs.declared.Step.{Step}

-- the most bytes that a step takes, or puts: 2 ^ 32, so that a larger limit on an entry, or a product of two limits, still fits, and no cost wraps
abbrev pub taken_most : ℕ
taken_most = 4_294_967_296

-- the paper's `price` of a step that takes and puts so many bytes, or 15 where it is over what is left of the budget
unfoldable pub charge_of : ℕ → ℕ → ℕ → Result ℕ Refusal
charge_of taken put left = if leb (1 + taken + put) left then Ok (1 + taken + put) else Err Refusal.OverBudget

-- one step, with so many steps left in the budget: its cost and the entries then held, or its own refusal, or 15
unfoldable pub step_of : ℕ → Res (ℕ × List Bytes) → Res Step
step_of left (refused n) = refused n
step_of left (given x) = if leb x.0 left then given (record { cost = x.0; held = length x.1 }) else refused over_budget

-- the stack after it; none is promised after a refusal
unfoldable pub stack_after : ℕ → Res (ℕ × List Bytes) → List Bytes
stack_after left (refused n) = []
stack_after left (given x) = if leb x.0 left then x.1 else []

abbrev pub held_after : Result Step Refusal → ℕ
held_after (Ok step) = step.held
held_after (Err e) = 0

-- a step that takes so many bytes and, unless it refuses itself, puts one entry on top of these
unfoldable pub putting : ℕ → Res Bytes → List Bytes → Res (ℕ × List Bytes)
putting taken (refused n) stack = refused n
putting taken (given bs) stack = given (1 + taken + length bs, bs ∷ stack)

-- the bytes that a step finds in the slots from k on, the top one last
abbrev pub taken_one : Bytes → List ℕ → ℕ → ℕ
taken_one scratch lens k = length (entry_at scratch lens k)

abbrev pub taken_two : Bytes → List ℕ → ℕ → ℕ
taken_two scratch lens k = taken_one scratch lens k + taken_one scratch lens (k + 1)

abbrev pub taken_three : Bytes → List ℕ → ℕ → ℕ
taken_three scratch lens k = taken_two scratch lens k + taken_one scratch lens (k + 2)

-- `_` on slots k and k + 1, the top one: "takes and puts two"
unfoldable pub exchanging : Bytes → List ℕ → ℕ → Res (ℕ × List Bytes)
exchanging scratch lens k =
    given (
      1 + taken_two scratch lens k + taken_two scratch lens k,
      entry_at scratch lens k ∷ entry_at scratch lens (k + 1) ∷ stack_of scratch lens k,
    )

-- What a step leaves: its answer, the stack then held, and the element in its own slot as it was.
pub record Charges
    (left : ℕ) (x : Res (ℕ × List Bytes)) (r : Result Step Refusal) (scratch : Bytes) (lens : List ℕ) (scratch' : Bytes) (lens' : List ℕ)
    : Type 0 where
  pub answers : told r ≡ step_of left x
  pub stack : stack_of scratch' lens' (held_after r) ≡ stack_after left x
  pub element : entry_at scratch' lens' element_slot ≡ entry_at scratch lens element_slot

-- the same of a step that puts one entry on top of the first k
abbrev pub Puts : ℕ → ℕ → Res Bytes → ℕ → Result Step Refusal → Bytes → List ℕ → Bytes → List ℕ → Type 0
Puts left taken x k r scratch lens scratch' lens' =
    Charges left (putting taken x (stack_of scratch lens k)) r scratch lens scratch' lens'

-- what a call that gives bytes has given: the bytes it counts, in front of the lent work buffer
abbrev pub handed : Result ℕ Refusal → Bytes → Res Bytes
handed (Ok n) work = given (take n work)
handed (Err e) work = refused (number_of e)
