-- Demand 3, the budget: at or above the defined count it changes nothing; below it the refusal is 15, and the count reported is that of the
-- steps completed, the most that the budget holds. First of any run, then of converting. Assumes nothing.
use Rattle.std.specs.Prelude.{if◌then◌else◌}
use Prim.Native.Nat.{ℕ, suc, ◌+◌, ◌≤◌, ◌<◌}
use mathlib.Core.Path.{◌≡◌, refl, sym, ap, ◌∙◌}
use mathlib.Core.Bool.{Bool, true, false}
use mathlib.Core.List.{List, [], ◌∷◌}
use native.Mathlib.Nat.{add-zero, zero-add, add_assoc, le_of_eq}
use native.Mathlib.Decide.{dec_le}
use native.Mathlib.Omega.{arith}
use lib.ListN.{take}
use lib.Dec.{leb}
use borrow.Author.Tests.{le-leb, leb-true, leb-false}
use Rattle.paper.specs.Bytes.{Bytes}
use Rattle.paper.proofs.Truths.{chosen}
use Rattle.paper.specs.Refusals.{Res, given, refused, over_budget}
use Rattle.paper.specs.Codes.{Code}
use Rattle.paper.specs.Steps.{Run, done, stop, step}
use Rattle.paper.specs.Converting.{
  Ending,
  Outcome,
  count,
  result,
  within_budget,
  unbudgeted,
  ready,
  run,
  fitted,
  finished,
  carried_out,
  convert,
  convert_freely,
}

-- the costs of a run's steps, in order, and their sum
unfoldable pub costs : {A : Type 0} → Run A → List ℕ
costs (done a) = []
costs (stop n) = []
costs (step cost r) = cost ∷ costs r

unfoldable pub sum : List ℕ → ℕ
sum [] = 0
sum (n ∷ ns) = n + sum ns

pub count_is_sum : {A : Type 0} (r : Run A) → count r ≡ sum (costs r)
unfolding count costs sum
count_is_sum (done a) = refl
count_is_sum (stop n) = refl
count_is_sum (step cost r) = ap (λ n. cost + n) (count_is_sum r)

-- `so_far` and the steps completed under a budget: so many first costs as it holds, and not one more
pub record Completed (budget so_far : ℕ) (cs : List ℕ) (reported : ℕ) : Type 0 where
  pub completed : ℕ
  pub is_their_sum : reported ≡ so_far + sum (take completed cs)
  pub held : reported ≤ budget
  pub next_not_held : budget < so_far + sum (take (suc completed) cs)

enough : {A : Type 0} (r : Run A) (budget so_far : ℕ) → so_far + count r ≤ budget
    → within_budget budget so_far r ≡ record { answer = result r; steps = so_far + count r }
unfolding within_budget count result
enough (done a) budget so_far h = rw add-zero
enough (stop n) budget so_far h = rw add-zero
enough (step cost r) budget so_far h =
    let fits : leb (so_far + cost) budget ≡ true = le-leb (so_far + cost) budget (omega arith) in
    rw fits (enough r budget (so_far + cost) (omega arith) ∙ rw add_assoc)

-- The steps reported are within the budget where those before it are.
pub budget_kept : {A : Type 0} (r : Run A) (budget so_far : ℕ) → so_far ≤ budget → (within_budget budget so_far r).steps ≤ budget
unfolding within_budget
budget_kept (done a) budget so_far h = h
budget_kept (stop n) budget so_far h = h
budget_kept (step cost r) budget so_far h =
    chosen (λ (o : Ending _). o.steps ≤ budget) (leb (so_far + cost) budget) (λ e. budget_kept r budget (so_far + cost) (leb-true _ _ e)) (λ _. h)

-- A run under a budget at or above its count.
pub budget_holds : {A : Type 0} (r : Run A) (budget : ℕ) → count r ≤ budget → within_budget budget 0 r ≡ unbudgeted r
unfolding unbudgeted
budget_holds r budget h = enough r budget 0 (omega arith) ∙ rw zero-add

-- refused for budget, with the count of the steps completed
abbrev Short : {A : Type 0} → ℕ → ℕ → List ℕ → Ending A → Type 0
Short budget so_far cs o = (o.answer ≡ refused over_budget) × Completed budget so_far cs o.steps

later : {A : Type 0} (budget so_far cost : ℕ) (cs : List ℕ) (o : Ending A) → Short budget (so_far + cost) cs o → Short budget so_far (cost ∷ cs) o
unfolding sum
later budget so_far cost cs o s = (
  s.0,
  record {
    completed = suc s.1.completed;
    is_their_sum = omega arith;
    held = s.1.held;
    next_not_held = omega arith;
  },
)

short_step : {A : Type 0} (r : Run A) (budget so_far cost : ℕ) (t : Bool) → leb (so_far + cost) budget ≡ t → so_far ≤ budget
    → (so_far + cost ≤ budget → Short budget (so_far + cost) (costs r) (within_budget budget (so_far + cost) r))
    → Short budget so_far (cost ∷ costs r)
    (if t then within_budget budget (so_far + cost) r else record { answer = refused over_budget; steps = so_far })
unfolding sum
short_step r budget so_far cost true e h again = later budget so_far cost (costs r) _ (again (leb-true _ _ e))
short_step r budget so_far cost false e h again = (
  refl,
  record {
    completed = 0;
    is_their_sum = sym (add-zero so_far);
    held = h;
    next_not_held = let over : budget < so_far + cost = leb-false _ _ e in omega arith;
  },
)

short : {A : Type 0} (r : Run A) (budget so_far : ℕ) → so_far ≤ budget → budget < so_far + count r
    → Short budget so_far (costs r) (within_budget budget so_far r)
unfolding within_budget count costs
short (done a) budget so_far h l = absurd (omega arith)
short (stop n) budget so_far h l = absurd (omega arith)
short (step cost r) budget so_far h l =
    short_step r budget so_far cost (leb (so_far + cost) budget) refl h (λ fits. short r budget (so_far + cost) fits (omega arith))

-- A run under a budget below its count.
pub budget_short : {A : Type 0} (r : Run A) (budget : ℕ) → budget < count r → Short budget 0 (costs r) (within_budget budget 0 r)
budget_short r budget l = short r budget 0 (omega arith) (omega arith)

-- the costs that converting's defined count is the sum of: none when the run never begins
unfoldable pub defined_costs : Bytes → ℕ → ℕ → ℕ → Res (List Code) → List ℕ
defined_costs item a v s (refused n) = []
defined_costs item a v s (given cs) = costs (run item a v s cs)

module _ (item : Bytes) (a v s room budget : ℕ) where
  carried_enough : (readied : Res (List Code)) → (carried_out unbudgeted item a v s room readied).steps ≤ budget
      → carried_out (within_budget budget 0) item a v s room readied ≡ carried_out unbudgeted item a v s room readied
  unfolding carried_out finished unbudgeted
  carried_enough (refused n) h = refl
  carried_enough (given cs) h = ap (finished room) (budget_holds (run item a v s cs) budget h)

  carried_short : (readied : Res (List Code)) → budget < (carried_out unbudgeted item a v s room readied).steps
      → Short budget 0 (defined_costs item a v s readied) (carried_out (within_budget budget 0) item a v s room readied)
  unfolding carried_out defined_costs finished fitted unbudgeted
  carried_short (refused n) l = absurd (omega arith)
  carried_short (given cs) l =
      let b = budget_short (run item a v s cs) budget l in
      (ap (fitted room) b.0, b.1)

-- Converting with a budget at or above the defined count is converting with none, and reports that count.
pub converting_within_budget : (item string : Bytes) (a v s budget room scratch : ℕ)
    → (convert_freely item string a v s room scratch).steps ≤ budget
    → convert item string a v s budget room scratch ≡ convert_freely item string a v s room scratch
unfolding convert convert_freely
converting_within_budget item string a v s budget room scratch h =
    carried_enough item a v s room budget (ready item string a v s scratch) h

-- Converting with a budget below the defined count is refused 15, with the cost of the steps completed.
pub converting_over_budget : (item string : Bytes) (a v s budget room scratch : ℕ)
    → budget < (convert_freely item string a v s room scratch).steps
    → Short budget 0 (defined_costs item a v s (ready item string a v s scratch)) (convert item string a v s budget room scratch)
unfolding convert convert_freely
converting_over_budget item string a v s budget room scratch l =
    carried_short item a v s room budget (ready item string a v s scratch) l

-- Whatever the budget, the count reported is at most the defined one.
pub budgeted_at_most : (item string : Bytes) (a v s budget room scratch : ℕ)
    → (convert item string a v s budget room scratch).steps ≤ (convert_freely item string a v s room scratch).steps
budgeted_at_most item string a v s budget room scratch = go (dec_le _ budget)
  where
    go : Dec ((convert_freely item string a v s room scratch).steps ≤ budget)
        → (convert item string a v s budget room scratch).steps ≤ (convert_freely item string a v s room scratch).steps
    go (yes h) = le_of_eq (ap (λ (o : Outcome). o.steps) (converting_within_budget item string a v s budget room scratch h))
    go (no h) =
        let l : budget < (convert_freely item string a v s room scratch).steps = omega arith in
        omega (arith, (converting_over_budget item string a v s budget room scratch l).1.held)

-- The count reported is at most the budget.
pub steps_within_budget : (item string : Bytes) (a v s budget room scratch : ℕ) → (convert item string a v s budget room scratch).steps ≤ budget
steps_within_budget item string a v s budget room scratch = go (dec_le _ budget)
  where
    go : Dec ((convert_freely item string a v s room scratch).steps ≤ budget) → (convert item string a v s budget room scratch).steps ≤ budget
    go (yes h) = omega (arith, ap (λ (o : Outcome). o.steps) (converting_within_budget item string a v s budget room scratch h))
    go (no h) =
        let l : budget < (convert_freely item string a v s room scratch).steps = omega arith in
        (converting_over_budget item string a v s budget room scratch l).1.held
