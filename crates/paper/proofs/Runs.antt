-- Runs that go on from one another: the order of going on does not matter, and a budget is read part by part. Assumes nothing.
use Rattle.std.specs.Prelude.{if◌then◌else◌}
use Prim.Native.Nat.{ℕ, ◌+◌}
use mathlib.Core.Path.{◌≡◌, refl, ap}
use mathlib.Core.Bool.{Bool, true, false}
use lib.Dec.{leb}
use mathlib.Core.List.{List, [], ◌∷◌, ◌++◌}
use Rattle.paper.specs.Bytes.{Bytes}
use Rattle.paper.specs.Codes.{Elm}
use Rattle.paper.specs.Refusals.{Res, given, refused, over_budget}
use Rattle.paper.specs.Steps.{Run, done, stop, step, onward, stepped, Setting, elm_step, elms_run}
use Rattle.paper.specs.Converting.{Ending, within_budget}

pub onward_same : {A B : Type 0} (r : Run A) (k l : A → Run B) → ((a : A) → k a ≡ l a) → onward r k ≡ onward r l
unfolding onward
onward_same (done a) k l e = e a
onward_same (stop n) k l e = refl
onward_same (step cost r) k l e = ap (step cost) (onward_same r k l e)

pub onward_onward : {A B C : Type 0} (r : Run A) (k : A → Run B) (l : B → Run C)
    → onward (onward r k) l ≡ onward r (λ a. onward (k a) l)
unfolding onward
onward_onward (done a) k l = refl
onward_onward (stop n) k l = refl
onward_onward (step cost r) k l = ap (step cost) (onward_onward r k l)

pub onward_done : {A : Type 0} (r : Run A) → onward r done ≡ r
unfolding onward
onward_done (done a) = refl
onward_done (stop n) = refl
onward_done (step cost r) = ap (step cost) (onward_done r)

stepped_onward : {A B C : Type 0} (r : Res (ℕ × A)) (k : A → Run B) (l : A → Run C) (m : B → Run C) → ((a : A) → l a ≡ onward (k a) m)
    → stepped r l ≡ onward (stepped r k) m
unfolding stepped onward
stepped_onward (refused n) k l m e = refl
stepped_onward (given x) k l m e = ap (step x.0) (e x.1)

-- Running one list of elms and then another is running them joined.
pub elms_onward : (most : ℕ) (c : Setting) (es fs : List Elm) (stack : List Bytes)
    → elms_run most c (es ++ fs) stack ≡ onward (elms_run most c es stack) (elms_run most c fs)
unfolding elms_run onward
elms_onward most c [] fs stack = refl
elms_onward most c (e ∷ es) fs stack = stepped_onward (elm_step most c e stack) _ _ (elms_run most c fs) (elms_onward most c es fs)

-- what goes on from an outcome, under the same budget: its refusal, or the run from its answer
abbrev pub resumed_from : {A B : Type 0} → ℕ → (A → Run B) → Res A → ℕ → Ending B
resumed_from budget k (given a) steps = within_budget budget steps (k a)
resumed_from budget k (refused n) steps = record { answer = refused n; steps = steps }

unfoldable pub resumed : {A B : Type 0} → ℕ → (A → Run B) → Ending A → Ending B
resumed budget k o = resumed_from budget k o.answer o.steps

resumed_step : {A B : Type 0} (budget : ℕ) (k : A → Run B) (t : Bool) (steps : ℕ) (x : Ending A) (y : Ending B) → y ≡ resumed budget k x
    → (if t then y else record { answer = refused over_budget; steps = steps })
    ≡ resumed budget k (if t then x else record { answer = refused over_budget; steps = steps })
unfolding resumed
resumed_step budget k true steps x y e = e
resumed_step budget k false steps x y e = refl

-- A budget over a run that goes on is the budget over its first part, and what is left of it over the rest.
pub budget_onward : {A B : Type 0} (r : Run A) (k : A → Run B) (budget so_far : ℕ)
    → within_budget budget so_far (onward r k) ≡ resumed budget k (within_budget budget so_far r)
unfolding within_budget onward resumed
budget_onward (done a) k budget so_far = refl
budget_onward (stop n) k budget so_far = refl
budget_onward (step cost r) k budget so_far =
    resumed_step budget k (leb (so_far + cost) budget) so_far _ _ (budget_onward r k budget (so_far + cost))
