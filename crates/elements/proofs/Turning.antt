-- One turn of the walk over the elements: from the outcome of its element to the end, or to the elements left. Assumes nothing.
use Prim.Native.Nat.{ℕ, suc}
use mathlib.Core.Path.{◌≡◌, sym, ap, ◌∙◌}
use mathlib.Core.List.{List, [], ◌∷◌, ◌++◌, append-nil}
use lib.ListN.{length, drop}
use Rattle.paper.specs.Bytes.{Bytes}
use Rattle.paper.specs.Sizes.{value_mark, subvalue_mark}
use Rattle.paper.specs.Refusals.{given, refused}
use Rattle.paper.specs.Codes.{Code}
use Rattle.paper.specs.Steps.{element_run}
use Rattle.paper.specs.Converting.{Element, Outcome, within_budget}
use Rattle.paper.proofs.Runs.{onward_same, resumed, budget_onward}
use Rattle.elements.specs.Walk.{element, walked}
use Rattle.elements.proofs.Gathering.{gathered, gathered_end, gathered_more}
use Rattle.elements.proofs.Walking.{behind, first_text, walked_first}

module _ (most : ℕ) (item : Bytes) (cs : List Code) (budget : ℕ) where
  -- a mark kept before the first element is gathered with the answer
  gathered_before : (answer before : Bytes) (v s : ℕ) (bs : Bytes)
      → gathered most item cs answer (walked before v s bs) ≡ gathered most item cs (answer ++ before) (walked [] v s bs)
  gathered_before answer before v s bs =
      ap (gathered most item cs answer) (walked_first before v s bs)
      ∙ gathered_more most item cs answer (element before v s (first_text bs)) (behind v s (drop (length (first_text bs)) bs))
      ∙ onward_same (element_run most item v s cs (first_text bs)) _ _
      (λ r. ap (λ (front : Bytes). gathered most item cs (front ++ r) (behind v s (drop (length (first_text bs)) bs))) (sym (append-nil (answer ++ before))))
      ∙ sym (gathered_more most item cs (answer ++ before) (element [] v s (first_text bs)) (behind v s (drop (length (first_text bs)) bs)))
      ∙ ap (gathered most item cs (answer ++ before)) (sym (walked_first [] v s bs))

  -- what is left to come of the elements in bs, with this much of the answer gathered and these steps counted
  unfoldable pub left : Bytes → ℕ → ℕ → ℕ → Bytes → Outcome
  left answer v s steps bs = within_budget budget steps (gathered most item cs answer (walked [] v s bs))

  -- the outcome of the first element in bs
  unfoldable pub first_outcome : ℕ → ℕ → ℕ → Bytes → Outcome
  first_outcome v s steps bs = within_budget budget steps (element_run most item v s cs (first_text bs))

  left_resumed : (answer : Bytes) (v s steps : ℕ) (bs : Bytes)
      → left answer v s steps bs
      ≡ resumed budget (λ r. gathered most item cs (answer ++ [] ++ r) (behind v s (drop (length (first_text bs)) bs))) (first_outcome v s steps bs)
  unfolding left first_outcome
  left_resumed answer v s steps bs =
      ap (λ (es : List Element). within_budget budget steps (gathered most item cs answer es)) (walked_first [] v s bs)
      ∙ ap (within_budget budget steps) (gathered_more most item cs answer (element [] v s (first_text bs)) (behind v s (drop (length (first_text bs)) bs)))
      ∙ budget_onward (element_run most item v s cs (first_text bs)) _ budget steps

  -- it was refused: so is the whole
  pub left_stopped : (answer : Bytes) (v s steps : ℕ) (bs : Bytes) (n k : ℕ)
      → first_outcome v s steps bs ≡ record { answer = refused n; steps = k } → left answer v s steps bs ≡ record { answer = refused n; steps = k }
  unfolding resumed
  left_stopped answer v s steps bs n k e = left_resumed answer v s steps bs ∙ ap (resumed budget _) e

  left_given : (answer : Bytes) (v s steps : ℕ) (bs r : Bytes) (k : ℕ) → first_outcome v s steps bs ≡ record { answer = given r; steps = k }
      → left answer v s steps bs ≡ within_budget budget k (gathered most item cs (answer ++ r) (behind v s (drop (length (first_text bs)) bs)))
  unfolding resumed
  left_given answer v s steps bs r k e =
      left_resumed answer v s steps bs ∙ ap (resumed budget _) e
      ∙ ap (λ (front : Bytes). within_budget budget k (gathered most item cs (front ++ r) (behind v s (drop (length (first_text bs)) bs)))) (append-nil answer)

  -- it was answered and is the last
  pub left_last : (answer : Bytes) (v s steps : ℕ) (bs r : Bytes) (k : ℕ) → first_outcome v s steps bs ≡ record { answer = given r; steps = k }
      → drop (length (first_text bs)) bs ≡ [] → left answer v s steps bs ≡ record { answer = given (answer ++ r); steps = k }
  unfolding behind within_budget
  left_last answer v s steps bs r k e last =
      left_given answer v s steps bs r k e
      ∙ ap (λ (rest : Bytes). within_budget budget k (gathered most item cs (answer ++ r) (behind v s rest))) last
      ∙ ap (within_budget budget k) (gathered_end most item cs (answer ++ r))

  -- it was answered, and a mark stands behind it: the next value, or the next subvalue
  left_next : (answer : Bytes) (v s steps : ℕ) (bs r : Bytes) (k b : ℕ) (more : Bytes)
      → first_outcome v s steps bs ≡ record { answer = given r; steps = k } → drop (length (first_text bs)) bs ≡ b ∷ more
      → left answer v s steps bs ≡ within_budget budget k (gathered most item cs (answer ++ r) (behind v s (b ∷ more)))
  left_next answer v s steps bs r k b more e next =
      left_given answer v s steps bs r k e
      ∙ ap (λ (rest : Bytes). within_budget budget k (gathered most item cs (answer ++ r) (behind v s rest))) next

  pub left_value : (answer : Bytes) (v s steps : ℕ) (bs r : Bytes) (k b : ℕ) (more : Bytes)
      → first_outcome v s steps bs ≡ record { answer = given r; steps = k } → drop (length (first_text bs)) bs ≡ b ∷ more → b ≡ value_mark
      → left answer v s steps bs ≡ left ((answer ++ r) ++ b ∷ []) (suc v) 1 k more
  unfolding behind left
  left_value answer v s steps bs r k b more e next m =
      left_next answer v s steps bs r k b more e next
      ∙ rw m (ap (within_budget budget k) (gathered_before (answer ++ r) (value_mark ∷ []) (suc v) 1 more))

  pub left_subvalue : (answer : Bytes) (v s steps : ℕ) (bs r : Bytes) (k b : ℕ) (more : Bytes)
      → first_outcome v s steps bs ≡ record { answer = given r; steps = k } → drop (length (first_text bs)) bs ≡ b ∷ more → b ≡ subvalue_mark
      → left answer v s steps bs ≡ left ((answer ++ r) ++ b ∷ []) v (suc s) k more
  unfolding behind left
  left_subvalue answer v s steps bs r k b more e next m =
      left_next answer v s steps bs r k b more e next
      ∙ rw m (ap (within_budget budget k) (gathered_before (answer ++ r) (subvalue_mark ∷ []) v (suc s) more))
