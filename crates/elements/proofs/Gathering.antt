-- The answer of an address grows element by element, and the run of those left goes on from what is gathered. Assumes nothing.
use Prim.Native.Nat.{ℕ}
use mathlib.Core.Path.{◌≡◌, ap, ◌∙◌}
use mathlib.Core.List.{List, [], ◌∷◌, ◌++◌, append_assoc, append-nil}
use Rattle.paper.specs.Bytes.{Bytes}
use Rattle.paper.specs.Codes.{Code}
use Rattle.paper.specs.Steps.{Run, done, onward, element_run}
use Rattle.paper.specs.Converting.{Element, elements_run}
use Rattle.paper.proofs.Runs.{onward_same, onward_onward, onward_done}

module _ (most : ℕ) (item : Bytes) (cs : List Code) where
  -- the run of the elements left, behind what is gathered
  unfoldable pub gathered : Bytes → List Element → Run Bytes
  gathered answer es = onward (elements_run most item cs es) (λ rest. done (answer ++ rest))

  pub gathered_start : (es : List Element) → gathered [] es ≡ elements_run most item cs es
  unfolding gathered
  gathered_start es = onward_done _

  pub gathered_end : (answer : Bytes) → gathered answer [] ≡ done answer
  unfolding gathered elements_run onward
  gathered_end answer = ap done (append-nil answer)

  pub gathered_more : (answer : Bytes) (e : Element) (es : List Element)
      → gathered answer (e ∷ es)
      ≡ onward (element_run most item e.v e.s cs e.text) (λ r. gathered (answer ++ e.before ++ r) es)
  unfolding gathered elements_run onward
  gathered_more answer e es =
      onward_onward (element_run most item e.v e.s cs e.text) _ _
      ∙ onward_same (element_run most item e.v e.s cs e.text) _ _ (λ r.
      onward_onward (elements_run most item cs es) _ _ ∙ onward_same (elements_run most item cs es) _ _ (λ rest. joined r rest))
    where
      joined : (r rest : Bytes) → onward (done (e.before ++ r ++ rest)) (λ x. done (answer ++ x)) ≡ done ((answer ++ e.before ++ r) ++ rest)
      joined r rest = ap done (simp append_assoc)
