-- A string of one code other than F: an answer has, between the marks kept, what the code gives on each element; and what refuses the one element of
-- an address is the code itself, a text over the limit, the budget or the output. Assumes nothing.
use Rattle.std.specs.Prelude.{if◌then◌else◌}
use Prim.Native.Nat.{ℕ, ◌+◌, ◌≤◌, ◌<◌}
use mathlib.Core.Path.{◌≡◌, refl, sym, ap, ◌∙◌}
use mathlib.Core.Bool.{Bool, true, false}
use mathlib.Core.Logic.{⊎_elim}
use mathlib.Core.List.{List, [], ◌∷◌, ◌++◌}
use native.Mathlib.Omega.{arith}
use lib.Dec.{leb}
use lib.ListN.{length}
use borrow.Author.Tests.{le-leb, leb-true}
use Rattle.paper.specs.Bytes.{Bytes}
use Rattle.paper.specs.Sizes.{entry_most}
use Rattle.paper.specs.Refusals.{Res, given, refused, ◌>>=◌, refuse◌unless◌, refusal_of, answer_of}
use Rattle.paper.specs.Refusals.{over_long_entry, over_budget, short_output}
use Rattle.paper.specs.Codes.{Conversion, Code}
use Rattle.paper.specs.Checking.{conversion_kind, accepted, check}
use Rattle.paper.specs.Steps.{Run, done, stop, step, onward, stepped, conversion_gives, price, limited, conversion_step, code_run, codes_run}
use Rattle.paper.specs.Steps.{element_run}
use Rattle.paper.specs.Converting.{Ending, Element, elements, elements_run, count, result, within_budget, unbudgeted, ready, run, fitted}
use Rattle.paper.specs.Converting.{finished, carried_out, convert}
use Rattle.paper.proofs.Truths.{chosen, ltb_or}
use Rattle.paper.proofs.Predicates.{held_by}
use Rattle.paper.proofs.Budget.{budget_holds, budget_short}
use Rattle.paper.proofs.Ceiling.{ready_accepted}
use Rattle.paper.proofs.Limits.{given_within, refused_before}
use Rattle.paper.proofs.Refusing.{never_given, never_held, passed}

-- an answer that came under a budget comes without
ended : {A : Type 0} (r : Run A) (budget : ℕ) {a : A} → (within_budget budget 0 r).answer ≡ given a → result r ≡ given a
unfolding unbudgeted
ended r budget e =
    ⊎_elim (λ short. never_given (sym (budget_short r budget short).0 ∙ e))
    (λ enough. ap (λ (o : Ending _). o.answer) (sym (budget_holds r budget enough)) ∙ e) (ltb_or budget (count r))

-- an answer of a run that goes on came from an answer of its first part
ended_onward : {A B : Type 0} (r : Run A) (k : A → Run B) {b : B} → result (onward r k) ≡ given b
    → (a : A) × (result r ≡ given a) × (result (k a) ≡ given b)
unfolding result onward
ended_onward (done a) k e = (a, refl, e)
ended_onward (stop n) k e = never_given e
ended_onward (step cost r) k e = ended_onward r k e

-- a run of one step, or none where it is refused
data Once : Res Bytes → Run Bytes → Type 0 where
  puts : {cost : ℕ} {bs : Bytes} → Once (given bs) (step cost (done bs))
  stops : {n : ℕ} → Once (refused n) (stop n)

once_given : {x : Res Bytes} {r : Run Bytes} {bs : Bytes} → Once x r → result r ≡ given bs → x ≡ given bs
unfolding result
once_given puts h = h
once_given stops h = h

-- An answer, piece by piece: behind the mark kept before each element, what the code gives on it.
pub data Pieces (c : Conversion) : List Element → Bytes → Type 0 where
  no_more : Pieces c [] []
  piece : {e : Element} {es : List Element} {r rest : Bytes} → conversion_gives c e.text ≡ given r → Pieces c es rest
      → Pieces c (e ∷ es) (e.before ++ r ++ rest)

module _ (item : Bytes) (c : Conversion) (most : ℕ) where
  element_once : (v s : ℕ) (e : Bytes) → length e ≤ most
      → Once (limited most (conversion_gives c e)) (element_run most item v s (Code.single c ∷ []) e)
  unfolding element_run codes_run code_run conversion_step onward stepped
  element_once v s e short = rw (le-leb (length e) most short) (go (limited most (conversion_gives c e)))
    where
      go : (x : Res Bytes)
          → Once x (onward (stepped (x >>= λ put. given (price (conversion_kind c) item (e ∷ []) (put ∷ []), put)) done) (λ r. done r))
      go (given put) = puts
      go (refused n) = stops

  element_given : (v s : ℕ) (e : Bytes) {bs : Bytes} → result (element_run most item v s (Code.single c ∷ []) e) ≡ given bs
      → conversion_gives c e ≡ given bs
  unfolding element_run result
  element_given v s e {bs} = go (leb (length e) most) refl
    where
      go : (t : Bool) → leb (length e) most ≡ t
          → result (if t then codes_run most item v s (Code.single c ∷ []) e else stop over_long_entry) ≡ given bs → conversion_gives c e ≡ given bs
      go true f h =
          given_within most (conversion_gives c e)
          (once_given (element_once v s e (leb-true (length e) most f)) (rw f h))
      go false f h = never_given h

  elements_given : (es : List Element) {bs : Bytes} → result (elements_run most item (Code.single c ∷ []) es) ≡ given bs → Pieces c es bs
  unfolding elements_run result
  elements_given [] h = rw (sym (ap answer_of h)) no_more
  elements_given (e ∷ es) h =
      let (r, p, onward_r) = ended_onward (element_run most item e.v e.s (Code.single c ∷ []) e.text) _ h in
      let (rest, q, joined) = ended_onward (elements_run most item (Code.single c ∷ []) es) _ onward_r in
      rw (sym (ap answer_of joined)) (piece (element_given e.v e.s e.text p) (elements_given es q))

fitted_given : (room : ℕ) (x : Res Bytes) {bs : Bytes} → fitted room x ≡ given bs → x ≡ given bs
unfolding fitted
fitted_given room (refused n) h = h
fitted_given room (given bs) h = (passed ((refuse short_output unless leb (length bs) room) ∷ []) (given bs) h).1

module _ (item string : Bytes) (a v s budget room scratch : ℕ) (c : Conversion) where
  -- A string of one code, where converting answers.
  pub converted_pieces : {bs : Bytes} → check string ≡ accepted (Code.single c ∷ [])
      → (convert item string a v s budget room scratch).answer ≡ given bs → Pieces c (elements item a v s) bs
  unfolding convert carried_out finished run
  converted_pieces {bs} coded = go (ready item string a v s scratch) refl
    where
      go : (x : Res (List Code)) → ready item string a v s scratch ≡ x → (carried_out (within_budget budget 0) item a v s room x).answer ≡ given bs
          → Pieces c (elements item a v s) bs
      go (refused n) e h = never_given h
      go (given cs) e h =
          let same : accepted cs ≡ accepted (Code.single c ∷ []) = sym (held_by (ready_accepted item string a v s scratch) e) ∙ coded in
          let codes : cs ≡ Code.single c ∷ [] = cc in
          let ran : result (run item a v s cs) ≡ given bs = ended (run item a v s cs) budget (fitted_given room _ h) in
          elements_given item c entry_most (elements item a v s) (rw codes at ran)

  -- One element within the limit, where the run begins: the code's own refusals are the call's, and a number from 10 to 14 is the code's own.
  module _ (e : Element) (began : ready item string a v s scratch ≡ given (Code.single c ∷ [])) (one : elements item a v s ≡ e ∷ [])
      (short : length e.text ≤ entry_most) where
    abbrev alone : Run Bytes
    alone = element_run entry_most item e.v e.s (Code.single c ∷ []) e.text

    abbrev answered : Run Bytes → Res Bytes
    answered r = fitted room (within_budget budget 0 (onward r (λ bs. onward (done []) (λ rest. done (e.before ++ bs ++ rest))))).answer

    once : Once (limited entry_most (conversion_gives c e.text)) alone
    once = element_once item c entry_most e.v e.s e.text short

    converts_alone : (convert item string a v s budget room scratch).answer ≡ answered alone
    unfolding convert carried_out finished run elements_run
    converts_alone = rw (began, one)

    stopped : {x : Res Bytes} {r : Run Bytes} (n : ℕ) → Once x r → x ≡ refused n → answered r ≡ refused n
    unfolding fitted within_budget onward
    stopped n puts h = never_given (sym h)
    stopped n stops h = h

    stopped_by : {x : Res Bytes} {r : Run Bytes} (n : ℕ) → n < over_budget → Once x r → answered r ≡ refused n → x ≡ refused n
    unfolding fitted within_budget onward
    stopped_by n u stops h = h
    stopped_by n u (puts {cost = cost} {bs = bs}) h =
        chosen (λ (o : Ending Bytes). fitted room o.answer ≡ refused n → given bs ≡ refused n) (leb (0 + cost) budget)
        (λ _ g. never_held short_output n (leb (length (e.before ++ bs ++ [])) room) _ (λ d. omega arith) g)
        (λ _ g. absurd (omega (arith, ap refusal_of g))) h

    pub refused_alone : (n : ℕ) → conversion_gives c e.text ≡ refused n → (convert item string a v s budget room scratch).answer ≡ refused n
    unfolding limited
    refused_alone n h = converts_alone ∙ stopped n once (rw h)

    pub refused_by_code : (n : ℕ) → over_long_entry < n → n < over_budget → (convert item string a v s budget room scratch).answer ≡ refused n
        → conversion_gives c e.text ≡ refused n
    refused_by_code n l u h = refused_before entry_most n l (conversion_gives c e.text) (stopped_by n u once (sym converts_alone ∙ h))
