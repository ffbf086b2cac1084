-- What an answer of the code says of the ending that it tells, what a `map_err` was given, and what a reader's answer says of what stands in the code.
-- Assumes nothing.
use Rattle.std.specs.Prelude.{Result, Ok, Err}
use Rattle.std.specs.Result.{MatchResult, IsOk, IsErrAnd}
use Rattle.std.proofs.lemmas.Result.{err_from_is_err_and}
use mathlib.Core.Path.{◌≡◌, refl, sym, ap, ◌∙◌}
use mathlib.Core.Option.{Option, none, some}
use Prim.Native.Nat.{ℕ}
use native.Mathlib.Omega.{arith}
use Rattle.paper.specs.Refusals.{Res, given, refused}
use Rattle.paper.specs.Answers.{number_of}
use Rattle.paper.specs.Converting.{Ending}
use Rattle.paper.specs.declared.Refusal.{Refusal}
use Rattle.paper.specs.declared.Read.{Read}
use Rattle.readers.specs.Answers.{read}
use Rattle.grammar.specs.declared.Head.{Head}
use Rattle.grammar.specs.Heads.{head_read}
use Rattle.paper.proofs.Telling.{told_same}
use Rattle.machine.specs.declared.Stopped.{Stopped}
use Rattle.machine.specs.Runs.{answered, stopped, ending_by, answer_by}

module _ {A B : Type 0} (f : A → B) (o : Ending A) where
  -- a refusal is the ending's own
  pub stopped_as : {n steps : ℕ} → stopped n steps ≡ answer_by f o → o ≡ stopped n steps
  stopped_as {n} {steps} e = go o.answer refl (ap (λ (w : Ending B). w.answer) e)
    where
      go : (x : Res A) → o.answer ≡ x → refused n ≡ (answer_by f (record { answer = x; steps = o.steps })).answer → o ≡ stopped n steps
      go (given a) p q = let z : ◌≡◌ {A = ℕ} 0 1 = cc in absurd (omega arith)
      go (refused m) p q =
          let same : n ≡ m = cc in
          let counted : steps ≡ o.steps = ap (λ (w : Ending B). w.steps) e in
          rw (same, counted, ← p)

  -- and an answer is read of its own
  pub answered_as : {b : B} {steps : ℕ} → answered b steps ≡ answer_by f o → (a : A) × (o ≡ answered a steps) × (f a ≡ b)
  answered_as {b} {steps} e = go o.answer refl (ap (λ (w : Ending B). w.answer) e)
    where
      go : (x : Res A) → o.answer ≡ x → given b ≡ (answer_by f (record { answer = x; steps = o.steps })).answer
          → (a : A) × (o ≡ answered a steps) × (f a ≡ b)
      go (given a) p q =
          let same : f a ≡ b = cc in
          let counted : steps ≡ o.steps = ap (λ (w : Ending B). w.steps) e in
          (a, rw (counted, ← p), same)
      go (refused m) p q = let z : ◌≡◌ {A = ℕ} 0 1 = cc in absurd (omega arith)

-- two answers of the code that tell the same ending are one
pub ending_same : {A B : Type 0} (value : A → B) (steps : A → ℕ) → ((x y : A) → value x ≡ value y → steps x ≡ steps y → x ≡ y) → (r r' : Result A Stopped)
    → ending_by (λ a. answered (value a) (steps a)) r ≡ ending_by (λ a. answered (value a) (steps a)) r' → r ≡ r'
ending_same {A} {B} value steps known (Ok x) (Ok y) e =
    let told : given (value x) ≡ given (value y) = ap (λ (o : Ending B). o.answer) e in
    let same : value x ≡ value y = cc in
    ap Ok (known x y same (ap (λ (o : Ending B). o.steps) e))
ending_same {A} {B} value steps known (Ok x) (Err s) e =
    let told : given (value x) ≡ refused (number_of s.refusal) = ap (λ (o : Ending B). o.answer) e in
    let z : ◌≡◌ {A = ℕ} 0 1 = cc in absurd (omega arith)
ending_same {A} {B} value steps known (Err s) (Ok y) e =
    let told : refused (number_of s.refusal) ≡ given (value y) = ap (λ (o : Ending B). o.answer) e in
    let z : ◌≡◌ {A = ℕ} 0 1 = cc in absurd (omega arith)
ending_same {A} {B} value steps known (Err s) (Err t) e =
    let one : ◌≡◌ {A = Result B Refusal} (Err s.refusal) (Err t.refusal) = told_same _ _ (ap (λ (o : Ending B). o.answer) e) in
    let same : s.refusal ≡ t.refusal = cc in
    let counted : s.steps ≡ t.steps = ap (λ (o : Ending B). o.steps) e in
    ap Err (λ i. record { refusal = same i; steps = counted i })

-- what `map_err` was given
module _ {A E D : Type 0} (P : E → D → Type 0) (r : Result A E) {r' : Result A D} (mapped : MatchResult r (λ x. r' ≡ Ok x) (λ e. IsErrAnd r' (P e))) where
  pub mapped_ok : {a : A} → r' ≡ Ok a → r ≡ Ok a
  mapped_ok {a} e = go r refl mapped
    where
      go : (q : Result A E) → r ≡ q → MatchResult q (λ x. r' ≡ Ok x) (λ e. IsErrAnd r' (P e)) → r ≡ Ok a
      go (Ok x) p h = let both : ◌≡◌ {A = Result A D} (Ok x) (Ok a) = sym h ∙ e in let same : x ≡ a = cc in p ∙ ap Ok same
      go (Err x) p h = let w = err_from_is_err_and r' h in let z : ◌≡◌ {A = ℕ} 0 1 = cc in absurd (omega arith)

  pub mapped_err : {d : D} → r' ≡ Err d → (e : E) × (r ≡ Err e) × P e d
  mapped_err {d} e = go r refl mapped
    where
      go : (q : Result A E) → r ≡ q → MatchResult q (λ x. r' ≡ Ok x) (λ e. IsErrAnd r' (P e)) → (e : E) × (r ≡ Err e) × P e d
      go (Ok x) p h = let z : ◌≡◌ {A = ℕ} 0 1 = cc in absurd (omega arith)
      go (Err x) p h =
          let w = err_from_is_err_and r' h in
          let same : w.0 ≡ d = cc in
          (x, p, rw (← same) w.2)

-- what a reader answered stands there, and where nothing does it refuses
pub read_is : {A : Type 0} (o : Option (A × ℕ)) {r : Read A} → Ok r ≡ read o → o ≡ some (r.value, r.next)
read_is (some (a, n)) {r} e =
    let same : record { value = a; next = n } ≡ r = cc in
    rw (← same)
read_is none e = let z : ◌≡◌ {A = ℕ} 0 1 = cc in absurd (omega arith)

pub read_there : {A : Type 0} (o : Option (A × ℕ)) → (o ≡ none → ⊥) → IsOk (read o)
read_there (some (a, n)) h = refl
read_there none h = absurd (h refl)

-- the same of a head
pub head_is : (o : Option Head) {h : Head} → Ok h ≡ head_read o → o ≡ some h
head_is (some k) e = let same : k ≡ _ = cc in ap some same
head_is none e = let z : ◌≡◌ {A = ℕ} 0 1 = cc in absurd (omega arith)

pub head_none : (o : Option Head) {e : Refusal} → Err e ≡ head_read o → o ≡ none
head_none (some k) e = let z : ◌≡◌ {A = ℕ} 0 1 = cc in absurd (omega arith)
head_none none e = refl

pub head_there : (o : Option Head) → (o ≡ none → ⊥) → IsOk (head_read o)
head_there (some k) h = refl
head_there none h = absurd (h refl)
