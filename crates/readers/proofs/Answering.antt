-- What the reader by place gives, from a reader's answer.
use Prim.Native.Nat.{ℕ}
use mathlib.Core.Path.{◌≡◌, refl, sym, ap, ◌∙◌}
use mathlib.Core.Option.{Option, none, some}
use Rattle.std.specs.Prelude.{Result, Ok, Err}
use Rattle.paper.specs.declared.Refusal.{Refusal}
use Rattle.paper.specs.declared.Read.{Read}
use Rattle.readers.specs.Answers.{read}

abbrev inside : {A : Type 0} → Result (Read A) Refusal → Option (A × ℕ)
inside (Ok r) = some (r.value, r.next)
inside (Err n) = none

back : {A : Type 0} (o : Option (A × ℕ)) → inside (read o) ≡ o
back none = refl
back (some p) = refl

pub read_some : {A : Type 0} {o : Option (A × ℕ)} {r : Read A} → ◌≡◌ {A = Result (Read A) Refusal} (Ok r) (read o) → o ≡ some (r.value, r.next)
read_some {o = o} e = sym (back o) ∙ sym (ap inside e)

pub read_none : {A : Type 0} {o : Option (A × ℕ)} {n : Refusal} → ◌≡◌ {A = Result (Read A) Refusal} (Err n) (read o) → o ≡ none
read_none {o = o} e = sym (back o) ∙ sym (ap inside e)

abbrev refusal_in : {A : Type 0} → Result (Read A) Refusal → Refusal
refusal_in (Ok r) = Refusal.NotInGrammar
refusal_in (Err n) = n

-- what one reader refused, another refuses
pub passed : {A B : Type 0} {o : Option (A × ℕ)} {p : Option (B × ℕ)} {n : Refusal} → ◌≡◌ {A = Result (Read A) Refusal} (Err n) (read o)
    → (o ≡ none → p ≡ none) → ◌≡◌ {A = Result (Read B) Refusal} (Err n) (read p)
passed {o = o} {n = n} e h =
    let f = read_none e in
    let k : n ≡ Refusal.NotInGrammar = ap refusal_in (e ∙ ap read f) in
    rw (k, h f)
