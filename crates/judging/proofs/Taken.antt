-- What the readers' answers tell: what was read and the place after it, or that nothing was and the refusal is 6.
use Rattle.std.specs.Prelude.{Ok, Err}
use Prim.Native.Nat.{ℕ}
use native.Mathlib.Omega.{arith}
use mathlib.Core.Path.{◌≡◌, refl}
use mathlib.Core.Option.{Option, none, some}
use Rattle.paper.specs.declared.Refusal.{Refusal}
use Rattle.paper.specs.declared.Read.{Read}
use Rattle.grammar.specs.declared.Head.{Head}
use Rattle.grammar.specs.Heads.{head_read}
use Rattle.readers.specs.Answers.{read}

module _ {A : Type 0} where
  pub read_is : (o : Option (A × ℕ)) {r : Read A} → Ok r ≡ read o → o ≡ some (r.value, r.next)
  read_is none e = let z : ◌≡◌ {A = ℕ} 0 1 = cc in absurd (omega arith)
  read_is (some x) {r = r} e = let q : record { value = x.0; next = x.1 } ≡ r = cc in rw (← q) refl

  pub unread_is : (o : Option (A × ℕ)) {e : Refusal} → Err e ≡ read o → (o ≡ none) × (e ≡ Refusal.NotInGrammar)
  unread_is none f = (refl, cc)
  unread_is (some x) f = let z : ◌≡◌ {A = ℕ} 0 1 = cc in absurd (omega arith)

pub head_is : (o : Option Head) {h : Head} → Ok h ≡ head_read o → o ≡ some h
head_is none e = let z : ◌≡◌ {A = ℕ} 0 1 = cc in absurd (omega arith)
head_is (some x) e = cc

pub no_head : (o : Option Head) {e : Refusal} → Err e ≡ head_read o → (o ≡ none) × (e ≡ Refusal.NotInGrammar)
no_head none f = (refl, cc)
no_head (some x) f = let z : ◌≡◌ {A = ℕ} 0 1 = cc in absurd (omega arith)
