-- Tests in their order (document 01, "Numbers that refusals carry"): an answer came exactly where no test refused. Assumes nothing.
use Prim.Native.Nat.{ℕ}
use native.Mathlib.Omega.{arith}
use mathlib.Core.Path.{◌≡◌, refl, sym, ap}
use mathlib.Core.Bool.{Bool, true, false}
use mathlib.Core.Logic.{◌≢◌}
use mathlib.Core.List.{List, [], ◌∷◌}
use Rattle.paper.specs.Refusals.{Res, given, refused, ◌>>◌, refuse◌unless◌, refusal_of}
pub use Rattle.paper.proofs.Truths.{when_passed}
use Rattle.paper.proofs.Predicates.{All, none_of, and_all}

-- a refusal is no answer
pub never_given : {A G : Type 0} {n : ℕ} {a : A} → refused n ≡ given a → G
never_given e = absurd (let z : ◌≡◌ {A = ℕ} 0 1 = cc in omega arith)

-- what a test before an answer does not refuse with
pub never_held : {A G : Type 0} (n m : ℕ) (t : Bool) (x : A) → n ≢ m → ((refuse n unless t) >> given x) ≡ refused m → G
never_held n m true x d h = never_given (sym h)
never_held n m false x d h = absurd (d (ap refusal_of h))

-- the tests, and what is answered where none refuses: what a `do` block of tests computes to
abbrev pub tested : {B : Type 0} → List (Res (Unit {0})) → Res B → Res B
tested [] k = k
tested (r ∷ rs) k = r >> tested rs k

abbrev pub Passed : List (Res (Unit {0})) → Type 0
Passed rs = All (λ r. r ≡ given tt) rs

pub pass : {B : Type 0} {b : B} {rs : List (Res (Unit {0}))} {k : Res B} → Passed rs → k ≡ given b → tested rs k ≡ given b
pass none_of e = e
pass (and_all h hs) e = rw h (pass hs e)

pub passed : {B : Type 0} (rs : List (Res (Unit {0}))) (k : Res B) {b : B} → tested rs k ≡ given b → Passed rs × (k ≡ given b)
passed [] k e = (none_of, e)
passed (given u ∷ rs) k e = let (hs, h) = passed rs k e in (and_all refl hs, h)
passed (refused n ∷ rs) k e = never_given e
