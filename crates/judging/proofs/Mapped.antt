-- What a `map_err` was given. Assumes nothing.
use Rattle.std.specs.Prelude.{Result, Ok, Err}
use Rattle.std.specs.Result.{MatchResult, IsErrAnd}
use Rattle.std.proofs.lemmas.Result.{err_from_is_err_and}
use mathlib.Core.Path.{◌≡◌, refl, sym, ap, ◌∙◌}
use Prim.Native.Nat.{ℕ}
use native.Mathlib.Omega.{arith}

module _ {A E D : Type 0} (P : E → D → Type 0) (r : Result A E) {r' : Result A D} (mapped : MatchResult r (λ x. r' ≡ Ok x) (λ e. IsErrAnd r' (P e))) where
  pub mapped_ok : {a : A} → r' ≡ Ok a → r ≡ Ok a
  mapped_ok {a} e = go r refl mapped
    where
      go : (q : Result A E) → r ≡ q → MatchResult q (λ x. r' ≡ Ok x) (λ e. IsErrAnd r' (P e)) → r ≡ Ok a
      go (Ok x) p h = let both : ◌≡◌ {A = Result A D} (Ok x) (Ok a) = sym h ∙ e in let same : x ≡ a = cc in p ∙ ap Ok same
      go (Err x) p h = let w = err_from_is_err_and r' h in let z : ◌≡◌ {A = ℕ} 0 1 = cc in absurd (omega arith)

  pub mapped_err : {d : D} → r' ≡ Err d → (e : E) × (r ≡ Err e) × P e d
  mapped_err {d} e = go r refl mapped
    where
      go : (q : Result A E) → r ≡ q → MatchResult q (λ x. r' ≡ Ok x) (λ e. IsErrAnd r' (P e)) → (e : E) × (r ≡ Err e) × P e d
      go (Ok x) p h = let z : ◌≡◌ {A = ℕ} 0 1 = cc in absurd (omega arith)
      go (Err x) p h =
          let w = err_from_is_err_and r' h in
          let same : w.0 ≡ d = cc in
          (x, p, rw (← same) w.2)
