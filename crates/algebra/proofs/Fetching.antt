-- The operands that F has too: what F's reader of elms ate, as it is spelt. Assumes nothing.
use Prim.Native.Nat.{ℕ, suc, ◌-◌, ◌≤◌, ◌<◌}
use native.Mathlib.Omega.{arith}
use mathlib.Core.Path.{◌≡◌, refl, sym, ◌∙◌}
use mathlib.Core.Bool.{true, false, true≢false}
use mathlib.Core.List.{[], ◌∷◌}
use mathlib.Core.Option.{Option, none, some}
use Rattle.std.specs.Prelude.{Some, None}
use Rattle.std.specs.Result.{result_ok}
use Rattle.paper.specs.declared.Read.{Read}
use Rattle.readers.specs.Answers.{read}
use lib.ListN.{length, take, drop, length-drop}
use Rattle.paper.specs.Bytes.{Bytes, ch}
use Rattle.paper.specs.Grammar as paper
use Rattle.codes.specs.Meaning.{operand_of, elm_of}
use Rattle.codes.specs.declared.Elm as code
use Rattle.codes.specs.declared.Operand as operands
use Rattle.grammar.specs.Reading as place
use Rattle.grammar.proofs.AgreementLines.{elm_reads}
use Rattle.readers.proofs.Agreement.{none_by, some_by}
use Rattle.lent.specs.Over as lent
use Rattle.lent.proofs.Laws.{length_from}
use Rattle.algebra.specs.Expressions.{Operand, spelt, operand_elms}
use Rattle.algebra.specs.Grammar.{as_operand, fetch}
use Rattle.algebra.specs.Laying.{Laid, fetches}
use Rattle.algebra.proofs.Laying.{elm_written}

-- an elm of F that is an operand of A
fetched_as : (s text rest : Bytes) (e : code.Elm) → fetches e ≡ true
    → (x : Operand) × (as_operand text (elm_of s e) rest ≡ some (x, rest)) × (operand_elms x ≡ spelt text (elm_of s e) ∷ [])
unfolding fetches elm_of operand_of operand_elms
fetched_as s text rest (code.Elm.Push (operands.Operand.Attribute n r)) h = (_, refl, refl)
fetched_as s text rest (code.Elm.Push (operands.Operand.Literal start len)) h = (_, refl, refl)
fetched_as s text rest (code.Elm.Push operands.Operand.Previous) h = absurd (true≢false (sym h))
fetched_as s text rest (code.Elm.Binary o) h = absurd (true≢false (sym h))
fetched_as s text rest code.Elm.Substring h = absurd (true≢false (sym h))
fetched_as s text rest code.Elm.Exchange h = absurd (true≢false (sym h))
fetched_as s text rest code.Elm.Duplicate h = absurd (true≢false (sym h))
fetched_as s text rest (code.Elm.Convert c) h = absurd (true≢false (sym h))

unfetched_as : (s text rest : Bytes) (e : code.Elm) → fetches e ≡ false → as_operand text (elm_of s e) rest ≡ none
unfolding fetches elm_of operand_of
unfetched_as s text rest (code.Elm.Push (operands.Operand.Attribute n r)) h = absurd (true≢false h)
unfetched_as s text rest (code.Elm.Push (operands.Operand.Literal start len)) h = absurd (true≢false h)
unfetched_as s text rest (code.Elm.Push operands.Operand.Previous) h = refl
unfetched_as s text rest (code.Elm.Binary o) h = refl
unfetched_as s text rest code.Elm.Substring h = refl
unfetched_as s text rest code.Elm.Exchange h = refl
unfetched_as s text rest code.Elm.Duplicate h = refl
unfetched_as s text rest (code.Elm.Convert c) h = refl

-- what F's reader of elms answers, if it read one
module _ {A : Type 0} where
  pub ok_read : (o : Option (A × ℕ)) {r : Read A} → Some r ≡ result_ok (read o) → o ≡ some (r.value, r.next)
  ok_read none e = let z : ◌≡◌ {A = ℕ} 0 1 = cc in absurd (omega arith)
  ok_read (some x) {r = r} e = let q : record { value = x.0; next = x.1 } ≡ r = cc in rw (← q) refl

  pub ok_none : (o : Option (A × ℕ)) → None ≡ result_ok (read o) → o ≡ none
  ok_none none e = refl
  ok_none (some x) e = let z : ◌≡◌ {A = ℕ} 0 1 = cc in absurd (omega arith)

-- an operand that F has too, read by its elm
module _ (s : Bytes) (at : ℕ) (h : at ≤ length s) where
  pub fetch_none : place.elm s at ≡ none → fetch (drop at s) ≡ none
  unfolding fetch
  fetch_none e = rw (none_by (elm_reads s at h) e)

  module _ (e : code.Elm) (n : ℕ) (f : place.elm s at ≡ some (e, n)) where
    reads : (paper.elm (drop at s) ≡ some (elm_of s e, drop n s)) × (suc at ≤ n) × (n ≤ length s)
    reads = some_by e n (elm_reads s at h) f

    pub fetch_within : (at < n) × (n ≤ length s)
    fetch_within = (omega (arith, reads.1), reads.2)

    spelling : take (length (drop at s) - length (drop n s)) (drop at s) ≡ take (n - at) (drop at s)
    spelling =
        let k : length (drop at s) - length (drop n s) ≡ n - at = omega (arith, length-drop at s, length-drop n s, reads.1, reads.2) in
        rw k refl

    fetch_as : fetch (drop at s) ≡ as_operand (take (n - at) (drop at s)) (elm_of s e) (drop n s)
    unfolding fetch
    fetch_as = rw (reads.0, spelling)

    pub fetch_other : fetches e ≡ false → fetch (drop at s) ≡ none
    fetch_other g = fetch_as ∙ unfetched_as s _ _ e g

    pub fetch_laid : {t u : Bytes} {l end : ℕ} → fetches e ≡ true → lent.Laid (ch ";" ∷ take (n - at) (drop at s)) t end u l
        → Laid operand_elms s at t l (fetch (drop at s)) n end u
    fetch_laid {t} {u} {l} {end} g i =
        let text : Bytes = take (n - at) (drop at s) in
        let x = fetched_as s text (drop n s) e g in
        record {
          thing = x.0;
          reads = fetch_as ∙ x.1;
          forward = omega (arith, reads.1);
          inside = reads.2;
          few = omega (arith, i.place, reads.1, length_from s at (n - at) (omega (arith, reads.1, reads.2)));
          written = rw x.2 (elm_written (spelt text (elm_of s e)) refl i);
        }
