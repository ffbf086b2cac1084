-- The elms of an F code from place to place: what the paper reads from here is this elm and what it reads from the next.
use Rattle.std.specs.Prelude.{if◌then◌else◌}
use Prim.Native.Nat.{ℕ, ◌<◌, ◌≤◌}
use mathlib.Core.Path.{◌≡◌, refl, sym, ap, ◌∙◌}
use mathlib.Core.Bool.{Bool, true, false}
use mathlib.Core.List.{List, [], ◌∷◌}
use mathlib.Core.Option.{Option, none, some}
use lib.ListN.{length, drop, drop_of_length-le}
use lib.Dec.{eqb, eqb-suc-zero}
use native.Mathlib.Omega.{arith}
use borrow.Author.Tests.{ne_eqb}
use Rattle.paper.specs.Bytes.{Bytes}
use Rattle.paper.specs.Grammar as paper
use Rattle.paper.specs.Codes as codes
use Rattle.paper.proofs.Fuel.{Shortens, onto}
use Rattle.codes.specs.Meaning.{elm_of}
use Rattle.codes.specs.declared.Elm.{Elm}
use Rattle.readers.specs.Places.{Peeked}
use Rattle.grammar.specs.Reading as place
use Rattle.grammar.specs.Heads.{elms_from}
use Rattle.readers.proofs.Bytes.{peeked_drop}
use Rattle.readers.proofs.Agreement.{none_by, some_by}
use Rattle.readers.proofs.Many.{shorter, parted_of, parted_none}
use Rattle.grammar.proofs.AgreementLines.{elm_reads}

-- an elm eats a byte: the bytes after it are fewer
pub fewer : Shortens paper.elm
fewer bs e rest h = shorter (elm_reads bs 0 (omega arith)) h

-- an elm, and then the rest or nothing
abbrev pub further : ℕ → codes.Elm → paper.Reader (List codes.Elm)
further n x = paper.ahead (eqb 59) (λ _ bs. onto x (paper.parted n 59 paper.elm bs)) (paper.gives (x ∷ []))

-- an elm in front of those that follow
abbrev pub elm_onto : codes.Elm → Option (List codes.Elm) → Option (List codes.Elm)
elm_onto e none = none
elm_onto e (some es) = some (e ∷ es)

onto_read : (x : codes.Elm) (o : Option (List codes.Elm × Bytes)) → paper.all_read (onto x o) ≡ elm_onto x (paper.all_read o)
onto_read x none = refl
onto_read x (some r) = go (eqb (length r.1) 0)
  where
    go : (t : Bool) → (if t then some (x ∷ r.0) else none) ≡ elm_onto x (if t then some r.0 else none)
    go true = refl
    go false = refl

module _ (s : Bytes) (at : ℕ) (h : at ≤ length s) where
  pub elm_within : (e : Elm) (n : ℕ) → place.elm s at ≡ some (e, n) → (at < n) × (n ≤ length s)
  elm_within e n f = let r = some_by e n (elm_reads s at h) f in (r.1, r.2)

  pub elms_none : place.elm s at ≡ none → elms_from s at ≡ none
  unfolding elms_from paper.elms
  elms_none e = ap paper.all_read (parted_none 59 paper.elm fewer (drop at s) (none_by (elm_reads s at h) e))

  module _ (e : Elm) (n : ℕ) (f : place.elm s at ≡ some (e, n)) where
    -- an elm with what follows it
    from_here : elms_from s at ≡ paper.all_read (paper.ahead (eqb 59) (λ _ bs. onto (elm_of s e) (paper.elms bs)) (paper.gives (elm_of s e ∷ [])) (drop n s))
    unfolding elms_from paper.elms
    from_here = ap paper.all_read (parted_of 59 paper.elm fewer (drop at s) (elm_of s e) (drop n s) (some_by e n (elm_reads s at h) f).0)

    pub elms_last : n ≡ length s → elms_from s at ≡ some (elm_of s e ∷ [])
    elms_last k = from_here ∙ rw (drop_of_length-le s {i = n} (omega arith))

    module _ {b m : ℕ} (k : n ≡ length s → ⊥) (p : Peeked s n b m) where
      behind : drop n s ≡ b ∷ drop m s
      behind = let w = elm_within e n f in peeked_drop (omega arith) p

      pub elms_more : b ≡ 59 → elms_from s at ≡ elm_onto (elm_of s e) (elms_from s m)
      unfolding elms_from
      elms_more j = from_here ∙ rw (behind, j) (onto_read (elm_of s e) (paper.elms (drop m s)))

      pub elms_stray : (b ≡ 59 → ⊥) → elms_from s at ≡ none
      elms_stray j = from_here ∙ rw (behind, ne_eqb 59 b (λ z. j (sym z)), eqb-suc-zero (length (drop m s)))
