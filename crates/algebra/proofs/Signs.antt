-- An operator in F's spelling, and the place after it. Assumes nothing.
use Rattle.std.specs.Prelude.{if◌then◌else◌}
use Prim.Native.Nat.{ℕ, ◌<◌}
use native.Mathlib.Omega.{arith}
use mathlib.Core.Path.{◌≡◌, refl, sym, ap, ◌∙◌}
use mathlib.Core.Bool.{Bool, true, false}
use mathlib.Core.List.{[], ◌∷◌}
use mathlib.Core.Option.{Option, none, some}
use lib.ListN.{drop}
use lib.Dec.{eqb, lit<}
use borrow.Author.Tests.{eq-eqb, ne_eqb, eqb-true, eqb-false}
use Rattle.paper.specs.Bytes.{Bytes, ch}
use Rattle.paper.specs.Grammar as paper
use Rattle.readers.specs.Places.{Peeked, byte_at, after}
use Rattle.algebra.specs.Expressions.{Operator}
use Rattle.algebra.specs.Grammar.{operator}
use Rattle.algebra.specs.Laying.{Signed, Signs, signed, missing, ordered}
use Rattle.std.specs.Prelude.{Some, None}
use Rattle.std.specs.Prelude.{Option as Maybe}
use Rattle.paper.specs.declared.Read.{Read}
use Rattle.algebra.proofs.Ahead.{hit, miss}

pub ordered_yes : {s : Bytes} {at b n : ℕ} (x y : ℕ) → Peeked s at b n → b ≡ ch "=" → record { value = x; next = n } ≡ ordered s at x y
unfolding ordered
ordered_yes {s} {at} x y p e = rw (eq-eqb (byte_at s at) (ch "=") (sym p.stands ∙ e), p.leads)

pub ordered_no : {s : Bytes} {at b n : ℕ} (x y : ℕ) → Peeked s at b n → (b ≡ ch "=" → ⊥) → record { value = y; next = at } ≡ ordered s at x y
unfolding ordered
ordered_no {s} {at} x y p f = rw (ne_eqb (byte_at s at) (ch "=") (λ z. f (p.stands ∙ z)))

-- an operator of one byte, and one with a `=` behind it
pub signs_one : {s : Bytes} {at b n c : ℕ} (o : Operator) → Peeked s at b n → b ≡ c → c < 255 → o.in_F ≡ c ∷ []
    → operator (c ∷ drop n s) ≡ some (o, drop n s) → Signs s at (operator (drop at s)) (Some (record { value = b; next = n }))
signs_one {s} {at} {b} {n} o p e h f g =
    let w = hit p e h in
    let r : Signed s at (operator (drop at s)) b n =
    record {
      thing = o;
      reads = ap operator w.0 ∙ g;
      spelling = f ∙ ap (λ (x : ℕ). x ∷ []) (sym e);
      forward = omega (arith, w.1);
      inside = omega (arith, w.1, w.2);
    } in
    signed r

module _ {s : Bytes} {at b n c : ℕ} (o q : Operator) (p : Peeked s at b n) (e : b ≡ c) (h : c < 255)
    (g : operator (c ∷ drop n s) ≡ paper.ahead (eqb (ch "=")) (λ _. paper.gives o) (paper.gives q) (drop n s)) where
  with_equal : {x : ℕ} → o.in_F ≡ x ∷ [] → byte_at s n ≡ ch "=" → Signed s at (operator (drop at s)) x (after s n)
  with_equal f z =
      let w = hit p e h in
      let v = hit {s = s} {at = n} {b = byte_at s n} {n = after s n} (record { stands = refl; leads = refl }) z (lit< tt) in
      record {
        thing = o;
        reads = ap operator w.0 ∙ g ∙ rw v.0;
        spelling = f;
        forward = omega (arith, w.1, v.1);
        inside = omega (arith, v.1, v.2);
      }

  without_equal : {x : ℕ} → q.in_F ≡ x ∷ [] → (byte_at s n ≡ ch "=" → ⊥) → Signed s at (operator (drop at s)) x n
  without_equal f z =
      let w = hit p e h in
      record {
        thing = q;
        reads = ap operator w.0 ∙ g ∙ miss {s = s} {at = n} {b = byte_at s n} {n = after s n} (record { stands = refl; leads = refl }) (λ _. paper.gives o)
            (paper.gives q) z;
        spelling = f;
        forward = omega (arith, w.1);
        inside = omega (arith, w.1, w.2);
      }

  pub signs_ordered : {x y : ℕ} → o.in_F ≡ x ∷ [] → q.in_F ≡ y ∷ [] → Signs s at (operator (drop at s)) (Some (ordered s n x y))
  unfolding ordered
  signs_ordered {x} {y} f i = go (eqb (byte_at s n) (ch "=")) refl
    where
      go : (t : Bool) → eqb (byte_at s n) (ch "=") ≡ t
          → Signs s at (operator (drop at s)) (Some (if t then record { value = x; next = after s n } else record { value = y; next = n }))
      go true z = signed (with_equal f (eqb-true _ _ z))
      go false z = signed (without_equal i (eqb-false _ _ z))

-- what an answer about operators tells once it is taken apart
pub signs_missing : {s : Bytes} {at : ℕ} {o : Option (Operator × Bytes)} {r : Maybe (Read ℕ)} → Signs s at o r → r ≡ None → o ≡ none
signs_missing (signed x) e = let z : ◌≡◌ {A = ℕ} 0 1 = cc in absurd (omega arith)
signs_missing (missing f) e = f

pub signs_operator : {s : Bytes} {at : ℕ} {p : Read ℕ} {o : Option (Operator × Bytes)} {r : Maybe (Read ℕ)} → Signs s at o r → r ≡ Some p
    → Signed s at o p.value p.next
signs_operator {p = p} (signed {r = q} x) e = let f : q ≡ p = cc in rw (← f) x
signs_operator (missing f) e = let z : ◌≡◌ {A = ℕ} 0 1 = cc in absurd (omega arith)
