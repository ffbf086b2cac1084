-- The F text as it is laid: what is read first, and behind it what is read next. Assumes nothing.
use Prim.Native.Nat.{ℕ, ◌+◌, ◌*◌, ◌≤◌}
use native.Mathlib.Omega.{arith}
use mathlib.Core.Path.{◌≡◌, refl, sym, ap, ◌∙◌}
use mathlib.Core.List.{List, [], ◌∷◌, ◌++◌, append_assoc, append-nil}
use mathlib.Core.Option.{Option, none}
use lib.ListN.{length}
use Rattle.paper.specs.Bytes.{Bytes, ch}
use Rattle.paper.specs.Grammar as paper
use Rattle.lent.specs.Over as lent
use Rattle.lent.proofs.Laying.{laid_behind}
use Rattle.algebra.specs.Expressions.{Spelt, behind}
use Rattle.algebra.specs.Laying.{Room, Laid, Lays, laid, unread}
use Rattle.std.specs.Prelude.{Some, None}
use Rattle.std.specs.Prelude.{Option as Maybe}

-- elms behind elms
pub behind_append : (xs ys : List Spelt) → behind (xs ++ ys) ≡ behind xs ++ behind ys
unfolding behind
behind_append [] ys = refl
behind_append (x ∷ xs) ys = ap (λ (bs : Bytes). ch ";" ∷ x.text ++ bs) (behind_append xs ys) ∙ ap (λ (bs : Bytes). ch ";" ∷ bs)
    (sym (append_assoc x.text (behind xs) (behind ys)))

pub elms_then : {t u w : Bytes} {l m n : ℕ} (xs ys : List Spelt) → l ≤ length t → lent.Laid (behind xs) t m u l → lent.Laid (behind ys) u n w m
    → lent.Laid (behind (xs ++ ys)) t n w l
elms_then xs ys h p q = rw (behind_append xs ys) (laid_behind p q h)

-- what an answer tells once it is taken apart
pub lays_upto : {A : Type 0} {elms : A → List Spelt} {s t u : Bytes} {at l n m : ℕ} {o : Option (A × Bytes)} {r : Maybe ℕ} → Lays elms s at t l o r u m
    → r ≡ Some n → Laid elms s at t l o n m u
lays_upto {n = n} (laid {next = k} x) e = let f : k ≡ n = cc in rw (← f) x
lays_upto (unread f) e = let z : ◌≡◌ {A = ℕ} 0 1 = cc in absurd (omega arith)

pub lays_unread : {A : Type 0} {elms : A → List Spelt} {s t u : Bytes} {at l m : ℕ} {o : Option (A × Bytes)} {r : Maybe ℕ} → Lays elms s at t l o r u m
    → r ≡ None → o ≡ none
lays_unread (laid x) e = let z : ◌≡◌ {A = ℕ} 0 1 = cc in absurd (omega arith)
lays_unread (unread f) e = f

module _ {A B C : Type 0} (one : A → List Spelt) (two : B → List Spelt) (both : C → List Spelt) {s t u w : Bytes} {at l n m from : ℕ} {o : Option (A × Bytes)}
    (x : Laid one s at t l o n m u) (h : l ≤ length t) (f : n ≤ from) (g : B → C) (e : (y : B) → both (g y) ≡ one x.thing ++ two y) where
  -- what was read, and what was read behind it at a later place: `g` makes the whole of both
  pub laid_then : {q : Option (B × Bytes)} {n' m' : ℕ} → Laid two s from u m q n' m' w → Laid both s at t l (paper.follow q (λ y. paper.gives (g y))) n' m' w
  laid_then y =
      record {
        thing = g y.thing;
        reads = rw y.reads;
        forward = omega (arith, x.forward, y.forward);
        inside = y.inside;
        few = omega (arith, x.few, y.few);
        written = rw (e y.thing) (elms_then (one x.thing) (two y.thing) h x.written y.written);
      }

  pub lays_then : {q : Option (B × Bytes)} {k : ℕ} {r : Maybe ℕ} → Lays two s from u m q r w k
      → Lays both s at t l (paper.follow q (λ y. paper.gives (g y))) r w k
  lays_then (laid y) = laid (laid_then y)
  lays_then (unread y) = unread (rw y)

-- the same bytes as another thing of the same elms
module _ {A B : Type 0} (one : A → List Spelt) (other : B → List Spelt) {s t u : Bytes} {at l : ℕ} (g : A → B) (e : (x : A) → other (g x) ≡ one x) where
  pub laid_as : {o : Option (A × Bytes)} {n m : ℕ} → Laid one s at t l o n m u → Laid other s at t l (paper.follow o (λ x. paper.gives (g x))) n m u
  laid_as x =
      record {
        thing = g x.thing;
        reads = rw x.reads;
        forward = x.forward;
        inside = x.inside;
        few = x.few;
        written = rw (e x.thing) x.written;
      }

  pub lays_as : {o : Option (A × Bytes)} {k : ℕ} {r : Maybe ℕ} → Lays one s at t l o r u k → Lays other s at t l (paper.follow o (λ x. paper.gives (g x))) r u k
  lays_as (laid x) = laid (laid_as x)
  lays_as (unread f) = unread (rw f)

-- read from an earlier place on, with nothing laid for what stands before
pub lays_from : {A : Type 0} {elms : A → List Spelt} {s t u : Bytes} {at l k from : ℕ} {o o' : Option (A × Bytes)} {r : Maybe ℕ} → Lays elms s at t l o r u k
    → from ≤ at → o' ≡ o → Lays elms s from t l o' r u k
lays_from (laid {next = n} {end = m} x) h e =
    laid {next = n} {end = m} (record {
      thing = x.thing;
      reads = e ∙ x.reads;
      forward = omega (arith, x.forward);
      inside = x.inside;
      few = omega (arith, x.few);
      written = x.written;
    })
lays_from (unread f) h e = unread (e ∙ f)

-- what was read, and one elm more behind it
pub laid_elm : {A B : Type 0} (one : A → List Spelt) (both : B → List Spelt) {s t u w : Bytes} {at l n m end from : ℕ} {o : Option (A × Bytes)}
    (x : Laid one s at t l o n m u) (e : Spelt) → l ≤ length t → lent.Laid (behind (e ∷ [])) u end w m → from ≤ at → end + 3 * from ≤ l + 3 * n
    → (g : A → B) → both (g x.thing) ≡ one x.thing ++ e ∷ []
    → Laid both s from t l (paper.follow o (λ y. paper.gives (g y))) n end w
laid_elm one both x e h p f few g q =
    record {
      thing = g x.thing;
      reads = rw x.reads;
      forward = omega (arith, x.forward);
      inside = x.inside;
      few = few;
      written = rw q (elms_then (one x.thing) (e ∷ []) h x.written p);
    }

-- `;` and the spelling are what an elm is laid as
pub elm_written : {t u text : Bytes} {l end : ℕ} (e : Spelt) → e.text ≡ text → lent.Laid (ch ";" ∷ text) t end u l → lent.Laid (behind (e ∷ [])) t end u l
unfolding behind
elm_written {text = text} e f h = let one : e.text ++ [] ≡ text = append-nil e.text ∙ f in rw one h

-- room: for the text so far, and for what stands further on
pub room_len : {s t : Bytes} {at l : ℕ} → Room s at t l → l ≤ length t
room_len r = omega (arith, r.inside, r.few, r.enough)

pub room_on : {s t u : Bytes} {at l n m : ℕ} → Room s at t l → length u ≡ length t → n ≤ length s → m ≤ 3 * n → Room s n u m
room_on r e h f = record { inside = h; few = f; enough = omega (arith, r.enough, e) }

-- what is not read inside is not read at all
pub lays_none : {A B : Type 0} {one : A → List Spelt} (other : B → List Spelt) {s t u : Bytes} {at l k : ℕ} {o : Option (A × Bytes)} {q : Option (B × Bytes)}
    (from : ℕ) → Lays one s at t l o None u k → (o ≡ none → q ≡ none) → Lays other s from t l q None u k
lays_none other from x f = unread (f (lays_unread x refl))

-- with bytes to spare
pub room_spare : {s t : Bytes} {at l : ℕ} → Room s at t (l + 3) → Room s at t l
room_spare r = record { inside = r.inside; few = omega (arith, r.few); enough = r.enough }

-- a `?` answers what it found: nothing
pub ended : {A : Type 0} {elms : A → List Spelt} {s t u : Bytes} {at l k : ℕ} {o : Option (A × Bytes)} {r : Maybe ℕ} → r ≡ None → Lays elms s at t l o None u k
    → Lays elms s at t l o r u k
ended e x = rw e x
