-- Readers with fuel: what is read with any fuel is read with fuel of the bytes' number, where each thing eats a byte, and so many are this thing and
-- those behind it. One law for what is parted by a byte, elms and patterns, and for what is closed by one, tests. Assumes nothing.
use Rattle.std.specs.Prelude.{if◌then◌else◌}
use Prim.Native.Nat.{ℕ, zero, suc, ◌≤◌, ◌<◌}
use native.Mathlib.Omega.{arith}
use mathlib.Core.Path.{◌≡◌, refl, sym, ◌∙◌}
use mathlib.Core.Bool.{Bool, true, false}
use mathlib.Core.List.{List, [], ◌∷◌}
use mathlib.Core.Option.{Option, none, some}
use lib.Dec.{eqb}
use lib.ListN.{length}
use Rattle.paper.specs.Bytes.{Bytes}
use Rattle.paper.specs.Grammar.{Reader, follow, gives, ahead}

-- what is read is shorter by a byte at least
abbrev pub Shortens : {A : Type 0} → Reader A → Type 0
Shortens {A} r = (bs : Bytes) (x : A) (rest : Bytes) → r bs ≡ some (x, rest) → length rest < length bs

-- what the one reads, the other reads too
abbrev pub Again : {A : Type 0} → Option (A × Bytes) → Option (A × Bytes) → Type 0
Again {A} o o' = (y : A × Bytes) → o ≡ some y → o' ≡ some y

again_same : {A : Type 0} (o o' : Option (A × Bytes)) → Again o o' → Again o' o → o ≡ o'
again_same none none f g = refl
again_same none (some y) f g = g y refl
again_same (some y) o' f g = sym (f y refl)

follow_again : {A B : Type 0} {k k' : A → Reader B} (o o' : Option (A × Bytes)) → Again o o'
    → ((x : A) (rest : Bytes) → o ≡ some (x, rest) → Again (k x rest) (k' x rest)) → Again (follow o k) (follow o' k')
follow_again none o' f h = λ y e. cc
follow_again (some x) o' f h = rw (f x refl) (h x.0 x.1 refl)

-- `many` reads with fuel: one thing, and g what is behind it by means of the rest of the fuel; what that reads again, g does.
module _ {A B : Type 0} (r : Reader A) (g : A → Reader B → Reader B) (many : ℕ → Reader B)
    (start : (bs : Bytes) → many zero bs ≡ none)
    (step : (n : ℕ) (bs : Bytes) → many (suc n) bs ≡ follow (r bs) (λ x. g x (many n)))
    (eats : Shortens r)
    (grows : (x : A) (q q' : Reader B) (rest : Bytes) → ((t : Bytes) → length t ≤ length rest → Again (q t) (q' t)) → Again (g x q rest) (g x q' rest))
  where
    empty : (bs : Bytes) → length bs ≤ 0 → r bs ≡ none
    empty bs l = again_same (r bs) none (λ y e. absurd (omega (arith, eats bs y.0 y.1 e))) (λ y e. cc)

    once : (q q' : Reader B) (bs : Bytes) → ((t : Bytes) → length t < length bs → Again (q t) (q' t))
        → Again (follow (r bs) (λ x. g x q)) (follow (r bs) (λ x. g x q'))
    once q q' bs h =
        follow_again (r bs) (r bs) (λ y e. e) (λ x rest e. let s = eats bs x rest e in grows x q q' rest (λ t l. h t (omega arith)))

    pub many_enough : (k m : ℕ) (bs : Bytes) → length bs ≤ m → Again (many k bs) (many m bs)
    many_enough zero m bs l = rw (start bs) (λ y e. cc)
    many_enough (suc k) zero bs l = rw (step k bs, empty bs l) (λ y e. cc)
    many_enough (suc k) (suc m) bs l = rw (step k bs, step m bs) (once (many k) (many m) bs (λ t n. many_enough k m t (omega arith)))

    -- this thing and those behind it, each with fuel of its own bytes' number
    pub many_of : (n : ℕ) (bs : Bytes) → length bs ≤ n → many n bs ≡ follow (r bs) (λ x. g x (λ t. many (length t) t))
    many_of zero bs l = rw (empty bs l) (start bs)
    many_of (suc n) bs l =
        step n bs ∙ again_same _ _ (once _ _ bs (λ t k. many_enough n _ t (omega arith))) (once _ _ bs (λ t k. many_enough (length t) n t (omega arith)))

-- a thing in front of those that follow
abbrev pub onto : {A : Type 0} → A → Option (List A × Bytes) → Option (List A × Bytes)
onto x o = follow o (λ xs. gives (x ∷ xs))

onto_again : {A : Type 0} (x : A) (o o' : Option (List A × Bytes)) → Again o o' → Again (onto x o) (onto x o')
onto_again x o o' h = follow_again o o' h (λ xs rest e y f. f)

if_again : {A : Type 0} {a a' b b' : Option (A × Bytes)} (t : Bool) → Again a a' → Again b b' → Again (if t then a else b) (if t then a' else b')
if_again true f g = f
if_again false f g = g

-- What is behind a thing, parted by the byte c or closed by it.
module _ {A : Type 0} (c : ℕ) (x : A) where
  abbrev pub another : Reader (List A) → Reader (List A)
  another q = ahead (eqb c) (λ _ t. onto x (q t)) (gives (x ∷ []))

  abbrev pub close : Reader (List A) → Reader (List A)
  close q = ahead (eqb c) (λ _. gives (x ∷ [])) (λ t. onto x (q t))

  module _ (q q' : Reader (List A)) where
    pub another_grows : (rest : Bytes) → ((t : Bytes) → length t ≤ length rest → Again (q t) (q' t)) → Again (another q rest) (another q' rest)
    another_grows [] h = λ y e. e
    another_grows (b ∷ rest) h = if_again (eqb c b) (onto_again x (q rest) (q' rest) (h rest (omega arith))) (λ y e. e)

    pub close_grows : (rest : Bytes) → ((t : Bytes) → length t ≤ length rest → Again (q t) (q' t)) → Again (close q rest) (close q' rest)
    close_grows [] h = onto_again x (q []) (q' []) (h [] (omega arith))
    close_grows (b ∷ rest) h = if_again (eqb c b) (λ y e. e) (onto_again x (q (b ∷ rest)) (q' (b ∷ rest)) (h (b ∷ rest) (omega arith)))
