-- What holds of an answer, of a reader's result and of every member of a list: predicates as data, and how they pass through the
-- definitions' ways of going on. Assumes nothing.
use Rattle.std.specs.Prelude.{if◌then◌else◌}
use Prim.Native.Nat.{ℕ}
use mathlib.Core.Path.{◌≡◌, refl}
use mathlib.Core.Bool.{Bool, true, false}
use mathlib.Core.List.{List, [], ◌∷◌, ◌++◌}
use mathlib.Core.Option.{Option, none, some}
use Rattle.paper.specs.Bytes.{Bytes}
use Rattle.paper.specs.Refusals.{Res, given, refused, ◌>>=◌, ◌>>◌, refuse◌unless◌}
use Rattle.paper.specs.Grammar.{Reader, follow, ahead}

-- a refusal, or an answer with P
pub data Holds {A : Type 0} (P : A → Type 0) : Res A → Type 0 where
  holds : {a : A} → P a → Holds P (given a)
  refuses : {n : ℕ} → Holds P (refused n)

pub held : {A : Type 0} {P : A → Type 0} {a : A} → Holds P (given a) → P a
held (holds p) = p

pub held_by : {A : Type 0} {P : A → Type 0} {r : Res A} {a : A} → Holds P r → r ≡ given a → P a
held_by h e = held (rw e at h)

pub holds_then : {A B : Type 0} {P : A → Type 0} {Q : B → Type 0} {r : Res A} {k : A → Res B} → Holds P r
    → ((a : A) → P a → Holds Q (k a)) → Holds Q (r >>= k)
holds_then (holds {a = a} p) f = f a p
holds_then refuses f = refuses

-- what goes on from an answer may use that it was that answer
pub holds_after : {A B : Type 0} {Q : B → Type 0} (r : Res A) {k : A → Res B} → ((a : A) → r ≡ given a → Holds Q (k a))
    → Holds Q (r >>= k)
holds_after (given a) f = f a refl
holds_after (refused n) f = refuses

pub holds_next : {A B : Type 0} {Q : B → Type 0} (r : Res A) {q : Res B} → ((a : A) → r ≡ given a → Holds Q q) → Holds Q (r >> q)
holds_next (given a) f = f a refl
holds_next (refused n) f = refuses

-- an answer that a test lets through
pub holds_unless : {A : Type 0} {P : A → Type 0} (n : ℕ) (t : Bool) (a : A) → (t ≡ true → P a) → Holds P ((refuse n unless t) >> given a)
holds_unless n true a f = holds (f refl)
holds_unless n false a f = refuses

-- nothing read, or something with P, and what is left: bytes, or the place where they start
pub data Reads {A R : Type 0} (P : A → Type 0) : Option (A × R) → Type 0 where
  reads : {r : A × R} → P r.0 → Reads P (some r)
  reads_not : Reads P none

pub reads_after : {A B : Type 0} {Q : B → Type 0} (o : Option (A × Bytes)) {k : A → Reader B}
    → ((a : A) (bs : Bytes) → Reads Q (k a bs)) → Reads Q (follow o k)
reads_after none f = reads_not
reads_after (some r) f = f r.0 r.1

pub reads_either : {A R : Type 0} {P : A → Type 0} (t : Bool) {x y : Option (A × R)} → Reads P x → Reads P y
    → Reads P (if t then x else y)
reads_either true p q = p
reads_either false p q = q

pub reads_ahead : {A : Type 0} {P : A → Type 0} (p : ℕ → Bool) {k : ℕ → Reader A} {other : Reader A}
    → ((b : ℕ) (bs : Bytes) → Reads P (k b bs)) → ((bs : Bytes) → Reads P (other bs)) → (bs : Bytes) → Reads P (ahead p k other bs)
reads_ahead p f g [] = g []
reads_ahead p f g (b ∷ bs) = reads_either (p b) (f b bs) (g (b ∷ bs))

pub data All {A : Type 0} (P : A → Type 0) : List A → Type 0 where
  none_of : All P []
  and_all : {a : A} {rest : List A} → P a → All P rest → All P (a ∷ rest)

pub all_append : {A : Type 0} {P : A → Type 0} {xs ys : List A} → All P xs → All P ys → All P (xs ++ ys)
all_append none_of q = q
all_append (and_all p ps) q = and_all p (all_append ps q)

pub all_map : {A : Type 0} {P Q : A → Type 0} {xs : List A} → ((a : A) → P a → Q a) → All P xs → All Q xs
all_map f none_of = none_of
all_map f (and_all {a = a} p ps) = and_all (f a p) (all_map f ps)

pub all_both : {A : Type 0} {P Q : A → Type 0} {xs : List A} → All P xs → All Q xs → All (λ a. P a × Q a) xs
all_both none_of none_of = none_of
all_both (and_all p ps) (and_all q qs) = and_all (p, q) (all_both ps qs)
