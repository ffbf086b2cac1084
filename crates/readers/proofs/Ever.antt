-- What a reader by place reads, wherever it reads: a law for each way of going on. Assumes nothing.
use mathlib.Core.Path.{◌≡◌, refl}
use mathlib.Core.Bool.{Bool, true, false}
use mathlib.Core.List.{List}
use mathlib.Core.Option.{Option, none, some}
use Prim.Native.Nat.{ℕ, ◌≤◌}
use lib.Dec.{eqb}
use Rattle.paper.specs.Bytes.{Bytes}
use Rattle.paper.proofs.Predicates.{Reads, reads, reads_not, reads_either, All, none_of, and_all}
use Rattle.readers.specs.Places.{Placed, byte_at, after, follow, follow_or, only_if, choose_or, digit}
use Rattle.readers.proofs.Taken.{digit_small}

pub read_has : {A : Type 0} {P : A → Type 0} {o : Option (A × ℕ)} {a : A} {n : ℕ} → Reads P o → o ≡ some (a, n) → P a
read_has {A} {P} {o} {a} {n} p e = has (rw e at p)
  where
    has : Reads P (some (a, n)) → P a
    has (reads q) = q

-- what follows from what was told
pub reads_as : {A : Type 0} {P Q : A → Type 0} {o : Option (A × ℕ)} → ((a : A) → P a → Q a) → Reads P o → Reads Q o
reads_as f (reads {r = r} p) = reads (f r.0 p)
reads_as f reads_not = reads_not

-- wherever it reads
abbrev pub Ever : {A : Type 0} → (A → Type 0) → Bytes → Placed A → Type 0
Ever P s r = (n : ℕ) → Reads P (r s n)

-- what is given wherever it is asked for
pub gives_reads : {A : Type 0} {P : A → Type 0} {a : A} → P a → (n : ℕ) → Reads P (some (a, n))
gives_reads p n = reads p

pub follow_then : {A B : Type 0} {P : A → Type 0} {Q : B → Type 0} {s : Bytes} {o : Option (A × ℕ)} (k : A → Placed B) → Reads P o
    → ((a : A) → P a → Ever Q s (k a)) → Reads Q (follow o k s)
follow_then k (reads {r = r} p) f = f r.0 p r.1
follow_then k reads_not f = reads_not

pub follow_any : {A B : Type 0} {Q : B → Type 0} {s : Bytes} (o : Option (A × ℕ)) (k : A → Placed B) → ((a : A) → Ever Q s (k a))
    → Reads Q (follow o k s)
follow_any (some r) k f = f r.0 r.1
follow_any none k f = reads_not

pub or_then : {A B : Type 0} {P : A → Type 0} {Q : B → Type 0} {s : Bytes} {o : Option (A × ℕ)} (k : A → Placed B) (x : Option (B × ℕ)) → Reads P o
    → ((a : A) → P a → Ever Q s (k a)) → Reads Q x → Reads Q (follow_or o k s x)
or_then k x (reads {r = r} p) f q = f r.0 p r.1
or_then k x reads_not f q = q

pub or_any : {A B : Type 0} {Q : B → Type 0} {s : Bytes} (o : Option (A × ℕ)) (k : A → Placed B) (x : Option (B × ℕ))
    → ((a : A) → Ever Q s (k a)) → Reads Q x → Reads Q (follow_or o k s x)
or_any (some r) k x f q = f r.0 r.1
or_any none k x f q = q

pub only_then : {A : Type 0} {Q : A → Type 0} {s : Bytes} (t : Bool) (k : Unit {0} → Placed A) (n : ℕ) → (t ≡ true → Ever Q s (k tt))
    → Reads Q (follow (only_if t s n) k s)
only_then true k n f = f refl n
only_then false k n f = reads_not

pub choose_reads : {A : Type 0} {P : A → Type 0} {s : Bytes} {cs : List (ℕ × Placed A)} (other : Placed A) → All (λ c. Ever P s c.1) cs
    → Ever P s other → Ever P s (choose_or cs other)
unfolding choose_or
choose_reads other none_of q n = q n
choose_reads {A} {P} {s} other (and_all {a = c} p ps) q n = reads_either (eqb c.0 (byte_at s n)) (p (after s n)) (choose_reads other ps q n)

pub digit_reads : (s : Bytes) → Ever (λ d. d ≤ 9) s digit
digit_reads s n = small (digit s n) refl
  where
    small : (o : Option (ℕ × ℕ)) → digit s n ≡ o → Reads (λ d. d ≤ 9) o
    small none e = reads_not
    small (some r) e = reads (digit_small s n e)
