-- A reader by place agrees with the paper's reader: both read the same thing and stop at the same place, or both read nothing.
-- One law for each way in which readers are put together; AgreementLines.antt, here and in crates/grammar, has a line for each line of the grammar.
use Rattle.std.specs.Prelude.{if◌then◌else◌}
use Prim.Native.Nat.{ℕ, zero, suc, ◌<◌, ◌≤◌, ◌+◌, ◌*◌}
use mathlib.Core.Path.{◌≡◌, refl, sym, ap, ◌∙◌}
use mathlib.Core.Bool.{Bool, true, false, not, ◌&&◌}
use mathlib.Core.Logic.{⊎_elim}
use mathlib.Core.List.{List, [], ◌∷◌, ◌++◌, append-nil}
use mathlib.Core.Option.{Option, none, some}
use lib.ListN.{length, drop, drop_of_length-le}
use lib.Dec.{T, eqb}
use native.Mathlib.Numerals.{add-one}
use native.Mathlib.Omega.{arith}
use borrow.Author.Tests.{eq-eqb, eqb-true}
use Rattle.paper.specs.Bytes.{Bytes, is_digit, digit_value}
use Rattle.paper.specs.Grammar as paper
use Rattle.readers.specs.Places.{Placed, byte_at, after, follow, follow_or, gives, fails, only_if, ahead, choose_or, this, flag, digit, digit_ahead, more_digits, numeral, numeral_ahead, num}
use Rattle.paper.proofs.Truths.{ltb_or}
use Rattle.readers.proofs.Bytes.{ahead_of, byte_past, after_inside}
use Rattle.readers.proofs.Taken.{some_one}

-- what was read, f of it in the paper; `low` is where the reader must have come to, at least
pub data Agree {A B : Type 0} (f : A → B) (s : Bytes) (low : ℕ) : Option (A × ℕ) → Option (B × Bytes) → Type 0 where
  neither : Agree f s low none none
  both : (a : A) (n : ℕ) → low ≤ n → n ≤ length s → Agree f s low (some (a, n)) (some (f a, drop n s))

-- two readers agree from `low` on
pub record Agrees {A B : Type 0} (f : A → B) (s : Bytes) (low : ℕ) (r : Placed A) (r' : paper.Reader B) : Type 0 where
  pub at : (n : ℕ) → low ≤ n → n ≤ length s → Agree f s low (r s n) (r' (drop n s))

-- what is known of the paper's reading from the reading by place
pub none_by : {A B : Type 0} {f : A → B} {s : Bytes} {low : ℕ} {x : Option (A × ℕ)} {y : Option (B × Bytes)} → Agree f s low x y → x ≡ none → y ≡ none
none_by neither e = refl
none_by (both a n l u) e = let z : ◌≡◌ {A = ℕ} 0 1 = cc in absurd (omega arith)

pub some_by : {A B : Type 0} {f : A → B} {s : Bytes} {low : ℕ} {x : Option (A × ℕ)} {y : Option (B × Bytes)} (a : A) (n : ℕ) → Agree f s low x y → x ≡ some (a, n)
    → (y ≡ some (f a, drop n s)) × (low ≤ n) × (n ≤ length s)
some_by a n neither e = let z : ◌≡◌ {A = ℕ} 0 1 = cc in absurd (omega arith)
some_by {A} {B} {f} {s} a n (both b m l u) e =
    let p : ◌≡◌ {A = A × ℕ} (b, m) (a, n) = some_one refl e in
    let q : m ≡ n = ap (λ r. r.1) p in
    (ap (λ (r : A × ℕ). some (f r.0, drop r.1 s)) p, omega arith, omega arith)

-- the bytes that name a reader, and the readers
pub data Options {A B : Type 0} (f : A → B) (s : Bytes) (low : ℕ) : List (ℕ × Placed A) → List (ℕ × paper.Reader B) → Type 0 where
  no_more : Options f s low [] []
  option : {c : ℕ} {r : Placed A} {r' : paper.Reader B} {cs : List (ℕ × Placed A)} {cs' : List (ℕ × paper.Reader B)} → Agrees f s low r r' → Options f s low cs cs' → Options f s low ((c, r) ∷ cs) ((c, r') ∷ cs')

-- no byte of these is the segment mark
abbrev pub unmarked : {A : Type 0} → List (ℕ × Placed A) → Bool
unmarked [] = true
unmarked (c ∷ cs) = not (eqb c.0 255) && unmarked cs

-- the paper's options, and what else
abbrev pub options_or : {B : Type 0} → List (ℕ × paper.Reader B) → paper.Reader B → paper.Reader B
options_or [] other = other
options_or (c ∷ cs) other = paper.ahead (eqb c.0) (λ _. c.1) (options_or cs other)

and_left : (a b : Bool) → T (a && b) → T a
and_left true b h = tt
and_left false b h = h

and_right : (a b : Bool) → T (a && b) → T b
and_right true b h = h
and_right false b h = absurd h

unless : (t : Bool) → T (not t) → t ≡ false
unless true h = absurd h
unless false h = refl

-- the paper's reader with a byte ahead
eaten : {B : Type 0} (p : ℕ → Bool) (k' : ℕ → paper.Reader B) (other' : paper.Reader B) (b : ℕ) (bs t : Bytes) → bs ≡ b ∷ t → paper.ahead p k' other' bs ≡ (if p b then k' b t else other' bs)
eaten p k' other' b bs t e = rw e

module _ {A B : Type 0} {f : A → B} {s : Bytes} {low : ℕ} where
  pub ahead_agrees : (p : ℕ → Bool) (k : ℕ → Placed A) (k' : ℕ → paper.Reader B) (other : Placed A) (other' : paper.Reader B) (at : ℕ)
      → p 255 ≡ false → low ≤ suc at → at ≤ length s
      → ((b : ℕ) → Agrees f s low (k b) (k' b))
      → Agree f s low (other s at) (other' (drop at s))
      → Agree f s low (ahead p k other s at) (paper.ahead p k' other' (drop at s))
  ahead_agrees p k k' other other' at e g h hit miss = ⊎_elim inside past (ltb_or at (length s))
    where
      go : (t : Bool) (b n : ℕ) → Agree f s low (k b s n) (k' b (drop n s)) → Agree f s low (if t then k b s n else other s at) (if t then k' b (drop n s) else other' (drop at s))
      go true b n y = y
      go false b n y = miss

      inside : at < length s → Agree f s low (ahead p k other s at) (paper.ahead p k' other' (drop at s))
      inside l =
          let a : after s at ≡ suc at = sym (after_inside s at l) ∙ add-one at in
          rw (eaten p k' other' (byte_at s at) (drop at s) (drop (after s at) s) (ahead_of s at l)) (go (p (byte_at s at)) (byte_at s at) (after s at) ((hit (byte_at s at)).at (after s at) (omega arith) (omega arith)))

      past : length s ≤ at → Agree f s low (ahead p k other s at) (paper.ahead p k' other' (drop at s))
      past u =
          let d : drop at s ≡ [] = drop_of_length-le s u in
          rw (d, ← byte_past s at u, e) (rw d at miss)

  pub choose_agrees : {cs : List (ℕ × Placed A)} {cs' : List (ℕ × paper.Reader B)} (other : Placed A) (other' : paper.Reader B) (at : ℕ)
      → T (unmarked cs) → low ≤ suc at → at ≤ length s
      → Options f s low cs cs'
      → Agree f s low (other s at) (other' (drop at s))
      → Agree f s low (choose_or cs other s at) (options_or cs' other' (drop at s))
  unfolding choose_or
  choose_agrees other other' at e g h no_more miss = miss
  choose_agrees other other' at e g h (option {c} {r} {r'} {cs} {cs'} hit more) miss =
      ahead_agrees (eqb c) (λ _. r) (λ _. r') (choose_or cs other) (options_or cs' other') at (unless (eqb c 255) (and_left (not (eqb c 255)) (unmarked cs) e)) g h (λ b. hit)
      (choose_agrees other other' at (and_right (not (eqb c 255)) (unmarked cs) e) g h more miss)

  -- a digit ahead, as its value
  pub digit_ahead_agrees : (k : ℕ → Placed A) (k' : ℕ → paper.Reader B) (other : Placed A) (other' : paper.Reader B) (at : ℕ)
      → low ≤ suc at → at ≤ length s
      → ((d : ℕ) → Agrees f s low (k d) (k' d))
      → Agree f s low (other s at) (other' (drop at s))
      → Agree f s low (digit_ahead k other s at) (paper.ahead is_digit (λ b. k' (digit_value b)) other' (drop at s))
  unfolding digit is_digit
  digit_ahead_agrees k k' other other' at g h hit miss =
      rw (same (is_digit (byte_at s at))) (ahead_agrees is_digit (λ b. k (digit_value b)) (λ b. k' (digit_value b)) other other' at refl g h (λ b. hit (digit_value b)) miss)
    where
      same : (t : Bool) → follow_or (if t then gives (digit_value (byte_at s at)) s (after s at) else none) k s (other s at) ≡ (if t then k (digit_value (byte_at s at)) s (after s at) else other s at)
      same true = refl
      same false = refl

-- The same from `low` on.
module _ {s : Bytes} {low : ℕ} where
  pub gives_agrees : {A B : Type 0} {f : A → B} (a : A) → Agrees f s low (gives a) (paper.gives (f a))
  gives_agrees a = record { at = both a }

  follows : {A B C D : Type 0} {f : A → B} {g : C → D} {x : Option (A × ℕ)} {y : Option (B × Bytes)} (k : A → Placed C) (k' : B → paper.Reader D)
      → Agree f s low x y → ((a : A) → Agrees g s low (k a) (k' (f a))) → Agree g s low (follow x k s) (paper.follow y k')
  follows k k' neither h = neither
  follows k k' (both a n l u) h = (h a).at n l u

  pub follow_agrees : {A B C D : Type 0} {f : A → B} {g : C → D} {r : Placed A} {r' : paper.Reader B} (k : A → Placed C) (k' : B → paper.Reader D)
      → Agrees f s low r r' → ((a : A) → Agrees g s low (k a) (k' (f a))) → Agrees g s low (λ s n. follow (r s n) k s) (λ bs. paper.follow (r' bs) k')
  follow_agrees k k' e h = record { at = λ n l u. follows k k' (e.at n l u) h }

  pub chooses : {A B : Type 0} {f : A → B} {cs : List (ℕ × Placed A)} {cs' : List (ℕ × paper.Reader B)} {other : Placed A} {other' : paper.Reader B}
      → T (unmarked cs) → Options f s low cs cs' → Agrees f s low other other' → Agrees f s low (choose_or cs other) (options_or cs' other')
  chooses {A} {B} {f} {cs} {cs'} {other} {other'} e os o = record { at = λ n l u. choose_agrees other other' n e (omega arith) u os (o.at n l u) }

  pub aheads : {A B : Type 0} {f : A → B} {k : ℕ → Placed A} {k' : ℕ → paper.Reader B} {other : Placed A} {other' : paper.Reader B} (p : ℕ → Bool)
      → p 255 ≡ false → ((b : ℕ) → Agrees f s low (k b) (k' b)) → Agrees f s low other other' → Agrees f s low (ahead p k other) (paper.ahead p k' other')
  aheads {A} {B} {f} {k} {k'} {other} {other'} p e hit miss = record { at = λ n l u. ahead_agrees p k k' other other' n e (omega arith) u hit (miss.at n l u) }

  pub digit_aheads : {A B : Type 0} {f : A → B} {k : ℕ → Placed A} {k' : ℕ → paper.Reader B} {other : Placed A} {other' : paper.Reader B}
      → ((d : ℕ) → Agrees f s low (k d) (k' d)) → Agrees f s low other other' → Agrees f s low (digit_ahead k other) (paper.ahead is_digit (λ b. k' (digit_value b)) other')
  digit_aheads {A} {B} {f} {k} {k'} {other} {other'} hit miss = record { at = λ n l u. digit_ahead_agrees k k' other other' n (omega arith) u hit (miss.at n l u) }

  pub fails_agrees : {A B : Type 0} {f : A → B} → Agrees f s low fails paper.fails
  fails_agrees = record { at = λ n l u. neither }

  pub more_digits_agrees : (j v : ℕ) → Agrees (λ (n : ℕ). n) s low (more_digits j v) (paper.more_digits j v)
  unfolding more_digits paper.more_digits
  more_digits_agrees zero v = gives_agrees v
  more_digits_agrees (suc j) v = digit_aheads (λ d. more_digits_agrees j (v * 10 + d)) (gives_agrees v)

  -- a number eats a byte at least
  numeral_at_agrees : (j at : ℕ) → low ≤ suc at → at ≤ length s → Agree (λ (n : ℕ). n) s low (numeral j s at) (paper.numeral j (drop at s))
  unfolding numeral paper.numeral
  numeral_at_agrees j at g h = digit_ahead_agrees (more_digits j) (paper.more_digits j) fails paper.fails at g h (more_digits_agrees j) neither

  pub numeral_agrees : (j : ℕ) → Agrees (λ (n : ℕ). n) s low (numeral j) (paper.numeral j)
  numeral_agrees j = record { at = λ n l u. numeral_at_agrees j n (omega arith) u }

  pub num_agrees : Agrees (λ (n : ℕ). n) s low num paper.num
  unfolding paper.num
  num_agrees = numeral_agrees 3

  pub only_if_agrees : (t : Bool) → Agrees (λ (x : Unit {0}). x) s low (only_if t) (paper.only_if t)
  only_if_agrees true = gives_agrees tt
  only_if_agrees false = record { at = λ n l u. neither }

  -- a byte that must stand there, and one that may
  pub this_agrees : (c : ℕ) → T (not (eqb c 255)) → Agrees (λ (x : Unit {0}). x) s low (this c) (paper.this c)
  unfolding this paper.this
  this_agrees c e = record { at = λ n l u. choose_agrees {cs = (c, gives tt) ∷ []} fails paper.fails n (rw (unless (eqb c 255) e) tt) (omega arith) u (option (gives_agrees tt) no_more) neither }

  pub flag_agrees : (c : ℕ) → T (not (eqb c 255)) → Agrees (λ (x : Bool). x) s low (flag c) (paper.flag c)
  unfolding flag paper.flag
  flag_agrees c e = record { at = λ n l u. choose_agrees {cs = (c, gives true) ∷ []} (gives false) (paper.gives false) n (rw (unless (eqb c 255) e) tt) (omega arith) u (option (gives_agrees true) no_more) (both false n l u) }

-- the digits of a number always read something
more_digits_read : (j v : ℕ) (s : Bytes) (at : ℕ) → (w : ℕ) × (n : ℕ) × (more_digits j v s at ≡ some (w, n))
unfolding more_digits
more_digits_read zero v s at = (v, at, refl)
more_digits_read (suc j) v s at = go (digit s at) (λ d n. more_digits_read j (v * 10 + d) s n)
  where
    go : (o : Option (ℕ × ℕ)) → ((d n : ℕ) → (w : ℕ) × (m : ℕ) × (more_digits j (v * 10 + d) s n ≡ some (w, m))) → (w : ℕ) × (m : ℕ) × (follow_or o (λ d. more_digits j (v * 10 + d)) s (some (v, at)) ≡ some (w, m))
    go none h = (v, at, refl)
    go (some r) h = h r.0 r.1

-- a numeral ahead
pub numeral_ahead_agrees : {A B : Type 0} {f : A → B} {s : Bytes} {low : ℕ} (j : ℕ) (k : ℕ → Placed A) (k' : ℕ → paper.Reader B) (other : Placed A) (other' : paper.Reader B) (at : ℕ)
    → low ≤ suc at → at ≤ length s
    → ((v : ℕ) → Agrees f s low (k v) (k' v))
    → Agree f s low (other s at) (other' (drop at s))
    → Agree f s low (numeral_ahead j k other s at) (paper.ahead is_digit (λ b bs. paper.follow (paper.more_digits j (digit_value b) bs) k') other' (drop at s))
unfolding numeral
numeral_ahead_agrees {A} {B} {f} {s} {low} j k k' other other' at g h hit miss =
    rw (same (digit s at))
    (digit_ahead_agrees (λ d s n. follow (more_digits j d s n) k s) (λ d bs. paper.follow (paper.more_digits j d bs) k') other other' at g h (λ d. follow_agrees k k' (more_digits_agrees j d) hit) miss)
  where
    read : (d n : ℕ) (o : Option (A × ℕ)) → follow_or (more_digits j d s n) k s o ≡ follow (more_digits j d s n) k s
    read d n o = let r = more_digits_read j d s n in rw r.2

    same : (o : Option (ℕ × ℕ)) → follow_or (follow_or o (more_digits j) s none) k s (other s at) ≡ follow_or o (λ d s n. follow (more_digits j d s n) k s) s (other s at)
    same none = refl
    same (some r) = read r.0 r.1 (other s at)

pub numeral_aheads : {A B : Type 0} {f : A → B} {s : Bytes} {low : ℕ} {k : ℕ → Placed A} {k' : ℕ → paper.Reader B} {other : Placed A} {other' : paper.Reader B} (j : ℕ)
    → ((v : ℕ) → Agrees f s low (k v) (k' v)) → Agrees f s low other other' → Agrees f s low (numeral_ahead j k other) (paper.ahead is_digit (λ b bs. paper.follow (paper.more_digits j (digit_value b) bs) k') other')
numeral_aheads {A} {B} {f} {s} {low} {k} {k'} {other} {other'} j hit miss = record { at = λ n l u. numeral_ahead_agrees j k k' other other' n (omega arith) u hit (miss.at n l u) }

-- Bytes that name a reader may stand in another order, where none names two.
abbrev pub fresh : {B : Type 0} → ℕ → List (ℕ × paper.Reader B) → Bool
fresh c [] = true
fresh c (d ∷ ds) = not (eqb c d.0) && fresh c ds

abbrev pub apart : {B : Type 0} → List (ℕ × paper.Reader B) → List (ℕ × paper.Reader B) → Bool
apart [] ds = true
apart (c ∷ cs) ds = fresh c.0 ds && apart cs ds

module _ {B : Type 0} where
  -- two options, the bytes being two
  swapped : (c d : ℕ) (r q other : paper.Reader B) (bs : Bytes) → T (not (eqb c d)) → paper.ahead (eqb d) (λ _. q) (paper.ahead (eqb c) (λ _. r) other) bs ≡ paper.ahead (eqb c) (λ _. r) (paper.ahead (eqb d) (λ _. q) other) bs
  swapped c d r q other [] h = refl
  swapped c d r q other (b ∷ bs) h = go (eqb c b) (eqb d b) refl refl
    where
      go : (t t' : Bool) → eqb c b ≡ t → eqb d b ≡ t' → (if eqb d b then q bs else (if eqb c b then r bs else other (b ∷ bs))) ≡ (if eqb c b then r bs else (if eqb d b then q bs else other (b ∷ bs)))
      go true true e f = absurd (rw (eq-eqb c d (eqb-true c b e ∙ sym (eqb-true d b f))) at h)
      go true false e f = rw (e, f)
      go false t' e f = rw e

  ahead_same : (p : ℕ → Bool) (k : ℕ → paper.Reader B) (other other' : paper.Reader B) → ((bs : Bytes) → other bs ≡ other' bs) → (bs : Bytes) → paper.ahead p k other bs ≡ paper.ahead p k other' bs
  ahead_same p k other other' e [] = e []
  ahead_same p k other other' e (b ∷ bs) = ap (λ (o : Option (B × Bytes)). if p b then k b bs else o) (e (b ∷ bs))

  front : (c : ℕ) (r : paper.Reader B) (ds cs : List (ℕ × paper.Reader B)) (bs : Bytes) → T (fresh c ds) → paper.choose (ds ++ (c, r) ∷ cs) bs ≡ paper.choose ((c, r) ∷ (ds ++ cs)) bs
  unfolding paper.choose
  front c r [] cs bs h = refl
  front c r (d ∷ ds) cs bs h =
      ahead_same (eqb d.0) (λ _. d.1) (paper.choose (ds ++ (c, r) ∷ cs)) (paper.choose ((c, r) ∷ (ds ++ cs))) (λ bs. front c r ds cs bs (and_right (not (eqb c d.0)) (fresh c ds) h)) bs
      ∙ swapped c d.0 r d.1 (paper.choose (ds ++ cs)) bs (and_left (not (eqb c d.0)) (fresh c ds) h)

  pub moved : (cs ds : List (ℕ × paper.Reader B)) (bs : Bytes) → T (apart cs ds) → paper.choose (cs ++ ds) bs ≡ paper.choose (ds ++ cs) bs
  unfolding paper.choose
  moved [] ds bs h = rw append-nil
  moved (c ∷ cs) ds bs h =
      ahead_same (eqb c.0) (λ _. c.1) (paper.choose (cs ++ ds)) (paper.choose (ds ++ cs)) (λ bs. moved cs ds bs (and_right (fresh c.0 ds) (apart cs ds) h)) bs
      ∙ sym (front c.0 c.1 ds cs bs (and_left (fresh c.0 ds) (apart cs ds) h))
