-- Document 01, "The code grammar": what a reader eats it eats whatever follows. Readers look one byte ahead and commit, so what may follow is
-- nothing, a byte that closes, or the byte that stood there. A law for each way of going on, and with them the grammar. Assumes nothing.
use Rattle.std.specs.Prelude.{if◌then◌else◌}
use Prim.Native.Nat.{ℕ, zero, suc, ◌≤◌, ◌<◌}
use native.Mathlib.Omega.{arith}
use mathlib.Core.Path.{◌≡◌, refl, sym, ap, ◌∙◌}
use mathlib.Core.Logic.{◌⊎◌, inl, inr}
use mathlib.Core.Bool.{Bool, true, false}
use mathlib.Core.List.Memᴰ.{head as here}
use mathlib.Core.List.Memᴰ.{tail as further}
use mathlib.Core.List.{List, [], ◌∷◌, ◌++◌, append-nil, append_assoc, Memᴰ}
use mathlib.Core.Option.{Option, none, some, none-ne-some}
use lib.Dec.{eqb}
use lib.ListN.{length, length-append}
use borrow.Author.Tests.{eq-eqb}
use Rattle.paper.specs.Bytes.{Bytes, ch, is_digit, is_letter, is_upper, is_lower}
use Rattle.paper.specs.Records.{join}
use Rattle.paper.specs.Codes.{Elm}
use Rattle.paper.specs.Grammar.{Reader, follow, ◌>>=◌, ◌>>◌, gives, fails, only_if, ahead, this, flag, choose, more_digits, numeral, num, onto, quoted}
use Rattle.paper.specs.Grammar.{separator, group_after, group_code, extract_from, extract_code, admit_from, length_after, length_code, except_code}
use Rattle.paper.specs.Grammar.{character_code, scales, credit_letter, fill_byte, fill_width, fill_part, mask_code, is_separator, date_after, date_code}
use Rattle.paper.specs.Grammar.{masking_code, class_letter, count_test, literal_test, test, tests, pattern, pattern_list, pattern_code, conversion, repeats, attribute_elm, literal_elm, previous_elm, multiply_elm, bracket_elm, converting_elm}
use Rattle.paper.specs.Grammar.{operator_elm, elm, parted, closed_by, elms, function_code, code}
use Rattle.paper.proofs.Fuel.{Again, many_enough, another, another_grows, close, close_grows}
use Rattle.paper.proofs.Predicates.{All, none_of, and_all}
use Rattle.paper.proofs.Splitting.{Without, Told, absent, present, told, told_map}

-- what may follow where `old` did: nothing, a closing byte, or the byte that stood there
pub data Follows (closes : Bytes) : Bytes → Bytes → Type 0 where
  ends : {old : Bytes} → Follows closes old []
  closed : {b : ℕ} {old new : Bytes} → Memᴰ b closes → Follows closes old (b ∷ new)
  same : {b : ℕ} {old new : Bytes} → Follows closes (b ∷ old) (b ∷ new)

-- What was eaten of bs, to read x, and that the same is read of it in front of whatever may follow.
abbrev pub Eaten : {A : Type 0} → Bytes → Reader A → Bytes → A × Bytes → Type 0
Eaten closes r bs x = (eaten : Bytes) × (bs ≡ eaten ++ x.1) × ((new : Bytes) → Follows closes x.1 new → r (eaten ++ new) ≡ some (x.0, new))

pub record Eats {A : Type 0} (closes : Bytes) (r : Reader A) : Type 0 where
  pub at : (bs : Bytes) → Told (Eaten closes r bs) (r bs)

-- nothing, or a byte first that the test misses
abbrev pub Misses : (ℕ → Bool) → Bytes → Type 0
Misses p [] = Unit {0}
Misses p (b ∷ bs) = p b ≡ false

shut : {p : ℕ → Bool} {b : ℕ} {cs : Bytes} → Memᴰ b cs → Without p cs → p b ≡ false
shut (here e) (and_all h hs) = rw e h
shut (further m) (and_all h hs) = shut m hs

choose_none : {A : Type 0} (cs : List (ℕ × Reader A)) → choose cs [] ≡ none
unfolding choose
choose_none [] = refl
choose_none (c ∷ cs) = choose_none cs

pub told_follow : {A B : Type 0} {P : A × Bytes → Type 0} {Q : B × Bytes → Type 0} {o : Option (A × Bytes)} (k : A → Reader B) → Told P o
    → ((x : A × Bytes) → P x → Told Q (k x.0 x.1)) → Told Q (follow o k)
told_follow k absent f = absent
told_follow k (present {a = x} p) f = f x p

module _ {closes : Bytes} where
  further_on : (eaten : Bytes) {old new : Bytes} → Follows closes old new → Follows closes (eaten ++ old) (eaten ++ new)
  further_on [] l = l
  further_on (b ∷ eaten) l = same

  pub eats_then : {A B : Type 0} {r : Reader A} {k : A → Reader B} → Eats closes r → ((a : A) → Eats closes (k a)) → Eats closes (r >>= k)
  eats_then {A} {B} {r} {k} e h = record { at = λ bs. told_follow k (e.at bs) (λ x p. told_map (λ y. both p) ((h x.0).at x.1)) }
    where
      both : {bs : Bytes} {x : A × Bytes} {y : B × Bytes} → Eaten closes r bs x → Eaten closes (k x.0) x.1 y → Eaten closes (r >>= k) bs y
      both (t, s, f) (u, z, g) = (t ++ u, rw (append_assoc, ← z) s, λ new l. rw (append_assoc, f (u ++ new) (rw z (further_on u l))) (g new l))

  -- what goes on eats a byte: what closes the whole need not close the first
  pub eats_then_byte : {A B : Type 0} {cs : Bytes} {r : Reader A} {k : A → Reader B} → Eats cs r → ((a : A) → Eats closes (k a))
      → ((a : A) → k a [] ≡ none) → Eats closes (r >>= k)
  eats_then_byte {A} {B} {cs} {r} {k} e h starts = record { at = λ bs. told_follow k (e.at bs) (λ x p. told_map (λ y. both p) ((h x.0).at x.1)) }
    where
      both : {bs : Bytes} {x : A × Bytes} {y : B × Bytes} → Eaten cs r bs x → Eaten closes (k x.0) x.1 y → Eaten closes (r >>= k) bs y
      both {x = x} (t, s, f) ([], z, g) = absurd (none-ne-some _ (sym (starts x.0) ∙ g [] ends))
      both (t, s, f) (b ∷ u, z, g) = (t ++ b ∷ u, rw (append_assoc, ← z) s, λ new l. rw (append_assoc, f (b ∷ u ++ new) (rw z same)) (g new l))

  pub eats_next : {A B : Type 0} {r : Reader A} {q : Reader B} → Eats closes r → Eats closes q → Eats closes (r >> q)
  eats_next e h = eats_then e (λ _. h)

  pub eats_gives : {A : Type 0} {a : A} → Eats closes (gives a)
  eats_gives = record { at = λ bs. present ([], refl, λ new l. refl) }

  pub eats_fails : {A : Type 0} → Eats {A = A} closes fails
  eats_fails = record { at = λ bs. absent }

  pub eats_only_if : (t : Bool) → Eats closes (only_if t)
  eats_only_if true = eats_gives
  eats_only_if false = eats_fails

  -- no closing byte passes the test, or the other eats a byte
  pub eats_ahead : {A : Type 0} {p : ℕ → Bool} {k : ℕ → Reader A} {other : Reader A} → Without p closes ⊎ (other [] ≡ none)
      → ((b : ℕ) → Eats closes (k b)) → Eats closes other → Eats closes (ahead p k other)
  eats_ahead {A} {p} {k} {other} c hit miss = record { at = go }
    where
      skip : {old new : Bytes} → Without p closes → Misses p old → Follows closes old new → ahead p k other new ≡ other new
      skip n m ends = refl
      skip n m (closed h) = rw (shut h n)
      skip n m same = rw m

      missed : {bs : Bytes} {x : A × Bytes} → Without p closes ⊎ (other [] ≡ none) → Misses p bs → Eaten closes other bs x
          → Eaten closes (ahead p k other) bs x
      missed (inl n) m ([], s, f) = ([], s, λ new l. skip n (rw s at m) l ∙ f new l)
      missed (inr n) m ([], s, f) = absurd (none-ne-some _ (sym n ∙ f [] ends))
      missed c m (b ∷ t, s, f) = (b ∷ t, s, λ new l. rw (rw s at m) (f new l))

      either : (t : Bool) (b : ℕ) (bs : Bytes) → p b ≡ t → Told (Eaten closes (ahead p k other) (b ∷ bs)) (if t then k b bs else other (b ∷ bs))
      either true b bs e = told_map (λ x (t, s, f). (b ∷ t, ap (λ bs. b ∷ bs) s, λ new l. rw e (f new l))) ((hit b).at bs)
      either false b bs e = told_map (λ x. missed c e) (miss.at (b ∷ bs))

      go : (bs : Bytes) → Told (Eaten closes (ahead p k other) bs) (ahead p k other bs)
      go [] = told_map (λ x. missed c tt) (miss.at [])
      go (b ∷ bs) = either (p b) b bs refl

  pub eats_choose : {A : Type 0} {cs : List (ℕ × Reader A)} → All (λ c. Eats closes c.1) cs → Eats closes (choose cs)
  unfolding choose
  eats_choose none_of = eats_fails
  eats_choose (and_all {rest = cs} e es) = eats_ahead (inr (choose_none cs)) (λ _. e) (eats_choose es)

  pub eats_more_digits : Without is_digit closes → (k n : ℕ) → Eats closes (more_digits k n)
  unfolding more_digits
  eats_more_digits h zero n = eats_gives
  eats_more_digits h (suc k) n = eats_ahead (inl h) (λ b. eats_more_digits h k _) eats_gives

  -- the quote ends it
  pub eats_quoted : (q : ℕ) → Eats closes (quoted q)
  unfolding quoted
  eats_quoted q = record { at = go }
    where
      either : (t : Bool) (b : ℕ) {bs : Bytes} {o : Option (Bytes × Bytes)} → eqb b q ≡ t → Told (Eaten closes (quoted q) bs) o
          → Told (Eaten closes (quoted q) (b ∷ bs)) (if t then some ([], bs) else onto b o)
      either true b {bs} e h = present {a = ([], bs)} (b ∷ [], refl, λ new l. rw e)
      either false b e absent = absent
      either false b e (present {a = x} (t, s, f)) = present {a = (b ∷ x.0, x.1)} (b ∷ t, ap (λ bs. b ∷ bs) s, λ new l. rw (e, f new l))

      go : (bs : Bytes) → Told (Eaten closes (quoted q) bs) (quoted q bs)
      go [] = absent
      go (b ∷ bs) = either (eqb b q) b refl (go bs)

  -- with any fuel: the parting byte does not close
  pub eats_parted : {A : Type 0} {r : Reader A} (fuel c : ℕ) → Without (eqb c) closes → Eats closes r → Eats closes (parted fuel c r)
  unfolding parted
  eats_parted zero c h e = eats_fails
  eats_parted (suc fuel) c h e =
      eats_then e (λ x. eats_ahead (inl h) (λ _. eats_then (eats_parted fuel c h e) (λ xs. eats_gives)) eats_gives)

-- fewer bytes close
pub eats_fewer : {A : Type 0} {c : ℕ} {closes : Bytes} {r : Reader A} → Eats (c ∷ closes) r → Eats closes r
eats_fewer {A} {c} {closes} e = record { at = λ bs. told_map (λ x (t, s, f). (t, s, λ new l. f new (more l))) (e.at bs) }
  where
    more : {old new : Bytes} → Follows closes old new → Follows (c ∷ closes) old new
    more ends = ends
    more (closed h) = closed (further h)
    more same = same

module _ {A : Type 0} {closes : Bytes} {r : Reader A} (eats : Eats closes r) where
  pub eats_front : {bs : Bytes} {x : A × Bytes} → r bs ≡ some x → Eaten closes r bs x
  eats_front {bs} e = told (rw e at (eats.at bs))

  -- what is read whole is read so with a closing byte behind it
  pub eats_whole : {bs : Bytes} {a : A} {new : Bytes} → r bs ≡ some (a, []) → Follows closes [] new → r (bs ++ new) ≡ some (a, new)
  eats_whole e l = let (front, s, f) = eats_front e in rw (s, append-nil) (f _ l)

  -- what reads nothing of nothing eats a byte
  pub eats_a_byte : {bs : Bytes} {x : A × Bytes} → r [] ≡ none → r bs ≡ some x → length x.1 < length bs
  eats_a_byte {bs} {x} starts e = go (eats_front e)
    where
      go : Eaten closes r bs x → length x.1 < length bs
      go ([], s, f) = absurd (none-ne-some _ (sym starts ∙ f [] ends))
      go (b ∷ t, s, f) = omega (arith, ap length s, length-append t x.1)

-- One or more parted by c, without fuel: c stands behind each but the last.
pub data Parts {A : Type 0} (c : ℕ) (r : Reader A) : Bytes → List A × Bytes → Type 0 where
  last : {bs : Bytes} {x : A} {rest : Bytes} → r bs ≡ some (x, rest) → Misses (eqb c) rest → Parts c r bs (x ∷ [], rest)
  next : {bs : Bytes} {x : A} {more : Bytes} {y : List A × Bytes} → r bs ≡ some (x, c ∷ more) → Parts c r more y
      → Parts c r bs (x ∷ y.0, y.1)

module _ {A : Type 0} (c : ℕ) (r : Reader A) {closes : Bytes} (eats : Eats closes r) (starts : r [] ≡ none) where
  -- read with fuel of the bytes' number, where each eats a byte
  pub parts_read : {bs : Bytes} {y : List A × Bytes} (fuel : ℕ) → Parts c r bs y → length bs ≤ fuel → parted fuel c r bs ≡ some y
  unfolding parted
  parts_read zero (last e m) l = absurd (omega (arith, eats_a_byte eats starts e))
  parts_read zero (next e ps) l = absurd (omega (arith, eats_a_byte eats starts e))
  parts_read (suc fuel) (last {rest = []} e m) l = rw e
  parts_read (suc fuel) (last {rest = b ∷ rest} e m) l = rw (e, m)
  parts_read {bs = bs} (suc fuel) (next {more = more} e ps) l =
      rw (e, eq-eqb c c refl, parts_read {bs = more} fuel ps (omega (arith, eats_a_byte eats starts e)))

  pub enough : (fuel : ℕ) (bs : Bytes) {y : List A × Bytes} → parted fuel c r bs ≡ some y → parted (length bs) c r bs ≡ some y
  unfolding parted
  enough fuel bs {y} e =
      many_enough r (another c) (λ n. parted n c r) (λ bs. refl) (λ n bs. refl) (λ bs x rest. eats_a_byte eats starts) (another_grows c)
      fuel (length bs) bs (omega arith) y e

  pub eats_all : Without (eqb c) closes → Eats closes (λ bs. parted (length bs) c r bs)
  eats_all h = record { at = λ bs. told_map (λ x (t, s, f). (t, s, λ new l. enough _ _ (f new l))) ((eats_parted (length bs) c h eats).at bs) }

-- One or more up to the byte c: c eats them, whatever closes.
module _ {A : Type 0} (c : ℕ) (r : Reader A) {closes : Bytes} (eats : Eats closes r) (starts : r [] ≡ none) where
  closed_none : (fuel : ℕ) → closed_by fuel c r [] ≡ none
  unfolding closed_by
  closed_none zero = refl
  closed_none (suc fuel) = rw starts

  eats_closed : (fuel : ℕ) → Eats closes (closed_by fuel c r)
  unfolding closed_by
  eats_closed zero = eats_fails
  eats_closed (suc fuel) =
      eats_then eats (λ x. eats_ahead (inr (rw (closed_none fuel))) (λ _. eats_gives) (eats_then (eats_closed fuel) (λ xs. eats_gives)))

  -- with fuel of the bytes' number, where each eats a byte
  closed_enough : (k m : ℕ) (bs : Bytes) → length bs ≤ m → Again (closed_by k c r bs) (closed_by m c r bs)
  unfolding closed_by
  closed_enough = many_enough r (close c) (λ n. closed_by n c r) (λ bs. refl) (λ n bs. refl) (λ bs x rest. eats_a_byte eats starts) (close_grows c)

  pub eats_all_closed : Eats closes (λ bs. closed_by (length bs) c r bs)
  eats_all_closed =
      record { at = λ bs. told_map (λ x (t, s, f). (t, s, λ new l. closed_enough _ _ _ (omega arith) _ (f new l))) ((eats_closed (length bs)).at bs) }

-- texts, each read whole
pub data Texts {A : Type 0} (r : Reader A) : List Bytes → List A → Type 0 where
  one : {t : Bytes} {x : A} → r t ≡ some (x, []) → Texts r (t ∷ []) (x ∷ [])
  more : {t u : Bytes} {ts : List Bytes} {x : A} {xs : List A} → r t ≡ some (x, []) → Texts r (u ∷ ts) xs → Texts r (t ∷ u ∷ ts) (x ∷ xs)

pub joined : {A : Type 0} {c : ℕ} {closes : Bytes} {r : Reader A} {ts : List Bytes} {xs : List A} → Eats (c ∷ closes) r → Texts r ts xs
    → Parts c r (join c ts) (xs, [])
unfolding join
joined eats (one e) = last e tt
joined eats (more e es) = next (eats_whole eats e (closed (here refl))) (joined eats es)

-- The grammar: `;` and `)` close an elm; `)` closes elms and a code.
abbrev pub closing : Bytes
closing = ch ";" ∷ ch ")" ∷ []

pub ruleset eating = (eats_then, eats_next, eats_gives, eats_fails, eats_only_if, eats_ahead, eats_choose, eats_more_digits, none_of, and_all, inl, inr)

test_eats : Eats (ch ")" ∷ []) test
unfolding test count_test class_letter literal_test is_digit
test_eats = search (eating, eats_quoted) depth 40

pub tests_eat : Eats (ch ")" ∷ []) tests
unfolding tests test choose
tests_eat = eats_all_closed (ch ")") test test_eats refl

pub pattern_eats : Eats (ch ")" ∷ []) pattern
unfolding pattern this
pattern_eats = eats_next {r = this (ch "(")} (search eating depth 20) tests_eat

pub patterns_eat : Eats (ch ")" ∷ []) pattern_list
unfolding pattern_list pattern this tests closed_by
patterns_eat = eats_all (ch ";") pattern pattern_eats refl (and_all refl none_of)

pattern_code_eats : Eats (ch ")" ∷ []) pattern_code
unfolding pattern_code
pattern_code_eats = eats_then patterns_eat (λ ps. eats_gives)

pub conversion_eats : Eats (ch ")" ∷ []) conversion
unfolding conversion group_code group_after separator num numeral extract_code extract_from length_code length_after admit_from
    character_code except_code masking_code mask_code scales flag credit_letter fill_part fill_byte fill_width this
    date_code date_after is_separator is_digit is_letter is_upper is_lower
conversion_eats = search (eating, pattern_code_eats) depth 60 fits 5000

-- a `)` always follows a conversion in an elm, so that `;` need not close it
converting_eats : Eats closing converting_elm
unfolding converting_elm this
converting_eats = eats_then_byte conversion_eats (λ c. search eating depth 20) (λ c. refl)

pub elm_eats : Eats closing elm
unfolding elm attribute_elm repeats operator_elm literal_elm previous_elm this multiply_elm bracket_elm is_digit
elm_eats = search (eating, eats_quoted, converting_eats) depth 60 fits 5000

pub elms_eats : Eats (ch ")" ∷ []) elms
unfolding elms elm operator_elm choose
elms_eats = eats_all (ch ";") elm (eats_fewer elm_eats) refl (and_all refl none_of)

pub code_eats : Eats (ch ")" ∷ []) code
unfolding code function_code this conversion choose
code_eats = eats_ahead {p = eqb (ch "F")} {k = λ _. function_code} (inr refl) (λ _. search (eating, elms_eats) depth 20) (eats_then conversion_eats (λ c. eats_gives))

-- an elm read whole is read so in front of `;` and `)`
pub elm_before : (bs : Bytes) {e : Elm} {rest : Bytes} → elm bs ≡ some (e, []) → Follows closing [] rest → elm (bs ++ rest) ≡ some (e, rest)
elm_before bs = eats_whole elm_eats

-- texts each read whole as an elm, joined by `;`, are read as those elms
pub elms_joined : {ts : List Bytes} {es : List Elm} → Texts elm ts es → elms (join (ch ";") ts) ≡ some (es, [])
unfolding elms elm operator_elm choose
elms_joined {ts} h = parts_read (ch ";") elm elm_eats refl (length (join (ch ";") ts)) (joined elm_eats h) (omega arith)
