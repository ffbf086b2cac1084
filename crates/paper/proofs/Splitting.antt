-- Document 01, "The record and its addresses": splitting at a mark, joining again and altering one piece, for every mark and all bytes.
-- Whatever looks for a place in a record, or makes one, rests on these laws. Assumes nothing.
use Prim.Native.Nat.{ℕ, zero, suc, ◌+◌, ◌≤◌, ◌<◌, max}
use native.Mathlib.Omega.{arith}
use mathlib.Core.Path.{◌≡◌, refl, sym, ap, ◌∙◌, subst}
use mathlib.Core.Logic.{◌≢◌}
use mathlib.Core.Bool.{Bool, true, false}
use mathlib.Core.List.{List, [], ◌∷◌, ◌++◌, append_assoc, append-nil}
use mathlib.Core.Option
use mathlib.Core.Option.{Option, none, some, map}
use lib.Dec.{eqb}
use lib.ListN.{length, take, drop, get_or, length-append}
use lib.Seq.{take-append_seam, drop_at}
use borrow.Author.Tests.{eqb-true, eq-eqb}
use Rattle.paper.specs.Bytes.{Bytes, any}
use Rattle.paper.proofs.Truths.{neither}
use Rattle.paper.proofs.Predicates.{All, none_of, and_all, all_append, all_map}
use Rattle.paper.specs.Records.{opened, split, join, Part, Turn, placed, pieces, nth, and_then, part_at, path, whole, place, alter}

-- no byte passes the test
abbrev pub Without : (ℕ → Bool) → Bytes → Type 0
Without test bs = All (λ b. test b ≡ false) bs

-- no byte is the mark
abbrev pub Free : ℕ → Bytes → Type 0
Free m bs = Without (λ b. eqb b m) bs

pub any_without : (test : ℕ → Bool) (bs : Bytes) → any test bs ≡ false → Without test bs
unfolding any
any_without test [] e = none_of
any_without test (b ∷ bs) e = let (h, hs) = neither (test b) (any test bs) e in and_all h (any_without test bs hs)

pub without_any : (test : ℕ → Bool) {bs : Bytes} → Without test bs → any test bs ≡ false
unfolding any
without_any test none_of = refl
without_any test (and_all h hs) = rw (h, without_any test hs)

-- at least one piece
pub data Filled : List Bytes → Type 0 where
  filled : {p : Bytes} {ps : List Bytes} → Filled (p ∷ ps)

-- what is there, if anything is, has P
pub data Told {A : Type 0} (P : A → Type 0) : Option A → Type 0 where
  absent : Told P none
  present : {a : A} → P a → Told P (some a)

pub told : {A : Type 0} {P : A → Type 0} {a : A} → Told P (some a) → P a
told (present h) = h

pub told_map : {A : Type 0} {P Q : A → Type 0} {o : Option A} → ((a : A) → P a → Q a) → Told P o → Told Q o
told_map f absent = absent
told_map f (present {a = a} h) = present (f a h)

pub told_then : {A B : Type 0} {P : A → Type 0} {Q : B → Type 0} {o : Option A} (k : A → Option B) → Told P o
    → ((a : A) → P a → Told Q (k a)) → Told Q (and_then o k)
told_then k absent h = absent
told_then k (present {a = a} p) h = h a p

pub told_both : {A : Type 0} {P Q : A → Type 0} {o : Option A} → Told P o → Told Q o → Told (λ a. P a × Q a) o
told_both absent absent = absent
told_both (present p) (present q) = present (p, q)

-- Splitting and joining.

filled_opened : (t : Bool) (b : ℕ) (ps : List Bytes) → Filled (opened t b ps)
filled_opened true b ps = filled
filled_opened false b [] = filled
filled_opened false b (p ∷ ps) = filled

pub split_filled : (m : ℕ) (bs : Bytes) → Filled (split m bs)
unfolding split
split_filled m [] = filled
split_filled m (b ∷ bs) = filled_opened (eqb b m) b (split m bs)

each_opened : (test : ℕ → Bool) (t : Bool) (b : ℕ) {ps : List Bytes} → (t ≡ false → test b ≡ false) → All (Without test) ps
    → All (Without test) (opened t b ps)
each_opened test true b h hs = and_all none_of hs
each_opened test false b h none_of = and_all (and_all (h refl) none_of) none_of
each_opened test false b h (and_all f hs) = and_all (and_all (h refl) f) hs

-- no piece holds the mark it was split at
pub split_free : (m : ℕ) (bs : Bytes) → All (Free m) (split m bs)
unfolding split
split_free m [] = and_all none_of none_of
split_free m (b ∷ bs) = each_opened (λ c. eqb c m) (eqb b m) b (λ e. e) (split_free m bs)

-- nor what the whole does not hold
pub split_without : (test : ℕ → Bool) (m : ℕ) {bs : Bytes} → Without test bs → All (Without test) (split m bs)
unfolding split
split_without test m none_of = and_all none_of none_of
split_without test m (and_all {a = b} h hs) = each_opened test (eqb b m) b (λ _. h) (split_without test m hs)

pub join_without : (test : ℕ → Bool) (m : ℕ) {ps : List Bytes} → test m ≡ false → All (Without test) ps → Without test (join m ps)
unfolding join
join_without test m h none_of = none_of
join_without test m h (and_all f none_of) = f
join_without test m h (and_all f (and_all g hs)) = all_append f (and_all h (join_without test m h (and_all g hs)))

join_opened : (m b : ℕ) (t : Bool) {ps : List Bytes} → eqb b m ≡ t → Filled ps → join m (opened t b ps) ≡ b ∷ join m ps
unfolding join
join_opened m b true e (filled {p = p} {ps = ps}) = ap (λ c. c ∷ join m (p ∷ ps)) (sym (eqb-true b m e))
join_opened m b false e (filled {ps = []}) = refl
join_opened m b false e (filled {ps = q ∷ ps}) = refl

pub join_split : (m : ℕ) (bs : Bytes) → join m (split m bs) ≡ bs
unfolding split join
join_split m [] = refl
join_split m (b ∷ bs) = join_opened m b (eqb b m) refl (split_filled m bs) ∙ ap (λ r. b ∷ r) (join_split m bs)

-- the last piece, and a piece with a mark after it
pub split_last : (m : ℕ) {p : Bytes} → Free m p → split m p ≡ p ∷ []
unfolding split
split_last m none_of = refl
split_last m (and_all h hs) = rw (h, split_last m hs)

pub split_next : (m : ℕ) {p : Bytes} (bs : Bytes) → Free m p → split m (p ++ m ∷ bs) ≡ p ∷ split m bs
unfolding split
split_next m bs none_of = rw (eq-eqb m m refl)
split_next m bs (and_all h hs) = rw (h, split_next m bs hs)

pub split_join : (m : ℕ) {ps : List Bytes} → Filled ps → All (Free m) ps → split m (join m ps) ≡ ps
unfolding join
split_join m filled (and_all f none_of) = split_last m f
split_join m filled (and_all {a = p} f (and_all g hs)) = split_next m _ f ∙ ap (λ r. p ∷ r) (split_join m filled (and_all g hs))

pub join_next : (m : ℕ) (p : Bytes) {ps : List Bytes} → Filled ps → join m (p ∷ ps) ≡ p ++ m ∷ join m ps
unfolding join
join_next m p filled = refl

-- The n-th.

pub nth_inside : {A : Type 0} (n : ℕ) (xs : List A) (d : A) → n < length xs → nth n xs ≡ some (get_or xs n d)
unfolding nth
nth_inside n [] d h = absurd (omega arith)
nth_inside zero (x ∷ xs) d h = refl
nth_inside (suc n) (x ∷ xs) d h = nth_inside n xs d (omega arith)

pub nth_outside : {A : Type 0} (n : ℕ) (xs : List A) → length xs ≤ n → nth n xs ≡ none
unfolding nth
nth_outside n [] h = refl
nth_outside zero (x ∷ xs) h = absurd (omega arith)
nth_outside (suc n) (x ∷ xs) h = nth_outside n xs (omega arith)

pub nth_getD : {A : Type 0} (n : ℕ) (xs : List A) (d : A) → Option.get_or (nth n xs) d ≡ get_or xs n d
unfolding nth
nth_getD n [] d = refl
nth_getD zero (x ∷ xs) d = refl
nth_getD (suc n) (x ∷ xs) d = nth_getD n xs d

pub nth_told : {A : Type 0} {P : A → Type 0} (n : ℕ) {xs : List A} → All P xs → Told P (nth n xs)
unfolding nth
nth_told n none_of = absent
nth_told zero (and_all h hs) = present h
nth_told (suc n) (and_all h hs) = nth_told n hs

pub getD_each : {P : Bytes → Type 0} (n : ℕ) {ps : List Bytes} → P [] → All P ps → P (get_or ps n [])
getD_each n e none_of = e
getD_each zero e (and_all h hs) = h
getD_each (suc n) e (and_all h hs) = getD_each n e hs

-- Altering the n-th piece.

pub alter_filled : (n : ℕ) (f : Bytes → Bytes) (ps : List Bytes) → Filled (alter n f ps)
unfolding alter
alter_filled zero f [] = filled
alter_filled zero f (p ∷ ps) = filled
alter_filled (suc n) f [] = filled
alter_filled (suc n) f (p ∷ ps) = filled

pub alter_each : {P : Bytes → Type 0} (n : ℕ) (f : Bytes → Bytes) {ps : List Bytes} → P [] → ((p : Bytes) → P p → P (f p)) → All P ps
    → All P (alter n f ps)
unfolding alter
alter_each zero f e h none_of = and_all (h [] e) none_of
alter_each zero f e h (and_all {a = p} q hs) = and_all (h p q) hs
alter_each (suc n) f e h none_of = and_all e (alter_each n f e h none_of)
alter_each (suc n) f e h (and_all q hs) = and_all q (alter_each n f e h hs)

-- "as few as will do": as many pieces as there were, or as many as the n-th takes
pub alter_length : (n : ℕ) (f : Bytes → Bytes) (ps : List Bytes) → length (alter n f ps) ≡ max (suc n) (length ps)
unfolding alter
alter_length zero f [] = refl
alter_length zero f (p ∷ ps) = omega arith
alter_length (suc n) f [] = omega (arith, alter_length n f [])
alter_length (suc n) f (p ∷ ps) = omega (arith, alter_length n f ps)

-- the n-th is there afterwards, made of what it was, missing counted as empty
pub nth_alter : (n : ℕ) (f : Bytes → Bytes) (ps : List Bytes) → nth n (alter n f ps) ≡ some (f (get_or ps n []))
unfolding alter nth
nth_alter zero f [] = refl
nth_alter zero f (p ∷ ps) = refl
nth_alter (suc n) f [] = nth_alter n f []
nth_alter (suc n) f (p ∷ ps) = nth_alter n f ps

pub getD_alter : (n : ℕ) (f : Bytes → Bytes) (ps : List Bytes) → get_or (alter n f ps) n [] ≡ f (get_or ps n [])
getD_alter n f ps = sym (nth_getD n (alter n f ps) []) ∙ ap (λ o. Option.get_or o []) (nth_alter n f ps)

-- each other piece is as it was, missing counted as empty
pub getD_alter_other : (n k : ℕ) (f : Bytes → Bytes) (ps : List Bytes) → k ≢ n → get_or (alter n f ps) k [] ≡ get_or ps k []
unfolding alter
getD_alter_other zero zero f ps h = absurd (h refl)
getD_alter_other zero (suc k) f [] h = refl
getD_alter_other zero (suc k) f (p ∷ ps) h = refl
getD_alter_other (suc n) zero f [] h = refl
getD_alter_other (suc n) zero f (p ∷ ps) h = refl
getD_alter_other (suc n) (suc k) f [] h = getD_alter_other n k f [] (λ e. h (ap suc e))
getD_alter_other (suc n) (suc k) f (p ∷ ps) h = getD_alter_other n k f ps (λ e. h (ap suc e))

-- Parts and their places.

abbrev pub text_of : Option Part → Option Bytes
text_of o = map (λ p. p.text) o

-- the n-th placed piece has the bytes of the n-th piece
pub nth_placed : (n start : ℕ) (ps : List Bytes) → text_of (nth n (placed start ps)) ≡ nth n ps
unfolding nth placed
nth_placed n start [] = refl
nth_placed zero start (p ∷ ps) = refl
nth_placed (suc n) start (p ∷ ps) = nth_placed n (start + length p + 1) ps

pub placed_each : {P : Bytes → Type 0} (start : ℕ) {ps : List Bytes} → All P ps → All (λ p. P p.text) (placed start ps)
unfolding placed
placed_each start none_of = none_of
placed_each start (and_all {a = p} h hs) = and_all h (placed_each (start + length p + 1) hs)

-- the part p stands in the part w, where its start says
pub record Inside (w p : Part) : Type 0 where
  pub before : Bytes
  pub after : Bytes
  pub text_is : w.text ≡ before ++ p.text ++ after
  pub start_is : p.start ≡ w.start + length before

abbrev pub part : ℕ → Bytes → Part
part start text = record { start = start; text = text }

inside_front : (start : ℕ) (text p after : Bytes) → text ≡ p ++ after → Inside (part start text) (part start p)
inside_front start text p after e = record { before = []; after = after; text_is = e; start_is = omega arith }

inside_trans : (u v w : Part) → Inside u v → Inside v w → Inside u w
inside_trans u v w i j =
    record {
      before = i.before ++ j.before;
      after = j.after ++ i.after;
      text_is = i.text_is ∙ ap (λ t. i.before ++ t ++ i.after) j.text_is ∙ simp append_assoc;
      start_is = simp length-append (omega (arith, i.start_is, j.start_is));
    }

pub inside_bounds : (w p : Part) → Inside w p → (w.start ≤ p.start) × (p.start + length p.text ≤ w.start + length w.text)
inside_bounds w p i = let l = simp length-append at (ap length i.text_is) in omega (arith, i.start_is)

-- each placed piece stands in what the pieces join to
placed_inside : (m start : ℕ) (ps : List Bytes) → All (Inside (part start (join m ps))) (placed start ps)
unfolding join placed
placed_inside m start [] = none_of
placed_inside m start (p ∷ []) = and_all (inside_front start p p [] (sym (append-nil p))) none_of
placed_inside m start (p ∷ q ∷ ps) =
    and_all (inside_front start _ p (m ∷ join m (q ∷ ps)) refl)
    (all_map (λ part i. inside_trans _ _ part rest i) (placed_inside m (start + length p + 1) (q ∷ ps)))
  where
    rest : Inside (part start (p ++ m ∷ join m (q ∷ ps))) (part (start + length p + 1) (join m (q ∷ ps)))
    rest =
        record { before = p ++ m ∷ []; after = []; text_is = simp (append_assoc, append-nil); start_is = simp length-append (omega arith) }

pub nth_pieces_inside : (m n : ℕ) (w : Part) → Told (Inside w) (nth n (pieces m w))
unfolding pieces
nth_pieces_inside m n w = nth_told n (rw join_split at (placed_inside m w.start (split m w.text)))

pub part_at_inside : (ts : List Turn) (w : Part) → Told (Inside w) (part_at ts w)
unfolding part_at
part_at_inside [] w = present (inside_front w.start w.text w.text [] (sym (append-nil w.text)))
part_at_inside (t ∷ ts) w =
    told_then (part_at ts) (nth_pieces_inside t.mark t.index w)
    (λ q i. told_map (λ p j. inside_trans w q p i j) (part_at_inside ts q))

place_inside : (item : Bytes) (a v s : ℕ) (p : Part) → place item a v s ≡ some p → Inside (whole item) p
unfolding place
place_inside item a v s p e = told (subst (Told (Inside (whole item))) e (part_at_inside (path a v s) (whole item)))

-- "that part of the record itself": the bytes that stand in the record from the part's start on
pub found_is_own : (item : Bytes) (a v s : ℕ) (p : Part) → place item a v s ≡ some p
    → p.text ≡ take (length p.text) (drop p.start item)
unfolding whole
found_is_own item a v s p e =
    let i = place_inside item a v s p e in
    let at : length i.before ≡ p.start = omega (arith, i.start_is) in
    rw (i.text_is, append_assoc, drop_at, take-append_seam)

pub found_ends : (item : Bytes) (a v s : ℕ) (p : Part) → place item a v s ≡ some p → p.start + length p.text ≤ length item
unfolding whole
found_ends item a v s p e = omega (arith, inside_bounds (whole item) p (place_inside item a v s p e))
