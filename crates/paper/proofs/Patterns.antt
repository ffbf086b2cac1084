-- Document 02, L1: passing a pattern is about cuts, "if it can be cut into consecutive parts that meet the tests in turn"; the tests can be
-- gone through one after the other, with all cuts at once; and how each way of a test moves on along an element. Assumes nothing.
use Rattle.std.specs.Prelude.{if◌then◌else◌}
use Prim.Native.Nat.{ℕ, zero, suc, ◌+◌, ◌-◌, ◌≤◌, ◌<◌}
use native.Mathlib.Numerals.{add-one}
use native.Mathlib.Omega.{arith}
use mathlib.Core.Path.{◌≡◌, refl, sym, ap, ◌∙◌, subst}
use mathlib.Core.Logic.{◌⊎◌, inl, inr}
use mathlib.Core.Bool.{Bool, true, false, ◌&&◌, ◌||◌, and-true, and-false, and_assoc, or-true, or_assoc, or_comm}
use mathlib.Core.List.{List, [], ◌∷◌, ◌++◌, append_assoc, append-nil}
use lib.ListN.{length, take, drop, get_or, length-append, length-drop}
use lib.Seq.{take-suc, take_at, drop_at, take-add, length-take-le}
use lib.Dec.{leb, eqb, leb-zero, leb-suc-zero, leb-suc-suc}
use borrow.Author.Tests.{eqb-true, eq-eqb}
use Rattle.paper.specs.Bytes.{Bytes, same_bytes}
use Rattle.paper.specs.Codes.{Class, Test, Pattern}
use Rattle.paper.specs.Patterns.{of_class, every, is_so_many, meets, some_cut, passes, some_passes, patterns_give}
use Rattle.paper.proofs.Truths.{both, alike, fails}

-- ---- what some_cut tells

either : (a b : Bool) → (a || b) ≡ true → (a ≡ true) ⊎ (b ≡ true)
either true b e = inl refl
either false b e = inr e

together : {a b : Bool} → a ≡ true → b ≡ true → (a && b) ≡ true
together p q = rw (p, q)

-- the two parts that have P
pub data Parted (p : Bytes → Bytes → Bool) : Bytes → Type 0 where
  parted : (front rest : Bytes) → p front rest ≡ true → Parted p (front ++ rest)

pub cut_found : (p : Bytes → Bytes → Bool) (bs : Bytes) → some_cut p bs ≡ true → Parted p bs
unfolding some_cut
cut_found p [] e = parted [] [] e
cut_found p (b ∷ bs) e = go (either (p [] (b ∷ bs)) (some_cut (λ piece. p (b ∷ piece)) bs) e) (cut_found (λ piece. p (b ∷ piece)) bs)
  where
    behind : {l : Bytes} → Parted (λ piece. p (b ∷ piece)) l → Parted p (b ∷ l)
    behind (parted front rest h) = parted (b ∷ front) rest h

    go : (p [] (b ∷ bs) ≡ true) ⊎ (some_cut (λ piece. p (b ∷ piece)) bs ≡ true)
        → (some_cut (λ piece. p (b ∷ piece)) bs ≡ true → Parted (λ piece. p (b ∷ piece)) bs)
        → Parted p (b ∷ bs)
    go (inl h) f = parted [] (b ∷ bs) h
    go (inr h) f = behind (f h)

pub cut_holds : (p : Bytes → Bytes → Bool) (front rest : Bytes) → p front rest ≡ true → some_cut p (front ++ rest) ≡ true
unfolding some_cut
cut_holds p [] [] e = e
cut_holds p [] (b ∷ bs) e = rw e
cut_holds p (b ∷ front) rest e = rw (cut_holds (λ piece. p (b ∷ piece)) front rest e) (or-true (p [] (b ∷ front ++ rest)))

-- the same cuts by tests that tell the same
pub cut_alike : (p q : Bytes → Bytes → Bool) → ((front rest : Bytes) → p front rest ≡ q front rest) → (bs : Bytes) → some_cut p bs ≡ some_cut q bs
unfolding some_cut
cut_alike p q h [] = h [] []
cut_alike p q h (b ∷ bs) = rw (h [] (b ∷ bs), cut_alike (λ piece. p (b ∷ piece)) (λ piece. q (b ∷ piece)) (λ front rest. h (b ∷ front) rest) bs)

never_cut : (bs : Bytes) → some_cut (λ front rest. false) bs ≡ false
unfolding some_cut
never_cut [] = refl
never_cut (b ∷ bs) = never_cut bs

-- what does not go by the cut
cut_and : (p : Bytes → Bytes → Bool) (k : Bool) (bs : Bytes) → some_cut (λ front rest. p front rest && k) bs ≡ (some_cut p bs && k)
cut_and p true bs = cut_alike (λ front rest. p front rest && true) p (λ front rest. and-true (p front rest)) bs ∙ sym (and-true (some_cut p bs))
cut_and p false bs =
    cut_alike (λ front rest. p front rest && false) (λ front rest. false) (λ front rest. and-false (p front rest)) bs
    ∙ never_cut bs
    ∙ sym (and-false (some_cut p bs))

-- a byte more: it joins the second part, or all are in the first
pub cut_snoc : (p : Bytes → Bytes → Bool) (bs : Bytes) (b : ℕ)
    → some_cut p (bs ++ b ∷ []) ≡ (some_cut (λ front rest. p front (rest ++ b ∷ [])) bs || p (bs ++ b ∷ []) [])
unfolding some_cut
cut_snoc p [] b = refl
cut_snoc p (a ∷ bs) b =
    ap (λ (t : Bool). p [] (a ∷ bs ++ b ∷ []) || t) (cut_snoc (λ piece. p (a ∷ piece)) bs b)
    ∙ sym (or_assoc (p [] (a ∷ bs ++ b ∷ [])) (some_cut (λ front rest. p (a ∷ front) (rest ++ b ∷ [])) bs) (p (a ∷ bs ++ b ∷ []) []))

-- ---- "if it can be cut into consecutive parts that meet the tests in turn"

pub data Cut : Pattern → Bytes → Type 0 where
  no_parts : Cut [] []
  part : {t : Test} {ts : Pattern} {rest : Bytes} (front : Bytes) → meets t front ≡ true → Cut ts rest → Cut (t ∷ ts) (front ++ rest)

pub passed_cut : (ts : Pattern) (e : Bytes) → passes ts e ≡ true → Cut ts e
unfolding passes
passed_cut [] [] h = no_parts
passed_cut [] (b ∷ e) h = absurd (let z = eqb-true (suc (length e)) 0 h in omega arith)
passed_cut (t ∷ ts) e h = go (cut_found (λ front rest. meets t front && passes ts rest) e h) (λ rest. passed_cut ts rest)
  where
    go : {l : Bytes} → Parted (λ front rest. meets t front && passes ts rest) l → ((rest : Bytes) → passes ts rest ≡ true → Cut ts rest)
        → Cut (t ∷ ts) l
    go (parted front rest k) f = let (m, r) = both (meets t front) (passes ts rest) k in part front m (f rest r)

pub cut_passes : {ts : Pattern} {e : Bytes} → Cut ts e → passes ts e ≡ true
unfolding passes
cut_passes no_parts = refl
cut_passes (part {t = t} {ts = ts} {rest = rest} front m c) =
    cut_holds (λ front rest. meets t front && passes ts rest) front rest (together m (cut_passes c))

-- "Several patterns pass if one does."
pub data SomeCut : List Pattern → Bytes → Type 0 where
  by_this : {p : Pattern} {ps : List Pattern} {e : Bytes} → Cut p e → SomeCut (p ∷ ps) e
  by_another : {p : Pattern} {ps : List Pattern} {e : Bytes} → SomeCut ps e → SomeCut (p ∷ ps) e

pub some_passed_cut : (ps : List Pattern) (e : Bytes) → some_passes ps e ≡ true → SomeCut ps e
unfolding some_passes
some_passed_cut [] e h = absurd (let z : ◌≡◌ {A = ℕ} 0 1 = cc in omega arith)
some_passed_cut (p ∷ ps) e h = go (either (passes p e) (some_passes ps e) h) (some_passed_cut ps e)
  where
    go : (passes p e ≡ true) ⊎ (some_passes ps e ≡ true) → (some_passes ps e ≡ true → SomeCut ps e) → SomeCut (p ∷ ps) e
    go (inl k) f = by_this (passed_cut p e k)
    go (inr k) f = by_another (f k)

pub some_cut_passes : {ps : List Pattern} {e : Bytes} → SomeCut ps e → some_passes ps e ≡ true
unfolding some_passes
some_cut_passes (by_this c) = rw (cut_passes c)
some_cut_passes (by_another {p = p} {e = e} c) = rw (some_cut_passes c) (or-true (passes p e))

-- "The code gives the element if .., else empty.": the element exactly when a cut exists. An empty element is given either way.
pub gives_cut : {ps : List Pattern} {e : Bytes} → SomeCut ps e → patterns_give ps e ≡ e
unfolding patterns_give
gives_cut c = rw (some_cut_passes c)

pub gives_empty : (ps : List Pattern) (e : Bytes) → (SomeCut ps e → ⊥) → patterns_give ps e ≡ []
unfolding patterns_give
gives_empty ps e h = rw (fails (some_passes ps e) (λ k. h (some_passed_cut ps e k)))

pub given_cut : (ps : List Pattern) (e : Bytes) → 0 < length e → patterns_give ps e ≡ e → SomeCut ps e
unfolding patterns_give
given_cut ps e h k = go (some_passes ps e) refl k
  where
    go : (t : Bool) → some_passes ps e ≡ t → (if t then e else []) ≡ e → SomeCut ps e
    go true q k = some_passed_cut ps e q
    go false q k = absurd (let z : 0 ≡ length e = ap length k in omega arith)

-- ---- all cuts at once: test by test, from what stands before

-- the bytes can be cut into what may stand before, and a part that meets the test
abbrev pub cut_by : (Bytes → Bool) → Test → Bytes → Bool
cut_by before t bs = some_cut (λ front piece. before front && meets t piece) bs

unfoldable pub passes_from : (Bytes → Bool) → Pattern → Bytes → Bool
passes_from before [] bs = before bs
passes_from before (t ∷ ts) bs = passes_from (cut_by before t) ts bs

abbrev pub nothing : Bytes → Bool
nothing bs = eqb (length bs) 0

-- three parts, the first two taken together or the last two
cut_exchange : (before : Bytes → Bool) (p q : Bytes → Bool) (bs : Bytes)
    → some_cut (λ front rest. before front && some_cut (λ piece rest. p piece && q rest) rest) bs
    ≡ some_cut (λ front rest. some_cut (λ front piece. before front && p piece) front && q rest) bs
cut_exchange before p q bs = alike _ _ (λ h. right (cut_found _ bs h)) (λ h. left (cut_found _ bs h))
  where
    right_in : (front : Bytes) {l : Bytes} → before front ≡ true → Parted (λ piece rest. p piece && q rest) l
        → some_cut (λ front rest. some_cut (λ front piece. before front && p piece) front && q rest) (front ++ l) ≡ true
    right_in front b (parted piece rest k) =
        let (m, r) = both (p piece) (q rest) k in
        rw (← append_assoc front piece rest) (cut_holds _ (front ++ piece) rest (together (cut_holds _ front piece (together b m)) r))

    right : {l : Bytes} → Parted (λ front rest. before front && some_cut (λ piece rest. p piece && q rest) rest) l
        → some_cut (λ front rest. some_cut (λ front piece. before front && p piece) front && q rest) l ≡ true
    right (parted front rest k) = let (b, r) = both (before front) _ k in right_in front b (cut_found _ rest r)

    left_in : (rest : Bytes) {l : Bytes} → q rest ≡ true → Parted (λ front piece. before front && p piece) l
        → some_cut (λ front rest. before front && some_cut (λ piece rest. p piece && q rest) rest) (l ++ rest) ≡ true
    left_in rest r (parted front piece k) =
        let (b, m) = both (before front) (p piece) k in
        rw (append_assoc front piece rest) (cut_holds _ front (piece ++ rest) (together b (cut_holds _ piece rest (together m r))))

    left : {l : Bytes} → Parted (λ front rest. some_cut (λ front piece. before front && p piece) front && q rest) l
        → some_cut (λ front rest. before front && some_cut (λ piece rest. p piece && q rest) rest) l ≡ true
    left (parted front rest k) = let (f, r) = both _ (q rest) k in left_in rest r (cut_found _ front f)

empty : (bs : Bytes) → nothing bs ≡ true → bs ≡ []
empty [] h = refl
empty (b ∷ bs) h = absurd (let z = eqb-true (suc (length bs)) 0 h in omega arith)

-- nothing is left over
cut_all : (before : Bytes → Bool) (bs : Bytes) → some_cut (λ front rest. before front && nothing rest) bs ≡ before bs
cut_all before bs =
    alike _ _ (λ h. to (cut_found _ bs h))
    (λ h. subst (λ (l : Bytes). some_cut (λ front rest. before front && nothing rest) l ≡ true) (append-nil bs) (cut_holds _ bs [] (together h refl)))
  where
    to : {l : Bytes} → Parted (λ front rest. before front && nothing rest) l → before l ≡ true
    to (parted front rest k) = let (b, n) = both (before front) (nothing rest) k in rw (empty rest n, append-nil front) b

pub forward : (before : Bytes → Bool) (ts : Pattern) (bs : Bytes) → some_cut (λ front rest. before front && passes ts rest) bs ≡ passes_from before ts bs
unfolding passes passes_from
forward before [] bs = cut_all before bs
forward before (t ∷ ts) bs = cut_exchange before (meets t) (passes ts) bs ∙ forward (cut_by before t) ts bs

pub passes_forward : (ts : Pattern) (bs : Bytes) → passes ts bs ≡ passes_from nothing ts bs
passes_forward ts bs = alike _ _ (λ h. cut_holds (λ front rest. nothing front && passes ts rest) [] bs h) (λ h. to (cut_found _ bs h)) ∙ forward nothing ts bs
  where
    to : {l : Bytes} → Parted (λ front rest. nothing front && passes ts rest) l → passes ts l ≡ true
    to (parted front rest k) = let (n, r) = both (nothing front) (passes ts rest) k in rw (empty front n) r

-- ---- how a test moves on along an element

every_snoc : (p : ℕ → Bool) (bs : Bytes) (b : ℕ) → every p (bs ++ b ∷ []) ≡ (every p bs && p b)
unfolding every
every_snoc p [] b = and-true (p b)
every_snoc p (a ∷ bs) b = ap (λ (t : Bool). p a && t) (every_snoc p bs b) ∙ sym (and_assoc (p a) (every p bs) (p b))

-- "0 meaning any number and none": the place itself, or one byte more behind a place that was reached
module _ (before : Bytes → Bool) (c : Class) where
  pub none_behind : cut_by before (Test.so_many 0 c) [] ≡ before []
  unfolding some_cut meets is_so_many every
  none_behind = and-true (before [])

  any_snoc : (bs : Bytes) (b : ℕ)
      → cut_by before (Test.so_many 0 c) (bs ++ b ∷ []) ≡ (before (bs ++ b ∷ []) || (cut_by before (Test.so_many 0 c) bs && of_class c b))
  unfolding meets is_so_many every
  any_snoc bs b =
      cut_snoc _ bs b
      ∙ ap (λ (t : Bool). t || (before (bs ++ b ∷ []) && true))
      (cut_alike _ (λ front piece. (before front && every (of_class c) piece) && of_class c b)
      (λ front piece.
      ap (λ (t : Bool). before front && t) (every_snoc (of_class c) piece b)
      ∙ sym (and_assoc (before front) (every (of_class c) piece) (of_class c b))) bs
      ∙ cut_and _ (of_class c b) bs)
      ∙ or_comm (some_cut (λ front piece. before front && every (of_class c) piece) bs && of_class c b) (before (bs ++ b ∷ []) && true)
      ∙ ap (λ (t : Bool). t || (some_cut (λ front piece. before front && every (of_class c) piece) bs && of_class c b)) (and-true (before (bs ++ b ∷ [])))

  pub any_more : (e : Bytes) (j : ℕ) → j < length e
      → cut_by before (Test.so_many 0 c) (take (j + 1) e)
      ≡ (before (take (j + 1) e) || (cut_by before (Test.so_many 0 c) (take j e) && of_class c (get_or e j 0)))
  any_more e j h = rw (add-one, take-suc e j 0 h) (any_snoc (take j e) (get_or e j 0))

-- so many bytes exactly: those in front of a place are what the test reads, and the place in front of them was reached
module _ (before : Bytes → Bool) (t : Test) (m : ℕ) (good : Bytes → Bool) (fixed : (piece : Bytes) → meets t piece ≡ (eqb (length piece) m && good piece)) where
  wide_found : {l : Bytes} → Parted (λ front piece. before front && meets t piece) l
      → (m ≤ length l) × (before (take (length l - m) l) ≡ true) × (good (drop (length l - m) l) ≡ true)
  wide_found (parted front piece k) =
      let (b, f) = both (before front) (meets t piece) k in
      let (w, g) = both (eqb (length piece) m) (good piece) (sym (fixed piece) ∙ f) in
      let n : length piece ≡ m = eqb-true (length piece) m w in
      let s : length front ≡ length (front ++ piece) - m = omega (arith, length-append front piece) in (
        omega (arith, length-append front piece),
        rw (take_at front piece (length (front ++ piece) - m) s) b,
        rw (drop_at front piece (length (front ++ piece) - m) s) g,
      )

  -- k bytes, and m behind them
  pub wide_cut : (e : Bytes) (k : ℕ) → k + m ≤ length e → cut_by before t (take (k + m) e) ≡ (before (take k e) && good (take m (drop k e)))
  wide_cut e k h = alike _ _ (λ c. to (wide_found (cut_found _ (take (k + m) e) c))) from
    where
      front : length (take k e) ≡ k
      front = length-take-le k e (omega arith)

      behind : length (take m (drop k e)) ≡ m
      behind = length-take-le m (drop k e) (omega (arith, length-drop k e))

      less : length (take (k + m) e) - m ≡ k
      less = omega (arith, length-take-le (k + m) e h)

      to : (m ≤ length (take (k + m) e)) × (before (take (length (take (k + m) e) - m) (take (k + m) e)) ≡ true)
          × (good (drop (length (take (k + m) e) - m) (take (k + m) e)) ≡ true)
          → (before (take k e) && good (take m (drop k e))) ≡ true
      to f =
          let b : before (take k (take (k + m) e)) ≡ true = rw less at f.1 in
          let g : good (drop k (take (k + m) e)) ≡ true = rw less at f.2 in
          let s = take-add k m e in
          together
          (subst (λ (l : Bytes). before l ≡ true) (ap (take k) s ∙ take_at (take k e) (take m (drop k e)) k front) b)
          (subst (λ (l : Bytes). good l ≡ true) (ap (drop k) s ∙ drop_at (take k e) (take m (drop k e)) k front) g)

      from : (before (take k e) && good (take m (drop k e))) ≡ true → cut_by before t (take (k + m) e) ≡ true
      from c =
          let (b, g) = both (before (take k e)) (good (take m (drop k e))) c in
          rw (take-add k m e)
          (cut_holds _ (take k e) (take m (drop k e)) (together b (fixed (take m (drop k e)) ∙ together (eq-eqb (length (take m (drop k e))) m behind) g)))

  -- fewer bytes than the test wants
  pub wide_none : (e : Bytes) (j : ℕ) → j ≤ length e → j < m → cut_by before t (take j e) ≡ false
  wide_none e j h w = fails _ (λ c. let f = (wide_found (cut_found _ (take j e) c)).0 in omega (arith, length-take-le j e h))

-- ---- the two tests of a fixed width

pub so_many_fixed : (n : ℕ) (c : Class) (piece : Bytes) → meets (Test.so_many (suc n) c) piece ≡ (eqb (length piece) (suc n) && every (of_class c) piece)
unfolding meets is_so_many
so_many_fixed n c piece = refl

pub same_length : (a b : Bytes) → same_bytes a b ≡ true → length a ≡ length b
unfolding same_bytes
same_length [] [] h = refl
same_length [] (b ∷ bs) h = absurd (let z : ◌≡◌ {A = ℕ} 0 1 = cc in omega arith)
same_length (a ∷ l) [] h = absurd (let z : ◌≡◌ {A = ℕ} 0 1 = cc in omega arith)
same_length (a ∷ l) (b ∷ bs) h = ap suc (same_length l bs (both (eqb a b) (same_bytes l bs) h).1)

pub literal_fixed : (text piece : Bytes) → meets (Test.literal text) piece ≡ (eqb (length piece) (length text) && same_bytes piece text)
unfolding meets
literal_fixed text piece =
    alike _ _ (λ h. together (eq-eqb (length piece) (length text) (same_length piece text h)) h)
    (λ h. (both (eqb (length piece) (length text)) (same_bytes piece text) h).1)

-- how many bytes of the class stand in front
unfoldable pub run : Class → Bytes → ℕ
run c [] = 0
run c (b ∷ bs) = if of_class c b then suc (run c bs) else 0

pub run_reaches : (c : Class) (m : ℕ) (bs : Bytes) → leb m (run c bs) ≡ (leb m (length bs) && every (of_class c) (take m bs))
unfolding run every
run_reaches c zero bs = rw (leb-zero (run c bs), leb-zero (length bs))
run_reaches c (suc m) [] = rw (leb-suc-zero m)
run_reaches c (suc m) (b ∷ bs) = go (of_class c b) (run_reaches c m bs)
  where
    go : (t : Bool) → leb m (run c bs) ≡ (leb m (length bs) && every (of_class c) (take m bs))
        → leb (suc m) (if t then suc (run c bs) else 0) ≡ (leb (suc m) (suc (length bs)) && (t && every (of_class c) (take m bs)))
    go true h = rw (leb-suc-suc, leb-suc-suc) h
    go false h = rw (leb-suc-zero m) (sym (and-false (leb (suc m) (suc (length bs)))))
