-- How a test moves the flags of the places that are reached, over plain lists: any number of a class, and so many bytes exactly. Assumes nothing.
use Rattle.std.specs.Prelude.{if◌then◌else◌}
use Prim.Native.Nat.{ℕ, zero, suc, ◌+◌, ◌-◌, ◌≤◌, ◌<◌}
use native.Mathlib.Nat.{add-zero}
use native.Mathlib.Numerals.{add-one}
use native.Mathlib.Omega.{arith}
use mathlib.Core.Path.{◌≡◌, refl, sym, ap, ◌∙◌}
use mathlib.Core.Logic.{◌⊎◌, inl, inr}
use mathlib.Core.Bool.{Bool, true, false, ◌&&◌, ◌||◌, or-false, and-true}
use mathlib.Core.List.{[], ◌∷◌, ◌++◌}
use lib.ListN.{length, take, drop, get_or, set, replicate, length-set, length-drop, length-replicate, get_or-replicate, get_or-append}
use lib.Seq.{drop-cons, get_or-set_same, get_or-set_other, get_or-append-add, get_or-drop, drop-length, take-length, length-take-le}
use lib.Dec.{leb, eqb}
use lib.Bits.{bit_and, bit_or}
use lib.Pointwise.{pointwise}
use borrow.Author.Tests.{eq-eqb, ne_eqb, eqb-true, eqb-false, le-leb}
use Rattle.std.proofs.lemmas.List.{take_all}
use Rattle.paper.specs.Bytes.{Bytes, same_bytes}
use Rattle.paper.specs.Codes.{Class, Test}
use Rattle.paper.specs.Patterns.{of_class, every, meets}
use Rattle.paper.proofs.Truths.{ltb_or}
use Rattle.paper.proofs.Patterns.{cut_by, none_behind, any_more, wide_cut, wide_none, so_many_fixed, literal_fixed, run, run_reaches}
use Rattle.lent.specs.Over.{over}
use Rattle.lent.proofs.Laws.{over_front, length_over}
use Rattle.lent.proofs.Scans.{next}
use Rattle.patterns.specs.Reach.{flag, Marks, Moved, Carried, goes_on, starts}

-- ---- any number of a class: places in front of j are moved on, those from it on stand as they were

-- the byte in front of place j leads there
abbrev crossed : (Bytes → Bool) → Class → Bytes → ℕ → Bool
crossed before c e zero = false
crossed before c e (suc j) = cut_by before (Test.so_many 0 c) (take j e) && of_class c (get_or e j 0)

-- a place is reached by none or by a byte more
none_or_more : (before : Bytes → Bool) (c : Class) (e : Bytes) (j : ℕ) → j ≤ length e
    → cut_by before (Test.so_many 0 c) (take j e) ≡ (before (take j e) || crossed before c e j)
none_or_more before c e zero h = none_behind before c ∙ sym (or-false (before []))
none_or_more before c e (suc j) h = rw (add-one j) at (any_more before c e j h)

-- `carried` is the flag that the byte in front of place j leads on
pub record Extended (c : Class) (e flags : Bytes) (j : ℕ) (f : Bytes) (carried : ℕ) : Type 0 where
  pub size : length f ≡ length flags
  pub rest : (k : ℕ) → j ≤ k → get_or f k 0 ≡ get_or flags k 0
  pub done : (before : Bytes → Bool) → Marks before e flags → (k : ℕ) → k < j → get_or f k 0 ≡ flag (cut_by before (Test.so_many 0 c) (take k e))
  pub leads : (before : Bytes → Bool) → Marks before e flags → carried ≡ flag (crossed before c e j)

flag_or : (a b : Bool) → bit_or (flag a) (flag b) ≡ flag (a || b)
flag_or true true = refl
flag_or true false = refl
flag_or false true = refl
flag_or false false = refl

flag_and : (a b : Bool) → bit_and (flag a) (flag b) ≡ flag (a && b)
flag_and true true = refl
flag_and true false = refl
flag_and false true = refl
flag_and false false = refl

flag_if : (a b : Bool) → (if b then flag a else 0) ≡ flag (a && b)
flag_if true true = refl
flag_if true false = refl
flag_if false true = refl
flag_if false false = refl

module _ {c : Class} {e flags f : Bytes} {j carried : ℕ} (x : Extended c e flags j f carried) (inside : j ≤ length e) (room : length e < length flags) where
  here_told : (before : Bytes → Bool) → Marks before e flags → bit_or (get_or f j 0) carried ≡ flag (cut_by before (Test.so_many 0 c) (take j e))
  here_told before m =
      rw (x.rest j (omega arith), m.marks j inside, x.leads before m)
      (flag_or (before (take j e)) (crossed before c e j) ∙ ap flag (sym (none_or_more before c e j inside)))

  moved_up_to : (before : Bytes → Bool) → Marks before e flags → (k : ℕ) → k < j + 1
      → get_or (set f j (bit_or (get_or f j 0) carried)) k 0 ≡ flag (cut_by before (Test.so_many 0 c) (take k e))
  moved_up_to before m k h = go (ltb_or k j)
    where
      go : (k < j) ⊎ (j ≤ k) → get_or (set f j (bit_or (get_or f j 0) carried)) k 0 ≡ flag (cut_by before (Test.so_many 0 c) (take k e))
      go (inl l) = get_or-set_other f j k _ 0 (λ z. omega arith) ∙ x.done before m k l
      go (inr l) =
          let z : k ≡ j = omega arith in
          rw z (get_or-set_same f j (bit_or (get_or f j 0) carried) 0 (omega (arith, x.size)) ∙ here_told before m)

  pub extended_next : {kept : ℕ} → j < length e → kept ≡ flag (of_class c (get_or e j 0))
      → Extended c e flags (j + 1) (set f j (bit_or (get_or f j 0) carried)) (bit_and (bit_or (get_or f j 0) carried) kept)
  extended_next {kept} l past = record {
    size = length-set f j _ ∙ x.size;
    rest = λ k h. get_or-set_other f j k _ 0 (λ z. omega arith) ∙ x.rest k (omega arith);
    done = moved_up_to;
    leads = λ before m.
        rw (here_told before m, past) (flag_and (cut_by before (Test.so_many 0 c) (take j e)) (of_class c (get_or e j 0)))
        ∙ ap (λ (k : ℕ). flag (crossed before c e k)) (sym (add-one j));
  }

  pub extended_moved : length e ≤ j → Moved (Test.so_many 0 c) e flags (set f j (bit_or (get_or f j 0) carried))
  extended_moved l = record { size = length-set f j _ ∙ x.size; moves = λ before m. record { marks = λ k h. moved_up_to before m k (omega arith) } }

-- ---- so many bytes exactly: right to left, each place is carried over them

pub carried_start : {good : Bytes → Bool} {count : ℕ} {e flags : Bytes} {i : ℕ} → length e < i + count → Carried good count e i flags flags
carried_start h = record { size = refl; kept = λ k l. refl; carried = λ k l g. absurd (omega arith) }

pub carried_next : {good : Bytes → Bool} {count : ℕ} {e flags f : Bytes} {i v : ℕ} → Carried good count e (i + 1) flags f
    → 0 < count → i + count < length f → v ≡ (if good (drop i e) then get_or f i 0 else 0) → Carried good count e i flags (set f (i + count) v)
carried_next {good} {count} {e} {flags} {f} {i} {v} x p r w = record {
  size = length-set f (i + count) v ∙ x.size;
  kept = λ k l. get_or-set_other f (i + count) k v 0 (λ z. omega arith) ∙ x.kept k (omega arith);
  carried = λ k l g. go k (ltb_or i k) l g;
}
  where
    go : (k : ℕ) → (i < k) ⊎ (k ≤ i) → i ≤ k → k + count ≤ length e
        → get_or (set f (i + count) v) (k + count) 0 ≡ (if good (drop k e) then get_or flags k 0 else 0)
    go k (inl a) l g = get_or-set_other f (i + count) (k + count) v 0 (λ z. omega arith) ∙ x.carried k (omega arith) g
    go k (inr a) l g =
        let z : k ≡ i = omega arith in
        rw z (get_or-set_same f (i + count) v 0 r ∙ w ∙ ap (λ (n : ℕ). if good (drop i e) then n else 0) (x.kept i (omega arith)))

-- zeros in front
pub wiped_at : (d : Bytes) (n j : ℕ) → j < n → get_or (over d 0 (replicate n 0)) j 0 ≡ 0
wiped_at d n j h =
    rw (over_front d (replicate n 0)) (get_or-append (replicate n 0) _ 0 j (omega (arith, length-replicate {A = ℕ} n 0)) ∙ get_or-replicate n j 0 0 h)

wiped_past : (d : Bytes) (n k : ℕ) → get_or (over d 0 (replicate n 0)) (k + n) 0 ≡ get_or d (k + n) 0
wiped_past d n k =
    let l : length {A = ℕ} (replicate n 0) ≡ n = length-replicate n 0 in
    let s : k + n ≡ length {A = ℕ} (replicate n 0) + k = omega arith in
    rw (over_front d (replicate n 0))
    (ap (λ (i : ℕ). get_or (replicate {A = ℕ} n 0 ++ drop (length {A = ℕ} (replicate n 0)) d) i 0) s
    ∙ get_or-append-add (replicate n 0) (drop (length {A = ℕ} (replicate n 0)) d) k 0
    ∙ get_or-drop (length {A = ℕ} (replicate n 0)) d k 0
    ∙ ap (λ (i : ℕ). get_or d i 0) (sym s))

-- and as the library fills a part in front
pub wiped_by : {part : Bytes} (d : Bytes) (n : ℕ) → n ≤ length d → part ≡ replicate (length (take n d)) 0 → part ++ drop n d ≡ over d 0 (replicate n 0)
wiped_by d n h e =
    rw (e, length-take-le n d h) (sym (over_front d (replicate n 0) ∙ ap (λ (m : ℕ). replicate n 0 ++ drop m d) (length-replicate {A = ℕ} n 0)))

module _ (t : Test) (m : ℕ) (good : Bytes → Bool) (fixed : (piece : Bytes) → meets t piece ≡ (eqb (length piece) m && good piece)) (e : Bytes) {flags : Bytes}
    (room : length e < length flags) where
  short_moves : length e < m → Moved t e flags (over flags 0 (replicate (length e + 1) 0))
  short_moves h = record {
    size = length_over flags 0 (replicate (length e + 1) 0) (omega (arith, length-replicate {A = ℕ} (length e + 1) 0));
    moves = λ before x. record {
      marks = λ j l. wiped_at flags (length e + 1) j (omega arith) ∙ ap flag (sym (wide_none before t m good fixed e j l (omega arith)));
    };
  }

  carried_moves : {tells : Bytes → Bool} {mid : Bytes} → ((rest : Bytes) → m ≤ length rest → tells rest ≡ good (take m rest)) → m ≤ length e
      → Carried tells m e 0 flags mid → Moved t e flags (over mid 0 (replicate m 0))
  carried_moves {tells} {mid} told h x = record {
    size = length_over mid 0 (replicate m 0) (omega (arith, length-replicate {A = ℕ} m 0, x.size)) ∙ x.size;
    moves = λ before y. record { marks = λ j l. go before y j l (ltb_or j m) };
  }
    where
      at : (before : Bytes → Bool) → Marks before e flags → (k : ℕ) → k + m ≤ length e
          → get_or (over mid 0 (replicate m 0)) (k + m) 0 ≡ flag (cut_by before t (take (k + m) e))
      at before y k l =
          wiped_past mid m k
          ∙ x.carried k (omega arith) l
          ∙ rw (told (drop k e) (omega (arith, length-drop k e)), y.marks k (omega arith)) (flag_if (before (take k e)) (good (take m (drop k e))))
          ∙ ap flag (sym (wide_cut before t m good fixed e k l))

      go : (before : Bytes → Bool) → Marks before e flags → (j : ℕ) → j ≤ length e → (j < m) ⊎ (m ≤ j)
          → get_or (over mid 0 (replicate m 0)) j 0 ≡ flag (cut_by before t (take j e))
      go before y j l (inl w) = wiped_at mid m j w ∙ ap flag (sym (wide_none before t m good fixed e j l w))
      go before y j l (inr w) =
          let s : j - m + m ≡ j = omega arith in
          rw s at (at before y (j - m) (omega arith))

-- ---- so many of a class

so_many_wide : (n : ℕ) (c : Class) → 0 < n → (piece : Bytes) → meets (Test.so_many n c) piece ≡ (eqb (length piece) n && every (of_class c) piece)
so_many_wide zero c h piece = absurd (omega arith)
so_many_wide (suc n) c h piece = so_many_fixed n c piece

run_tells : (c : Class) (n : ℕ) (rest : Bytes) → n ≤ length rest → leb n (run c rest) ≡ every (of_class c) (take n rest)
run_tells c n rest h = run_reaches c n rest ∙ rw (le-leb n (length rest) h)

module _ (n : ℕ) (c : Class) (e : Bytes) {flags out : Bytes} (some : 0 < n) (room : length e < length flags) where
  pub run_short : length e < n → out ≡ over flags 0 (replicate (length e + 1) 0) → Moved (Test.so_many n c) e flags out
  run_short l o = rw o (short_moves (Test.so_many n c) n (every (of_class c)) (so_many_wide n c some) e room l)

  pub run_moves : {mid : Bytes} → n ≤ length e → Carried (goes_on c n) n e 0 flags mid → out ≡ over mid 0 (replicate n 0)
      → Moved (Test.so_many n c) e flags out
  run_moves l x o = rw o (carried_moves (Test.so_many n c) n (every (of_class c)) (so_many_wide n c some) e room (run_tells c n) l x)

-- a byte in front of a run
run_here : (c : Class) (e : Bytes) (i : ℕ) → i < length e → run c (drop i e) ≡ (if of_class c (get_or e i 0) then run c (drop (i + 1) e) + 1 else 0)
unfolding run
run_here c e i h = rw (next e i h, add-one (run c (drop (i + 1) e)))

run_none : (c : Class) (e : Bytes) → 0 ≡ run c (drop (length e) e)
unfolding run
run_none c e = rw (drop-length e)

run_most : (t : Bool) (r j most : ℕ) → r + 1 + j ≤ most → (if t then r + 1 else 0) + j ≤ most
run_most true r j most h = h
run_most false r j most h = omega arith

-- the run that goes on from place i, and the places from i on carried over theirs
pub record Running (c : Class) (count : ℕ) (e flags : Bytes) (r i : ℕ) (f : Bytes) : Type 0 where
  pub within : r + i ≤ length e
  pub goes : r ≡ run c (drop i e)
  pub carried : Carried (goes_on c count) count e i flags f

pub running_start : (c : Class) (count : ℕ) (e flags : Bytes) → 0 < count → Running c count e flags 0 (length e) flags
running_start c count e flags h = record { within = omega arith; goes = run_none c e; carried = carried_start (omega arith) }

-- one turn to the left
pub running_next : {c : Class} {count : ℕ} {e flags f : Bytes} {r r' i v : ℕ} (j : ℕ) → Running c count e flags r i f → j + 1 ≡ i → 0 < count
    → j + count < length f → r' ≡ (if of_class c (get_or e j 0) then r + 1 else 0) → v ≡ (if leb count r' then get_or f j 0 else 0)
    → Running c count e flags r' j (set f (j + count) v)
running_next {c} {count} {e} {flags} {f} {r} {r'} {i} {v} j x back some room longer w = record {
  within = rw longer (run_most (of_class c (get_or e j 0)) r j (length e) (omega (arith, x.within)));
  goes = goes';
  carried = carried_next (rw (← back) at x.carried) some room (w ∙ rw goes');
}
  where
    goes' : r' ≡ run c (drop j e)
    goes' = longer ∙ rw (x.goes, ← back) (sym (run_here c e j (omega (arith, x.within))))

-- ---- a literal

eqb_turned : (x y : ℕ) → eqb x y ≡ eqb y x
eqb_turned x y = go (eqb x y) refl
  where
    go : (t : Bool) → eqb x y ≡ t → t ≡ eqb y x
    go true e = sym (eq-eqb y x (sym (eqb-true x y e)))
    go false e = sym (ne_eqb y x (λ h. eqb-false x y e (sym h)))

-- the library's test of two slices
same_pointwise : (a b : Bytes) → pointwise eqb b a ≡ same_bytes a b
unfolding same_bytes
same_pointwise [] [] = refl
same_pointwise [] (y ∷ b) = refl
same_pointwise (x ∷ a) [] = refl
same_pointwise (x ∷ a) (y ∷ b) = rw (eqb_turned y x) (ap (λ (t : Bool). eqb x y && t) (same_pointwise a b))

pointwise_same : (a b : Bytes) → pointwise eqb a b ≡ same_bytes a b
unfolding same_bytes
pointwise_same [] [] = refl
pointwise_same [] (y ∷ b) = refl
pointwise_same (x ∷ a) [] = refl
pointwise_same (x ∷ a) (y ∷ b) = ap (λ (t : Bool). eqb x y && t) (pointwise_same a b)

-- the first byte differs, or is the same and the rest of the part was compared
pub first_differs : (text e : Bytes) (i : ℕ) → 0 < length text → i < length e → (get_or e i 0 ≡ get_or text 0 0 → ⊥) → starts text (drop i e) ≡ false
unfolding same_bytes
first_differs [] e i h l d = absurd (omega arith)
first_differs (b ∷ text) e i h l d = rw (drop-cons e i 0 l, ne_eqb (get_or e i 0) b d)

pub rest_told : (text e : Bytes) (i : ℕ) {t : Bool} → 0 < length text → i < length e → get_or e i 0 ≡ get_or text 0 0
    → t ≡ pointwise eqb (take (i + length text - (i + 1)) (drop (i + 1) e)) (take (length text - 1) (drop 1 text)) → starts text (drop i e) ≡ t
unfolding same_bytes
rest_told [] e i h l f told = absurd (omega arith)
rest_told (b ∷ text) e i h l f told =
    let n : i + length (b ∷ text) - (i + 1) ≡ length text = omega arith in
    let m : length (b ∷ text) - 1 ≡ length text = omega arith in
    rw (drop-cons e i 0 l, eq-eqb (get_or e i 0) b f)
    (sym (told ∙ rw (n, m, take-length text, add-one i) (pointwise_same (take (length text) (drop (suc i) e)) text)))

module _ (text e : Bytes) {flags out : Bytes} (room : length e < length flags) where
  pub text_short : length e < length text → out ≡ over flags 0 (replicate (length e + 1) 0) → Moved (Test.literal text) e flags out
  text_short l o = rw o (short_moves (Test.literal text) (length text) (λ piece. same_bytes piece text) (literal_fixed text) e room l)

  pub text_moves : {mid : Bytes} → length text ≤ length e → Carried (starts text) (length text) e 0 flags mid
      → out ≡ over mid 0 (replicate (length text) 0) → Moved (Test.literal text) e flags out
  text_moves l x o =
      rw o (carried_moves (Test.literal text) (length text) (λ piece. same_bytes piece text) (literal_fixed text) e room (λ rest h. refl) l x)

-- an empty literal leaves every place as it is
pub empty_moves : (text e flags : Bytes) → length text ≡ 0 → Moved (Test.literal text) e flags flags
unfolding same_bytes
empty_moves [] e flags h = record {
  size = refl;
  moves = λ before x. record {
    marks = λ j l.
        x.marks j l
        ∙ ap flag (sym (at before j l));
  };
}
  where
    at : (before : Bytes → Bool) (j : ℕ) → j ≤ length e → cut_by before (Test.literal []) (take j e) ≡ before (take j e)
    at before j l =
        rw (add-zero j) at (wide_cut before (Test.literal []) 0 (λ piece. same_bytes piece []) (literal_fixed []) e j (omega arith))
        ∙ and-true (before (take j e))
empty_moves (b ∷ text) e flags h = absurd (omega arith)

-- a flag that is 0 stays 0
pub zero_flag : (t : Bool) (n : ℕ) → n ≡ 0 → 0 ≡ (if t then n else 0)
zero_flag true n h = sym h
zero_flag false n h = refl

-- ---- the last test: only the element's end matters

is_flag : (t : Bool) → eqb (flag t) 1 ≡ t
is_flag true = refl
is_flag false = refl

-- the flag at the element's end tells
pub end_told : {t : Test} {e flags flags' : Bytes} → Moved t e flags flags' → (before : Bytes → Bool) → Marks before e flags
    → eqb (get_or flags' (length e) 0) 1 ≡ cut_by before t e
end_told {t} {e} moved before x =
    ap (λ (n : ℕ). eqb n 1) ((moved.moves before x).marks (length e) (omega arith))
    ∙ is_flag (cut_by before t (take (length e) e))
    ∙ ap (cut_by before t) (take-length e)

module _ (text e : Bytes) {flags : Bytes} (before : Bytes → Bool) (x : Marks before e flags) where
  -- no room for the literal
  pub end_short : length e < length text → false ≡ cut_by before (Test.literal text) e
  end_short l =
      sym (wide_none before (Test.literal text) (length text) (λ piece. same_bytes piece text) (literal_fixed text) e (length e) (omega arith) l)
      ∙ ap (cut_by before (Test.literal text)) (take-length e)

  module _ (k : ℕ) (back : k + length text ≡ length e) where
    literal_at : cut_by before (Test.literal text) e ≡ (eqb (get_or flags k 0) 1 && same_bytes (take (length text) (drop k e)) text)
    literal_at =
        ap (cut_by before (Test.literal text)) (sym (ap (λ (n : ℕ). take n e) back ∙ take-length e))
        ∙ wide_cut before (Test.literal text) (length text) (λ piece. same_bytes piece text) (literal_fixed text) e k (omega arith)
        ∙ ap (λ (t : Bool). t && same_bytes (take (length text) (drop k e)) text)
        (sym (ap (λ (n : ℕ). eqb n 1) (x.marks k (omega arith)) ∙ is_flag (before (take k e))))

    -- the place in front of it is not reached
    pub end_unreached : (get_or flags k 0 ≡ 1 → ⊥) → eqb (get_or flags k 0) 1 ≡ cut_by before (Test.literal text) e
    end_unreached h = ne_eqb (get_or flags k 0) 1 h ∙ sym (literal_at ∙ rw (ne_eqb (get_or flags k 0) 1 h))

    pub end_compared : {r : Bool} → get_or flags k 0 ≡ 1 → r ≡ pointwise eqb text (drop k e) → r ≡ cut_by before (Test.literal text) e
    end_compared h told =
        let whole : take (length text) (drop k e) ≡ drop k e = take_all (length text) (drop k e) (omega (arith, length-drop k e)) in
        told ∙ same_pointwise (drop k e) text ∙ sym (literal_at ∙ rw (eq-eqb (get_or flags k 0) 1 h, whole))
