-- Document 01, "The record and its addresses": "A missing place is made by adding marks only, as few as will do." What replacing gives is made
-- so, and no record that is made so, gives the new bytes at the address and reads as before apart from it is shorter. Assumes nothing.
use Prim.Native.Nat.{ℕ, zero, suc, ◌+◌, ◌*◌, ◌≤◌, ◌<◌}
use native.Mathlib.Nat.{add-zero, zero-mul, suc-mul}
use native.Mathlib.Omega.{arith}
use mathlib.Core.Path.{◌≡◌, refl, sym, ap, ◌∙◌, subst}
use mathlib.Core.Logic.{◌≢◌}
use mathlib.Core.Bool.{Bool, true, false}
use mathlib.Core.List.{List, [], ◌∷◌, ◌++◌, append_assoc, append-nil}
use mathlib.Core.Option.{Option, some, none-ne-some, some-injective}
use lib.Dec.{T, eqb}
use lib.ListN.{length, take, drop, get_or, length-append, take-append-drop}
use lib.Seq.{drop-drop, take_at, drop_at}
use borrow.Author.Tests.{eq-eqb, ne_eqb, eqb-false}
use Rattle.paper.specs.Bytes.{Bytes}
use Rattle.paper.specs.Sizes.{is_mark}
use Rattle.paper.specs.Refusals.{given}
use Rattle.paper.specs.Records.{split, join, Part, Turn, placed, pieces, nth, and_then, part_at, path, whole, place, alter, replaced, replace}
use Rattle.paper.specs.Records.{contains, apart, reads}
use Rattle.paper.proofs.Predicates.{All, none_of, and_all, all_map, all_both}
use Rattle.paper.proofs.Splitting.{Free, Filled, filled, Told, present, told, told_map, told_then, told_both, split_filled, split_free, join_split}
use Rattle.paper.proofs.Splitting.{join_next, nth_told, getD_each, alter_filled, alter_length, getD_alter, getD_alter_other, text_of, placed_each}
use Rattle.paper.proofs.Splitting.{Inside, part, part_at_inside, found_is_own}
use Rattle.paper.proofs.Replacing.{by, Down, stop, turn, down_each, Ladder, rung, split_replaced, seen, reads_seen, seen_without, Diverge, here}
use Rattle.paper.proofs.Replacing.{below, apart_below, marks, path_down, is_replaced, new_ladder}

-- the second bytes are the first with marks added
pub data Added : Bytes → Bytes → Type 0 where
  nothing : Added [] []
  kept : {b : ℕ} {old more : Bytes} → Added old more → Added (b ∷ old) (b ∷ more)
  mark : {m : ℕ} {old more : Bytes} → is_mark m ≡ true → Added old more → Added old (m ∷ more)

-- a record made from the old one by adding marks and setting the place: the part that the address then names is exchanged for the new bytes
pub record Made (item : Bytes) (a v s : ℕ) (new made : Bytes) : Type 0 where
  pub marked : Bytes
  pub added : Added item marked
  pub part : Part
  pub there : place marked a v s ≡ some part
  pub set : made ≡ take part.start marked ++ new ++ drop (part.start + length part.text) marked

-- What bytes measure, their length and how many there are of a mark, and what their pieces do.

abbrev one_if : Bool → ℕ
one_if true = 1
one_if false = 0

-- how many of the bytes are m
count : ℕ → Bytes → ℕ
count m [] = 0
count m (b ∷ bs) = one_if (eqb b m) + count m bs

total : (Bytes → ℕ) → List Bytes → ℕ
total f [] = 0
total f (p ∷ ps) = f p + total f ps

abbrev Adds : (Bytes → ℕ) → Type 0
Adds f = (front back : Bytes) → f (front ++ back) ≡ f front + f back

count_adds : (m : ℕ) → Adds (count m)
unfolding count
count_adds m [] back = omega arith
count_adds m (b ∷ front) back = omega (arith, count_adds m front back)

free_none : (m : ℕ) {bs : Bytes} → Free m bs → count m bs ≡ 0
unfolding count
free_none m none_of = refl
free_none m (and_all h hs) = rw (h, free_none m hs)

total_none : (f : Bytes → ℕ) {ps : List Bytes} → All (λ p. f p ≡ 0) ps → total f ps ≡ 0
unfolding total
total_none f none_of = refl
total_none f (and_all h hs) = rw (h, total_none f hs)

join_adds : (f : Bytes → ℕ) → Adds f → (m : ℕ) (p : Bytes) (ps : List Bytes)
    → f (join m (p ∷ ps)) ≡ total f (p ∷ ps) + length ps * f (m ∷ [])
unfolding join total
join_adds f adds m p [] = simp zero-mul (omega arith)
join_adds f adds m p (q ∷ ps) =
    simp suc-mul (omega (arith, adds p (m ∷ join m (q ∷ ps)), adds (m ∷ []) (join m (q ∷ ps)), join_adds f adds m q ps))

-- with one mark more, the bytes are the pieces with a mark after each
split_adds : (f : Bytes → ℕ) → Adds f → (m : ℕ) (bs : Bytes)
    → f bs + f (m ∷ []) ≡ total f (split m bs) + length (split m bs) * f (m ∷ [])
split_adds f adds m bs = rw join_split at (joined (split_filled m bs))
  where
    joined : {ps : List Bytes} → Filled ps → f (join m ps) + f (m ∷ []) ≡ total f ps + length ps * f (m ∷ [])
    joined (filled {p = p} {ps = ps}) = simp suc-mul (omega (arith, join_adds f adds m p ps))

split_length : (m : ℕ) (bs : Bytes) → suc (length bs) ≡ total length (split m bs) + length (split m bs)
split_length m bs = omega (arith, split_adds length length-append m bs)

split_count : (m : ℕ) (bs : Bytes) → suc (count m bs) ≡ length (split m bs)
unfolding count
split_count m bs =
    let free = total_none (count m) (all_map (λ p h. free_none m h) (split_free m bs)) in
    omega (arith, rw (eq-eqb m m refl) at (split_adds (count m) (count_adds m) m bs))

split_others : (m k : ℕ) (bs : Bytes) → eqb k m ≡ false → count k bs ≡ total (count k) (split m bs)
unfolding count
split_others m k bs h =
    omega (arith, rw (ne_eqb m k (λ e. eqb-false k m h (sym e))) at (split_adds (count k) (count_adds k) m bs))

-- all pieces but the n-th are alike, missing counted as empty
abbrev Beside : ℕ → List Bytes → List Bytes → Type 0
Beside n ps qs = (k : ℕ) → k ≢ n → get_or ps k [] ≡ get_or qs k []

-- then the n-th make all the difference
beside_total : (f : Bytes → ℕ) → f [] ≡ 0 → (n : ℕ) (ps qs : List Bytes) → Beside n ps qs
    → total f ps + f (get_or qs n []) ≡ total f qs + f (get_or ps n [])
unfolding total
beside_total f e n [] [] h = refl
beside_total f e zero [] (q ∷ qs) h =
    omega (arith, ap f (h 1 (omega arith)), beside_total f e zero [] qs (λ k _. h (suc k) (omega arith)))
beside_total f e (suc n) [] (q ∷ qs) h =
    omega (arith, ap f (h 0 (omega arith)), beside_total f e n [] qs (λ k i. h (suc k) (omega arith)))
beside_total f e zero (p ∷ ps) [] h =
    omega (arith, ap f (h 1 (omega arith)), beside_total f e zero ps [] (λ k _. h (suc k) (omega arith)))
beside_total f e (suc n) (p ∷ ps) [] h =
    omega (arith, ap f (h 0 (omega arith)), beside_total f e n ps [] (λ k i. h (suc k) (omega arith)))
beside_total f e zero (p ∷ ps) (q ∷ qs) h =
    omega (arith, ap f (h 1 (omega arith)), beside_total f e zero ps qs (λ k _. h (suc k) (omega arith)))
beside_total f e (suc n) (p ∷ ps) (q ∷ qs) h =
    omega (arith, ap f (h 0 (omega arith)), beside_total f e n ps qs (λ k i. h (suc k) (omega arith)))

-- A record that is made so has the marks of the turns that there were, or more.

added_count : (m : ℕ) {old more : Bytes} → Added old more → count m old ≤ count m more
unfolding count
added_count m nothing = omega arith
added_count m (kept r) = omega (arith, added_count m r)
added_count m (mark h r) = omega (arith, added_count m r)

inside_count : (m : ℕ) {w p : Part} → Inside w p → count m p.text ≤ count m w.text
inside_count m i = rw i.text_is (simp count_adds (omega arith))

-- a part holds none of the marks of the turns that lead to it
part_unmarked : (ts : List Turn) (w : Part) → Told (λ p. All (λ t. count t.mark p.text ≡ 0) ts) (part_at ts w)
unfolding part_at pieces
part_unmarked [] w = present none_of
part_unmarked (t ∷ ts) w =
    told_then (part_at ts) (nth_told t.index (placed_each w.start (split_free t.mark w.text)))
    (λ q free.
    told_map (λ p (i, hs). and_all (omega (arith, inside_count t.mark i, free_none t.mark free)) hs)
    (told_both (part_at_inside ts q) (part_unmarked ts q)))

-- so it can be exchanged without taking one of them away
set_count : (m : ℕ) (bs new : Bytes) (p : Part) → p.text ≡ take (length p.text) (drop p.start bs) → count m p.text ≡ 0
    → count m bs ≤ count m (take p.start bs ++ new ++ drop (p.start + length p.text) bs)
set_count m bs new p own unmarked =
    let front = rw count_adds at (ap (count m) (take-append-drop p.start bs)) in
    let back = rw count_adds at (ap (count m) (take-append-drop (length p.text) (drop p.start bs))) in
    simp (count_adds, ← drop-drop) (omega (arith, ap (count m) own))

made_count : {item : Bytes} {a v s : ℕ} {new made : Bytes} → Made item a v s new made
    → All (λ t. count t.mark item ≤ count t.mark made) (path a v s)
unfolding place
made_count {item} {a} {v} {s} {new} {made} r =
    all_map (λ t unmarked. keeps t.mark unmarked) (told (subst (Told _) r.there (part_unmarked (path a v s) (whole r.marked))))
  where
    keeps : (m : ℕ) → count m r.part.text ≡ 0 → count m item ≤ count m made
    keeps m unmarked =
        let own = found_is_own r.marked a v s r.part r.there in
        rw r.set (omega (arith, added_count m r.added, set_count m r.marked new r.part own unmarked))

-- Bytes with those marks, in which the turns lead to the new bytes and all apart reads as before, are as long as replacing's, turn by turn.

-- where the turns lead on, the first one's piece is there
turn_there : (k : Part → Option Part) {new : Bytes} (n start : ℕ) (ps : List Bytes)
    → text_of (and_then (nth n (placed start ps)) k) ≡ some new
    → (at : ℕ) × (n < length ps) × (text_of (k (part at (get_or ps n []))) ≡ some new)
unfolding nth placed
turn_there k n start [] e = absurd (none-ne-some _ e)
turn_there k zero start (p ∷ ps) e = (start, omega arith, e)
turn_there k (suc n) start (p ∷ ps) e =
    let (at, h, found) = turn_there k n (start + length p + 1) ps e in
    (at, omega arith, found)

-- the n-th piece keeps the marks that part it further
piece_count : (m k n : ℕ) (old x : Bytes) → eqb k m ≡ false → Beside n (split m old) (split m x) → count k old ≤ count k x
    → count k (get_or (split m old) n []) ≤ count k (get_or (split m x) n [])
unfolding count
piece_count m k n old x other alike h =
    omega (arith, split_others m k old other, split_others m k x other, beside_total (count k) refl n (split m old) (split m x) alike)

turn_fewest : (m : ℕ) {new : Bytes} {ms : List ℕ} {ts : List Turn} → Free m new → Free m ms → Down ms ts → (n : ℕ) (old x : Bytes)
    → count m old ≤ count m x → n < length (split m x) → Beside n (split m old) (split m x)
    → length (replaced ts new (get_or (split m old) n [])) ≤ length (get_or (split m x) n [])
    → length (replaced (by m n ∷ ts) new old) ≤ length x
turn_fewest m {new} {ts = ts} f g d n old x more there alike h =
    let change : Bytes → Bytes = λ p. replaced ts new p in
    let ps = split m old in
    omega (
      arith,
      rw (split_replaced m f g d n old) at (split_length m (replaced (by m n ∷ ts) new old)),
      split_length m x,
      split_count m old,
      split_count m x,
      alter_length n change ps,
      ap length (getD_alter n change ps),
      beside_total length refl n (alter n change ps) (split m x) (λ k other. getD_alter_other n k change ps other ∙ alike k other),
    )

turns_fewest : {new : Bytes} {ms : List ℕ} {ts : List Turn} → Ladder new ms → Down ms ts → (old : Bytes) (q : Part)
    → All (λ t. count t.mark old ≤ count t.mark q.text) ts → text_of (part_at ts q) ≡ some new
    → ((us : List Turn) → Down ms us → Diverge ts us → seen us q.text ≡ seen us old) → length (replaced ts new old) ≤ length q.text
unfolding part_at pieces replaced seen
turns_fewest {new} l stop old q counts found same = rw (some-injective q.text new found) (omega arith)
turns_fewest (rung f g l) (turn {m = m} {n = n} {ts = ts} d) old q (and_all more counts) found same =
    let (at, there, deeper) = turn_there (part_at ts) n q.start (split m q.text) found in
    let alike : Beside n (split m old) (split m q.text) = λ k other. sym (same (by m k ∷ []) (turn stop) (here other)) in
    turn_fewest m f g d n old q.text more there alike
    (turns_fewest l d (get_or (split m old) n []) (part at (get_or (split m q.text) n []))
    (all_map (λ t (other, h). piece_count m t.mark n old q.text other alike h) (all_both (down_each d g) counts)) deeper
    (λ us e v. same (by m n ∷ us) (turn e) (below v)))

diverge_apart : {ts us : List Turn} → Diverge ts us → T (apart ts us)
unfolding apart contains
diverge_apart (here {m = m} {n = n} {k = k} h) = rw (eq-eqb m m refl, ne_eqb n k (λ e. h (sym e)), ne_eqb k n h) tt
diverge_apart (below d) = rw apart_below (diverge_apart d)

-- turns down the marks of a record are the path of an address
diverge_reads : (old x : Bytes) {ts us : List Turn}
    → ((a v s : ℕ) → T (apart ts (path a v s)) → reads x (path a v s) ≡ reads old (path a v s)) → Down marks us → Diverge ts us
    → reads x us ≡ reads old us
unfolding path
diverge_reads old x same (turn {n = a} stop) d = same a 0 0 (diverge_apart d)
diverge_reads old x same (turn {n = a} (turn {n = v} stop)) d = same a (suc v) 0 (diverge_apart d)
diverge_reads old x same (turn {n = a} (turn {n = v} (turn {n = s} stop))) d = same a (suc v) (suc s) (diverge_apart d)
diverge_reads old x {ts = ts} same stop d = elim d [ ]

-- What replacing gives is made so: marks are added so that the place is there, with what it read before, and then it is set.

added_none : (bs : Bytes) → Added bs bs
added_none [] = nothing
added_none (b ∷ bs) = kept (added_none bs)

added_append : {old more rest rests : Bytes} → Added old more → Added rest rests → Added (old ++ rest) (more ++ rests)
added_append nothing s = s
added_append (kept r) s = kept (added_append r s)
added_append (mark h r) s = mark h (added_append r s)

join_added : (m : ℕ) → is_mark m ≡ true → (n : ℕ) (f : Bytes → Bytes) (ps : List Bytes) → Added (get_or ps n []) (f (get_or ps n []))
    → Added (join m ps) (join m (alter n f ps))
unfolding join alter
join_added m e zero f [] h = h
join_added m e zero f (p ∷ []) h = h
join_added m e zero f (p ∷ q ∷ ps) h = added_append h (added_none (m ∷ join m (q ∷ ps)))
join_added m e (suc n) f [] h = rw (join_next m [] (alter_filled n f [])) (mark e (join_added m e n f [] h))
join_added m e (suc n) f (p ∷ []) h =
    rw (join_next m p (alter_filled n f [])) (rw append-nil at (added_append (added_none p) (mark e (join_added m e n f [] h))))
join_added m e (suc n) f (p ∷ q ∷ ps) h =
    rw (join_next m p (alter_filled n f (q ∷ ps))) (added_append (added_none p) (kept (join_added m e n f (q ∷ ps) h)))

place_added : {ms : List ℕ} {ts : List Turn} → Down ms ts → All (λ m. is_mark m ≡ true) ms → (old : Bytes)
    → Added old (replaced ts (seen ts old) old)
unfolding replaced seen
place_added stop hs old = added_none old
place_added (turn {m = m} {n = n} {ts = ts} d) (and_all h hs) old =
    let inner = get_or (split m old) n [] in
    rw join_split at (join_added m h n (replaced ts (seen ts inner)) (split m old) (place_added d hs inner))

-- where the n-th piece stands, and what stands around it, whatever it is altered to
record Around (m n start : ℕ) (ps : List Bytes) : Type 0 where
  before : Bytes
  after : Bytes
  nth_is : (f : Bytes → Bytes) → nth n (placed start (alter n f ps)) ≡ some (part (start + length before) (f (get_or ps n [])))
  join_is : (f : Bytes → Bytes) → join m (alter n f ps) ≡ before ++ f (get_or ps n []) ++ after

around_next : (m n start : ℕ) (p : Bytes) (ps : List Bytes) → Around m n (start + length p + 1) ps → Around m (suc n) start (p ∷ ps)
unfolding alter nth placed
around_next m n start p ps r =
    record {
      before = p ++ m ∷ r.before;
      after = r.after;
      nth_is = λ f. r.nth_is f ∙ ap (λ at. some (part at (f (get_or ps n [])))) (simp length-append (omega arith));
      join_is = λ f. join_next m p (alter_filled n f ps) ∙ ap (λ bs. p ++ m ∷ bs) (r.join_is f) ∙ simp append_assoc;
    }

around : (m n start : ℕ) (ps : List Bytes) → Around m n start ps
unfolding join alter nth placed
around m zero start [] = record { before = []; after = []; nth_is = λ f. simp add-zero; join_is = λ f. sym (append-nil (f [])) }
around m zero start (p ∷ []) = record { before = []; after = []; nth_is = λ f. simp add-zero; join_is = λ f. sym (append-nil (f p)) }
around m zero start (p ∷ q ∷ ps) = record { before = []; after = m ∷ join m (q ∷ ps); nth_is = λ f. simp add-zero; join_is = λ f. refl }
around m (suc n) start [] =
    let r = around_next m n start [] [] (around m n (start + 0 + 1) []) in
    record { before = r.before; after = r.after; nth_is = r.nth_is; join_is = r.join_is }
around m (suc n) start (p ∷ ps) = around_next m n start p ps (around m n (start + length p + 1) ps)

-- the turns lead to a part of the marked bytes, and the new bytes in its place give those made
record Exchanged (start : ℕ) (ts : List Turn) (marked new made : Bytes) : Type 0 where
  found : Part
  there : part_at ts (part start marked) ≡ some found
  before : Bytes
  after : Bytes
  start_is : found.start ≡ start + length before
  marked_is : marked ≡ before ++ found.text ++ after
  made_is : made ≡ before ++ new ++ after

exchanged : {new : Bytes} {ms : List ℕ} {ts : List Turn} → Ladder new ms → Down ms ts → (start : ℕ) (old : Bytes)
    → Exchanged start ts (replaced ts (seen ts old) old) new (replaced ts new old)
unfolding part_at pieces replaced seen
exchanged {new} l stop start old =
    record {
      found = part start old;
      there = refl;
      before = [];
      after = [];
      start_is = omega arith;
      marked_is = sym (append-nil old);
      made_is = sym (append-nil new);
    }
exchanged (rung f g l) (turn {m = m} {n = n} {ts = ts} d) start old =
    let w = around m n start (split m old) in
    let r = exchanged l d (start + length w.before) (get_or (split m old) n []) in
    let free = seen_without (λ b. eqb b m) ts (getD_each n none_of (split_free m old)) in
    record {
      found = r.found;
      there = rw (split_replaced m free g d n old, w.nth_is) r.there;
      before = w.before ++ r.before;
      after = r.after ++ w.after;
      start_is = simp length-append (omega (arith, r.start_is));
      marked_is = w.join_is _ ∙ ap (λ bs. w.before ++ bs ++ w.after) r.marked_is ∙ simp append_assoc;
      made_is = w.join_is _ ∙ ap (λ bs. w.before ++ bs ++ w.after) r.made_is ∙ simp append_assoc;
    }

exchanged_set : {ts : List Turn} {marked new made : Bytes} (r : Exchanged 0 ts marked new made)
    → made ≡ take r.found.start marked ++ new ++ drop (r.found.start + length r.found.text) marked
exchanged_set {marked} r =
    let from : length r.before ≡ r.found.start = omega (arith, r.start_is) in
    let to : length (r.before ++ r.found.text) ≡ r.found.start + length r.found.text = simp length-append (omega arith) in
    let front : take r.found.start marked ≡ r.before = rw (r.marked_is, append_assoc, take_at) in
    let back : drop (r.found.start + length r.found.text) marked ≡ r.after = rw (r.marked_is, drop_at) in
    r.made_is ∙ sym (rw (front, back))

-- The theorems, whenever replacing answers.

module _ (item : Bytes) (a v s : ℕ) (new : Bytes) (room : ℕ) {answer : Bytes} (done : replace item a v s new room ≡ given answer) where
  -- "made by adding marks only"
  pub replacing_makes : Made item a v s new answer
  unfolding place whole is_mark
  replacing_makes =
      let r = exchanged (new_ladder item a v s new room done) (path_down a v s) 0 item in
      record {
        marked = replaced (path a v s) (seen (path a v s) item) item;
        added = place_added (path_down a v s) (and_all refl (and_all refl (and_all refl none_of))) item;
        part = r.found;
        there = r.there;
        set = rw (is_replaced item a v s new room done) at (exchanged_set r);
      }

  -- "as few as will do": no record made so, where finding at the address gives the new bytes and each address apart reads as before, is shorter
  pub as_few_as_will_do : (made : Bytes) → Made item a v s new made → text_of (place made a v s) ≡ some new
      → ((a' v' s' : ℕ) → T (apart (path a v s) (path a' v' s')) → reads made (path a' v' s') ≡ reads item (path a' v' s'))
      → length answer ≤ length made
  unfolding place whole
  as_few_as_will_do made r found same =
      rw (← is_replaced item a v s new room done)
      (turns_fewest (new_ladder item a v s new room done) (path_down a v s) item (whole made) (made_count r) found
      (λ us d v. simp reads_seen at (diverge_reads item made same d v)))
