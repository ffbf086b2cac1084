-- Document 01, "The record and its addresses": "Afterwards finding at the address gives the new bytes"; "Each address apart from the
-- replaced one reads as before, missing counted as empty"; and the result is a record that finding accepts. Assumes nothing.
use Prim.Native.Nat.{ℕ, zero, suc, ◌+◌}
use native.Mathlib.Decide.{ℕ_discrete}
use mathlib.Core.Path.{◌≡◌, refl, sym, ap, ◌∙◌}
use mathlib.Core.Logic.{◌≢◌}
use mathlib.Core.Bool.{Bool, true, false, true≢false}
use mathlib.Core.List.{List, [], ◌∷◌}
use mathlib.Core.Option.{Option, none, some, none-ne-some, some-injective, map-eq-some_iff}
use lib.Dec.{T, eqb, leb}
use lib.ListN.{length, get_or}
use borrow.Author.Tests.{eq-eqb, ne_eqb}
use Rattle.paper.specs.Bytes.{Bytes, any}
use Rattle.paper.specs.Sizes.{segment_mark, attribute_mark, value_mark, subvalue_mark, buffer_mark, is_mark, is_outer_mark, record_most, entry_most}
use Rattle.paper.specs.Refusals.{Res, given, refuse◌unless◌, refuse◌when◌, over_long_record, bad_byte, over_long_entry, mark_in_element, short_output}
use Rattle.paper.specs.Records.{split, Part, Turn, placed, pieces, nth, and_then, part_at, text_or_empty, path, whole, place, lawful_id}
use Rattle.paper.specs.Records.{lawful_record, lawful_address, find, extract, alter, replaced, replace, contains, apart, reads}
use Rattle.paper.proofs.Predicates.{All, none_of, and_all, all_map}
use Rattle.paper.proofs.Splitting.{Without, Free, any_without, without_any, split_free, split_without, join_without, split_join, getD_each}
use Rattle.paper.proofs.Splitting.{alter_filled, alter_each, nth_alter, getD_alter, getD_alter_other, text_of, nth_placed}
use Rattle.paper.proofs.Refusing.{Passed, pass, passed, when_passed}

abbrev pub by : ℕ → ℕ → Turn
by m n = record { mark = m; index = n }

-- the marks of the turns are the first of `ms`: every address goes down the same marks
pub data Down : List ℕ → List Turn → Type 0 where
  stop : {ms : List ℕ} → Down ms []
  turn : {m n : ℕ} {ms : List ℕ} {ts : List Turn} → Down ms ts → Down (m ∷ ms) (by m n ∷ ts)

pub down_each : {P : ℕ → Type 0} {ms : List ℕ} {ts : List Turn} → Down ms ts → All P ms → All (λ t. P t.mark) ts
down_each stop hs = none_of
down_each (turn d) (and_all h hs) = and_all h (down_each d hs)

-- marks that the new bytes are free of, no two alike
pub data Ladder (new : Bytes) : List ℕ → Type 0 where
  end : Ladder new []
  rung : {m : ℕ} {ms : List ℕ} → Free m new → Free m ms → Ladder new ms → Ladder new (m ∷ ms)

-- bytes that are in neither the new nor the old are not in the result, unless as a mark that was added
replaced_without : (test : ℕ → Bool) {ms : List ℕ} {ts : List Turn} {new : Bytes} → Down ms ts → Without test ms → Without test new
    → (old : Bytes) → Without test old → Without test (replaced ts new old)
unfolding replaced
replaced_without test stop hs h old k = h
replaced_without test (turn {m = m} {n = n} d) (and_all e hs) h old k =
    join_without test m e (alter_each n _ none_of (λ p q. replaced_without test d hs h p q) (split_without test m k))

-- the result has the pieces that there were, but for the one that the turn names
pub split_replaced : (m : ℕ) {new : Bytes} {ms : List ℕ} {ts : List Turn} → Free m new → Free m ms → Down ms ts → (n : ℕ) (old : Bytes)
    → split m (replaced (by m n ∷ ts) new old) ≡ alter n (λ p. replaced ts new p) (split m old)
unfolding replaced
split_replaced m f g d n old =
    split_join m (alter_filled n _ _) (alter_each n _ none_of (λ p k. replaced_without (λ b. eqb b m) d g f p k) (split_free m old))

-- Finding the new bytes.

then_text : (o : Option Part) (k : Part → Option Part) (b : Bytes) {c : Option Bytes} → text_of o ≡ some b
    → ((q : Part) → q.text ≡ b → text_of (k q) ≡ c) → text_of (and_then o k) ≡ c
then_text none k b e h = absurd (none-ne-some b e)
then_text (some q) k b e h = h q (some-injective q.text b e)

part_at_replaced : {new : Bytes} {ms : List ℕ} {ts : List Turn} → Ladder new ms → Down ms ts → (old : Bytes) (q : Part)
    → q.text ≡ replaced ts new old → text_of (part_at ts q) ≡ some new
unfolding part_at pieces replaced
part_at_replaced l stop old q e = ap some e
part_at_replaced (rung f g l) (turn {m = m} {n = n} {ts = ts} d) old q e =
    then_text (nth n (pieces m q)) (λ r. part_at ts r) _
    (nth_placed n q.start (split m q.text)
    ∙ ap (λ bs. nth n (split m bs)) e
    ∙ ap (λ ps. nth n ps) (split_replaced m f g d n old)
    ∙ nth_alter n _ (split m old))
    (λ r i. part_at_replaced l d (get_or (split m old) n []) r i)

-- Reading elsewhere.

-- what the turns read of a record, places left out and missing counted as empty: a law on what may be looked at goes by this
unfoldable pub seen : List Turn → Bytes → Bytes
seen [] bs = bs
seen (t ∷ ts) bs = seen ts (get_or (split t.mark bs) t.index [])

lone : (n : ℕ) → get_or {A = Bytes} ([] ∷ []) n [] ≡ []
lone zero = refl
lone (suc n) = refl

seen_empty : (ts : List Turn) → seen ts [] ≡ []
unfolding seen split
seen_empty [] = refl
seen_empty (t ∷ ts) = ap (λ bs. seen ts bs) (lone t.index) ∙ seen_empty ts

then_seen : (ts : List Turn) → ((q : Part) → text_or_empty (part_at ts q) ≡ seen ts q.text) → (n start : ℕ) (ps : List Bytes)
    → text_or_empty (and_then (nth n (placed start ps)) (λ q. part_at ts q)) ≡ seen ts (get_or ps n [])
unfolding nth placed
then_seen ts h n start [] = sym (seen_empty ts)
then_seen ts h zero start (p ∷ ps) = h (record { start = start; text = p })
then_seen ts h (suc n) start (p ∷ ps) = then_seen ts h n (start + length p + 1) ps

part_seen : (ts : List Turn) (p : Part) → text_or_empty (part_at ts p) ≡ seen ts p.text
unfolding part_at seen pieces
part_seen [] p = refl
part_seen (t ∷ ts) p = then_seen ts (λ q. part_seen ts q) t.index p.start (split t.mark p.text)

-- what an address reads is what its turns see, wherever it stands
pub reads_seen : (item : Bytes) (ts : List Turn) → reads item ts ≡ seen ts item
unfolding reads whole
reads_seen item ts = part_seen ts (whole item)

pub seen_without : (test : ℕ → Bool) (ts : List Turn) {bs : Bytes} → Without test bs → Without test (seen ts bs)
unfolding seen
seen_without test [] h = h
seen_without test (t ∷ ts) h = seen_without test ts (getD_each t.index none_of (split_without test t.mark h))

-- turns that part ways: to another piece by the same mark, here or further down
pub data Diverge : List Turn → List Turn → Type 0 where
  here : {m n k : ℕ} {ts us : List Turn} → k ≢ n → Diverge (by m n ∷ ts) (by m k ∷ us)
  below : {t : Turn} {ts us : List Turn} → Diverge ts us → Diverge (t ∷ ts) (t ∷ us)

pub apart_below : (t : Turn) (ts us : List Turn) → apart (t ∷ ts) (t ∷ us) ≡ apart ts us
unfolding apart contains
apart_below t ts us = rw (eq-eqb t.mark t.mark refl, eq-eqb t.index t.index refl)

diverge_turn : {m n k : ℕ} {ts us : List Turn} → Dec (k ≡ n) → (T (apart ts us) → Diverge ts us)
    → T (apart (by m n ∷ ts) (by m k ∷ us)) → Diverge (by m n ∷ ts) (by m k ∷ us)
diverge_turn (no other) deeper h = here other
diverge_turn (yes same) deeper h = rw same (below (deeper (rw (same, apart_below) at h)))

apart_diverge : {ms : List ℕ} {ts us : List Turn} → Down ms ts → Down ms us → T (apart ts us) → Diverge ts us
unfolding apart contains
apart_diverge stop e h = absurd h
apart_diverge (turn d) stop h = absurd h
apart_diverge (turn {n = n} d) (turn {n = k} e) h = diverge_turn (ℕ_discrete k n) (λ i. apart_diverge d e i) h

seen_replaced : {new : Bytes} {ms : List ℕ} {ts us : List Turn} → Down ms ts → Ladder new ms → Diverge ts us → (old : Bytes)
    → seen us (replaced ts new old) ≡ seen us old
unfolding seen
seen_replaced (turn {m = m} {n = n} d) (rung f g l) (here {k = k} {us = us} h) old =
    ap (λ ps. seen us (get_or ps k [])) (split_replaced m f g d n old) ∙ ap (λ bs. seen us bs) (getD_alter_other n k _ (split m old) h)
seen_replaced (turn {m = m} {n = n} d) (rung f g l) (below {us = us} h) old =
    ap (λ ps. seen us (get_or ps n [])) (split_replaced m f g d n old)
    ∙ ap (λ bs. seen us bs) (getD_alter n _ (split m old))
    ∙ seen_replaced d l h (get_or (split m old) n [])
seen_replaced {new = new} {us = us} (stop {ms = ms}) _ d old = elim d [ ]

-- The marks of an address.

abbrev pub marks : List ℕ
marks = attribute_mark ∷ value_mark ∷ subvalue_mark ∷ []

pub path_down : (a v s : ℕ) → Down marks (path a v s)
unfolding path
path_down a zero s = turn stop
path_down a (suc v) zero = turn (turn stop)
path_down a (suc v) (suc s) = turn (turn (turn stop))

-- a test that m passes and b fails tells them apart
unlike : (test : ℕ → Bool) (m b : ℕ) → test m ≡ true → test b ≡ false → eqb b m ≡ false
unlike test m b h k = ne_eqb b m (λ e. true≢false (sym h ∙ ap test (sym e) ∙ k))

unmarked_free : {new : Bytes} (m : ℕ) → is_mark m ≡ true → Without is_mark new → Free m new
unmarked_free m h f = all_map (λ b. unlike is_mark m b h) f

ladder : {new : Bytes} → Without is_mark new → Ladder new marks
unfolding is_mark
ladder f =
    rung (unmarked_free attribute_mark refl f) (and_all refl (and_all refl none_of))
    (rung (unmarked_free value_mark refl f) (and_all refl none_of) (rung (unmarked_free subvalue_mark refl f) none_of end))

not_outer : (b : ℕ) → is_mark b ≡ false → is_outer_mark b ≡ false
unfolding is_mark is_outer_mark
not_outer b h = rw (unlike is_mark buffer_mark b refl h, unlike is_mark segment_mark b refl h)

-- The theorems.

record_tests : Bytes → List (Res (Unit {0}))
record_tests item =
    (refuse over_long_record unless leb (length item) record_most) ∷ (refuse bad_byte when any is_outer_mark item) ∷ []

replace_tests : Bytes → ℕ → ℕ → ℕ → Bytes → ℕ → Bytes → List (Res (Unit {0}))
replace_tests item a v s new room answer =
    lawful_record item
    ∷ lawful_address a v s
    ∷ (refuse over_long_entry unless leb (length new) entry_most)
    ∷ (refuse mark_in_element when any is_mark new)
    ∷ lawful_id answer
    ∷ (refuse over_long_record unless leb (length answer) record_most)
    ∷ (refuse short_output unless leb (length answer) room)
    ∷ []

-- what replacing has tested when it answers
record Granted (item : Bytes) (a v s : ℕ) (new answer : Bytes) : Type 0 where
  item_inner : Without is_outer_mark item
  address : lawful_address a v s ≡ given tt
  unmarked : Without is_mark new
  id : lawful_id answer ≡ given tt
  short : (refuse over_long_record unless leb (length answer) record_most) ≡ given tt

record_inner : (item : Bytes) → Passed (record_tests item) → Without is_outer_mark item
unfolding record_tests
record_inner item (and_all _ (and_all inner none_of)) = any_without is_outer_mark item (when_passed bad_byte _ inner)

granted : (item : Bytes) (a v s : ℕ) (new : Bytes) (room : ℕ) (answer : Bytes) → Passed (replace_tests item a v s new room answer)
    → Granted item a v s new answer
unfolding lawful_record record_tests replace_tests
granted item a v s new room answer (and_all lawful (and_all address (and_all _ (and_all unmarked (and_all id (and_all short (and_all _ none_of))))))) =
    record {
      item_inner = record_inner item (passed (record_tests item) (lawful_id item) lawful).0;
      address = address;
      unmarked = any_without is_mark new (when_passed mark_in_element _ unmarked);
      id = id;
      short = short;
    }

-- whenever replacing answers
module _ (item : Bytes) (a v s : ℕ) (new : Bytes) (room : ℕ) {answer : Bytes} (done : replace item a v s new room ≡ given answer) where
  way : Passed (replace_tests item a v s new room (replaced (path a v s) new item)) × (given (replaced (path a v s) new item) ≡ given answer)
  unfolding replace replace_tests
  way = passed (replace_tests item a v s new room (replaced (path a v s) new item)) (given (replaced (path a v s) new item)) done

  pub is_replaced : replaced (path a v s) new item ≡ answer
  is_replaced = let e = way.1 in cc

  facts : Granted item a v s new answer
  facts = granted item a v s new room answer (rw is_replaced at way.0)

  pub new_ladder : Ladder new marks
  new_ladder = ladder facts.unmarked

  answer_inner : Without is_outer_mark answer
  unfolding is_outer_mark
  answer_inner =
      let marks_inner : Without is_outer_mark marks = and_all refl (and_all refl (and_all refl none_of)) in
      let new_inner = all_map not_outer facts.unmarked in
      rw is_replaced at (replaced_without is_outer_mark (path_down a v s) marks_inner new_inner item facts.item_inner)

  -- the result is a record that finding accepts
  pub replaced_is_lawful : lawful_record answer ≡ given tt
  unfolding lawful_record
  replaced_is_lawful =
      pass (and_all facts.short (and_all (ap (λ t. refuse bad_byte when t) (without_any is_outer_mark answer_inner)) none_of)) facts.id

  -- "Afterwards finding at the address gives the new bytes": found there, and so extracted
  pub found_after_replace : (p : Part) × (find answer a v s ≡ given (some p)) × (p.text ≡ new)
  unfolding find place whole
  found_after_replace =
      let there = part_at_replaced new_ladder (path_down a v s) item (whole answer) (sym is_replaced) in
      let (p, e, i) = (map-eq-some_iff (λ q. q.text) (place answer a v s)).0 there in
      (p, pass (and_all replaced_is_lawful (and_all facts.address none_of)) (ap given e), i)

  pub find_after_replace : extract (find answer a v s) ≡ new
  unfolding extract
  find_after_replace = let (p, e, i) = found_after_replace in rw e i

  -- "Each address apart from the replaced one reads as before, missing counted as empty", be it lawful or not
  pub apart_reads_as_before : (a' v' s' : ℕ) → T (apart (path a v s) (path a' v' s'))
      → reads answer (path a' v' s') ≡ reads item (path a' v' s')
  apart_reads_as_before a' v' s' h =
      let ways = apart_diverge (path_down a v s) (path_down a' v' s') h in
      let e = seen_replaced (path_down a v s) new_ladder ways item in
      simp (reads_seen, ← is_replaced) e
