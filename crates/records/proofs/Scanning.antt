-- A walk mark by mark, and the pieces between the marks: where a scan stops, what stands there, and what is written there when that is made anew.
use Rattle.std.specs.Prelude.{if◌then◌else◌}
use mathlib.Core.Path.{◌≡◌, refl, sym, ap, ◌∙◌}
use mathlib.Core.Bool.{Bool, true, false, true≢false}
use mathlib.Core.List.{List, [], ◌∷◌, ◌++◌, append_assoc, append-nil}
use mathlib.Core.Option.{Option, none, some}
use Prim.Native.Nat.{ℕ, zero, suc, ◌+◌, ◌≤◌}
use native.Mathlib.Omega.{arith}
use lib.ListN.{length, take, drop, replicate, length-append, length-drop, take-append-drop}
use lib.Seq.{drop-drop, take-add, take-append_seam, drop-append_seam}
use lib.Dec.{eqb, eqb-suc-zero}
use borrow.Author.Tests.{eq-eqb, ne_eqb, eqb-false}
use Rattle.paper.specs.Bytes.{Bytes, within}
use Rattle.paper.specs.Sizes.{attribute_mark}
use Rattle.paper.specs.Records.{split, join, alter, Part, placed, nth}
use Rattle.paper.proofs.Ranges.{within_yes, within_true, not_within}
use Rattle.paper.proofs.Predicates.{All, none_of, and_all, all_map, all_both}
use Rattle.paper.proofs.Splitting.{Without, Filled, filled, split_filled, join_split, join_next, alter_filled, split_free, split_without}
use Rattle.lent.specs.Scan.{upto}
use Rattle.lent.proofs.Pieces.{take_upto}
use Rattle.records.specs.Scan.{skip}
use Rattle.records.specs.declared.Stop.{Stop}
use Rattle.records.proofs.Turns.{skip_none}

-- ---- a piece, and what stands behind it

-- no mark from m on
abbrev Below : ℕ → Bytes → Type 0
Below m bs = Without (within m attribute_mark) bs

-- nothing, or a mark from m on first
pub data Shut (m : ℕ) : Bytes → Type 0 where
  ended : Shut m []
  closed : {b : ℕ} {bs : Bytes} → within m attribute_mark b ≡ true → Shut m (b ∷ bs)

-- what stands behind a piece: from the first mark from m on
unfoldable pub behind : ℕ → Bytes → Bytes
behind m bs = drop (length (upto m attribute_mark bs)) bs

upto_behind : (m : ℕ) (bs : Bytes) → upto m attribute_mark bs ++ behind m bs ≡ bs
unfolding behind
upto_behind m bs = ap (λ (l : Bytes). l ++ drop (length (upto m attribute_mark bs)) bs) (sym (take_upto m attribute_mark bs)) ∙ take-append-drop (length (upto m attribute_mark bs)) bs

upto_below : (m : ℕ) (bs : Bytes) → Below m (upto m attribute_mark bs)
unfolding upto
upto_below m [] = none_of
upto_below m (b ∷ bs) = go (within m attribute_mark b) refl (upto_below m bs)
  where
    go : (t : Bool) → within m attribute_mark b ≡ t → Below m (upto m attribute_mark bs) → Below m (if t then [] else (b ∷ upto m attribute_mark bs))
    go true e h = none_of
    go false e h = and_all e h

behind_shut : (m : ℕ) (bs : Bytes) → Shut m (behind m bs)
unfolding behind upto
behind_shut m [] = ended
behind_shut m (b ∷ bs) = go (within m attribute_mark b) refl (behind_shut m bs)
  where
    go : (t : Bool) → within m attribute_mark b ≡ t → Shut m (drop (length (upto m attribute_mark bs)) bs) → Shut m (drop (length (if t then [] else (b ∷ upto m attribute_mark bs))) (b ∷ bs))
    go true e s = closed e
    go false e s = s

pub shut_lower : {m : ℕ} {bs : Bytes} → Shut (suc m) bs → Shut m bs
shut_lower ended = ended
shut_lower {m} (closed {b = b} e) =
    let w = within_true (suc m) attribute_mark b e in
    closed (within_yes m attribute_mark b (omega arith) (omega arith))

pub piece_ends : {m : ℕ} {p t : Bytes} → Below m p → Shut m t → (upto m attribute_mark (p ++ t) ≡ p) × (behind m (p ++ t) ≡ t)
unfolding upto behind
piece_ends none_of ended = (refl, refl)
piece_ends none_of (closed e) = (rw e, rw e)
piece_ends (and_all {a = b} h hs) s =
    let r = piece_ends hs s in
    (rw h (ap (λ (l : Bytes). b ∷ l) r.0), rw h r.1)

no_bytes : (l : Bytes) → length l ≤ 0 → l ≡ []
no_bytes [] h = refl
no_bytes (b ∷ l) h = absurd (omega arith)

-- a place is there where no mark is left to pass
abbrev pub none_left : ℕ → Option Part → Option Part
none_left n p = if eqb n 0 then p else none

abbrev pub part : ℕ → Bytes → Part
part at text = record { start = at; text = text }

-- the piece that begins at a place, by the mark m and those above it
abbrev pub piece_at : ℕ → Bytes → ℕ → Part
piece_at m item at = part at (upto m attribute_mark (drop at item))

-- No mark is to be made yet, or the piece at hand is at its end: no later scan moves on.
pub data Way (m : ℕ) : Bytes → Bytes → Type 0 where
  clear : {bs : Bytes} → Way m [] bs
  shut : {made bs : Bytes} → Shut m bs → Way m made bs

swapped : (a made front r x : Bytes) → made ++ front ≡ front ++ made → a ++ made ++ (front ++ (r ++ x)) ≡ a ++ front ++ (made ++ r) ++ x
swapped a made front r x e = simp append_assoc (ap (λ (l : Bytes). a ++ l) (sym (append_assoc made front (r ++ x)) ∙ ap (λ (l : Bytes). l ++ (r ++ x)) e ∙ append_assoc front made (r ++ x)))

module _ (m : ℕ) (low : m ≤ attribute_mark) where
  -- a byte below m is neither m nor a mark above it
  above : (b : ℕ) → within m attribute_mark b ≡ false → (within (suc m) attribute_mark b ≡ false) × (eqb b m ≡ false)
  above b h = (
    not_within (suc m) attribute_mark b (λ l k. true≢false (sym (within_yes m attribute_mark b (omega arith) (omega arith)) ∙ h)),
    ne_eqb b m (λ e. true≢false (sym (within_yes m attribute_mark b (omega arith) (omega arith)) ∙ h)),
  )

  below : (b : ℕ) → (eqb b m ≡ false) × (within (suc m) attribute_mark b ≡ false) → within m attribute_mark b ≡ false
  below b h =
      let ne = eqb-false b m h.0 in
      not_within m attribute_mark b (λ l k. true≢false (sym (within_yes (suc m) attribute_mark b (omega arith) (omega arith)) ∙ h.1))

  split_below : {bs : Bytes} → Below (suc m) bs → All (Below m) (split m bs)
  split_below {bs} h = all_map (λ p k. all_map below (all_both k.0 k.1)) (all_both (split_free m bs) (split_without (within (suc m) attribute_mark) m h))

  -- ---- the scan of a piece

  skip_piece : {p : Bytes} → Below m p → (q : Bytes) (at n : ℕ) → skip m (p ++ q) at (suc n) ≡ skip m q (at + length p) (suc n)
  unfolding skip
  skip_piece none_of q at n =
      let e : at ≡ at + 0 = omega arith in
      ap (λ (k : ℕ). skip m q k (suc n)) e
  skip_piece (and_all {a = b} {rest = p} h hs) q at n =
      let a = above b h in
      let e : suc at + length p ≡ at + suc (length p) = omega arith in
      rw (a.0, a.1) (skip_piece hs q (suc at) n ∙ ap (λ (k : ℕ). skip m q k (suc n)) e)

  skip_shut : {bs : Bytes} → Shut (suc m) bs → (at n : ℕ) → skip m bs at n ≡ record { at = at; left = n }
  unfolding skip
  skip_shut ended at n = refl
  skip_shut (closed e) at zero = refl
  skip_shut (closed e) at (suc n) = rw e

  skip_mark : (bs : Bytes) (at n : ℕ) → skip m (m ∷ bs) at (suc n) ≡ skip m bs (suc at) n
  unfolding skip
  skip_mark bs at n = rw (not_within (suc m) attribute_mark m (λ l k. omega arith), eq-eqb m m refl)

  -- pieces that are not there are made by marks alone
  join_made : (n : ℕ) (f : Bytes → Bytes) → join m (alter n f []) ≡ replicate n m ++ f []
  unfolding join alter
  join_made zero f = refl
  join_made (suc n) f = join_next m [] (alter_filled n f []) ∙ ap (λ (l : Bytes). m ∷ l) (join_made n f)

  -- What a scan for the n-th of the pieces ps comes to: the bytes passed and those left, and how many marks are missing.
  record Scan (ps : List Bytes) (rest : Bytes) (n : ℕ) : Type 0 where
    front : Bytes
    back : Bytes
    left : ℕ
    parts : join m ps ++ rest ≡ front ++ back
    inside : length front ≤ length (join m ps)
    fewer : left ≤ n
    stops : (at : ℕ) → skip m (join m ps ++ rest) at n ≡ record { at = at + length front; left = left }
    found : (at : ℕ) → nth n (placed at ps) ≡ none_left left (some (part (at + length front) (upto m attribute_mark back)))
    joined : (f : Bytes → Bytes) → join m (alter n f ps) ++ rest ≡ front ++ (replicate left m ++ (f (upto m attribute_mark back) ++ behind m back))
    way : Way m (replicate left m) back

  -- what stands behind the first piece
  tail : List Bytes → Bytes → Bytes
  tail [] rest = rest
  tail (p ∷ ps) rest = m ∷ (join m (p ∷ ps) ++ rest)

  join_tail : (p : Bytes) (ps : List Bytes) (rest : Bytes) → join m (p ∷ ps) ++ rest ≡ p ++ tail ps rest
  unfolding join tail
  join_tail p [] rest = refl
  join_tail p (q ∷ ps) rest = append_assoc p (m ∷ join m (q ∷ ps)) rest

  tail_shut : (ps : List Bytes) {rest : Bytes} → Shut (suc m) rest → Shut m (tail ps rest)
  unfolding tail
  tail_shut [] s = shut_lower s
  tail_shut (p ∷ ps) s = closed (within_yes m attribute_mark m (omega arith) (omega arith))

  scan_first : (p : Bytes) (ps : List Bytes) {rest : Bytes} → Below m p → Shut (suc m) rest → Scan (p ∷ ps) rest 0
  unfolding nth placed alter
  scan_first p ps {rest} h s =
      let ends = piece_ends h (tail_shut ps s) in
      let whole = join_tail p ps rest in
      record {
        front = [];
        back = join m (p ∷ ps) ++ rest;
        left = 0;
        parts = refl;
        inside = omega arith;
        fewer = omega arith;
        stops = λ at. let e : at ≡ at + 0 = omega arith in skip_none m (join m (p ∷ ps) ++ rest) at ∙ ap (λ (k : ℕ). record { at = k; left = 0 }) e;
        found = λ at. let e : at ≡ at + 0 = omega arith in rw (whole, ends.0) (ap (λ (k : ℕ). some (part k p)) e);
        joined = λ f. rw (whole, ends.0, ends.1) (join_tail (f p) ps rest);
        way = clear;
      }

  scan_last : (n : ℕ) (p : Bytes) {rest : Bytes} → Below m p → Shut (suc m) rest → Scan (p ∷ []) rest (suc n)
  unfolding nth placed alter join
  scan_last n p {rest} h s =
      let ends = piece_ends none_of (shut_lower s) in
      record {
        front = p;
        back = rest;
        left = suc n;
        parts = refl;
        inside = omega arith;
        fewer = omega arith;
        stops = λ at. skip_piece h rest at n ∙ skip_shut s (at + length p) (suc n);
        found = λ at. rw (eqb-suc-zero n);
        joined = λ f.
            rw (ends.0, ends.1, join_next m p (alter_filled n f []), join_made n f)
            (append_assoc p (m ∷ (replicate n m ++ f [])) rest ∙ ap (λ (l : Bytes). p ++ m ∷ l) (append_assoc (replicate n m) (f []) rest));
        way = shut (shut_lower s);
      }

  scan_next : (n : ℕ) (p q : Bytes) (ps : List Bytes) {rest : Bytes} → Below m p → Scan (q ∷ ps) rest n → Scan (p ∷ q ∷ ps) rest (suc n)
  unfolding nth placed alter join
  scan_next n p q ps {rest} h r =
      let more = join m (q ∷ ps) in
      let passed = length-append p (m ∷ r.front) in
      record {
        front = p ++ m ∷ r.front;
        back = r.back;
        left = r.left;
        parts = append_assoc p (m ∷ more) rest ∙ ap (λ (l : Bytes). p ++ m ∷ l) r.parts ∙ sym (append_assoc p (m ∷ r.front) r.back);
        inside = omega (arith, passed, length-append p (m ∷ more), r.inside);
        fewer = omega (arith, r.fewer);
        stops = λ at.
            let e : suc (at + length p) + length r.front ≡ at + length (p ++ m ∷ r.front) = omega arith in
            ap (λ (l : Bytes). skip m l at (suc n)) (append_assoc p (m ∷ more) rest) ∙ skip_piece h (m ∷ (more ++ rest)) at n
            ∙ skip_mark (more ++ rest) (at + length p) n ∙ r.stops (suc (at + length p)) ∙ ap (λ (k : ℕ). record { at = k; left = r.left }) e;
        found = λ at.
            let e : at + length p + 1 + length r.front ≡ at + length (p ++ m ∷ r.front) = omega arith in
            r.found (at + length p + 1) ∙ ap (λ (k : ℕ). none_left r.left (some (part k (upto m attribute_mark r.back)))) e;
        joined = λ f.
            rw (join_next m p (alter_filled n f (q ∷ ps)), append_assoc p (m ∷ join m (alter n f (q ∷ ps))) rest)
            (ap (λ (l : Bytes). p ++ m ∷ l) (r.joined f) ∙ sym (append_assoc p (m ∷ r.front) _));
        way = r.way;
      }

  scan_pieces : (n : ℕ) (p : Bytes) (ps : List Bytes) {rest : Bytes} → All (Below m) (p ∷ ps) → Shut (suc m) rest → Scan (p ∷ ps) rest n
  scan_pieces zero p ps (and_all h hs) s = scan_first p ps h s
  scan_pieces (suc n) p [] (and_all h hs) s = scan_last n p h s
  scan_pieces (suc n) p (q ∷ ps) (and_all h hs) s = scan_next n p q ps h (scan_pieces n q ps hs s)

  -- ---- the scan from a place of the record

  module _ (item : Bytes) (at n : ℕ) where
    abbrev here : Bytes
    here = drop at item

    abbrev piece : Bytes
    piece = upto (suc m) attribute_mark here

    abbrev stop : Stop
    stop = skip m here at n

    scan : Scan (split m piece) (behind (suc m) here) n
    scan = go (split m piece) (split_filled m piece) (split_below (upto_below (suc m) here))
      where
        go : (ps : List Bytes) → Filled ps → All (Below m) ps → Scan ps (behind (suc m) here) n
        go [] e h = elim e [ ]
        go (p ∷ ps) filled h = scan_pieces n p ps h (behind_shut (suc m) here)

    whole : join m (split m piece) ++ behind (suc m) here ≡ here
    whole = ap (λ (l : Bytes). l ++ behind (suc m) here) (join_split m piece) ∙ upto_behind (suc m) here

    stopped : stop ≡ record { at = at + length scan.front; left = scan.left }
    stopped = ap (λ (l : Bytes). skip m l at n) (sym whole) ∙ scan.stops at

    in_parts : here ≡ scan.front ++ scan.back
    in_parts = sym whole ∙ scan.parts

    left_over : drop stop.at item ≡ scan.back
    left_over =
        ap (λ (p : Stop). drop p.at item) stopped ∙ sym (drop-drop (length scan.front) at item) ∙ ap (drop (length scan.front)) in_parts ∙ drop-append_seam scan.front scan.back

    passed : take stop.at item ≡ take at item ++ scan.front
    passed =
        ap (λ (p : Stop). take p.at item) stopped ∙ take-add at (length scan.front) item
        ∙ ap (λ (l : Bytes). take at item ++ take (length scan.front) l) in_parts ∙ ap (λ (l : Bytes). take at item ++ l) (take-append_seam scan.front scan.back)

    -- a scan from a place inside the record stops inside it, with no more marks left than it was to pass
    pub stop_inside : at ≤ length item → stop.at ≤ length item
    stop_inside h = omega (arith, ap (λ (p : Stop). p.at) stopped, ap length in_parts, length-append scan.front scan.back, length-drop at item)

    pub stop_fewer : stop.left ≤ n
    stop_fewer = omega (arith, ap (λ (p : Stop). p.left) stopped, scan.fewer)

    -- it finds the n-th piece
    pub stop_found : nth n (placed at (split m piece)) ≡ none_left stop.left (some (piece_at m item stop.at))
    stop_found =
        scan.found at ∙ ap (λ (p : Stop). none_left p.left (some (part p.at (upto m attribute_mark scan.back)))) (sym stopped)
        ∙ ap (λ (l : Bytes). none_left stop.left (some (part stop.at (upto m attribute_mark l)))) (sym left_over)

    -- where the piece at hand is at its end it does not move
    still : Shut (suc m) here → scan.front ≡ []
    still s = no_bytes scan.front (omega (arith, scan.inside, ap length (join_split m piece ∙ (piece_ends none_of s).0)))

    made_first : {made : Bytes} → Way (suc m) made here → made ++ scan.front ≡ scan.front ++ made
    made_first clear = sym (append-nil scan.front)
    made_first {made} (shut s) = rw (still s) (append-nil made)

    -- and what is written is this: up to where it stopped, the marks it lacks, the piece made anew, and the rest
    pub stop_joined : (f : Bytes → Bytes) {made : Bytes} → Way (suc m) made here
        → take at item ++ made ++ (join m (alter n f (split m piece)) ++ behind (suc m) here)
        ≡ take stop.at item ++ (made ++ replicate stop.left m) ++ (f (upto m attribute_mark (drop stop.at item)) ++ behind m (drop stop.at item))
    stop_joined f {made} w =
        rw (left_over, passed, ap (λ (p : Stop). p.left) stopped, scan.joined f)
        (swapped (take at item) made scan.front (replicate scan.left m) _ (made_first w))

    pub stop_way : {made : Bytes} → Way (suc m) made here → Way m (made ++ replicate stop.left m) (drop stop.at item)
    stop_way clear = rw (left_over, ap (λ (p : Stop). p.left) stopped) scan.way
    stop_way (shut s) =
        let same : drop stop.at item ≡ here = left_over ∙ sym (in_parts ∙ ap (λ (l : Bytes). l ++ scan.back) (still s)) in
        rw same (shut (shut_lower s))

-- what a scan answers stops within the record
abbrev pub Told : ℕ → Bytes → ℕ → ℕ → Stop → Type 0
Told m item at n r = record { value : r ≡ skip m (drop at item) at n; at_in_bounds : r.at ≤ length item }

pub stop_told : {m : ℕ} {r : Stop} (item : Bytes) (at n : ℕ) → m ≤ attribute_mark → at ≤ length item → r ≡ skip m (drop at item) at n
    → Told m item at n r
stop_told {m} item at n h inside e = record { value = e; at_in_bounds = rw e (stop_inside m h item at n inside) }
