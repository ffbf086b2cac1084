-- The spot of an address is what `paper` says of it: the attribute, and then the value and the subvalue inside it; what stands there, and what
-- replacing writes there.
use Rattle.std.specs.Prelude.{if◌then◌else◌}
use mathlib.Core.Path.{◌≡◌, refl, sym, ap, ◌∙◌}
use mathlib.Core.Bool.{Bool, true, false, ◌&&◌}
use mathlib.Core.List.{List, [], ◌∷◌, ◌++◌, append_assoc, append-nil}
use mathlib.Core.Option.{Option, none, some}
use Prim.Native.Nat.{ℕ, zero, suc, ◌+◌, ◌-◌, ◌≤◌}
use native.Mathlib.Omega.{arith}
use lib.ListN.{length, take, drop, replicate, length-append, length-drop, length-replicate}
use lib.Seq.{length-take-le, drop-drop, drop-length}
use lib.Dec.{eqb, lit≤}
use Rattle.paper.specs.Bytes.{Bytes}
use Rattle.paper.specs.Sizes.{attribute_mark, value_mark, subvalue_mark}
use Rattle.paper.specs.Records.{split, join, alter, Part, pieces, nth, Turn, turn, path, part_at, and_then, whole, place, replaced}
use Rattle.paper.proofs.Ranges.{not_within}
use Rattle.lent.specs.Scan.{range, upto}
use Rattle.lent.proofs.Scans.{range_rest, length_upto}
use Rattle.lent.proofs.Pieces.{take_upto}
use Rattle.records.specs.Scan.{skip, spot_at, attribute, in_value, in_attribute, spot, marks, made, changed, changed_length}
use Rattle.std.specs.Prelude.{Some, None}
use Rattle.records.specs.Found.{part_of}
use Rattle.records.specs.declared.Stop.{Stop}
use Rattle.records.specs.declared.Spot.{Spot}
use Rattle.records.proofs.Scanning.{behind, none_left, part, piece_at, Way, clear, stop_inside, stop_fewer, stop_found, stop_joined, stop_way}

-- where no mark is named, nothing ends a piece
upto_all : (m : ℕ) (bs : Bytes) → upto (suc m) m bs ≡ bs
unfolding upto
upto_all m [] = refl
upto_all m (b ∷ bs) = rw (not_within (suc m) m b (λ l k. omega arith)) (ap (λ (l : Bytes). b ∷ l) (upto_all m bs))

-- The way to an address: to the attribute, and then inside it.
abbrev pub value_turns : ℕ → List Turn
value_turns zero = []
value_turns (suc s) = turn subvalue_mark s ∷ []

abbrev pub attribute_turns : ℕ → ℕ → List Turn
attribute_turns zero s = []
attribute_turns (suc v) s = turn value_mark v ∷ value_turns s

pub path_turns : (a v s : ℕ) → path a v s ≡ turn attribute_mark a ∷ attribute_turns v s
unfolding path
path_turns a zero s = refl
path_turns a (suc v) zero = refl
path_turns a (suc v) (suc s) = refl

-- ---- what stands there

-- no mark is to be made
abbrev pub is_there : Spot → Bool
is_there p = eqb p.attributes 0 && eqb p.values 0 && eqb p.subvalues 0

unfoldable pub spot_part : Bytes → Spot → Option Part
spot_part item p = if is_there p then some (part p.start (range item p.start p.end)) else none

if_and : (t u : Bool) (o : Option Part) → (if t then (if u then o else none) else none) ≡ (if t && u then o else none)
if_and true u o = refl
if_and false u o = refl

range_upto : (m at : ℕ) (item : Bytes) → range item at (at + length (upto m attribute_mark (drop at item))) ≡ upto m attribute_mark (drop at item)
unfolding range
range_upto m at item =
    let n = length (upto m attribute_mark (drop at item)) in
    let e : at + n - at ≡ n = omega arith in
    ap (λ (k : ℕ). take k (drop at item)) e ∙ take_upto m attribute_mark (drop at item)

spot_piece : (m : ℕ) (item : Bytes) (at l₁ l₂ l₃ : ℕ) → none_left l₁ (none_left l₂ (none_left l₃ (some (piece_at m item at)))) ≡ spot_part item (spot_at m item at l₁ l₂ l₃)
unfolding spot_part spot_at
spot_piece m item at l₁ l₂ l₃ =
    if_and (eqb l₁ 0) (eqb l₂ 0) _ ∙ if_and (eqb l₁ 0 && eqb l₂ 0) (eqb l₃ 0) _
    ∙ ap (λ (l : Bytes). if eqb l₁ 0 && eqb l₂ 0 && eqb l₃ 0 then some (part at l) else none) (sym (range_upto m at item))

then_left : (t : Bool) (p : Part) (k : Part → Option Part) → and_then (if t then some p else none) k ≡ (if t then k p else none)
then_left true p k = refl
then_left false p k = refl

-- one turn on the way to an address, from a piece that ends at the first mark above m
turned : (m : ℕ) → m ≤ attribute_mark → (item : Bytes) (at n : ℕ) (k : Part → Option Part)
    → and_then (nth n (pieces m (piece_at (suc m) item at))) k ≡ (let p = skip m (drop at item) at n in none_left p.left (k (piece_at m item p.at)))
unfolding pieces
turned m low item at n k =
    let p = skip m (drop at item) at n in
    ap (λ (o : Option Part). and_then o k) (stop_found m low item at n) ∙ then_left (eqb p.left 0) (piece_at m item p.at) k

-- the attribute is where the scan for it stopped, with no mark missing
pub attribute_place : (item : Bytes) (a : ℕ) (k : Part → Option Part)
    → and_then (nth a (pieces attribute_mark (whole item))) k ≡ (let p = attribute item a in none_left p.left (k (piece_at attribute_mark item p.at)))
unfolding whole attribute
attribute_place item a k = ap (λ (l : Bytes). and_then (nth a (pieces attribute_mark (part 0 l))) k) (sym (upto_all attribute_mark item)) ∙ turned attribute_mark (lit≤ tt) item 0 a k

value_place : (item : Bytes) (l₁ : ℕ) (q : Stop) (s : ℕ) → none_left l₁ (none_left q.left (part_at (value_turns s) (piece_at value_mark item q.at))) ≡ spot_part item (in_value item l₁ q s)
unfolding part_at in_value
value_place item l₁ q zero = spot_piece value_mark item q.at l₁ q.left 0
value_place item l₁ q (suc s) =
    let r = skip subvalue_mark (drop q.at item) q.at s in
    ap (λ (o : Option Part). none_left l₁ (none_left q.left o)) (turned subvalue_mark (lit≤ tt) item q.at s (λ x. some x)) ∙ spot_piece subvalue_mark item r.at l₁ q.left r.left

-- and the value and the subvalue are what stands at the spot inside it
pub inside_place : (item : Bytes) (p : Stop) (v s : ℕ) → none_left p.left (part_at (attribute_turns v s) (piece_at attribute_mark item p.at)) ≡ spot_part item (in_attribute item p v s)
unfolding part_at in_attribute
inside_place item p zero s = spot_piece attribute_mark item p.at p.left 0 0
inside_place item p (suc v) s =
    ap (none_left p.left) (turned value_mark (lit≤ tt) item p.at v (λ x. part_at (value_turns s) x)) ∙ value_place item p.left (skip value_mark (drop p.at item) p.at v) s

-- so the place of an address is what stands at its spot
pub place_spot : (item : Bytes) (a v s : ℕ) → place item a v s ≡ spot_part item (spot item a v s)
unfolding place part_at spot
place_spot item a v s =
    ap (λ (ts : List Turn). part_at ts (whole item)) (path_turns a v s)
    ∙ attribute_place item a (λ q. part_at (attribute_turns v s) q) ∙ inside_place item (attribute item a) v s

-- ---- what replacing writes there

-- the record up to a place, the marks to be made there, the piece that begins there made anew, and what stands behind it
abbrev pub framed : Bytes → ℕ → ℕ → Bytes → Bytes → Bytes
framed item m at made l = take at item ++ made ++ (l ++ behind m (drop at item))

whole_framed : (item l : Bytes) → l ≡ l ++ behind (suc attribute_mark) item
unfolding behind
whole_framed item l = sym (ap (λ (r : Bytes). l ++ drop (length r) item) (upto_all attribute_mark item) ∙ ap (λ (r : Bytes). l ++ r) (drop-length item) ∙ append-nil l)

-- where the last level has come to
last_framed : (m : ℕ) (item new : Bytes) (at : ℕ) (made : Bytes) (l₁ l₂ l₃ : ℕ) → made ≡ replicate l₁ attribute_mark ++ replicate l₂ value_mark ++ replicate l₃ subvalue_mark
    → take at item ++ made ++ (new ++ behind m (drop at item)) ≡ changed item (spot_at m item at l₁ l₂ l₃) new
unfolding behind changed marks spot_at
last_framed m item new at made l₁ l₂ l₃ e =
    sym (append_assoc (take at item ++ made) new (drop (length (upto m attribute_mark (drop at item))) (drop at item)))
    ∙ ap (λ (l : Bytes). take at item ++ made ++ new ++ l) (drop-drop (length (upto m attribute_mark (drop at item))) at item)
    ∙ ap (λ (l : Bytes). take at item ++ l ++ new ++ drop (at + length (upto m attribute_mark (drop at item))) item) e

-- the marks that are missing for an attribute, and for a value in it
abbrev pub made₁ : Stop → Bytes
made₁ p = replicate p.left attribute_mark

abbrev pub made₂ : ℕ → Stop → Bytes
made₂ l₁ q = replicate l₁ attribute_mark ++ replicate q.left value_mark

-- replacing an attribute writes up to where the scan for it stopped, the marks that are missing, the attribute made anew, and the rest
pub attribute_changed : (item : Bytes) (f : Bytes → Bytes) (a : ℕ) → join attribute_mark (alter a f (split attribute_mark item)) ≡ (let p = attribute item a in framed item attribute_mark p.at (made₁ p) (f (upto attribute_mark attribute_mark (drop p.at item))))
unfolding attribute
attribute_changed item f a =
    ap (λ (l : Bytes). join attribute_mark (alter a f (split attribute_mark l))) (sym (upto_all attribute_mark item))
    ∙ whole_framed item (join attribute_mark (alter a f (split attribute_mark (upto (suc attribute_mark) attribute_mark item))))
    ∙ stop_joined attribute_mark (lit≤ tt) item 0 a f clear

value_changed : (item new : Bytes) (l₁ : ℕ) (q : Stop) (s : ℕ) → Way value_mark (made₂ l₁ q) (drop q.at item)
    → framed item value_mark q.at (made₂ l₁ q) (replaced (value_turns s) new (upto value_mark attribute_mark (drop q.at item))) ≡ changed item (in_value item l₁ q s) new
unfolding replaced in_value
value_changed item new l₁ q zero way = last_framed value_mark item new q.at (made₂ l₁ q) l₁ q.left 0 (sym (append-nil (made₂ l₁ q)))
value_changed item new l₁ q (suc s) way =
    let r = skip subvalue_mark (drop q.at item) q.at s in
    stop_joined subvalue_mark (lit≤ tt) item q.at s (λ (l : Bytes). new) way
    ∙ last_framed subvalue_mark item new r.at (made₂ l₁ q ++ replicate r.left subvalue_mark) l₁ q.left r.left refl

-- and the attribute made anew is the one with the new bytes at the spot inside it
pub inside_changed : (item new : Bytes) (p : Stop) (v s : ℕ) → Way attribute_mark (made₁ p) (drop p.at item)
    → framed item attribute_mark p.at (made₁ p) (replaced (attribute_turns v s) new (upto attribute_mark attribute_mark (drop p.at item))) ≡ changed item (in_attribute item p v s) new
unfolding replaced in_attribute
inside_changed item new p zero s way = last_framed attribute_mark item new p.at (made₁ p) p.left 0 0 (sym (append-nil (made₁ p ++ []) ∙ append-nil (made₁ p)))
inside_changed item new p (suc v) s way =
    stop_joined value_mark (lit≤ tt) item p.at v (λ (l : Bytes). replaced (value_turns s) new l) way
    ∙ value_changed item new p.left (skip value_mark (drop p.at item) p.at v) s (stop_way value_mark (lit≤ tt) item p.at v way)

-- so replacing at an address writes the record that its spot says
pub replaced_spot : (item : Bytes) (a v s : ℕ) (new : Bytes) → replaced (path a v s) new item ≡ changed item (spot item a v s) new
unfolding replaced spot attribute
replaced_spot item a v s new =
    ap (λ (ts : List Turn). replaced ts new item) (path_turns a v s)
    ∙ attribute_changed item (λ (l : Bytes). replaced (attribute_turns v s) new l) a
    ∙ inside_changed item new (attribute item a) v s (stop_way attribute_mark (lit≤ tt) item 0 a clear)

-- ---- where it lies

-- Within the record, and no more marks of a kind are to be made than the address names.
pub record Lies (size a v s : ℕ) (p : Spot) : Type 0 where
  pub ordered : p.start ≤ p.end
  pub inside : p.end ≤ size
  pub attributes : p.attributes ≤ a
  pub values : p.values ≤ v
  pub subvalues : p.subvalues ≤ s

lies_at : (m : ℕ) (item : Bytes) {a v s : ℕ} (at l₁ l₂ l₃ : ℕ) → at ≤ length item → l₁ ≤ a → l₂ ≤ v → l₃ ≤ s → Lies (length item) a v s (spot_at m item at l₁ l₂ l₃)
unfolding spot_at
lies_at m item at l₁ l₂ l₃ h f g k =
    let n = length_upto m attribute_mark (drop at item) in
    record { ordered = omega arith; inside = omega (arith, length-drop at item); attributes = f; values = g; subvalues = k }

lies_value : (item : Bytes) {a v : ℕ} (l₁ : ℕ) (q : Stop) (s : ℕ) → q.at ≤ length item → l₁ ≤ a → q.left ≤ v → Lies (length item) a v s (in_value item l₁ q s)
unfolding in_value
lies_value item l₁ q zero h f g = lies_at value_mark item q.at l₁ q.left 0 h f g (omega arith)
lies_value item l₁ q (suc s) h f g =
    lies_at subvalue_mark item _ l₁ q.left _ (stop_inside subvalue_mark (lit≤ tt) item q.at s h) f g (omega (arith, stop_fewer subvalue_mark (lit≤ tt) item q.at s))

lies_inside : (item : Bytes) {a : ℕ} (p : Stop) (v s : ℕ) → p.at ≤ length item → p.left ≤ a → Lies (length item) a v s (in_attribute item p v s)
unfolding in_attribute
lies_inside item p zero s h f = lies_at attribute_mark item p.at p.left 0 0 h f (omega arith) (omega arith)
lies_inside item p (suc v) s h f =
    lies_value item p.left _ s (stop_inside value_mark (lit≤ tt) item p.at v h) f (omega (arith, stop_fewer value_mark (lit≤ tt) item p.at v))

pub spot_lies : (item : Bytes) (a v s : ℕ) → Lies (length item) a v s (spot item a v s)
unfolding spot attribute
spot_lies item a v s = lies_inside item (attribute item a) v s (stop_inside attribute_mark (lit≤ tt) item 0 a (omega arith)) (stop_fewer attribute_mark (lit≤ tt) item 0 a)

pub spot_end : (m : ℕ) (item : Bytes) (at l₁ l₂ l₃ end : ℕ) → end ≡ at + length (upto m attribute_mark (range item at (length item)))
    → ◌≡◌ {A = Spot} (record { start = at; end = end; attributes = l₁; values = l₂; subvalues = l₃ }) (spot_at m item at l₁ l₂ l₃)
unfolding spot_at
spot_end m item at l₁ l₂ l₃ end e = rw (e, range_rest item at)

-- ---- what finding answers

module _ (item : Bytes) (a v s : ℕ) (p : Spot) (e : p ≡ spot item a v s) where
  spot_place : place item a v s ≡ spot_part item p
  spot_place = place_spot item a v s ∙ ap (spot_part item) (sym e)

  pub lies : Lies (length item) a v s p
  lies = rw e (spot_lies item a v s)

  pub found_spot : is_there p ≡ true → Some (record { start = p.start; len = p.end - p.start }) ≡ part_of (place item a v s)
  unfolding range spot_part
  found_spot t = rw (spot_place, t) (ap (λ (n : ℕ). Some (record { start = p.start; len = n })) (sym (length-take-le _ _ (omega (arith, lies, length-drop p.start item)))))

  pub missing_spot : is_there p ≡ false → None ≡ part_of (place item a v s)
  unfolding spot_part
  missing_spot t = rw (spot_place, t)

-- ---- how long the record is after replacing

pub length_marks : (p : Spot) → length (marks p) ≡ made p
unfolding marks
length_marks p = simp (length-append, length-replicate)

pub length_changed : (item : Bytes) (p : Spot) (new : Bytes) → p.start ≤ length item → length (changed item p new) ≡ changed_length (length item) p (length new)
unfolding changed marks
length_changed item p new h = simp (length-append, length-replicate, length-drop, length-take-le p.start item h) (omega arith)
