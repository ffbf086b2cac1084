-- Document 01, "The record and its addresses", with the refusals of finding and replacing.
use Rattle.std.specs.Prelude.{ℕ, zero, suc, ◌+◌, Bool, true, false, not, ◌&&◌, List, [], ◌∷◌, ◌++◌, length, leb, ltb, eqb}
use Rattle.std.proofs.Math.Option.{Option, none, some}
use Rattle.paper.specs.Bytes.{Bytes, any}
use Rattle.paper.specs.Sizes.{
  attribute_mark,
  value_mark,
  subvalue_mark,
  is_mark,
  is_inner_mark,
  is_outer_mark,
  record_most,
  id_most,
  entry_most,
  attribute_most,
  position_most,
}
use Rattle.paper.specs.Refusals.{Res, given, refused, ◌>>◌, refuse◌unless◌, refuse◌when◌, over_long_record, bad_byte, bad_id, bad_address, over_long_entry, mark_in_element, short_output}

-- a byte goes on the first piece, or, being the mark, opens a new one
abbrev pub opened : Bool → ℕ → List Bytes → List Bytes
opened true b ps = [] ∷ ps
opened false b [] = (b ∷ []) ∷ []
opened false b (p ∷ ps) = (b ∷ p) ∷ ps

-- "attributes parted by `^`", "values parted by `]`", "subvalues parted by `\`": the pieces between the marks m, at least one
unfoldable pub split : ℕ → Bytes → List Bytes
split m [] = [] ∷ []
split m (b ∷ bs) = opened (eqb b m) b (split m bs)

-- the pieces again with the mark m between
unfoldable pub join : ℕ → List Bytes → Bytes
join m [] = []
join m (p ∷ []) = p
join m (p ∷ q ∷ ps) = p ++ m ∷ join m (q ∷ ps)

abbrev pub first_of : List Bytes → Bytes
first_of [] = []
first_of (p ∷ ps) = p

-- a part of the record: where it starts, and its bytes
pub record Part : Type 0 where
  pub start : ℕ
  pub text : Bytes

-- pieces with their places, the first at `start`, one mark between each two
unfoldable pub placed : ℕ → List Bytes → List Part
placed start [] = []
placed start (p ∷ ps) = record { start = start; text = p } ∷ placed (start + length p + 1) ps

abbrev pub or_empty : Option Bytes → Bytes
or_empty none = []
or_empty (some bs) = bs

abbrev pub text_or_empty : Option Part → Bytes
text_or_empty none = []
text_or_empty (some p) = p.text

-- the pieces of a part, each with its own place in the record
unfoldable pub pieces : ℕ → Part → List Part
pieces m p = placed p.start (split m p.text)

unfoldable pub nth {ℓ} : {A : Type ℓ} → ℕ → List A → Option A
nth n [] = none
nth zero (x ∷ xs) = some x
nth (suc n) (x ∷ xs) = nth n xs

-- One turn on the way to an address: the n-th piece, from 0, by the mark m.
pub record Turn : Type 0 where
  pub mark : ℕ
  pub index : ℕ

abbrev pub turn : ℕ → ℕ → Turn
turn m n = record { mark = m; index = n }

-- "An address is (a, v, s). v = 0 means the whole attribute, s = 0 the whole value." "Attribute 0 is the id."
unfoldable pub path : ℕ → ℕ → ℕ → List Turn
path a zero s = turn attribute_mark a ∷ []
path a (suc v) zero = turn attribute_mark a ∷ turn value_mark v ∷ []
path a (suc v) (suc s) = turn attribute_mark a ∷ turn value_mark v ∷ turn subvalue_mark s ∷ []

abbrev pub and_then {ℓ ℓ'} : {A : Type ℓ} {B : Type ℓ'} → Option A → (A → Option B) → Option B
and_then none k = none
and_then (some a) k = k a

-- the part that the turns lead to, if it is there
unfoldable pub part_at : List Turn → Part → Option Part
part_at [] p = some p
part_at (t ∷ ts) p = and_then (nth t.index (pieces t.mark p)) (λ q. part_at ts q)

unfoldable pub whole : Bytes → Part
whole item = record { start = 0; text = item }

-- "A record is the item-id, then ..", "Attribute 0 is the id": the bytes before the first attribute mark
unfoldable pub id_of : Bytes → Bytes
id_of item = first_of (split attribute_mark item)

-- "The answer of finding is "found" or "missing""
unfoldable pub place : Bytes → ℕ → ℕ → ℕ → Option Part
place item a v s = part_at (path a v s) (whole item)

-- refusal 3: "id over 48 (also after replacing), or holding 252 or 253"
unfoldable pub lawful_id : Bytes → Res (Unit {0})
lawful_id item = do
  refuse bad_id unless leb (length (id_of item)) id_most
  refuse bad_id when any is_inner_mark (id_of item)

-- refusals 1, 2, 3
unfoldable pub lawful_record : Bytes → Res (Unit {0})
lawful_record item = do
  refuse over_long_record unless leb (length item) record_most
  refuse bad_byte when any is_outer_mark item
  lawful_id item

-- refusal 4: "a, v or s over its size; v = 0 with s > 0; a = 0 with v > 0"
unfoldable pub lawful_address : ℕ → ℕ → ℕ → Res (Unit {0})
lawful_address a v s = do
  refuse bad_address unless leb a attribute_most && leb v position_most && leb s position_most
  refuse bad_address when eqb v 0 && ltb 0 s
  refuse bad_address when eqb a 0 && ltb 0 v

-- "Finding tries 1, 2, 3, 4."
unfoldable pub find : Bytes → ℕ → ℕ → ℕ → Res (Option Part)
find item a v s = do
  lawful_record item
  lawful_address a v s
  given (place item a v s)

-- "extraction hands back that part of the record itself .. and an empty part when missing or refused"
unfoldable pub extract : Res (Option Part) → Bytes
extract (given (some p)) = p.text
extract (given none) = []
extract (refused n) = []

-- the n-th piece made anew by f, out of nothing where it is missing: "A missing place is made by adding marks only, as few as will do."
unfoldable pub alter : ℕ → (Bytes → Bytes) → List Bytes → List Bytes
alter zero f [] = f [] ∷ []
alter zero f (p ∷ ps) = f p ∷ ps
alter (suc n) f [] = [] ∷ alter n f []
alter (suc n) f (p ∷ ps) = p ∷ alter n f ps

-- "Replacing writes a new record": the new bytes where the turns lead
unfoldable pub replaced : List Turn → Bytes → Bytes → Bytes
replaced [] new old = new
replaced (t ∷ ts) new old = join t.mark (alter t.index (λ piece. replaced ts new piece) (split t.mark old))

-- "Replacing: 1, 2, 3, 4, 9, 17, then 3 and 1 for what would result, then 16"
unfoldable pub replace : Bytes → ℕ → ℕ → ℕ → Bytes → ℕ → Res Bytes
replace item a v s new room = do
  lawful_record item
  lawful_address a v s
  refuse over_long_entry unless leb (length new) entry_most
  refuse mark_in_element when any is_mark new
  lawful_id (replaced (path a v s) new item)
  refuse over_long_record unless leb (length (replaced (path a v s) new item)) record_most
  refuse short_output unless leb (length (replaced (path a v s) new item)) room
  given (replaced (path a v s) new item)

-- "each contains itself, (a,0,0) contains all of a, (a,v,0) contains every (a,v,s)": the turns of the one begin those of the other
unfoldable pub contains : List Turn → List Turn → Bool
contains [] us = true
contains (t ∷ ts) [] = false
contains (t ∷ ts) (u ∷ us) = eqb t.mark u.mark && eqb t.index u.index && contains ts us

-- "Two addresses are apart when neither contains the other"
unfoldable pub apart : List Turn → List Turn → Bool
apart ts us = not (contains ts us) && not (contains us ts)

-- what an address reads, "missing counted as empty"
unfoldable pub reads : Bytes → List Turn → Bytes
reads item ts = text_or_empty (part_at ts (whole item))
