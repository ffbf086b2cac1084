-- Tests in their order: each test of a record by what it asks; no test refuses with 0.
use mathlib.Core.Path.{◌≡◌, sym, ap, ◌∙◌}
use mathlib.Core.Bool.{Bool, true, false, ◌&&◌}
use Prim.Native.Nat.{ℕ, suc, ◌+◌, ◌-◌, ◌≤◌, ◌<◌}
use native.Mathlib.Omega.{arith}
use lib.ListN.{length, take, drop}
use lib.Dec.{leb, ltb, eqb}
use borrow.Author.Tests.{le-leb, lt-leb}
use Rattle.paper.specs.Bytes.{Bytes, any}
use Rattle.paper.specs.Sizes.{attribute_mark, value_mark, subvalue_mark, is_outer_mark, is_inner_mark, record_most, id_most, attribute_most, position_most}
use Rattle.paper.specs.Refusals.{Res, given, refused, ◌>>◌, refuse◌unless◌, refuse◌when◌}
use Rattle.paper.specs.Records.{id_of, lawful_id, lawful_record, lawful_address}
use Rattle.lent.specs.Scan.{upto}
use Rattle.records.specs.Scan.{is_either}
use Rattle.lent.proofs.Scans.{length_upto}
use Rattle.lent.proofs.Pieces.{upto_mark, take_upto}

-- a test that refuses with a number above 0
pub data Told : Res (Unit {0}) → Type 0 where
  fine : Told (given tt)
  told : (n : ℕ) → Told (refused (suc n))

pub told_unless : (n : ℕ) (t : Bool) → Told (refuse suc n unless t)
told_unless n true = fine
told_unless n false = told n

pub told_when : (n : ℕ) (t : Bool) → Told (refuse suc n when t)
told_when n true = told n
told_when n false = fine

pub told_then : {x y : Res (Unit {0})} → Told x → Told y → Told (x >> y)
told_then fine q = q
told_then (told n) q = told n

pub told_id : (item : Bytes) → Told (lawful_id item)
unfolding lawful_id
told_id item = told_then (told_unless 2 (leb (length (id_of item)) id_most)) (told_when 2 (any is_inner_mark (id_of item)))

pub told_record : (item : Bytes) → Told (lawful_record item)
unfolding lawful_record
told_record item = told_then (told_unless 0 (leb (length item) record_most)) (told_then (told_when 1 (any is_outer_mark item)) (told_id item))

pub told_address : (a v s : ℕ) → Told (lawful_address a v s)
unfolding lawful_address
told_address a v s =
    told_then (told_unless 3 (leb a attribute_most && leb v position_most && leb s position_most)) (told_then (told_when 3 (eqb v 0 && ltb 0 s)) (told_when 3 (eqb a 0 && ltb 0 v)))

-- ---- the id

pub id_upto : (item : Bytes) → id_of item ≡ upto attribute_mark attribute_mark item
unfolding id_of
id_upto item = sym (upto_mark attribute_mark item)

module _ (item : Bytes) (end : ℕ) (e : end ≡ 0 + length (upto attribute_mark attribute_mark (drop 0 item))) where
  -- the place of the first attribute mark is the id's length
  pub id_end : end ≡ length (id_of item)
  id_end = omega (arith, ap length (id_upto item))

  -- and the bytes before it are the id
  pub id_bytes : take (end - 0) (drop 0 item) ≡ id_of item
  id_bytes =
      let n : end - 0 ≡ length (upto attribute_mark attribute_mark item) = omega (arith, id_end, ap length (id_upto item)) in
      ap (λ (k : ℕ). take k item) n ∙ take_upto attribute_mark attribute_mark item ∙ sym (id_upto item)

  pub id_inside : end ≤ length item
  id_inside = omega (arith, id_end, ap length (id_upto item), length_upto attribute_mark attribute_mark item)

  pub long_id : id_most < end → refused 3 ≡ lawful_id item
  unfolding lawful_id
  long_id h = rw (lt-leb (length (id_of item)) id_most (omega (arith, id_end)))

  pub tested_id : (t : Bool) → end ≤ id_most → t ≡ any (is_either subvalue_mark value_mark) (take (end - 0) (drop 0 item)) → (refuse 3 when t) ≡ lawful_id item
  unfolding lawful_id is_inner_mark is_either
  tested_id t h et = rw (le-leb (length (id_of item)) id_most (omega (arith, id_end)), et, id_bytes)
