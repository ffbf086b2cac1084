-- Reading again what replacing wrote: the laws of the definitions in the numbers that finding and replacing give. Assumes nothing.
use Prim.Native.Nat.{ℕ}
use mathlib.Core.Path.{◌≡◌, refl, sym, ◌∙◌}
use native.Mathlib.Omega.{arith}
use lib.ListN.{length, take, drop}
use lib.Seq.{take_at}
use lib.Dec.{T, leb}
use mathlib.Core.Option.{Option}
use Rattle.paper.specs.Bytes.{Bytes, any, buffer}
use Rattle.paper.specs.Sizes.{is_mark, entry_most, record_most}
use Rattle.paper.specs.Refusals.{Res, given, refused, ◌>>◌, refusal_of, answer_of}
use Rattle.paper.specs.Records.{Part, path, place, apart, lawful_record, lawful_address, find, extract, replaced, replace}
use Rattle.paper.proofs.Replacing.{replaced_is_lawful, apart_reads_as_before}
use Rattle.records.proofs.Refusing.{Told, fine, told, told_unless, told_when, told_id, told_record, told_address}
use Rattle.records.proofs.Finding.{Inside, found, missing, refused_so, inside_find, reads_place}
use Rattle.sundewfrill.specs.Numbers.{start_number, part_length, answer_length}

-- no test of replacing refuses with 0: where 0 is told, there is an answer
answered_next : {x : Res (Unit {0})} {y : Res Bytes} → Told x → (refusal_of y ≡ 0 → (bs : Bytes) × (y ≡ given bs)) → refusal_of (x >> y) ≡ 0
    → (bs : Bytes) × ((x >> y) ≡ given bs)
answered_next fine more z = more z
answered_next (told n) more z = absurd (omega arith)

pub replace_answered : (item : Bytes) (a v s : ℕ) (new : Bytes) (room : ℕ) → refusal_of (replace item a v s new room) ≡ 0
    → (bs : Bytes) × (replace item a v s new room ≡ given bs)
unfolding replace
replace_answered item a v s new room =
    let answer : Bytes = replaced (path a v s) new item in
    answered_next (told_record item)
    (answered_next (told_address a v s)
    (answered_next (told_unless 8 (leb (length new) entry_most))
    (answered_next (told_when 16 (any is_mark new))
    (answered_next (told_id answer)
    (answered_next (told_unless 0 (leb (length answer) record_most))
    (answered_next {y = given answer} (told_unless 15 (leb (length answer) room)) (λ z. (answer, refl))))))))

-- the answer is the first bytes of the output, as many as the length told
pub first_bytes : (room : ℕ) (x : Res Bytes) → take (answer_length x) (buffer room (answer_of x)) ≡ answer_of x
unfolding buffer
first_bytes room x = take_at (answer_of x) _ _ refl

-- the bytes that the numbers of finding name in the record are those that extraction hands back
named_as : {item : Bytes} {x : Res (Option Part)} → Inside item x → take (part_length x) (drop (start_number x) item) ≡ extract x
unfolding extract
named_as (found p h t) = sym t
named_as missing = refl
named_as (refused_so n) = refl

pub find_named : (item : Bytes) (a v s : ℕ) → take (part_length (find item a v s)) (drop (start_number (find item a v s)) item) ≡ extract (find item a v s)
find_named item a v s = named_as (inside_find item a v s)

lawful_find_is : (item : Bytes) (a v s : ℕ) → lawful_record item ≡ given tt → find item a v s ≡ lawful_address a v s >> given (place item a v s)
unfolding find
lawful_find_is item a v s e = rw e

-- what replacing answers of is a lawful record
old_is_lawful : (item : Bytes) (a v s : ℕ) (new : Bytes) (room : ℕ) (answer : Bytes) → replace item a v s new room ≡ given answer
    → (x : Res (Unit {0})) → lawful_record item ≡ x → x ≡ given tt
unfolding replace
old_is_lawful item a v s new room answer e (given u) f = refl
old_is_lawful item a v s new room answer e (refused n) f =
    let not_so = rw f at e in
    let z : ◌≡◌ {A = ℕ} 0 1 = cc in
    absurd (omega arith)

-- an address apart from the replaced one, lawful or not: finding there gives the same bytes in both records
pub apart_extracts : (item : Bytes) (a v s : ℕ) (new : Bytes) (room : ℕ) (answer : Bytes) → replace item a v s new room ≡ given answer
    → (a' v' s' : ℕ) → T (apart (path a v s) (path a' v' s')) → extract (find answer a' v' s') ≡ extract (find item a' v' s')
apart_extracts item a v s new room answer e a' v' s' h =
    let old_lawful = old_is_lawful item a v s new room answer e (lawful_record item) refl in
    rw (lawful_find_is answer a' v' s' (replaced_is_lawful item a v s new room e), lawful_find_is item a' v' s' old_lawful)
    (go (lawful_address a' v' s'))
  where
    go : (x : Res (Unit {0})) → extract (x >> given (place answer a' v' s')) ≡ extract (x >> given (place item a' v' s'))
    go (given u) =
        reads_place answer a' v' s' ∙ apart_reads_as_before item a v s new room e a' v' s' h ∙ sym (reads_place item a' v' s')
    go (refused n) = refl
