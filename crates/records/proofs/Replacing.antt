-- Replacing's tests, in the order of the paper and of the code: what the result's id and length are, before it is written.
use mathlib.Core.Path.{◌≡◌, refl, sym, ap, ◌∙◌}
use mathlib.Core.Bool.{Bool, true, false, true≢false, ◌&&◌}
use mathlib.Core.List.{List, [], ◌∷◌}
use Prim.Native.Nat.{ℕ, zero, suc, ◌-◌, ◌≤◌}
use native.Mathlib.Omega.{arith}
use lib.ListN.{length, replicate}
use lib.Dec.{leb, ltb, eqb, eqb-suc-zero}
use borrow.Author.Tests.{leb-true, leb-false, ne_eqb, ltb-false, lt-ltb, le-ltb}
use Rattle.paper.specs.Bytes.{Bytes, any, buffer}
use Rattle.paper.specs.Sizes.{attribute_mark, value_mark, subvalue_mark, is_mark, is_inner_mark, is_outer_mark, record_most, id_most, entry_most, attribute_most, position_most}
use Rattle.paper.specs.Refusals.{Res, given, refused, ◌>>◌, refuse◌unless◌, refuse◌when◌, answer_of}
use Rattle.paper.specs.Records.{first_of, split, alter, Turn, path, id_of, lawful_id, lawful_record, lawful_address, replaced, replace}
use Rattle.records.specs.Found.{lawful_find}
use Rattle.records.specs.Scan.{spot, changed, changed_length}
use Rattle.records.specs.Planned.{lawful_new, Small, sized_plan, planned}
use Rattle.records.specs.declared.Spot.{Spot}
use Rattle.records.specs.declared.Plan.{Plan}
use Rattle.paper.proofs.Truths.{both, unless_passed, when_passed}
use Rattle.paper.proofs.Predicates.{none_of, and_all, all_map}
use Rattle.paper.proofs.Replacing.{Down, turn, path_down, split_replaced, is_replaced}
use Rattle.paper.proofs.Splitting.{any_without, without_any}
use Rattle.records.proofs.Spots.{Lies, spot_lies, length_changed, attribute_turns, path_turns, replaced_spot}
use Rattle.paper.proofs.Refusing.{never_given}
use Rattle.records.proofs.Finding.{then_then}

-- ---- a test that was passed

then_given : {A : Type 0} (x : Res (Unit {0})) (y : Res A) (r : A) → x >> y ≡ given r → (x ≡ given tt) × (y ≡ given r)
then_given (given t) y r e = (refl, e)
then_given (refused n) y r e = let z : ◌≡◌ {A = ℕ} 0 1 = cc in absurd (omega arith)

-- What a lawful record and a lawful address are.
pub record Lawful (item : Bytes) (a v s : ℕ) : Type 0 where
  pub short : length item ≤ record_most
  pub id : lawful_id item ≡ given tt
  pub attribute : a ≤ attribute_most
  pub value : v ≤ position_most
  pub subvalue : s ≤ position_most
  pub whole_id : a ≡ 0 → v ≡ 0

pub lawful : (item : Bytes) (a v s : ℕ) → lawful_find item a v s ≡ given tt → Lawful item a v s
unfolding lawful_find lawful_record lawful_address
lawful item a v s e =
    let tests = then_given (lawful_record item) (lawful_address a v s) tt e in
    let r₁ = then_given (refuse 1 unless leb (length item) record_most) _ tt tests.0 in
    let r₂ = then_given (refuse 2 when any is_outer_mark item) (lawful_id item) tt r₁.1 in
    let a₁ = then_given (refuse 4 unless leb a attribute_most && leb v position_most && leb s position_most) _ tt tests.1 in
    let small = unless_passed 4 (leb a attribute_most && leb v position_most && leb s position_most) a₁.0 in
    let a₂ = then_given (refuse 4 when eqb v 0 && ltb 0 s) (refuse 4 when eqb a 0 && ltb 0 v) tt a₁.1 in
    let low = both (leb a attribute_most && leb v position_most) (leb s position_most) small in
    let av = both (leb a attribute_most) (leb v position_most) low.0 in
    record {
      short = leb-true (length item) record_most (unless_passed 1 _ r₁.0);
      id = r₂.1;
      attribute = leb-true a attribute_most av.0;
      value = leb-true v position_most av.1;
      subvalue = leb-true s position_most low.1;
      whole_id = λ z. let n = ltb-false 0 v (rw z at (when_passed 4 (eqb a 0 && ltb 0 v) a₂.1)) in omega arith;
    }

-- ---- the id of the result

-- no mark of any kind is no mark of this kind
unlike : (m b : ℕ) → is_mark m ≡ true → is_mark b ≡ false → eqb b m ≡ false
unlike m b t e = ne_eqb b m (λ x. true≢false (sym t ∙ ap is_mark (sym x) ∙ e))

any_inner : (l : Bytes) → any is_mark l ≡ false → any is_inner_mark l ≡ false
unfolding is_mark is_inner_mark
any_inner l e = without_any is_inner_mark (all_map (λ b h. rw (unlike subvalue_mark b refl h, unlike value_mark b refl h)) (any_without is_mark l e))

below : {m : ℕ} {ms : List ℕ} {t : Turn} {ts : List Turn} → Down (m ∷ ms) (t ∷ ts) → Down ms ts
below (turn d) = d

-- the result has the attributes that there were, but for the one that is replaced: so its first piece is the id
id_replaced : (item : Bytes) (a v s : ℕ) (new : Bytes) → any is_mark new ≡ false → id_of (replaced (path a v s) new item) ≡ first_of (alter a (λ p. replaced (attribute_turns v s) new p) (split attribute_mark item))
unfolding id_of is_mark
id_replaced item a v s new u =
    let down = below (rw (path_turns a v s) at (path_down a v s)) in
    let free = all_map (λ b h. unlike attribute_mark b refl h) (any_without is_mark new u) in
    rw (path_turns a v s) (ap first_of (split_replaced attribute_mark free (and_all refl (and_all refl none_of)) down a item))

-- the id is replaced: the new bytes are the id
new_id : (new : Bytes) (ps : List Bytes) → first_of (alter 0 (λ p. new) ps) ≡ new
unfolding alter
new_id new [] = refl
new_id new (p ∷ ps) = refl

-- another attribute is replaced: the id stays
kept_id : (n : ℕ) (f : Bytes → Bytes) (ps : List Bytes) → first_of (alter (suc n) f ps) ≡ first_of ps
unfolding alter
kept_id n f [] = refl
kept_id n f (p ∷ ps) = refl

-- ---- the tests of the result

-- a new id without marks is tested for its length alone
id_length : (item new : Bytes) (t : Bool) → leb (length new) id_most ≡ t → id_of item ≡ new → any is_mark new ≡ false → lawful_id item ≡ (refuse 3 when ltb id_most (length new))
unfolding lawful_id
id_length item new true et e u = rw (e, any_inner new u, et, le-ltb id_most (length new) (leb-true (length new) id_most et))
id_length item new false et e u = rw (e, any_inner new u, et, lt-ltb id_most (length new) (leb-false (length new) id_most et))

id_after : (item : Bytes) (a v s : ℕ) (new : Bytes) → Lawful item a v s → any is_mark new ≡ false → lawful_id (replaced (path a v s) new item) ≡ (refuse 3 when eqb a 0 && ltb id_most (length new))
unfolding replaced id_of lawful_id
id_after item zero v s new l u =
    let z : v ≡ 0 = l.whole_id refl in
    rw z (id_length (replaced (path 0 0 s) new item) new (leb (length new) id_most) refl (id_replaced item 0 0 s new u ∙ new_id new (split attribute_mark item)) u)
id_after item (suc a) v s new l u = rw (eqb-suc-zero a, id_replaced item (suc a) v s new u, kept_id a _ (split attribute_mark item)) l.id

-- 1 and 16 of what would result, and then the result
fit : Bytes → ℕ → Res Bytes
fit result room = do
  refuse 1 unless leb (length result) record_most
  refuse 16 unless leb (length result) room
  given result

in_order : {A : Type 0} (x y : Bool) (i j : Res (Unit {0})) (k : Res A) → (y ≡ false → i ≡ j) → (refuse 9 unless x) >> ((refuse 17 when y) >> (i >> k)) ≡ ((refuse 9 unless x) >> ((refuse 17 when y) >> j)) >> k
in_order true true i j k h = refl
in_order true false i j k h = ap (λ (r : Res (Unit {0})). r >> k) (h refl)
in_order false y i j k h = refl

module _ (item : Bytes) (a v s : ℕ) (new : Bytes) (room : ℕ) where
  abbrev result : Bytes
  result = replaced (path a v s) new item

  -- a lawful record and address leave the tests of the new bytes and of the result
  replace_tests : lawful_find item a v s ≡ given tt → replace item a v s new room ≡ lawful_new new a >> fit result room
  unfolding replace lawful_new fit lawful_find
  replace_tests e =
      let tests = then_given (lawful_record item) (lawful_address a v s) tt e in
      rw (tests.0, tests.1)
      (in_order (leb (length new) entry_most) (any is_mark new) (lawful_id result) (refuse 3 when eqb a 0 && ltb id_most (length new)) (fit result room) (λ u. id_after item a v s new (lawful item a v s e) u))

  refused_tests : (n : ℕ) → lawful_find item a v s ≡ refused n → replace item a v s new room ≡ refused n
  unfolding replace lawful_find
  refused_tests n e = sym (then_then (lawful_record item) (lawful_address a v s) _) ∙ rw e

-- ---- the result

planned_fit : (p : Spot) (result : Bytes) (room : ℕ) (t u : Bool) → leb (length result) record_most ≡ t → leb (length result) room ≡ u → planned p (fit result room) ≡ sized_plan p (length result) room
unfolding fit
planned_fit p result room true true et eu = rw (et, eu)
planned_fit p result room true false et eu = rw (et, eu)
planned_fit p result room false u et eu = rw et

module _ (item : Bytes) (a v s : ℕ) (new : Bytes) (room : ℕ) where
  pub plan_refused : {n : ℕ} → refused n ≡ lawful_find item a v s → refused n ≡ planned (spot item a v s) (replace item a v s new room)
  plan_refused e = rw (refused_tests item a v s new room _ (sym e))

  module _ (lawful_item : given tt ≡ lawful_find item a v s) where
    pub plan_refused_new : {n : ℕ} → refused n ≡ lawful_new new a → refused n ≡ planned (spot item a v s) (replace item a v s new room)
    plan_refused_new e = rw (replace_tests item a v s new room (sym lawful_item), sym e)

    module _ (lawful_element : given tt ≡ lawful_new new a) where
      pub plan_sized : (total : ℕ) → total ≡ changed_length (length item) (spot item a v s) (length new) → sized_plan (spot item a v s) total room ≡ planned (spot item a v s) (replace item a v s new room)
      plan_sized total et =
          let p = spot item a v s in
          let n : total ≡ length (result item a v s new room) = et ∙ sym (length_changed item p new (omega (arith, spot_lies item a v s))) ∙ ap length (sym (replaced_spot item a v s new)) in
          rw (replace_tests item a v s new room (sym lawful_item), sym lawful_element, n) (sym (planned_fit p (result item a v s new room) room _ _ refl refl))

      pub small_spot : Small (length item) (spot item a v s) (length new)
      unfolding lawful_new entry_most
      small_spot =
          let l = lawful item a v s (sym lawful_item) in
          let n = then_given (refuse 9 unless leb (length new) entry_most) _ tt (sym lawful_element) in
          let few = leb-true (length new) entry_most (unless_passed 9 _ n.0) in
          let lies = spot_lies item a v s in
          record { ordered = lies.ordered; inside = lies.inside; short = l.short; few = omega arith; attributes = omega arith; values = omega arith; subvalues = omega arith }

-- ---- what a plan says of replacing

plan_of : (p q : Spot) (total : ℕ) (x : Res Bytes) → given (record { spot = q; total = total }) ≡ planned p x → (q ≡ p) × (x ≡ given (answer_of x)) × (total ≡ length (answer_of x))
plan_of p q total (given bs) e =
    let same : ◌≡◌ {A = Plan} (record { spot = q; total = total }) (record { spot = p; total = length bs }) = cc in
    (ap (λ (x : Plan). x.spot) same, refl, ap (λ (x : Plan). x.total) same)
plan_of p q total (refused n) e = never_given (sym e)

-- a refusal leaves zeros throughout
pub zeros_answer : (p : Spot) {n : ℕ} (size : ℕ) (x : Res Bytes) → refused n ≡ planned p x → replicate size 0 ≡ buffer size (answer_of x)
unfolding buffer
zeros_answer p size (given bs) e = never_given e
zeros_answer p size (refused m) e =
    let k : size ≡ size - 0 = omega arith in
    ap (λ (j : ℕ). replicate j 0) k

-- What a plan says of replacing, which gives x: what is written, where in the record, and that there is room for it.
pub record Readied (item new : Bytes) (room : ℕ) (x : Res Bytes) (q : Spot) : Type 0 where
  pub bytes : changed item q new ≡ answer_of x
  pub ordered : q.start ≤ q.end
  pub inside : q.end ≤ length item
  pub fits : changed_length (length item) q (length new) ≤ room

module _ (item : Bytes) (a v s : ℕ) (new : Bytes) (room : ℕ) where
  -- where replacing gives a record, there is room for it
  given_fits : (bs : Bytes) → replace item a v s new room ≡ given bs → length bs ≤ room
  unfolding replace
  given_fits bs e =
      let r = result item a v s new room in
      let e₁ = (then_given (lawful_record item) _ bs e).1 in
      let e₂ = (then_given (lawful_address a v s) _ bs e₁).1 in
      let e₃ = (then_given (refuse 9 unless leb (length new) entry_most) _ bs e₂).1 in
      let e₄ = (then_given (refuse 17 when any is_mark new) _ bs e₃).1 in
      let e₅ = (then_given (lawful_id r) _ bs e₄).1 in
      let e₆ = (then_given (refuse 1 unless leb (length r) record_most) _ bs e₅).1 in
      let e₇ = (then_given (refuse 16 unless leb (length r) room) (given r) bs e₆).0 in
      rw (sym (is_replaced item a v s new room e)) (leb-true (length r) room (unless_passed 16 (leb (length r) room) e₇))

  pub readied : (q : Spot) (total : ℕ) → given (record { spot = q; total = total }) ≡ planned (spot item a v s) (replace item a v s new room) → Readied item new room (replace item a v s new room) q
  readied q total e =
      let x = replace item a v s new room in
      let plan = plan_of (spot item a v s) q total x e in
      let lies : Lies (length item) a v s q = rw plan.0 (spot_lies item a v s) in
      let bytes = ap (λ (p : Spot). changed item p new) plan.0 ∙ sym (replaced_spot item a v s new) ∙ is_replaced item a v s new room plan.1 in
      record {
        bytes = bytes;
        ordered = lies.ordered;
        inside = lies.inside;
        fits = omega (arith, length_changed item q new (omega arith), ap length bytes, given_fits (answer_of x) plan.1);
      }
