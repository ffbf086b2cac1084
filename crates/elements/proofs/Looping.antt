-- The loop over the elements: what is known at each turn, and how a turn ends or leads to the next. Assumes nothing.
use Rattle.std.specs.Prelude.{if◌then◌else◌, Ok, Err}
use Prim.Native.Nat.{ℕ, ◌+◌, ◌-◌, ◌*◌, ◌^◌, ◌≤◌, ◌<◌}
use mathlib.Core.Path.{◌≡◌, refl, sym, ap, ◌∙◌, subst, subst₂}
use mathlib.Core.Bool.{Bool, true, false}
use mathlib.Core.List.{[], ◌∷◌, ◌++◌}
use native.Mathlib.Omega.{arith}
use native.Mathlib.Numerals.{add-one}
use lib.ListN.{length, take, drop, get_or, length-append, length-drop, drop_of_length-le}
use lib.Seq.{drop-drop, drop-cons}
use lib.Dec.{eqb}
use borrow.Author.Tests.{eqb-true, eqb-false}
use Rattle.paper.specs.Bytes.{Bytes, within}
use Rattle.paper.specs.Sizes.{entry_most, record_most, position_most, value_mark, subvalue_mark}
use Rattle.paper.specs.Refusals.{given, answer_of}
use Rattle.paper.specs.Converting.{Outcome, within_budget}
use Rattle.lent.specs.Scan.{range, upto}
use Rattle.paper.proofs.Budget.{budget_kept}
use Rattle.paper.proofs.Ranges.{within_true}
use Rattle.lent.proofs.Scans.{range_rest, length_upto}
use Rattle.lent.proofs.Pieces.{take_upto}
use Rattle.elements.specs.Gather.{gathered_in, HoldsAnswer}
use Rattle.elements.specs.Walk.{walked}
use Rattle.elements.specs.Running.{codes_in, element_outcome, elements_outcome, added_out, position, passed, Adds, Walks}
use Rattle.elements.specs.declared.Walked.{Walked}
use Rattle.machine.specs.declared.Stopped.{Stopped}
use Rattle.machine.specs.Runs.{answered}
use Rattle.machine.proofs.Endings.{stopped_as, answered_as}
use Rattle.steps.specs.declared.Position.{Position}
use Rattle.machine.specs.declared.Meter.{Meter}
use Rattle.elements.proofs.Answering.{held_none, held_more, gathered_length}
use Rattle.elements.proofs.Gathering.{gathered_start}
use Rattle.elements.proofs.Walking.{first_text}
use Rattle.elements.proofs.Turning.{left, first_outcome, left_stopped, left_last, left_value, left_subvalue}

-- where the first element of the bytes from `at` on ends
module _ (text : Bytes) (at end : ℕ) (inside : at ≤ length text)
    (ends : end ≡ at + length (upto subvalue_mark value_mark (range text at (length text)))) where
  pub end_is : end ≡ at + length (first_text (drop at text))
  end_is = ends ∙ ap (λ (b : Bytes). at + length (upto subvalue_mark value_mark b)) (range_rest text at)

  pub end_inside : (at ≤ end) × (end ≤ length text)
  end_inside = (omega (arith, end_is), omega (arith, end_is, length_upto subvalue_mark value_mark (drop at text), length-drop at text))

  pub piece_is : take (end - at) (drop at text) ≡ first_text (drop at text)
  piece_is =
      let n : end - at ≡ length (first_text (drop at text)) = omega (arith, end_is) in
      ap (λ (k : ℕ). take k (drop at text)) n ∙ take_upto subvalue_mark value_mark (drop at text)

  rest_is : drop (length (first_text (drop at text))) (drop at text) ≡ drop end text
  rest_is = drop-drop (length (first_text (drop at text))) at text ∙ ap (λ (k : ℕ). drop k text) (sym end_is)

  pub last_one : length text ≤ end → drop (length (first_text (drop at text))) (drop at text) ≡ []
  last_one h = rest_is ∙ drop_of_length-le text h

  pub one_behind : end < length text → drop (length (first_text (drop at text))) (drop at text) ≡ get_or text end 0 ∷ drop (end + 1) text
  one_behind h = rest_is ∙ drop-cons text end 0 h ∙ ap (λ (k : ℕ). get_or text end 0 ∷ drop k text) (sym (add-one end))

-- the byte behind the first element is a mark of its kind
stops_at : (c : ℕ) (bs : Bytes) (b : ℕ) (more : Bytes) (t : Bool) → within subvalue_mark value_mark c ≡ t
    → drop (length (if t then [] else (c ∷ upto subvalue_mark value_mark bs))) (c ∷ bs) ≡ b ∷ more
    → (drop (length (upto subvalue_mark value_mark bs)) bs ≡ b ∷ more → within subvalue_mark value_mark b ≡ true)
    → within subvalue_mark value_mark b ≡ true
stops_at c bs b more true e f again = let same : c ≡ b = cc in rw same at e
stops_at c bs b more false e f again = again f

upto_stops : (bs : Bytes) (b : ℕ) (more : Bytes) → drop (length (upto subvalue_mark value_mark bs)) bs ≡ b ∷ more → within subvalue_mark value_mark b ≡ true
unfolding upto
upto_stops [] b more e = let z : ◌≡◌ {A = ℕ} 0 1 = cc in absurd (omega arith)
upto_stops (c ∷ bs) b more e = stops_at c bs b more (within subvalue_mark value_mark c) refl e (upto_stops bs b more)

other_mark : (b : ℕ) → within subvalue_mark value_mark b ≡ true → eqb b value_mark ≡ false → b ≡ subvalue_mark
other_mark b w n =
    let bounds = within_true subvalue_mark value_mark b w in
    omega (arith, bounds.0, bounds.1, eqb-false b value_mark n)

abbrev pub counting : ℕ → ℕ → Meter
counting budget steps = record { budget = budget; steps = steps }

-- What is known at each turn, of a walk over `text` that is to come to `o`.
pub record Turn (item string text : Bytes) (budget : ℕ) (o : Outcome) (room at : ℕ) (place : Position) (steps so_far : ℕ) (out : Bytes)
    : Type 0 where
  pub answer : Bytes
  pub coming : left entry_most item (codes_in string) budget answer place.v place.s steps (drop at text) ≡ o
  pub long : length answer ≡ so_far
  pub held : HoldsAnswer out answer
  pub same_room : length out ≡ room
  pub inside : at ≤ length text
  pub spent : steps ≤ budget
  pub small : so_far ≤ 1_025 * at
  pub values : place.v ≤ position_most + at
  pub subvalues : place.s ≤ position_most + at

module _ (item string text : Bytes) (budget : ℕ) where
  pub first_turn : (first : Position) {out : Bytes} → first.v ≤ position_most → first.s ≤ position_most
      → Turn item string text budget (elements_outcome item string first budget text) (length out) 0 first 0 0 out
  unfolding left
  first_turn first {out} hv hs =
      record {
        answer = [];
        coming = ap (within_budget budget 0) (gathered_start entry_most item (codes_in string) (walked [] first.v first.s text));
        long = refl;
        held = held_none out;
        same_room = refl;
        inside = omega arith;
        spent = omega arith;
        small = omega arith;
        values = omega arith;
        subvalues = omega arith;
      }

  module _ {o : Outcome} {room at : ℕ} {place : Position} {steps so_far : ℕ} {out : Bytes}
      (turn : Turn item string text budget o room at place steps so_far out)
      (end : ℕ) (ends : end ≡ at + length (upto subvalue_mark value_mark (range text at (length text)))) where
    -- the element of this turn, as the code cuts it
    abbrev now_outcome : Outcome
    now_outcome = element_outcome item string place (counting budget steps) (take (end - at) (drop at text))

    is_first : first_outcome entry_most item (codes_in string) budget place.v place.s steps (drop at text) ≡ now_outcome
    unfolding first_outcome
    is_first = ap (element_outcome item string place (counting budget steps)) (sym (piece_is text at end turn.inside ends))

    -- it was refused, and so is the whole
    pub turn_stopped : {s : Stopped} {out' : Bytes} → Adds now_outcome so_far (Err s) out out'
        → {out₀ : Bytes} → length out₀ ≡ room → Walks o (Err s) out₀ out'
    turn_stopped {s} {out'} adds {out₀} h =
        let now = stopped_as (λ (bs : Bytes). so_far + length bs) now_outcome adds.answers in
        let same : out' ≡ out = adds.output ∙ ap (λ (w : Outcome). added_out out so_far w.answer) now in
        rw (sym turn.coming ∙ left_stopped entry_most item (codes_in string) budget turn.answer place.v place.s steps (drop at text) _ s.steps (is_first ∙ now))
        (record { answers = refl; held = held_none out'; room = ap length same ∙ turn.same_room ∙ sym h })

    module _ {w : Walked} {out' : Bytes} (adds : Adds now_outcome so_far (Ok w) out out') where
      -- it was answered
      now : (bs : Bytes) × (now_outcome ≡ answered bs w.steps) × (so_far + length bs ≡ w.length)
      now = answered_as (λ (bs : Bytes). so_far + length bs) now_outcome adds.answers

      abbrev bs : Bytes
      bs = now.0

      first_is : first_outcome entry_most item (codes_in string) budget place.v place.s steps (drop at text) ≡ record { answer = given bs; steps = w.steps }
      first_is = is_first ∙ now.1

      laid_is : out' ≡ gathered_in out (length turn.answer) bs
      laid_is =
          adds.output ∙ ap (λ (x : Outcome). added_out out so_far x.answer) now.1 ∙ ap (λ (x : ℕ). gathered_in out x bs) (sym turn.long)

      held_is : HoldsAnswer out' (turn.answer ++ bs)
      held_is = subst (λ (x : Bytes). HoldsAnswer x (turn.answer ++ bs)) (sym laid_is) (held_more out turn.answer bs turn.held)

      long_is : length (turn.answer ++ bs) ≡ w.length
      long_is = length-append turn.answer bs ∙ ap (λ (x : ℕ). x + length bs) turn.long ∙ now.2

      short_is : length bs ≤ entry_most
      short_is = subst (λ (x : Outcome). length (answer_of x.answer) ≤ entry_most) now.1 adds.short

      -- and is the last
      pub turn_last : length text ≤ end → {out₀ : Bytes} → length out₀ ≡ room → Walks o (Ok w) out₀ out'
      turn_last last {out₀} h =
          rw (sym turn.coming
          ∙ left_last entry_most item (codes_in string) budget turn.answer place.v place.s steps (drop at text) bs w.steps first_is
          (last_one text at end turn.inside ends last))
          (record {
            answers = ap (λ (n : ℕ). answered n w.steps) (sym long_is);
            held = held_is;
            room = ap length laid_is ∙ gathered_length out (length turn.answer) bs ∙ turn.same_room ∙ sym h;
          })

      -- an answer that is short stays so with the mark behind it
      pub turn_gather : so_far < 2 ^ 62 → w.length + 1 < 2 ^ 63
      unfolding entry_most
      turn_gather h = omega (arith, short_is, now.2)

      -- the mark behind it is put too
      module _ (behind : end < length text) where
        abbrev mark : ℕ
        mark = get_or text end 0

        abbrev answer' : Bytes
        answer' = (turn.answer ++ bs) ++ mark ∷ []

        coming_by : (t : Bool) → eqb mark value_mark ≡ t
            → left entry_most item (codes_in string) budget answer' (if t then position (place.v + 1) 1 else position place.v (place.s + 1)).v
            (if t then position (place.v + 1) 1 else position place.v (place.s + 1)).s w.steps (drop (end + 1) text)
            ≡ o
        coming_by true q =
            ap (λ (x : ℕ). left entry_most item (codes_in string) budget answer' x 1 w.steps (drop (end + 1) text)) (add-one place.v)
            ∙ sym (left_value entry_most item (codes_in string) budget turn.answer place.v place.s steps (drop at text) bs w.steps mark (drop (end + 1) text)
            first_is (one_behind text at end turn.inside ends behind) (eqb-true mark value_mark q))
            ∙ turn.coming
        coming_by false q =
            ap (λ (x : ℕ). left entry_most item (codes_in string) budget answer' place.v x w.steps (drop (end + 1) text)) (add-one place.s)
            ∙ sym (left_subvalue entry_most item (codes_in string) budget turn.answer place.v place.s steps (drop at text) bs w.steps mark (drop (end + 1) text)
            first_is (one_behind text at end turn.inside ends behind)
            (other_mark mark (upto_stops (drop at text) mark (drop (end + 1) text) (one_behind text at end turn.inside ends behind)) q))
            ∙ turn.coming

        answered_turn : {out'' : Bytes} → out'' ≡ gathered_in out' w.length (mark ∷ [])
            → Turn item string text budget o room (end + 1) (passed mark place.v place.s) w.steps (w.length + 1) out''
        unfolding passed entry_most
        answered_turn {out''} laid =
            let whole : out'' ≡ gathered_in out' (length (turn.answer ++ bs)) (mark ∷ [])
            = laid ∙ ap (λ (x : ℕ). gathered_in out' x (mark ∷ [])) (sym long_is) in
            record {
              answer = answer';
              coming = coming_by (eqb mark value_mark) refl;
              long = length-append (turn.answer ++ bs) (mark ∷ []) ∙ ap (λ (x : ℕ). x + 1) long_is;
              held = subst (λ (x : Bytes). HoldsAnswer x answer') (sym whole) (held_more out' (turn.answer ++ bs) (mark ∷ []) held_is);
              same_room = ap length whole ∙ gathered_length out' (length (turn.answer ++ bs)) (mark ∷ []) ∙ ap length laid_is ∙ gathered_length out (length turn.answer) bs ∙ turn.same_room;
              inside = omega arith;
              spent = subst (λ (x : Outcome). x.steps ≤ budget) now.1 (budget_kept _ budget steps turn.spent);
              small = omega (arith, turn.small, short_is, now.2, (end_inside text at end turn.inside ends).0);
              values = passed_v (eqb mark value_mark);
              subvalues = passed_s (eqb mark value_mark);
            }
          where
            passed_v : (t : Bool) → (if t then position (place.v + 1) 1 else position place.v (place.s + 1)).v ≤ position_most + (end + 1)
            passed_v true = omega (arith, turn.values, (end_inside text at end turn.inside ends).0)
            passed_v false = omega (arith, turn.values, (end_inside text at end turn.inside ends).0)

            passed_s : (t : Bool) → (if t then position (place.v + 1) 1 else position place.v (place.s + 1)).s ≤ position_most + (end + 1)
            passed_s true = omega arith
            passed_s false = omega (arith, turn.subvalues, (end_inside text at end turn.inside ends).0)

        pub turn_next : {m : ℕ} {out'' : Bytes} → m ≡ w.length + 1
            → out'' ≡ gathered_in out' w.length (get_or text end 0 ∷ []) → {next : Position} → next ≡ passed (get_or text end 0) place.v place.s
            → Turn item string text budget o room (end + 1) next w.steps m out''
        turn_next {m} {out''} long laid {next} p =
            subst₂ (λ (q : Position) (x : ℕ). Turn item string text budget o room (end + 1) q w.steps x out'')
            (sym p) (sym long) (answered_turn laid)

-- sums that stay small: a text within a record's limit, and an answer behind its elements
pub turn_small : (at room so_far : ℕ) → at ≤ room → room ≤ record_most → so_far ≤ 1_025 * at → so_far < 2 ^ 62
turn_small at room so_far i l h = omega arith
