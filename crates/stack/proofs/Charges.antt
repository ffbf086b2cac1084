-- The laws of a step's end: its own refusal, its cost over what is left, and its effect on the slots. Assumes nothing.
use Rattle.std.specs.Prelude.{if◌then◌else◌}
use mathlib.Core.Path.{◌≡◌, refl, sym, ap}
use mathlib.Core.Bool.{Bool, true, false}
use mathlib.Core.List.{List}
use Prim.Native.Nat.{ℕ, zero, suc, ◌+◌, ◌≤◌, ◌<◌}
use native.Mathlib.Numerals.{add-one}
use native.Mathlib.Omega.{arith}
use lib.ListN.{length, drop}
use lib.Seq.{take_at}
use lib.Dec.{leb}
use borrow.Author.Tests.{le-leb, lt-leb, leb-true, leb-false}
use Rattle.paper.specs.Bytes.{Bytes}
use Rattle.paper.specs.Sizes.{entry_most, stack_most}
use Rattle.paper.specs.Refusals.{Res, given, refused}
use Rattle.std.specs.Prelude.{Result, Ok, Err}
use Rattle.paper.specs.declared.Refusal.{Refusal}
use Rattle.paper.specs.Answers.{number_of, told, sized, length_in, written}
use Rattle.paper.specs.Steps.{limited}
use Rattle.paper.proofs.Predicates.{Holds, holds, refuses}
use Rattle.paper.proofs.Entries.{Fit, limited_fits}
use Rattle.paper.proofs.Limits.{limited_over, Answered}
use Rattle.stack.specs.declared.Step.{Step}
use Rattle.stack.specs.Slots.{element_slot, entry_at, stack_of, exchanged, exchanged_lengths, Slotted}
use Rattle.stack.specs.Charging.{charge_of, step_of, stack_after, putting, taken_two, exchanging, handed, Charges, Puts}
use Rattle.stack.proofs.Putting.{Put, put_done, Exchanged, after_other, after_on_top, exchanged_element, exchanged_stack}

-- as many entries as are held
pub stack_length : (scratch : Bytes) (lens : List ℕ) (n : ℕ) → length (stack_of scratch lens n) ≡ n
unfolding stack_of
stack_length scratch lens zero = refl
stack_length scratch lens (suc n) = ap suc (stack_length scratch lens n)

-- the same step said in another way
pub charges_as : {left : ℕ} {x y : Res (ℕ × List Bytes)} {r : Result Step Refusal} {s s' : Bytes} {l l' : List ℕ} → x ≡ y
    → Charges left y r s l s' l' → Charges left x r s l s' l'
charges_as e t = rw e t

pub puts_as : {left : ℕ} {x y : Res Bytes} {r : Result Step Refusal} {s s' : Bytes} {l l' : List ℕ} (taken : ℕ) (stack : List Bytes) → x ≡ y
    → Charges left (putting taken y stack) r s l s' l' → Charges left (putting taken x stack) r s l s' l'
puts_as taken stack e t = rw e t

-- what a call gave and wrote is what stands in front of the work buffer
pub gave_handed : (answer : Result ℕ Refusal) {work' : Bytes} (x : Res Bytes) (work : Bytes) → Answered x work work' answer → handed answer work' ≡ x
unfolding written
gave_handed (Ok n) (given bs) work g =
    let v = g.value in
    let e : length bs ≡ n = cc in
    rw g.out_after (ap given (take_at bs (drop (length bs) work) n e))
gave_handed (Ok n) (refused m) work g = absurd (let v = g.value in let z : ◌≡◌ {A = ℕ} 0 1 = cc in omega arith)
gave_handed (Err e) (given bs) work g = absurd (let v = g.value in let z : ◌≡◌ {A = ℕ} 0 1 = cc in omega arith)
gave_handed (Err e) (refused m) work g = let v = g.value in let same : number_of e ≡ m = cc in ap refused same

-- and within the limit
length_fits : {most : ℕ} {x : Res Bytes} (answer : Result ℕ Refusal) → told answer ≡ sized x → Holds (Fit most) x → length_in answer ≤ most
length_fits (Ok n) e (holds {a = bs} fit) = let same : n ≡ length bs = cc in omega (arith, fit)
length_fits (Ok n) e refuses = absurd (let z : ◌≡◌ {A = ℕ} 0 1 = cc in omega arith)
length_fits (Err r) e h = omega arith

pub gave_fits : (answer : Result ℕ Refusal) (most : ℕ) (x : Res Bytes) → told answer ≡ sized (limited most x) → length_in answer ≤ most
gave_fits answer most x e = length_fits answer e (limited_fits most x)

-- What a charge tells: the cost, within what is left; or 15, with the cost over it.
module _ (taken put left : ℕ) where
  pub charge_costs : {cost : ℕ} → Ok cost ≡ charge_of taken put left → (cost ≡ 1 + taken + put) × (cost ≤ left)
  unfolding charge_of
  charge_costs {cost} e = go (leb (1 + taken + put) left) refl e
    where
      go : (t : Bool) → leb (1 + taken + put) left ≡ t
          → Ok cost ≡ (if t then Ok (1 + taken + put) else Err Refusal.OverBudget) → (cost ≡ 1 + taken + put) × (cost ≤ left)
      go true f e = let same : cost ≡ 1 + taken + put = cc in (same, omega (arith, leb-true (1 + taken + put) left f))
      go false f e = let z : ◌≡◌ {A = ℕ} 0 1 = cc in absurd (omega arith)

  pub charge_refuses : {r : Refusal} → Err r ≡ charge_of taken put left → (r ≡ Refusal.OverBudget) × (left < 1 + taken + put)
  unfolding charge_of
  charge_refuses {r} e = go (leb (1 + taken + put) left) refl e
    where
      go : (t : Bool) → leb (1 + taken + put) left ≡ t
          → Err r ≡ (if t then Ok (1 + taken + put) else Err Refusal.OverBudget) → (r ≡ Refusal.OverBudget) × (left < 1 + taken + put)
      go true f e = let z : ◌≡◌ {A = ℕ} 0 1 = cc in absurd (omega arith)
      go false f e = let same : r ≡ Refusal.OverBudget = cc in (same, leb-false _ _ f)

module _ {scratch : Bytes} {lens : List ℕ} (slotted : Slotted scratch lens) (left : ℕ) where
  -- its own refusal
  pub charges_refused : (e : Refusal) → Charges left (refused (number_of e)) (Err e) scratch lens scratch lens
  unfolding step_of stack_after stack_of
  charges_refused e = record { answers = refl; stack = refl; element = refl }

  -- an operand over the limit
  pub operand_over : (taken : ℕ) (bs : Bytes) (stack : List Bytes) → entry_most < length bs
      → Charges left (putting taken (limited entry_most (given bs)) stack) (Err Refusal.OverLongEntry) scratch lens scratch lens
  unfolding putting
  operand_over taken bs stack h = rw (limited_over entry_most {r = given bs} refl h) (charges_refused Refusal.OverLongEntry)

  -- what a code or an operator refused
  pub given_refused : (e : Refusal) (taken : ℕ) (stack : List Bytes)
      → Charges left (putting taken (refused (number_of e)) stack) (Err e) scratch lens scratch lens
  unfolding putting
  given_refused e taken stack = charges_refused e

  -- A step that was charged for what it takes and puts.
  module _ (taken put : ℕ) where
    -- 15
    pub charged_over : {x : ℕ × List Bytes} {r : Refusal} → x.0 ≡ 1 + taken + put → Err r ≡ charge_of taken put left
        → Charges left (given x) (Err r) scratch lens scratch lens
    unfolding step_of stack_after stack_of
    charged_over {x} cost e =
        let tells = charge_refuses taken put left e in
        let over : leb x.0 left ≡ false = lt-leb x.0 left (omega arith) in
        rw tells.0 (record { answers = rw over; stack = rw over; element = refl })

    -- its effect
    charged_within : {scratch' : Bytes} {lens' : List ℕ} {x : ℕ × List Bytes} {n : ℕ} (held : ℕ) → x.0 ≡ 1 + taken + put
        → Ok n ≡ charge_of taken put left → length x.1 ≡ held → stack_of scratch' lens' held ≡ x.1
        → entry_at scratch' lens' element_slot ≡ entry_at scratch lens element_slot
        → Charges left (given x) (Ok (record { cost = n; held = held })) scratch lens scratch' lens'
    unfolding step_of stack_after
    charged_within {x = x} {n} held cost e long stack element =
        let tells = charge_costs taken put left e in
        let same : n ≡ x.0 = omega arith in
        let fits : leb x.0 left ≡ true = le-leb x.0 left (omega arith) in
        rw same (record { answers = rw (fits, long); stack = rw fits stack; element = element })

    -- one entry on top of k
    pub put_over : {r : Refusal} (bs : Bytes) (stack : List Bytes) → put ≡ length bs → Err r ≡ charge_of taken put left
        → Charges left (putting taken (given bs) stack) (Err r) scratch lens scratch lens
    unfolding putting
    put_over bs stack long e = charged_over (ap (λ (n : ℕ). 1 + taken + n) (sym long)) e

    pub put_within : {scratch' : Bytes} {lens' : List ℕ} {n : ℕ} (k : ℕ) (bs : Bytes) → k < stack_most → length bs ≤ entry_most
        → put ≡ length bs → Ok n ≡ charge_of taken put left → Put scratch lens k bs scratch' lens'
        → Puts left taken (given bs) k (Ok (record { cost = n; held = k + 1 })) scratch lens scratch' lens'
    unfolding putting
    put_within k bs room fit long e done =
        rw (add-one k)
        (charged_within (suc k) (ap (λ (n : ℕ). 1 + taken + n) (sym long)) e
        (ap suc (stack_length scratch lens k))
        (after_on_top slotted k bs (omega arith) fit done)
        (after_other slotted k bs (omega arith) fit done element_slot (omega arith)))

  -- `_` on slots k and k + 1, of so many bytes together
  module _ (k both : ℕ) (long : both ≡ taken_two scratch lens k) where
    pub exchange_over : {r : Refusal} → Err r ≡ charge_of both both left → Charges left (exchanging scratch lens k) (Err r) scratch lens scratch lens
    unfolding exchanging
    exchange_over e = charged_over both both (omega arith) e

    pub exchange_within : {scratch' : Bytes} {lens' : List ℕ} {n : ℕ} → k + 1 < stack_most → Ok n ≡ charge_of both both left
        → Exchanged scratch lens k scratch' lens'
        → Charges left (exchanging scratch lens k) (Ok (record { cost = n; held = k + 2 })) scratch lens scratch' lens'
    unfolding exchanging exchanged exchanged_lengths
    exchange_within room e done =
        let two : k + 2 ≡ suc (suc k) = omega arith in
        rw two
        (charged_within both both (suc (suc k)) (omega arith) e
        (ap (λ (j : ℕ). suc (suc j)) (stack_length scratch lens k))
        (exchanged_stack slotted k room (put_done _ _ _ _) (put_done _ _ _ _) done)
        (exchanged_element slotted k room (put_done _ _ _ _) (put_done _ _ _ _) done))
