-- The laws of one F elm: where it finds its entries, its step is what it gives put on the entries that it leaves. Assumes nothing.
use mathlib.Core.Path.{◌≡◌, refl, ap, ◌∙◌}
use mathlib.Core.List.{List, [], ◌∷◌, ◌++◌}
use Prim.Native.Nat.{ℕ, suc, ◌+◌, ◌<◌}
use native.Mathlib.Nat.{add-zero}
use native.Mathlib.Numerals.{add-one}
use native.Mathlib.Omega.{arith}
use lib.ListN.{length, take, drop}
use borrow.Author.Tests.{le-leb}
use Rattle.paper.specs.Bytes.{Bytes}
use Rattle.paper.specs.Sizes.{entry_most, stack_most}
use Rattle.paper.specs.Refusals.{Res, given, refused, ◌>>=◌}
use Rattle.std.specs.Prelude.{Result}
use Rattle.paper.specs.declared.Refusal.{Refusal}
use Rattle.paper.specs.Numbers.{Binary, binary_gives, substring_gives}
use Rattle.paper.specs.Codes.{Conversion, Elm, Kind}
use Rattle.paper.specs.Checking.{conversion_kind, shape, stacked, Room}
use Rattle.paper.specs.Steps.{Setting, operand, conversion_gives, bytes_in, charged, price, limited, elm_puts, elm_step}
use Rattle.codes.specs.declared.Operand.{Operand as Pushed}
use Rattle.codes.specs.declared.Operator.{Operator as Operated}
use Rattle.codes.specs.declared.Conversion.{Conversion as Converted}
use Rattle.codes.specs.declared.Repeat.{Repeat as Repeated}
use Rattle.codes.specs.declared.Elm.{Elm as Coded}
use Rattle.codes.specs.Meaning.{operator_of, conversion_of, operand_of, elm_of}
use Rattle.codes.specs.Counting.{kind_of}
use Rattle.giving.specs.Bounds.{ConversionWithin}
use Rattle.giving.proofs.Numbers.{charged_within}
use Rattle.stack.specs.Slots.{element_slot, entry_at, stack_of, Slotted}
use Rattle.stack.specs.Charging.{taken_one, taken_two, taken_three, putting, exchanging, handed}
use Rattle.stack.proofs.Putting.{entry_fits}
use Rattle.paper.proofs.Limits.{limited_within, Answered}
use Rattle.stack.proofs.Charges.{stack_length, gave_handed}
use Rattle.steps.specs.declared.Position.{Position}
use Rattle.steps.specs.Stepping.{binary_on, substring_on, converted_on, setting, setting_of}

-- the room that the check has seen for one entry more
pub push_rises : {held : ℕ} (code : Bytes) (o : Pushed) → Room (elm_of code (Coded.Push o)) held → held < stack_most
unfolding elm_of operand_of shape
push_rises code (Pushed.Attribute n q) room = omega (arith, room.not_too_many)
push_rises code (Pushed.Literal start len) room = omega (arith, room.not_too_many)
push_rises code Pushed.Previous room = omega (arith, room.not_too_many)

-- The step of an elm on the first `held` slots, the top entry in the slot below `held`.
module _ (item code : Bytes) (at : Position) (scratch : Bytes) (lens : List ℕ) where
  abbrev there : Setting
  there = setting_of item at scratch lens

  abbrev step_on : Coded → ℕ → Res (ℕ × List Bytes)
  step_on elm held = elm_step entry_most there (elm_of code elm) (stack_of scratch lens held)

  -- where there is room it is what the elm puts
  stepped_by : (e : Elm) (held : ℕ) → Room e held
      → elm_step entry_most there e (stack_of scratch lens held)
      ≡ (elm_puts entry_most there e (stack_of scratch lens held) >>= λ put.
      given (price (shape e).kind item (take (shape e).takes (stack_of scratch lens held)) put, put ++ drop (shape e).takes (stack_of scratch lens held)))
  unfolding elm_step stacked
  stepped_by e held room = rw (stack_length scratch lens held, le-leb _ _ room.enough, le-leb _ _ room.not_too_many)

  -- one entry put, by a step that takes n bytes
  one_put : (kind : Kind) (taken stack : List Bytes) (n : ℕ) (x : Res Bytes) → charged kind (length item) (bytes_in taken) ≡ n
      → ((x >>= λ bs. given (bs ∷ [])) >>= λ put. given (price kind item taken put, put ++ stack)) ≡ putting n x stack
  unfolding price putting bytes_in
  one_put kind taken stack n (refused m) e = refl
  one_put kind taken stack n (given bs) e = rw (e, add-zero)

  pub push_on : {elm : Coded} {o : Pushed} (held : ℕ) → elm ≡ Coded.Push o → step_on elm held ≡ step_on (Coded.Push o) held
  push_on held e = rw e

  module _ {o : Pushed} (held : ℕ) (room : Room (elm_of code (Coded.Push o)) held) where
    pub attribute_on : {n : ℕ} {q : Repeated} {part : Bytes} → o ≡ Pushed.Attribute n q → part ≡ operand (setting item at []) (operand_of code o)
        → step_on (Coded.Push o) held ≡ putting (length item) (limited entry_most (given part)) (stack_of scratch lens held)
    unfolding elm_of operand_of operand elm_puts shape charged
    attribute_on e p = rw (p, e) (stepped_by _ held (rw e at room) ∙ one_put Kind.loading [] _ _ _ refl)

    pub literal_on : {start len : ℕ} {part : Bytes} → o ≡ Pushed.Literal start len → part ≡ operand (setting item at []) (operand_of code o)
        → step_on (Coded.Push o) held ≡ putting 0 (limited entry_most (given part)) (stack_of scratch lens held)
    unfolding elm_of operand_of operand elm_puts shape bytes_in charged
    literal_on e p = rw (p, e) (stepped_by _ held (rw e at room) ∙ one_put Kind.other [] _ _ _ refl)

    pub previous_on : o ≡ Pushed.Previous → Slotted scratch lens
        → step_on (Coded.Push o) held ≡ putting 0 (given (entry_at scratch lens element_slot)) (stack_of scratch lens held)
    unfolding elm_of operand_of operand elm_puts shape bytes_in charged
    previous_on e slotted =
        let fit = limited_within entry_most {r = given (entry_at scratch lens element_slot)} refl (entry_fits slotted element_slot (omega arith)) in
        rw e (stepped_by _ held (rw e at room) ∙ one_put Kind.other [] _ _ _ refl ∙ ap (λ (x : Res Bytes). putting 0 x (stack_of scratch lens held)) fit)

  module _ {elm : Coded} (held k : ℕ) (room : Room (elm_of code elm) held) where
    pub binary_at : {o : Operated} → held ≡ suc (suc k) → elm ≡ Coded.Binary o
        → step_on elm held ≡ putting (taken_two scratch lens k) (binary_on (operator_of o) scratch lens k) (stack_of scratch lens k)
    unfolding elm_of stack_of elm_puts shape bytes_in charged
    binary_at h e =
        rw (e, h, add-one k) (stepped_by _ (suc (suc k)) (rw (e, h) at room) ∙ one_put Kind.other (_ ∷ _ ∷ []) _ _ _ (omega arith))

    pub substring_at : held ≡ suc (suc (suc k)) → elm ≡ Coded.Substring
        → step_on elm held ≡ putting (taken_three scratch lens k) (substring_on scratch lens k) (stack_of scratch lens k)
    unfolding elm_of stack_of elm_puts shape bytes_in charged
    substring_at h e =
        let two : k + 2 ≡ suc (suc k) = omega arith in
        rw (e, h, two, add-one k) (stepped_by _ (suc (suc (suc k))) (rw (e, h) at room) ∙ one_put Kind.other (_ ∷ _ ∷ _ ∷ []) _ _ _ (omega arith))

    pub convert_at : {q : Converted} → held ≡ suc k → elm ≡ Coded.Convert q → ConversionWithin code q
        → step_on elm held ≡ putting (charged (kind_of q) 0 (taken_one scratch lens k)) (converted_on (conversion_of code q) scratch lens k) (stack_of scratch lens k)
    unfolding elm_of stack_of elm_puts shape bytes_in
    convert_at {q} h e within =
        rw (e, h)
        (stepped_by _ (suc k) (rw (e, h) at room)
        ∙ one_put (conversion_kind (conversion_of code q)) (_ ∷ []) _ _ _ (charged_within _ _ within ∙ ap (charged (kind_of q) 0) (add-zero _)))

    pub exchange_at : held ≡ suc (suc k) → elm ≡ Coded.Exchange → step_on elm held ≡ exchanging scratch lens k
    unfolding elm_of stack_of elm_puts shape bytes_in charged price exchanging
    exchange_at h e =
        rw (e, h, add-one k)
        (stepped_by _ (suc (suc k)) (rw (e, h) at room)
        ∙ ap (λ (n : ℕ). given (n, entry_at scratch lens k ∷ entry_at scratch lens (suc k) ∷ stack_of scratch lens k)) (omega arith))

    pub duplicate_at : held ≡ suc k → elm ≡ Coded.Duplicate
        → step_on elm held ≡ putting (taken_one scratch lens k + taken_one scratch lens k) (given (entry_at scratch lens k)) (stack_of scratch lens (k + 1))
    unfolding elm_of stack_of elm_puts shape bytes_in charged price putting
    duplicate_at h e =
        rw (e, h, add-one k)
        (stepped_by _ (suc k) (rw (e, h) at room)
        ∙ ap (λ (n : ℕ). given (n, entry_at scratch lens k ∷ entry_at scratch lens k ∷ stack_of scratch lens k)) (omega arith))

-- what was given on the entries in the slots from k on, put in their place
module _ (scratch : Bytes) (lens : List ℕ) (k : ℕ) where
  pub binary_gave : (answer : Result ℕ Refusal) {work' second top : Bytes} (o : Binary) (work : Bytes) (stack : List Bytes)
      → second ≡ entry_at scratch lens k → top ≡ entry_at scratch lens (k + 1)
      → Answered (limited entry_most (binary_gives o second top)) work work' answer
      → putting (taken_two scratch lens k) (binary_on o scratch lens k) stack ≡ putting (length second + length top) (handed answer work') stack
  binary_gave answer o work stack e e' g = rw (gave_handed answer _ work g, e, e')

  pub substring_gave : (answer : Result ℕ Refusal) {work' third second top : Bytes} (work : Bytes) (stack : List Bytes)
      → third ≡ entry_at scratch lens k → second ≡ entry_at scratch lens (k + 1) → top ≡ entry_at scratch lens (k + 2)
      → Answered (limited entry_most (substring_gives third second top)) work work' answer
      → putting (taken_three scratch lens k) (substring_on scratch lens k) stack
      ≡ putting (length third + length second + length top) (handed answer work') stack
  substring_gave answer work stack e e' e'' g = rw (gave_handed answer _ work g, e, e', e'')

  pub converted_gave : (answer : Result ℕ Refusal) {work' top : Bytes} {taken : ℕ} (q : Converted) (c : Conversion) (work : Bytes) (stack : List Bytes)
      → top ≡ entry_at scratch lens k → Answered (limited entry_most (conversion_gives c top)) work work' answer
      → taken ≡ charged (kind_of q) 0 (length top)
      → putting (charged (kind_of q) 0 (taken_one scratch lens k)) (converted_on c scratch lens k) stack ≡ putting taken (handed answer work') stack
  converted_gave answer q c work stack e g t = rw (gave_handed answer _ work g, t, e)

  -- `P`: the bytes taken by the length that the slot says
  pub duplicate_taken : {n : ℕ} (x : Res Bytes) (stack : List Bytes) → length (entry_at scratch lens k) ≡ n
      → putting (taken_one scratch lens k + taken_one scratch lens k) x stack ≡ putting (n + n) x stack
  duplicate_taken x stack e = rw e
