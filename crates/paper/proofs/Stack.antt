-- Demand 3, the stack: in a string that the check accepts, on every record and at every position, each elm finds at least the entries that
-- it takes and leaves at most 16, and each F code ends with an entry to answer with; by document 02, L5, with no other beside it. For any
-- limit on an entry. Assumes nothing.
use Rattle.std.specs.Prelude.{if◌then◌else◌}
use Prim.Native.Nat.{ℕ, suc, ◌+◌, ◌-◌, ◌≤◌}
use mathlib.Core.Path.{◌≡◌, refl, sym, ap, ◌∙◌}
use mathlib.Core.Bool.{Bool, true, false}
use mathlib.Core.List.{List, [], ◌∷◌}
use native.Mathlib.Omega.{arith}
use lib.ListN.{length}
use lib.Dec.{leb, eqb, lit≤}
use borrow.Author.Tests.{leb-true, eqb-true}
use Rattle.paper.specs.Bytes.{Bytes}
use Rattle.paper.specs.Sizes.{stack_most, code_most}
use Rattle.paper.specs.Refusals.{Res, given, refused, ◌>>=◌, ◌>>◌, refuse◌unless◌, stack_fault, over_long_code, left_over_entries}
use Rattle.paper.specs.Codes.{Operand, Elm, Code, Conversion}
use Rattle.paper.specs.Grammar.{read}
use Rattle.paper.specs.Checking.{shape, stacked, all_stacked, lawful, in_grammar, judged, Checked, accepted, faulty, in_turn, judged_all, code_texts, check}
pub use Rattle.paper.specs.Checking.{Room}
use Rattle.paper.specs.Steps.{Setting, stepped, elm_step, elms_run}
use Rattle.paper.specs.Converting.{result}
use Rattle.paper.proofs.Predicates.{Holds, holds, refuses, held_by, holds_after, holds_next, All, none_of, and_all, all_map}
use Rattle.paper.proofs.Entries.{Fit, Stepped, steps_within}

-- The run of elms from a stack, at each of them: it finds its entries and leaves at most 16, whether it then refuses or goes on; and an
-- entry is there at the end.
pub data Safe (most : ℕ) (c : Setting) : List Elm → List Bytes → Type 0 where
  answers : {x : Bytes} {xs : List Bytes} → Safe most c [] (x ∷ xs)
  refuses_itself : {e : Elm} {es : List Elm} {stack : List Bytes} {n : ℕ} → Room e (length stack) → elm_step most c e stack ≡ refused n
      → Safe most c (e ∷ es) stack
  goes_on : {e : Elm} {es : List Elm} {stack : List Bytes} {cost : ℕ} {after : List Bytes} → Room e (length stack)
      → elm_step most c e stack ≡ given (cost, after) → length after ≤ stack_most → Safe most c es after → Safe most c (e ∷ es) stack

-- what the check's test of one elm tells
abbrev After : Elm → ℕ → ℕ → Type 0
After e entries after = Room e entries × (after ≡ entries - (shape e).takes + (shape e).puts)

tested : (e : Elm) (entries : ℕ) (t u : Bool) → leb (shape e).takes entries ≡ t
    → leb (entries - (shape e).takes + (shape e).puts) stack_most ≡ u
    → Holds (After e entries)
    ((refuse stack_fault unless t) >> ((refuse stack_fault unless u) >> given (entries - (shape e).takes + (shape e).puts)))
tested e entries true true p q = holds (record { enough = leb-true _ _ p; not_too_many = leb-true _ _ q }, refl)
tested e entries true false p q = refuses
tested e entries false u p q = refuses

stacked_room : (e : Elm) (entries : ℕ) → Holds (After e entries) (stacked e entries)
unfolding stacked
stacked_room e entries = tested e entries _ _ refl refl

pub puts_one : (e : Elm) → 1 ≤ (shape e).puts
unfolding shape
puts_one (Elm.push (Operand.attribute n r)) = lit≤ tt
puts_one (Elm.push (Operand.literal bs)) = lit≤ tt
puts_one (Elm.push Operand.previous) = lit≤ tt
puts_one (Elm.binary o) = lit≤ tt
puts_one Elm.substring = lit≤ tt
puts_one Elm.exchange = lit≤ tt
puts_one Elm.duplicate = lit≤ tt
puts_one (Elm.convert k) = lit≤ tt

abbrev SoMany : ℕ → List Bytes → Type 0
SoMany n stack = length stack ≡ n

module _ (most : ℕ) (c : Setting) where
  -- one elm, the check's test passed and its step taken, and the elms after it
  safe_elm : (e : Elm) (es : List Elm) (stack : List Bytes) (n : ℕ) {r : Res ℕ} {q : Res (ℕ × List Bytes)}
      → Holds (After e (length stack)) r → (r >>= all_stacked es) ≡ given n
      → Holds (Stepped most c.item e stack) q → elm_step most c e stack ≡ q
      → ((after : List Bytes) → All (Fit most) after → all_stacked es (length after) ≡ given n → Safe most c es after)
      → Safe most c (e ∷ es) stack
  safe_elm e es stack n refuses h t q next = let z : ◌≡◌ {A = ℕ} 0 1 = cc in absurd (omega arith)
  safe_elm e es stack n (holds {a = d} p) h refuses q next = refuses_itself p.0 q
  safe_elm e es stack n (holds {a = d} p) h (holds {a = x} t) q next =
      goes_on p.0 q (rw t.deep p.0.not_too_many)
      (next x.1 t.fit (rw (t.deep ∙ sym p.1) h))

  safe : (es : List Elm) (stack : List Bytes) (n : ℕ) → All (Fit most) stack → 1 ≤ n → all_stacked es (length stack) ≡ given n → Safe most c es stack
  unfolding all_stacked
  safe [] [] n fits h e = let z : 0 ≡ n = cc in absurd (omega arith)
  safe [] (x ∷ xs) n fits h e = answers
  safe (m ∷ es) stack n fits h e =
      safe_elm m es stack n (stacked_room m (length stack)) e (steps_within most c m stack fits) refl
      (λ after fits' e'. safe es after n fits' h e')

  -- where such a run comes to its end, as many entries are there as the check counted
  counted_elm : (e : Elm) (es : List Elm) (stack : List Bytes) (n : ℕ) {r : Res ℕ} {q : Res (ℕ × List Bytes)}
      → Holds (After e (length stack)) r → (r >>= all_stacked es) ≡ given n → Holds (Stepped most c.item e stack) q
      → ((after : List Bytes) → All (Fit most) after → all_stacked es (length after) ≡ given n → Holds (SoMany n) (result (elms_run most c es after)))
      → Holds (SoMany n) (result (stepped q (elms_run most c es)))
  unfolding stepped result
  counted_elm e es stack n refuses h t next = let z : ◌≡◌ {A = ℕ} 0 1 = cc in absurd (omega arith)
  counted_elm e es stack n (holds p) h refuses next = refuses
  counted_elm e es stack n (holds {a = d} p) h (holds {a = x} t) next = next x.1 t.fit (rw (t.deep ∙ sym p.1) h)

  counted : (es : List Elm) (stack : List Bytes) (n : ℕ) → All (Fit most) stack → all_stacked es (length stack) ≡ given n
      → Holds (SoMany n) (result (elms_run most c es stack))
  unfolding all_stacked elms_run result
  counted [] stack n fits e = let same : length stack ≡ n = cc in holds same
  counted (m ∷ es) stack n fits e =
      counted_elm m es stack n (stacked_room m (length stack)) e (steps_within most c m stack fits) (λ after fits' e'. counted es after n fits' e')

-- What the check has seen of a code: the elms of an F code pass the test of the stack, and leave one entry.
pub data Sound : Code → Type 0 where
  sound_function : {es : List Elm} → all_stacked es 0 ≡ given 1 → Sound (Code.function es)
  sound_single : {k : Conversion} → Sound (Code.single k)

sound_elms : (es : List Elm) (r : Res ℕ) → all_stacked es 0 ≡ r
    → Holds (λ (u : Unit {0}). Sound (Code.function es)) (r >>= λ held. refuse left_over_entries unless eqb held 1)
sound_elms es (given n) e = go (eqb n 1) refl
  where
    go : (t : Bool) → eqb n 1 ≡ t → Holds (λ (u : Unit {0}). Sound (Code.function es)) (refuse left_over_entries unless t)
    go true f = holds (sound_function (e ∙ ap given (eqb-true n 1 f)))
    go false f = refuses
sound_elms es (refused n) e = refuses

lawful_sound : (c : Code) → Holds (λ u. Sound c) (lawful c)
unfolding lawful
lawful_sound (Code.function es) = sound_elms es (all_stacked es 0) refl
lawful_sound (Code.single k) = holds sound_single

pub judged_sound : (bs : Bytes) → Holds Sound (judged bs)
unfolding judged
judged_sound bs = holds_after (in_grammar (read bs)) (λ c _. holds_next (lawful c) (λ u e. holds (held_by (lawful_sound c) e)))

-- faulty, or accepted with every code sound
data Fine : Checked → Type 0 where
  fine : {cs : List Code} → All Sound cs → Fine (accepted cs)
  at_fault : {n k : ℕ} → Fine (faulty n k)

fine_turn : (k : ℕ) {r : Res Code} {rest : Checked} → Holds Sound r → Fine rest → Fine (in_turn k r rest)
fine_turn k refuses f = at_fault
fine_turn k (holds sound) (fine sounds) = fine (and_all sound sounds)
fine_turn k (holds sound) at_fault = at_fault

fine_all : (k : ℕ) (texts : List Bytes) → Fine (judged_all k texts)
unfolding judged_all
fine_all k [] = fine none_of
fine_all k (t ∷ ts) = fine_turn k (judged_sound t) (fine_all (suc k) ts)

fine_check : (string : Bytes) → Fine (check string)
unfolding check
fine_check string = short_enough (leb (length string) code_most)
  where
    short_enough : (t : Bool) → Fine (if t then judged_all 1 (code_texts string) else faulty over_long_code 0)
    short_enough true = fine_all 1 (code_texts string)
    short_enough false = at_fault

fine_codes : {c : Checked} (cs : List Code) → Fine c → c ≡ accepted cs → All Sound cs
fine_codes cs (fine {cs = ds} sounds) e = let same : ds ≡ cs = cc in rw same at sounds
fine_codes cs at_fault e = let z : ◌≡◌ {A = ℕ} 0 1 = cc in absurd (omega arith)

-- a code runs safely: an F code does from the empty stack, on every record and position; any other code has no stack
abbrev pub SafeCode : ℕ → Code → Type 0
SafeCode most (Code.function es) = (c : Setting) → Safe most c es []
SafeCode most (Code.single k) = Unit {0}

sound_safe : (most : ℕ) {c : Code} → Sound c → SafeCode most c
sound_safe most (sound_function {es = es} e) = λ c. safe most c es [] 1 none_of (omega arith) e
sound_safe most sound_single = tt

-- A checked code never finds too few or too many entries on the stack.
pub checked_codes_are_safe : (most : ℕ) (string : Bytes) (cs : List Code) → check string ≡ accepted cs → All (SafeCode most) cs
checked_codes_are_safe most string cs e = all_map (λ c. sound_safe most) (fine_codes cs (fine_check string) e)

-- the run of an F code's elms is refused, or ends with exactly one entry, on every record and position
abbrev pub EndsWithOne : ℕ → Code → Type 0
EndsWithOne most (Code.function es) = (c : Setting) → Holds (SoMany 1) (result (elms_run most c es []))
EndsWithOne most (Code.single k) = Unit {0}

sound_ends : (most : ℕ) {c : Code} → Sound c → EndsWithOne most c
sound_ends most (sound_function {es = es} e) = λ c. counted most c es [] 1 none_of e
sound_ends most sound_single = tt

-- Document 02, L5: "an F code must end with exactly one entry", and a checked one does.
pub checked_codes_end_with_one : (most : ℕ) (string : Bytes) (cs : List Code) → check string ≡ accepted cs → All (EndsWithOne most) cs
checked_codes_end_with_one most string cs e = all_map (λ c. sound_ends most) (fine_codes cs (fine_check string) e)
