-- Document 02, L4: the elms of an expression leave one entry more, and are refused with 7 exactly where they would hold more than 16; where there is
-- room for them they push the value of the expression, or refuse as it does. For any limit on an entry and any stack. Assumes nothing.
use Prim.Native.Nat.{ℕ, suc, ◌+◌, ◌-◌, ◌≤◌, max}
use native.Mathlib.Numerals.{add-one}
use native.Mathlib.Omega.{arith}
use mathlib.Core.Path.{◌≡◌, refl, sym, ◌∙◌}
use mathlib.Core.Bool.{Bool, true, false}
use mathlib.Core.Logic.{◌⊎◌, inl, inr}
use mathlib.Core.List.{List, [], ◌∷◌, ◌++◌, append_assoc, map, map-append}
use lib.Dec.{leb}
use lib.ListN.{length, drop}
use borrow.Author.Tests.{le-leb, lt-leb, leb-true, leb-false}
use Rattle.paper.specs.Bytes.{Bytes}
use Rattle.paper.specs.Sizes.{stack_most}
use Rattle.paper.specs.Refusals.{Res, given, refused, ◌>>=◌, ◌>>◌, refuse◌unless◌, stack_fault}
use Rattle.paper.specs.Numbers.{Binary, binary_gives}
use Rattle.paper.specs.Codes.{Elm}
use Rattle.paper.specs.Checking.{shape, stacked, all_stacked}
use Rattle.paper.specs.Steps.{Run, done, stop, step, onward, stepped, Setting, operand, limited, one_entry, elm_puts, elm_step, elms_run}
use Rattle.paper.specs.Converting.{result}
use Rattle.paper.proofs.Refusing.{never_given}
use Rattle.paper.proofs.Runs.{elms_onward}
use Rattle.algebra.specs.Expressions.{Expression, Operand, alone, joined, attribute, literal, parenthesised, remainder, substring}
use Rattle.algebra.specs.Expressions.{Spelt, spelt, value, operand_value, elms_in, operand_elms, f_elms}

-- Answers that go on from one another.

pub then_then : {A B C : Type 0} (r : Res A) (f : A → Res B) (g : B → Res C) → ((r >>= f) >>= g) ≡ (r >>= λ a. f a >>= g)
then_then (given a) f g = refl
then_then (refused n) f g = refl

pub then_same : {A B : Type 0} (r : Res A) {f g : A → Res B} → ((a : A) → f a ≡ g a) → (r >>= f) ≡ (r >>= g)
then_same (given a) h = h a
then_same (refused n) h = refl

then_given : {A : Type 0} (r : Res A) → (r >>= given) ≡ r
then_given (given a) = refl
then_given (refused n) = refl

pub result_onward : {A B : Type 0} (r : Run A) (k : A → Run B) → result (onward r k) ≡ (result r >>= λ a. result (k a))
unfolding result onward
result_onward (done a) k = refl
result_onward (stop n) k = refl
result_onward (step cost r) k = result_onward r k

-- Elms and their spelling.

abbrev pub elms : List Spelt → List Elm
elms ts = map (λ (t : Spelt). t.elm) ts

stacked_append : (es fs : List Elm) (held : ℕ) → all_stacked (es ++ fs) held ≡ (all_stacked es held >>= all_stacked fs)
unfolding all_stacked
stacked_append [] fs held = refl
stacked_append (e ∷ es) fs held = then_same (stacked e held) (stacked_append es fs) ∙ sym (then_then (stacked e held) (all_stacked es) (all_stacked fs))

-- so many entries, or the refusal of one too many
abbrev pub Entries : ℕ → Res ℕ → Type 0
Entries n r = (r ≡ given n) ⊎ (r ≡ refused stack_fault)

elms_stacked : (ts us : List Spelt) (held : ℕ) → all_stacked (elms (ts ++ us)) held ≡ (all_stacked (elms ts) held >>= all_stacked (elms us))
elms_stacked ts us held = rw map-append (stacked_append (elms ts) (elms us) held)

-- where all of them have room, the later ones have it behind the first
room_then : (ts us : List Spelt) (held : ℕ) {m n : ℕ} → Entries m (all_stacked (elms ts) held) → all_stacked (elms (ts ++ us)) held ≡ given n
    → (all_stacked (elms ts) held ≡ given m) × (all_stacked (elms us) m ≡ given n)
room_then ts us held (inl e) h = (e, rw (elms_stacked, e) at h)
room_then ts us held (inr e) h = never_given (rw (elms_stacked, e) at h)

-- these elms make n entries of so many with top of them at the most, and are refused exactly where those are too many
record Holds (ts : List Spelt) (held top n : ℕ) : Type 0 where
  same : all_stacked (elms ts) held ≡ ((refuse stack_fault unless leb top stack_most) >> given n)

-- one after another: the larger of their tops
holds_then : {ts us : List Spelt} {held a b c m n : ℕ} → Holds ts held a m → Holds us m b n → max a b ≡ c → Holds (ts ++ us) held c n
holds_then {ts} {us} {held} {a} {b} {c} {m} {n} f g larger = record { same = rw (elms_stacked, f.same) (go (leb a stack_most) (leb b stack_most) refl refl) }
  where
    go : (s t : Bool) → leb a stack_most ≡ s → leb b stack_most ≡ t
        → (((refuse stack_fault unless s) >> given m) >>= all_stacked (elms us)) ≡ ((refuse stack_fault unless leb c stack_most) >> given n)
    go true true h i = rw (g.same, i, le-leb c stack_most (omega (arith, leb-true)))
    go true false h i = rw (g.same, i, lt-leb c stack_most (omega (arith, leb-false)))
    go false t h i = rw (lt-leb c stack_most (omega (arith, leb-false)))

-- an elm that finds its entries
holds_one : {t : Spelt} {held n : ℕ} → (shape t.elm).takes ≤ held → held - (shape t.elm).takes + (shape t.elm).puts ≡ n → Holds (t ∷ []) held n n
unfolding all_stacked stacked
holds_one {t} {held} {n} h e = record { same = rw (le-leb (shape t.elm).takes held h, e) (then_given _) }

-- the most entries that the elms of an expression hold above those that were there
unfoldable mutual
  pub deepest : Expression → ℕ
  deepest (alone x) = operand_deepest x
  deepest (joined e o x) = max (deepest e) (1 + operand_deepest x)

  pub operand_deepest : Operand → ℕ
  operand_deepest (attribute text n r) = 1
  operand_deepest (literal text bs) = 1
  operand_deepest (parenthesised e) = deepest e
  operand_deepest (remainder e f) = max (deepest e) (1 + deepest f)
  operand_deepest (substring x e f) = max (operand_deepest x) (max (1 + deepest e) (2 + deepest f))

mutual
  unfolding elms_in deepest shape

  expression_holds : (e : Expression) (held : ℕ) → Holds (elms_in e) held (held + deepest e) (suc held)
  expression_holds (alone x) held = operand_holds x held
  expression_holds (joined e o x) held =
      holds_then (holds_then (expression_holds e held) (operand_holds x (suc held)) refl) (holds_one (omega arith) (omega arith)) (omega arith)

  operand_holds : (x : Operand) (held : ℕ) → Holds (operand_elms x) held (held + operand_deepest x) (suc held)
  operand_holds (attribute text n r) held = rw add-one (holds_one (omega arith) (omega arith))
  operand_holds (literal text bs) held = rw add-one (holds_one (omega arith) (omega arith))
  operand_holds (parenthesised e) held = expression_holds e held
  operand_holds (remainder e f) held =
      holds_then (holds_then (expression_holds e held) (expression_holds f (suc held)) refl) (holds_one (omega arith) (omega arith)) (omega arith)
  operand_holds (substring x e f) held =
      holds_then
      (holds_then (holds_then (operand_holds x held) (expression_holds e (suc held)) refl) (expression_holds f (suc (suc held))) refl)
      (holds_one (omega arith) (omega arith))
      (omega arith)

-- The elms of an expression leave one entry more than there were, and are refused with 7 exactly where they would hold more than 16 on the way.
pub entries_exactly : (e : Expression) (held : ℕ)
    → all_stacked (f_elms e) held ≡ ((refuse stack_fault unless leb (held + deepest e) stack_most) >> given (suc held))
unfolding f_elms
entries_exactly e held = (expression_holds e held).same

-- So they leave one entry more than there were, or are refused with 7, which is then never for too few entries.
pub one_entry_more : (e : Expression) (held : ℕ) → (all_stacked (f_elms e) held ≡ given (suc held)) ⊎ (all_stacked (f_elms e) held ≡ refused stack_fault)
one_entry_more e held = rw entries_exactly (go (leb (held + deepest e) stack_most))
  where
    go : (t : Bool) → Entries (suc held) ((refuse stack_fault unless t) >> given (suc held))
    go true = inl refl
    go false = inr refl

-- Running them.

-- one entry more, or one too many
abbrev More : List Spelt → Type 0
More ts = (held : ℕ) → Entries (suc held) (all_stacked (elms ts) held)

module _ (most : ℕ) (c : Setting) where
  -- with the one stack before them, if they have room: r on top of the other, or its refusal
  record Puts (ts : List Spelt) (before stack : List Bytes) (r : Res Bytes) : Type 0 where
    puts : (n : ℕ) → all_stacked (elms ts) (length before) ≡ given n → result (elms_run most c (elms ts) before) ≡ (r >>= λ x. given (x ∷ stack))

  abbrev Pushes : List Spelt → Res Bytes → Type 0
  Pushes ts r = (stack : List Bytes) → Puts ts stack stack r

  -- a value, and what goes on from it
  puts_then : (ts us : List Spelt) (before : List Bytes) {stack : List Bytes} {r : Res Bytes} {f : Bytes → Res Bytes} → More ts → Pushes ts r
      → ((x : Bytes) → Puts us (x ∷ before) stack (f x)) → Puts (ts ++ us) before stack (r >>= f)
  puts_then ts us before {stack} {r} {f} more first rest = record { puts = go }
    where
      go : (n : ℕ) → all_stacked (elms (ts ++ us)) (length before) ≡ given n
          → result (elms_run most c (elms (ts ++ us)) before) ≡ ((r >>= f) >>= λ x. given (x ∷ stack))
      go n room =
          let (here, later) = room_then ts us (length before) (more (length before)) room in
          rw (map-append, elms_onward most c (elms ts) (elms us) before, result_onward, (first before).puts _ here)
          (then_then r _ _ ∙ then_same r (λ x. (rest x).puts n later) ∙ sym (then_then r f _))

  -- an elm that puts one entry
  puts_one : (t : Spelt) (before : List Bytes) (r : Res Bytes) → elm_puts most c t.elm before ≡ one_entry most r
      → Puts (t ∷ []) before (drop (shape t.elm).takes before) (limited most r)
  unfolding all_stacked elms_run elm_step stepped result
  puts_one t before r same = record { puts = λ n room. rw (has_room (stacked t.elm (length before)) room, same) (go (limited most r) _ _) }
    where
      has_room : {n : ℕ} (s : Res ℕ) → (s >>= given) ≡ given n → s ≡ given n
      has_room (given m) h = h
      has_room (refused m) h = h

      go : (x : Res Bytes) (cost : List Bytes → ℕ) (left : List Bytes)
          → result (stepped ((x >>= λ y. given (y ∷ [])) >>= λ put. given (cost put, put ++ left)) done) ≡ (x >>= λ y. given (y ∷ left))
      go (given y) cost left = refl
      go (refused n) cost left = refl

  -- two values and an operator
  puts_joined : (ts us : List Spelt) (text : Bytes) (o : Binary) {r q : Res Bytes} → More ts → More us → Pushes ts r → Pushes us q
      → Pushes (ts ++ us ++ spelt text (Elm.binary o) ∷ []) (r >>= λ left. q >>= λ right. limited most (binary_gives o left right))
  unfolding elm_puts shape
  puts_joined ts us text o f g p q stack =
      rw append_assoc
      (puts_then ts _ stack f p (λ left. puts_then us _ (left ∷ stack) g q (λ right. puts_one _ (right ∷ left ∷ stack) _ refl)))

  mutual
    unfolding f_elms elms_in value elm_puts shape operand

    value_put : (e : Expression) → Pushes (elms_in e) (value most c.item c.v c.s e)
    value_put (alone x) = operand_put x
    value_put (joined e o x) = puts_joined (elms_in e) (operand_elms x) _ _ (one_entry_more e) (one_entry_more (alone x)) (value_put e) (operand_put x)

    operand_put : (x : Operand) → Pushes (operand_elms x) (operand_value most c.item c.v c.s x)
    operand_put (attribute text n r) = λ stack. puts_one _ stack _ refl
    operand_put (literal text bs) = λ stack. puts_one _ stack _ refl
    operand_put (parenthesised e) = value_put e
    operand_put (remainder e f) = puts_joined (elms_in e) (elms_in f) _ _ (one_entry_more e) (one_entry_more f) (value_put e) (value_put f)
    operand_put (substring x e f) = λ stack.
        simp append_assoc
        (puts_then (operand_elms x) _ stack (one_entry_more (alone x)) (operand_put x)
        (λ text. puts_then (elms_in e) _ (text ∷ stack) (one_entry_more e) (value_put e)
        (λ start. puts_then (elms_in f) _ (start ∷ text ∷ stack) (one_entry_more f) (value_put f)
        (λ count. puts_one _ (count ∷ start ∷ text ∷ stack) _ refl))))

  -- Running the elms of an expression pushes its value on any stack that has room for them, or refuses as the value does.
  pub running_pushes : (e : Expression) (stack : List Bytes) (n : ℕ) → all_stacked (f_elms e) (length stack) ≡ given n
      → result (elms_run most c (f_elms e) stack) ≡ (value most c.item c.v c.s e >>= λ x. given (x ∷ stack))
  unfolding f_elms
  running_pushes e stack = (value_put e stack).puts
