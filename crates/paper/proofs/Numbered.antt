-- Document 01, "Numbers that refusals carry", with document 02's: every refusal that converting gives carries a number of that table, and after an
-- accepted check it is never 7. A law for each way of going on, then one for each definition that may refuse and matches on something; the rest is
-- unfolded. Assumes nothing.
use Rattle.std.specs.Prelude.{if◌then◌else◌}
use Prim.Native.Nat.{ℕ, suc, ◌+◌, ◌-◌, ◌≤◌, ◌<◌}
use mathlib.Core.Path.{◌≡◌, refl, ap, subst}
use mathlib.Core.Bool.{Bool, true, false, not, ◌&&◌, ◌||◌}
use mathlib.Core.Logic.{◌≢◌, ◌⊎◌, inl, inr, ⊎_elim}
use mathlib.Core.List.{List, [], ◌∷◌}
use mathlib.Core.Option.{Option, none, some}
use lib.Dec.{T, leb, eqb}
use lib.ListN.{length}
use native.Mathlib.Omega.{arith}
use borrow.Author.Tests.{le-leb, ne_eqb, eqb-true, eqb-false, not-true}
use Rattle.paper.specs.Bytes.{Bytes, within}
use Rattle.paper.specs.Sizes.{code_most, entry_most, stack_most, scratch_least}
use Rattle.paper.specs.Refusals.{Res, given, refused, ◌>>=◌, ◌>>◌, refuse◌unless◌, refuse◌when◌, refusal_of}
use Rattle.paper.specs.Refusals.{stack_fault, short_scratch, short_output, mark_in_element, left_over_entries, last_refusal}
use Rattle.paper.specs.Records.{lawful_id, lawful_record, lawful_address}
use Rattle.paper.specs.Numbers.{Number, ranged, number, compare_forms, compared, Binary, binary_gives, substring_gives}
use Rattle.paper.specs.Codes.{Plain, Conversion, Elm, Code}
use Rattle.paper.specs.Checking.{shape, stacked, all_stacked, lawful, in_grammar, judged, Checked, accepted, faulty, in_turn, judged_all, code_texts, check, checked_codes}
use Rattle.paper.specs.Texts.{hex_value, hex_pair, unhexed, plain_gives}
use Rattle.paper.specs.Masks.{on_number, number_gives, laid_out, number_masked, mask_gives}
use Rattle.paper.specs.Dates.{ranged_day, date_gives}
use Rattle.paper.specs.Steps.{Run, done, stop, step, onward, stepped, Setting, conversion_gives, top_entry, limited, elm_puts, elm_step, conversion_step, elms_run, code_run, codes_run, element_run}
use Rattle.paper.specs.Converting.{Element, elements_run, Outcome, within_budget, lawful_place, lawful_code, ready, run, fitted, finished, carried_out, convert}
use Rattle.paper.proofs.Predicates.{Holds, holds, refuses, holds_then, holds_next, All, none_of, and_all}
use Rattle.paper.proofs.Truths.{both}
use Rattle.paper.proofs.Ranges.{within_true}
use Rattle.paper.proofs.Stack.{Room, Safe, answers, refuses_itself, goes_on, SafeCode, checked_codes_are_safe}

-- the numbers of the table that converting may give: all but 17, which is replacing's
abbrev table : ℕ → Bool
table n = within 1 last_refusal n && not (eqb n mark_in_element)

-- the numbers that are tried before the run, but for the scratch's
abbrev early : ℕ → Bool
early n = within 1 stack_fault n || eqb n left_over_entries

-- the numbers that a run's own steps refuse with
abbrev own : ℕ → Bool
own n = within 9 14 n

-- an answer, or a refusal with one of these numbers
data Numbered {A : Type 0} (p : ℕ → Bool) : Res A → Type 0 where
  answered : {a : A} → Numbered p (given a)
  numbered : {n : ℕ} → T (p n) → Numbered p (refused n)

module _ {p : ℕ → Bool} where
  numbered_then : {A B : Type 0} {r : Res A} {k : A → Res B} → Numbered p r → ((a : A) → Numbered p (k a)) → Numbered p (r >>= k)
  numbered_then answered f = f _
  numbered_then (numbered h) f = numbered h

  numbered_next : {A B : Type 0} {r : Res A} {q : Res B} → Numbered p r → Numbered p q → Numbered p (r >> q)
  numbered_next answered t = t
  numbered_next (numbered h) t = numbered h

  numbered_unless : (n : ℕ) (t : Bool) → T (p n) → Numbered p (refuse n unless t)
  numbered_unless n true h = answered
  numbered_unless n false h = numbered h

  numbered_when : (n : ℕ) (t : Bool) → T (p n) → Numbered p (refuse n when t)
  numbered_when n true h = numbered h
  numbered_when n false h = answered

-- one of two, for any predicate
either : {A : Type 0} (P : A → Type 0) (t : Bool) {x y : A} → P x → P y → P (if t then x else y)
either P true p q = p
either P false p q = q

-- what proves a block of tests; the depth of a search follows how many stand in a row
ruleset tests = (answered, numbered, tt, numbered_then, numbered_next, numbered_unless, numbered_when)

-- numbers: 10, 11
forms_numbered : (second top : Bytes) (x y : Option Number) → Numbered own (compare_forms second top x y)
unfolding ranged
forms_numbered second top (some x) (some y) = search tests depth 8
forms_numbered second top (some x) none = answered
forms_numbered second top none y = answered

binary_numbered : (o : Binary) (second top : Bytes) → Numbered own (binary_gives o second top)
unfolding binary_gives number ranged compared
binary_numbered (Binary.multiply n) second top = search tests depth 12
binary_numbered Binary.divide second top = search tests depth 12
binary_numbered Binary.rest second top = search tests depth 12
binary_numbered Binary.add second top = search tests depth 12
binary_numbered Binary.subtract second top = search tests depth 12
binary_numbered Binary.concatenate second top = answered
binary_numbered (Binary.relate r) second top = search (tests, forms_numbered)

-- the codes other than F: 10, 12, 13, 14
pair_numbered : (h l : Option ℕ) {rest : Res Bytes} → Numbered own rest → Numbered own (hex_pair h l rest)
pair_numbered (some h) (some l) p = search tests
pair_numbered (some h) none p = search tests
pair_numbered none l p = search tests

unhexed_numbered : (e : Bytes) → Numbered own (unhexed e)
unfolding unhexed
unhexed_numbered [] = answered
unhexed_numbered (h ∷ []) = search tests
unhexed_numbered (h ∷ l ∷ bs) = pair_numbered (hex_value h) (hex_value l) (unhexed_numbered bs)

plain_numbered : (p : Plain) (e : Bytes) → Numbered own (plain_gives p e)
unfolding plain_gives
plain_numbered (Plain.group skip x n) e = answered
plain_numbered (Plain.extract start n) e = answered
plain_numbered Plain.measure e = answered
plain_numbered (Plain.admit least most) e = answered
plain_numbered Plain.letters e = answered
plain_numbered Plain.other_than_letters e = answered
plain_numbered Plain.numerals e = answered
plain_numbered Plain.other_than_numerals e = answered
plain_numbered Plain.upper e = answered
plain_numbered Plain.lower e = answered
plain_numbered Plain.title e = answered
plain_numbered Plain.hex e = answered
plain_numbered Plain.unhex e = search (tests, unhexed_numbered)

on_numbered : (o : Option Number) {f : Number → Res Bytes} → ((x : Number) → Numbered own (f x)) → Numbered own (on_number f o)
unfolding ranged
on_numbered none g = search tests
on_numbered (some x) g = search tests

laid_numbered : (left : Bool) (fill : Option (ℕ × ℕ)) (text : Bytes) → Numbered own (laid_out left fill text)
unfolding laid_out
laid_numbered left none text = answered
laid_numbered left (some fill) text = search tests

conversion_numbered : (k : Conversion) (e : Bytes) → Numbered own (conversion_gives k e)
unfolding conversion_gives mask_gives number_gives number_masked ranged date_gives ranged_day
conversion_numbered (Conversion.plain p) e = plain_numbered p e
conversion_numbered (Conversion.mask k) [] = answered
conversion_numbered (Conversion.mask k) (b ∷ bs) = search (tests, on_numbered, laid_numbered, either (Numbered {A = Bytes} own)) depth 8
conversion_numbered (Conversion.date n s) [] = answered
conversion_numbered (Conversion.date n s) (b ∷ bs) = search (tests, on_numbered) depth 8
conversion_numbered (Conversion.patterns ps) e = answered

-- checking: 5, 6, 7, 18
all_stacked_numbered : (es : List Elm) (held : ℕ) → Numbered early (all_stacked es held)
unfolding all_stacked stacked
all_stacked_numbered [] held = answered
all_stacked_numbered (e ∷ es) held = search (tests, all_stacked_numbered es) depth 8

lawful_numbered : (c : Code) → Numbered early (lawful c)
unfolding lawful
lawful_numbered (Code.function es) = search (tests, all_stacked_numbered)
lawful_numbered (Code.single k) = answered

in_grammar_numbered : (o : Option Code) → Numbered early (in_grammar o)
in_grammar_numbered none = search tests
in_grammar_numbered (some c) = answered

in_turn_numbered : (k : ℕ) {r : Res Code} (rest : Checked) → Numbered early r → Numbered early (checked_codes rest) → Numbered early (checked_codes (in_turn k r rest))
unfolding checked_codes
in_turn_numbered k rest (numbered h) p = numbered h
in_turn_numbered k (accepted cs) answered p = answered
in_turn_numbered k (faulty n l) answered p = p

judged_all_numbered : (k : ℕ) (texts : List Bytes) → Numbered early (checked_codes (judged_all k texts))
unfolding judged_all judged checked_codes
judged_all_numbered k [] = answered
judged_all_numbered k (t ∷ ts) =
    in_turn_numbered k {r = judged t} _ (search (tests, in_grammar_numbered, lawful_numbered)) (judged_all_numbered (suc k) ts)

check_numbered : (string : Bytes) → Numbered early (checked_codes (check string))
unfolding check checked_codes
check_numbered string =
    either (λ c. Numbered early (checked_codes c)) (leb (length string) code_most) (judged_all_numbered 1 (code_texts string)) (numbered tt)

-- what is faulty has a number: a check that reports 0 has accepted
pub faults_are_numbered : (string : Bytes) (n k : ℕ) → check string ≡ faulty n k → n ≢ 0
unfolding checked_codes
faults_are_numbered string n k e = go (subst (λ (c : Checked). Numbered early (checked_codes c)) e (check_numbered string))
  where
    go : {m : ℕ} → Numbered {A = List Code} early (refused m) → m ≢ 0
    go (numbered h) f = rw f at h

is_true : (t : Bool) → T t → t ≡ true
is_true true h = refl
is_true false h = absurd h

in_table : (low high n : ℕ) → 1 ≤ low → high < mark_in_element → T (within low high n) → T (table n)
in_table low high n l u h =
    let w = within_true low high n (is_true _ h) in
    rw (le-leb 1 n (omega arith), le-leb n last_refusal (omega arith), ne_eqb n mark_in_element (λ e. omega arith)) tt

told_table : (n : ℕ) → T (table n) → (1 ≤ n) × (n ≤ last_refusal) × (n ≢ mark_in_element)
told_table n h =
    let p = both (within 1 last_refusal n) (not (eqb n mark_in_element)) (is_true _ h) in
    let w = within_true 1 last_refusal n p.0 in
    (w.0, w.1, eqb-false n mark_in_element (not-true _ p.1))

-- a refusal with one of these numbers is one with one of more
numbered_more : {A : Type 0} {p q : ℕ → Bool} {r : Res A} → ((n : ℕ) → T (p n) → T (q n)) → Numbered p r → Numbered q r
numbered_more f answered = answered
numbered_more f (numbered h) = numbered (f _ h)

-- the early ones are 1 to 7 and 18
told_early : (n : ℕ) → T (early n) → (within 1 stack_fault n ≡ true) ⊎ (n ≡ left_over_entries)
told_early n h = go (within 1 stack_fault n) (eqb n left_over_entries) refl h
  where
    go : (t u : Bool) → eqb n left_over_entries ≡ u → T (t || u) → (t ≡ true) ⊎ (n ≡ left_over_entries)
    go true u e k = inl refl
    go false true e k = inr (eqb-true n left_over_entries e)
    go false false e k = absurd k

early_in_table : (n : ℕ) → T (early n) → T (table n)
early_in_table n h =
    ⊎_elim (λ (w : within 1 stack_fault n ≡ true). in_table 1 stack_fault n (omega arith) (omega arith) (rw w tt))
    (λ (e : n ≡ left_over_entries). rw e tt) (told_early n h)

check_in_table : (string : Bytes) → Numbered table (checked_codes (check string))
check_in_table string = numbered_more early_in_table (check_numbered string)

-- before the run: 1, 2, 3, 4, checking, 8
ready_numbered : (item string : Bytes) (a v s scratch : ℕ) → Numbered table (ready item string a v s scratch)
unfolding ready lawful_place lawful_record lawful_id lawful_address lawful_code
ready_numbered item string a v s scratch = search (tests, check_in_table) depth 10

-- the number of a refusal is one of them
number_told : {A : Type 0} {p : ℕ → Bool} {r : Res A} → Numbered p r → (n : ℕ) → r ≡ refused n → T (p n)
number_told answered n e = let z : ◌≡◌ {A = ℕ} 0 1 = cc in absurd (omega arith)
number_told {p = p} (numbered h) n e = subst (λ (m : ℕ). T (p m)) (ap refusal_of e) h

-- a run that stops only with one of these numbers
data Stops {A : Type 0} (p : ℕ → Bool) : Run A → Type 0 where
  ends : {a : A} → Stops p (done a)
  stops : {n : ℕ} → T (p n) → Stops p (stop n)
  goes : {cost : ℕ} {r : Run A} → Stops p r → Stops p (step cost r)

module _ {p : ℕ → Bool} where
  onward_stops : {A B : Type 0} {r : Run A} {k : A → Run B} → Stops p r → ((a : A) → Stops p (k a)) → Stops p (onward r k)
  unfolding onward
  onward_stops ends f = f _
  onward_stops (stops h) f = stops h
  onward_stops (goes t) f = goes (onward_stops t f)

  stepped_stops : {A B : Type 0} {r : Res (ℕ × A)} {k : A → Run B} → Numbered p r → ((a : A) → Stops p (k a)) → Stops p (stepped r k)
  unfolding stepped
  stepped_stops answered f = goes (f _)
  stepped_stops (numbered h) f = stops h

-- what proves a run made of these
ruleset runs = (ends, stops, tt, onward_stops, stepped_stops)

-- Over the limit on an entry: 9, and never 7 where the stack is safe.
module _ (most : ℕ) where
  puts_own : (c : Setting) (e : Elm) (stack : List Bytes) → (shape e).takes ≤ length stack → Numbered own (elm_puts most c e stack)
  unfolding elm_puts limited substring_gives number ranged shape
  puts_own c (Elm.push o) stack h = search tests
  puts_own c (Elm.binary o) [] h = absurd (omega arith)
  puts_own c (Elm.binary o) (x ∷ []) h = absurd (omega arith)
  puts_own c (Elm.binary o) (x ∷ y ∷ xs) h = search (tests, binary_numbered) depth 8
  puts_own c Elm.substring [] h = absurd (omega arith)
  puts_own c Elm.substring (x ∷ []) h = absurd (omega arith)
  puts_own c Elm.substring (x ∷ y ∷ []) h = absurd (omega arith)
  puts_own c Elm.substring (x ∷ y ∷ z ∷ xs) h = search tests depth 12
  puts_own c Elm.exchange [] h = absurd (omega arith)
  puts_own c Elm.exchange (x ∷ []) h = absurd (omega arith)
  puts_own c Elm.exchange (x ∷ y ∷ xs) h = answered
  puts_own c Elm.duplicate [] h = absurd (omega arith)
  puts_own c Elm.duplicate (x ∷ xs) h = answered
  puts_own c (Elm.convert k) [] h = absurd (omega arith)
  puts_own c (Elm.convert k) (x ∷ xs) h = search (tests, conversion_numbered) depth 8

  -- an elm that finds its entries and leaves at most 16 refuses with a number of its own
  step_own : (c : Setting) (e : Elm) (stack : List Bytes) → Room e (length stack) → Numbered own (elm_step most c e stack)
  unfolding elm_step stacked
  step_own c e stack room =
      rw (le-leb (shape e).takes (length stack) room.enough, le-leb (length stack - (shape e).takes + (shape e).puts) stack_most room.not_too_many)
      (numbered_then (puts_own c e stack room.enough) (λ put. answered))

  safe_stops : (c : Setting) {es : List Elm} {stack : List Bytes} → Safe most c es stack → Stops own (onward (elms_run most c es stack) top_entry)
  unfolding elms_run top_entry stepped onward
  safe_stops c answers = ends
  safe_stops c (refuses_itself room f) = rw f (stops (number_told (step_own c _ _ room) _ f))
  safe_stops c (goes_on room f deep rest) = rw f (goes (safe_stops c rest))

  codes_stops : (item : Bytes) (v s : ℕ) {cs : List Code} → All (SafeCode most) cs → (e : Bytes) → Stops own (codes_run most item v s cs e)
  unfolding codes_run code_run conversion_step limited
  codes_stops item v s none_of e = ends
  codes_stops item v s (and_all {a = Code.function es} safe safes) e = onward_stops (safe_stops _ (safe _)) (codes_stops item v s safes)
  codes_stops item v s (and_all {a = Code.single k} safe safes) e =
      onward_stops (stepped_stops (search (tests, conversion_numbered) depth 8) (λ r. ends)) (codes_stops item v s safes)

  elements_stops : (item : Bytes) {cs : List Code} → All (SafeCode most) cs → (es : List Element) → Stops own (elements_run most item cs es)
  unfolding elements_run element_run
  elements_stops item safes [] = ends
  elements_stops item safes (e ∷ es) =
      onward_stops (either (Stops {A = Bytes} own) (leb (length e.text) most) (codes_stops item e.v e.s safes e.text) (stops tt))
      (λ r. onward_stops (elements_stops item safes es) (λ rest. ends))

-- Any numbers that hold a run's own, 15 and 16, hold all that converting refuses with, where they hold what is refused before the run.
module _ {p : ℕ → Bool} (holds_own : (n : ℕ) → T (own n) → T (p n)) (holds_15 : T (p 15)) (holds_16 : T (p 16)) where
  finished_numbered : (budget so_far room : ℕ) {r : Run Bytes} → Stops own r → Numbered p (finished room (within_budget budget so_far r)).answer
  unfolding finished within_budget fitted
  finished_numbered budget so_far room (ends {a = bs}) = numbered_next (numbered_unless short_output (leb (length bs) room) holds_16) answered
  finished_numbered budget so_far room (stops h) = numbered (holds_own _ h)
  finished_numbered budget so_far room (goes {cost = cost} t) =
      either (λ (o : Outcome). Numbered p (finished room o).answer) (leb (so_far + cost) budget)
      (finished_numbered budget (so_far + cost) room t) (numbered holds_15)

  carried_numbered : (item : Bytes) (a v s budget room : ℕ) {readied : Res (List Code)} → Numbered p readied → Holds (All (SafeCode entry_most)) readied
      → Numbered p (carried_out (within_budget budget 0) item a v s room readied).answer
  unfolding carried_out run
  carried_numbered item a v s budget room answered (holds safes) = finished_numbered budget 0 room (elements_stops _ item safes _)
  carried_numbered item a v s budget room (numbered h) t = numbered h

-- what is ready to run is safe
codes_safe : (string : Bytes) (c : Checked) → check string ≡ c → Holds (All (SafeCode entry_most)) (checked_codes c)
unfolding checked_codes
codes_safe string (accepted cs) e = holds (checked_codes_are_safe entry_most string cs e)
codes_safe string (faulty n k) e = refuses

ready_safe : (item string : Bytes) (a v s scratch : ℕ) → Holds (All (SafeCode entry_most)) (ready item string a v s scratch)
unfolding ready lawful_code
ready_safe item string a v s scratch =
    holds_next (lawful_place item a v s)
    (λ u e. holds_then (codes_safe string (check string) refl) (λ cs safes. holds_next (refuse short_scratch unless leb scratch_least scratch) (λ w f. holds safes)))

-- before the run, but for the scratch, whatever follows gives: 1 to 7, or 18
pub early_refusals : {B : Type 0} (item string : Bytes) (a v s : ℕ) (k : List Code → B) (n : ℕ)
    → (lawful_place item a v s >> (checked_codes (check string) >>= λ cs. given (k cs))) ≡ refused n
    → (1 ≤ n) × ((n ≤ stack_fault) ⊎ (n ≡ left_over_entries))
unfolding lawful_place lawful_record lawful_id lawful_address
early_refusals item string a v s k n e =
    ⊎_elim (λ (w : within 1 stack_fault n ≡ true). let r = within_true 1 stack_fault n w in (r.0, inl r.1))
    (λ (l : n ≡ left_over_entries). (omega arith, inr l))
    (told_early n (number_told {p = early} (search (tests, check_numbered) depth 10) n e))

-- Every refusal of converting carries a number of the paper's table; so none is taken for an answer, whose number is 0.
pub converting_numbered : (item string : Bytes) (a v s budget room scratch : ℕ) (n : ℕ)
    → (convert item string a v s budget room scratch).answer ≡ refused n → (1 ≤ n) × (n ≤ last_refusal) × (n ≢ mark_in_element)
unfolding convert
converting_numbered item string a v s budget room scratch n e =
    told_table n
    (number_told {p = table}
    (carried_numbered (λ n. in_table 9 14 n (omega arith) (omega arith)) tt tt item a v s budget room (ready_numbered item string a v s scratch) (ready_safe item string a v s scratch))
    n
    e)

-- the number that is told of an outcome, 0 for an answer
pub converting_told : (item string : Bytes) (a v s budget room scratch : ℕ)
    → (refusal_of (convert item string a v s budget room scratch).answer ≤ last_refusal)
    × (refusal_of (convert item string a v s budget room scratch).answer ≢ mark_in_element)
converting_told item string a v s budget room scratch = go (convert item string a v s budget room scratch).answer refl
  where
    go : (r : Res Bytes) → (convert item string a v s budget room scratch).answer ≡ r
        → (refusal_of r ≤ last_refusal) × (refusal_of r ≢ mark_in_element)
    go (given bs) e = (omega arith, λ f. omega arith)
    go (refused n) e = let told = converting_numbered item string a v s budget room scratch n e in (told.1, told.2)

-- a number above 0 is told of a refusal alone
pub told_refused : {A : Type 0} (r : Res A) (n : ℕ) → refusal_of r ≡ suc n → r ≡ refused (suc n)
told_refused (given a) n e = absurd (omega arith)
told_refused (refused m) n e = ap refused e

-- any number but 7
abbrev other_than_seven : ℕ → Bool
other_than_seven n = not (eqb n stack_fault)

own_not_seven : (n : ℕ) → T (own n) → T (other_than_seven n)
own_not_seven n h = let w = within_true 9 14 n (is_true _ h) in rw (ne_eqb n stack_fault (λ e. omega arith)) tt

accepted_ready : (item string : Bytes) (a v s scratch : ℕ) (cs : List Code) → check string ≡ accepted cs
    → Numbered other_than_seven (ready item string a v s scratch)
unfolding ready lawful_place lawful_record lawful_id lawful_address lawful_code checked_codes
accepted_ready item string a v s scratch cs e = rw e (search tests depth 10)

-- A checked code never finds too few or too many entries on the stack: after an accepted check converting never refuses with 7.
pub no_stack_fault : (item string : Bytes) (a v s budget room scratch : ℕ) (cs : List Code) → check string ≡ accepted cs
    → (convert item string a v s budget room scratch).answer ≢ refused stack_fault
unfolding convert
no_stack_fault item string a v s budget room scratch cs e f =
    number_told
    (carried_numbered own_not_seven tt tt item a v s budget room (accepted_ready item string a v s scratch cs e) (ready_safe item string a v s scratch))
    stack_fault
    f
