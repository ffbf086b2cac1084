-- Document 02, L5, beside the check before it, which let entries be left over: refusal 18 is all that moved in checking, and what an accepted string gives
-- is, on every record, address, budget and buffer, what it gave before. Running is the same definition on both sides. Assumes nothing.
use Rattle.std.specs.Prelude.{if◌then◌else◌}
use Prim.Native.Nat.{ℕ, suc}
use mathlib.Core.Path.{◌≡◌, refl, sym, ◌∙◌}
use mathlib.Core.Bool.{Bool, true, false}
use mathlib.Core.Logic.{◌⊎◌, inl, inr}
use mathlib.Core.List.{List, [], ◌∷◌}
use mathlib.Core.Option.{Option, none, some}
use native.Mathlib.Omega.{arith}
use lib.ListN.{length}
use lib.Dec.{leb, eqb}
use Rattle.paper.specs.Bytes.{Bytes}
use Rattle.paper.specs.Sizes.{code_most, scratch_least}
use Rattle.paper.specs.Refusals.{Res, given, refused, ◌>>=◌, ◌>>◌, refuse◌unless◌, over_long_code, short_scratch, left_over_entries}
use Rattle.paper.specs.Codes.{Code}
use Rattle.paper.specs.Grammar.{read}
use Rattle.paper.specs.Checking.{all_stacked, lawful, in_grammar, judged}
use Rattle.paper.specs.Checking.{Checked, accepted, faulty, in_turn, judged_all, code_texts, check, checked_codes}
use Rattle.paper.specs.Converting.{Outcome, within_budget, lawful_place, lawful_code, ready, carried_out, convert}

-- The check before L5: document 01's "6 or 7" alone, and the rest as it stands.
lawful_before : Code → Res (Unit {0})
lawful_before (Code.function es) = all_stacked es 0 >> given tt
lawful_before (Code.single c) = given tt

judged_before : Bytes → Res Code
judged_before bs = in_grammar (read bs) >>= λ c. lawful_before c >> given c

judged_all_before : ℕ → List Bytes → Checked
judged_all_before k [] = accepted []
judged_all_before k (c ∷ cs) = in_turn k (judged_before c) (judged_all_before (suc k) cs)

pub check_before : Bytes → Checked
check_before string = if leb (length string) code_most then judged_all_before 1 (code_texts string) else faulty over_long_code 0

-- and converting by it
pub convert_before : Bytes → Bytes → ℕ → ℕ → ℕ → ℕ → ℕ → ℕ → Outcome
convert_before item string a v s budget room scratch =
    carried_out (within_budget budget 0) item a v s room
    (lawful_place item a v s >> (checked_codes (check_before string) >>= λ cs. (refuse short_scratch unless leb scratch_least scratch) >> given cs))

-- of one code, and of a string: the same, or 18 now
data MovedCode : Res Code → Res Code → Type 0 where
  same_code : {r : Res Code} → MovedCode r r
  now_left_over : {c : Code} → MovedCode (given c) (refused left_over_entries)

data Moved : Checked → Checked → Type 0 where
  same : {c : Checked} → Moved c c
  left_over : {c : Checked} (k : ℕ) → Moved c (faulty left_over_entries k)

lawful_moved : (c : Code) → MovedCode (lawful_before c >> given c) (lawful c >> given c)
unfolding lawful_before lawful
lawful_moved (Code.single c) = same_code
lawful_moved (Code.function es) = go (all_stacked es 0)
  where
    one : (t : Bool) → MovedCode (given (Code.function es)) ((refuse left_over_entries unless t) >> given (Code.function es))
    one true = same_code
    one false = now_left_over

    go : (r : Res ℕ)
        → MovedCode ((r >> given (tt {0})) >> given (Code.function es))
        ((r >>= λ held. refuse left_over_entries unless eqb held 1) >> given (Code.function es))
    go (given n) = one (eqb n 1)
    go (refused n) = same_code

judged_moved : (bs : Bytes) → MovedCode (judged_before bs) (judged bs)
unfolding judged_before judged
judged_moved bs = go (read bs)
  where
    go : (o : Option Code) → MovedCode (in_grammar o >>= λ c. lawful_before c >> given c) (in_grammar o >>= λ c. lawful c >> given c)
    go none = same_code
    go (some c) = lawful_moved c

turn_moved : (k : ℕ) {r q : Res Code} {x y : Checked} → MovedCode r q → Moved x y → Moved (in_turn k r x) (in_turn k q y)
turn_moved k (same_code {r = given c}) same = same
turn_moved k (same_code {r = given c}) (left_over j) = left_over j
turn_moved k (same_code {r = refused n}) m = same
turn_moved k now_left_over m = left_over k

all_moved : (k : ℕ) (texts : List Bytes) → Moved (judged_all_before k texts) (judged_all k texts)
unfolding judged_all_before judged_all
all_moved k [] = same
all_moved k (t ∷ ts) = turn_moved k (judged_moved t) (all_moved (suc k) ts)

moved : (string : Bytes) → Moved (check_before string) (check string)
unfolding check_before check
moved string = go (leb (length string) code_most)
  where
    go : (t : Bool) → Moved (if t then judged_all_before 1 (code_texts string) else faulty over_long_code 0)
        (if t then judged_all 1 (code_texts string) else faulty over_long_code 0)
    go true = all_moved 1 (code_texts string)
    go false = same

-- "new 18": a string is refused with it, or the check says of it what it said before.
pub left_over_or_as_before : (string : Bytes) → ((k : ℕ) × (check string ≡ faulty left_over_entries k)) ⊎ (check string ≡ check_before string)
left_over_or_as_before string = go (moved string)
  where
    go : {x y : Checked} → Moved x y → ((k : ℕ) × (y ≡ faulty left_over_entries k)) ⊎ (y ≡ x)
    go same = inr refl
    go (left_over k) = inl (k, refl)

module _ (string : Bytes) (cs : List Code) (e : check string ≡ accepted cs) where
  -- What is accepted was accepted, as the same codes, and so with the same A, B, P and T and the same ceiling ..
  pub accepted_before : check_before string ≡ accepted cs
  accepted_before = go (left_over_or_as_before string)
    where
      go : ((k : ℕ) × (check string ≡ faulty left_over_entries k)) ⊎ (check string ≡ check_before string) → check_before string ≡ accepted cs
      go (inl (k, f)) = let z : ◌≡◌ {A = ℕ} 0 1 = cc in absurd (omega arith)
      go (inr f) = sym f ∙ e

  -- .. and gives what it gave.
  pub gives_as_before : (item : Bytes) (a v s budget room scratch : ℕ)
      → convert item string a v s budget room scratch ≡ convert_before item string a v s budget room scratch
  unfolding convert ready lawful_code convert_before
  gives_as_before item a v s budget room scratch = rw (e, accepted_before)
