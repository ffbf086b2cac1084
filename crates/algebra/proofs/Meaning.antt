-- Document 02, L4, the law: where an A code is shown as an F text, converting by that text answers the values of its expression with the marks
-- between, or the refusal of the first element that has one; and showing refuses what was read with 5 or 7 alone, before 16. Assumes nothing.
use Prim.Native.Nat.{ℕ, zero, suc, ◌≤◌}
use native.Mathlib.Omega.{arith}
use mathlib.Core.Path.{◌≡◌, refl, sym, ap}
use mathlib.Core.Bool.{Bool, true, false}
use mathlib.Core.Logic.{◌⊎◌, inl, inr}
use mathlib.Core.List.{List, [], ◌∷◌, ◌++◌, append-nil}
use mathlib.Core.Option.{Option, none, some}
use lib.Dec.{leb}
use lib.ListN.{length}
use borrow.Author.Tests.{le-leb, leb-true}
use Rattle.paper.specs.Bytes.{Bytes}
use Rattle.paper.specs.Sizes.{code_most, entry_most, scratch_least}
use Rattle.paper.specs.Refusals.{Res, given, refused, ◌>>=◌, ◌>>◌, refuse◌unless◌, refusal_of, over_long_code, not_in_grammar, stack_fault, short_output}
use Rattle.paper.specs.Records.{Part, place}
use Rattle.paper.specs.Codes.{Code}
use Rattle.paper.specs.Checking.{all_stacked, accepted, check, checked_codes}
use Rattle.paper.specs.Steps.{Setting, done, top_entry, code_run, codes_run, element_run}
use Rattle.paper.specs.Converting.{Element, from_one, elements_in, elements_of, elements}
use Rattle.paper.specs.Converting.{elements_run, result, unbudgeted, lawful_place, lawful_code, ready, run, fitted, finished}
use Rattle.paper.specs.Converting.{carried_out, convert_freely}
use Rattle.paper.proofs.Predicates.{Holds, holds, refuses, held_by, holds_after, holds_unless, All, none_of, and_all}
use Rattle.paper.proofs.Refusing.{never_given, passed}
use Rattle.algebra.specs.Expressions.{Expression, value, elms_in, f_text, f_elms}
use Rattle.algebra.specs.Grammar.{read}
use Rattle.algebra.specs.Showing.{in_grammar, understood, spelt_out, lawful_text, shown_text, show, values}
use Rattle.algebra.proofs.Pushing.{result_onward, then_then, then_same, one_entry_more, running_pushes}
use Rattle.algebra.proofs.Reading.{Fine, read_fine, text_accepted, text_faulty}

then_given : (r : Res Bytes) → (r >>= λ here. given [] >>= λ rest. given ([] ++ here ++ rest)) ≡ r
then_given (given bs) = ap given (append-nil bs)
then_given (refused n) = refl

-- an element within the limit
abbrev pub Within : ℕ → Element → Type 0
Within most x = length x.text ≤ most

-- "An F code's answer is the top entry."
top_of : (r : Res Bytes) → (((r >>= λ x. given (x ∷ [])) >>= λ stack. result (top_entry stack)) >>= λ x. result (done x)) ≡ r
unfolding result top_entry
top_of (given x) = refl
top_of (refused n) = refl

-- The run of an expression's F text on an element within the limit, with no budget, comes to the value at its position, or to that refusal.
pub element_means : (most : ℕ) (item : Bytes) (v s : ℕ) (e : Expression) (n : ℕ) (text : Bytes) → all_stacked (f_elms e) 0 ≡ given n → length text ≤ most
    → result (element_run most item v s (Code.function (f_elms e) ∷ []) text) ≡ value most item v s e
unfolding element_run codes_run code_run
element_means most item v s e n text room short =
    rw (le-leb (length text) most short, result_onward, result_onward, running_pushes most setting e [] n room) (top_of (value most item v s e))
  where
    setting : Setting
    setting = record { item = item; v = v; s = s; previous = text }

elements_mean : (most : ℕ) (item : Bytes) (e : Expression) (n : ℕ) {xs : List Element} → all_stacked (f_elms e) 0 ≡ given n → All (Within most) xs
    → result (elements_run most item (Code.function (f_elms e) ∷ []) xs) ≡ values most item e xs
unfolding elements_run values result
elements_mean most item e n room none_of = refl
elements_mean most item e n room (and_all {a = x} {rest = xs} short shorts) =
    rw (result_onward, element_means most item x.v x.s e n x.text room short)
    (then_same (value most item x.v x.s e) (λ here. rw (result_onward, elements_mean most item e n room shorts)))

-- and so the run over an address: the values with the marks between, or the first refusal
pub run_means : (item : Bytes) (a v s : ℕ) (e : Expression) (n : ℕ) → all_stacked (f_elms e) 0 ≡ given n → All (Within entry_most) (elements item a v s)
    → result (run item a v s (Code.function (f_elms e) ∷ [])) ≡ values entry_most item e (elements item a v s)
unfolding run
run_means item a v s e n room shorts = elements_mean entry_most item e n room shorts

-- at one position there is one element, and its value is the answer
module _ (most : ℕ) (item : Bytes) (e : Expression) where
  one_value : (v s : ℕ) (o : Option Part) → values most item e (elements_of (suc v) (suc s) o) ≡ value most item (suc v) (suc s) e
  unfolding values elements_of elements_in from_one
  one_value v s none = then_given (value most item (suc v) (suc s) e)
  one_value v s (some p) = then_given (value most item (suc v) (suc s) e)

  pub value_at : (a v s : ℕ) → 1 ≤ v → 1 ≤ s → values most item e (elements item a v s) ≡ value most item v s e
  unfolding elements
  value_at a zero s h k = absurd (omega arith)
  value_at a (suc v) zero h k = absurd (omega arith)
  value_at a (suc v) (suc s) h k = one_value v s (place item a (suc v) (suc s))

-- What is told of the F text of an expression that was read: 5, 7, or the text, which the check accepts.
data Texted (e : Expression) : Res Bytes → Type 0 where
  too_long : Texted e (refused over_long_code)
  too_deep : Texted e (refused stack_fault)
  shown : check (f_text e) ≡ accepted (Code.function (f_elms e) ∷ []) → all_stacked (f_elms e) 0 ≡ given 1 → Texted e (given (f_text e))

text_told : (e : Expression) → All Fine (elms_in e) → Texted e (lawful_text (f_text e))
unfolding lawful_text checked_codes
text_told e fine = go (leb (length (f_text e)) code_most) refl
  where
    go : (t : Bool) → leb (length (f_text e)) code_most ≡ t
        → Texted e ((refuse over_long_code unless t) >> (checked_codes (check (f_text e)) >> given (f_text e)))
    go true l = accepted_or_not (one_entry_more e 0)
      where
        short : length (f_text e) ≤ code_most
        short = leb-true _ _ l

        accepted_or_not : (all_stacked (f_elms e) 0 ≡ given 1) ⊎ (all_stacked (f_elms e) 0 ≡ refused stack_fault)
            → Texted e (checked_codes (check (f_text e)) >> given (f_text e))
        accepted_or_not (inl room) = let h = text_accepted e fine short room in rw h (shown h room)
        accepted_or_not (inr full) = rw (text_faulty e fine short full) too_deep
    go false l = too_long

-- Showing refuses what was read with 5 or 7, and then 16: no other fault of an F text comes up.
pub show_refuses_so : (code : Bytes) (e : Expression) → read code ≡ some e → (n : ℕ) → lawful_text (f_text e) ≡ refused n
    → (n ≡ over_long_code) ⊎ (n ≡ stack_fault)
show_refuses_so code e h n = go (text_told e (read_fine code e h))
  where
    go : {r : Res Bytes} → Texted e r → r ≡ refused n → (n ≡ over_long_code) ⊎ (n ≡ stack_fault)
    go too_long same = inl (cc)
    go too_deep same = inr (cc)
    go (shown c room) same = never_given (sym same)

-- An A code and the text that it is shown as.
pub record Shown (code text : Bytes) : Type 0 where
  pub expression : Expression
  pub is_read : understood code ≡ given expression
  pub in_F : text ≡ f_text expression
  pub checked : check text ≡ accepted (Code.function (f_elms expression) ∷ [])
  pub room : all_stacked (f_elms expression) 0 ≡ given 1

understood_read : (code : Bytes) (e : Expression) → understood code ≡ given e → read code ≡ some e
unfolding understood
understood_read code e h = go (read code) (passed ((refuse over_long_code unless leb (length code) code_most) ∷ []) (in_grammar (read code)) h).1
  where
    go : (o : Option Expression) → in_grammar o ≡ given e → o ≡ some e
    go none h = never_given h
    go (some x) h = cc

fitted_holds : {P : Bytes → Type 0} (room : ℕ) {r : Res Bytes} → Holds P r → Holds P (fitted room r)
unfolding fitted
fitted_holds room refuses = refuses
fitted_holds room (holds {a = bs} p) = holds_unless short_output (leb (length bs) room) bs (λ _. p)

pub shown_code : (code : Bytes) (room : ℕ) (text : Bytes) → show code room ≡ given text → Shown code text
unfolding show shown_text spelt_out
shown_code code room text = held_by (fitted_holds room all_shown)
  where
    go : (e : Expression) → understood code ≡ given e → {r : Res Bytes} → Texted e r → Holds (Shown code) r
    go e h too_long = refuses
    go e h too_deep = refuses
    go e h (shown c room) = holds (record { expression = e; is_read = h; in_F = refl; checked = c; room = room })

    all_shown : Holds (Shown code) (shown_text code)
    all_shown = rw then_then (holds_after (understood code) (λ e h. go e h (text_told e (read_fine code e (understood_read code e h)))))

-- Converting by the F text, with no budget: the values of the expression with the marks between, or the refusal of the first element that has one;
-- and then 16.
pub shown_means : (code : Bytes) (room : ℕ) (text : Bytes) (h : show code room ≡ given text) (item : Bytes) (a v s : ℕ) → lawful_place item a v s ≡ given tt
    → All (Within entry_most) (elements item a v s) → (output scratch : ℕ) → scratch_least ≤ scratch
    → (convert_freely item text a v s output scratch).answer
    ≡ fitted output (values entry_most item (shown_code code room text h).expression (elements item a v s))
unfolding convert_freely carried_out finished unbudgeted ready lawful_code checked_codes
shown_means code room text h item a v s lawful shorts output scratch enough =
    let w = shown_code code room text h in
    rw (lawful, w.checked, le-leb scratch_least scratch enough, run_means item a v s w.expression 1 w.room shorts)

-- The refusals of showing: "5 .., 6 .., 5 .., 7 .., 16".
pub data Refusal : ℕ → Type 0 where
  over_long : Refusal over_long_code
  unread : Refusal not_in_grammar
  overfull : Refusal stack_fault
  no_room : Refusal short_output

-- an answer, or one of them
data Numbered : Res Bytes → Type 0 where
  answers : {bs : Bytes} → Numbered (given bs)
  refuses_with : {n : ℕ} → Refusal n → Numbered (refused n)

numbered_text : (code : Bytes) (o : Option Expression) → read code ≡ o → Numbered ((in_grammar o >>= λ e. given (f_text e)) >>= lawful_text)
numbered_text code none h = refuses_with unread
numbered_text code (some e) h = go (text_told e (read_fine code e h))
  where
    go : {r : Res Bytes} → Texted e r → Numbered r
    go too_long = refuses_with over_long
    go too_deep = refuses_with overfull
    go (shown c room) = answers

numbered_show : (code : Bytes) (room : ℕ) → Numbered (show code room)
unfolding show shown_text spelt_out understood fitted
numbered_show code room = fits (short (leb (length code) code_most))
  where
    short : (t : Bool) → Numbered ((((refuse over_long_code unless t) >> in_grammar (read code)) >>= λ e. given (f_text e)) >>= lawful_text)
    short true = numbered_text code (read code) refl
    short false = refuses_with over_long

    fits : {r : Res Bytes} → Numbered r → Numbered (fitted room r)
    fits (answers {bs = bs}) = go (leb (length bs) room)
      where
        go : (t : Bool) → Numbered ((refuse short_output unless t) >> given bs)
        go true = answers
        go false = refuses_with no_room
    fits (refuses_with f) = refuses_with f

-- no other number is told, and 0 exactly of an answer
pub show_refusal : (code : Bytes) (room n : ℕ) → show code room ≡ refused n → Refusal n
show_refusal code room n = go (numbered_show code room)
  where
    go : {r : Res Bytes} → Numbered r → r ≡ refused n → Refusal n
    go answers e = never_given (sym e)
    go (refuses_with {n = m} f) e = let same : m ≡ n = cc in rw (← same) f

pub show_answered : (code : Bytes) (room : ℕ) → refusal_of (show code room) ≡ 0 → (text : Bytes) × (show code room ≡ given text)
show_answered code room = go (numbered_show code room)
  where
    go : {r : Res Bytes} → Numbered r → refusal_of r ≡ 0 → (text : Bytes) × (r ≡ given text)
    go (answers {bs = bs}) e = (bs, refl)
    go (refuses_with over_long) e = absurd (omega arith)
    go (refuses_with unread) e = absurd (omega arith)
    go (refuses_with overfull) e = absurd (omega arith)
    go (refuses_with no_room) e = absurd (omega arith)
