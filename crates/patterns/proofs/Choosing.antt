-- Patterns tried test by test, and one after the other: what is told of those still to be read is told of all. Assumes nothing.
use Prim.Native.Nat.{ℕ, ◌≤◌, ◌<◌}
use native.Mathlib.Omega.{arith}
use mathlib.Core.Path.{◌≡◌, refl, sym, ap, ◌∙◌}
use mathlib.Core.Bool.{Bool, true, false}
use mathlib.Core.Logic.{⊎_elim}
use mathlib.Core.List.{List, [], ◌∷◌}
use mathlib.Core.Option.{Option, none, some}
use lib.ListN.{length, drop}
use lib.Dec.{eqb}
use borrow.Author.Tests.{eqb-true, eqb-false, eq-eqb}
use Rattle.paper.specs.Bytes.{Bytes}
use Rattle.paper.specs.Sizes.{entry_most}
use Rattle.paper.specs.Refusals.{given}
use Rattle.paper.specs.Steps.{limited}
use Rattle.std.specs.Prelude.{Ok, Err, if◌then◌else◌}
use Rattle.paper.specs.declared.Refusal.{Refusal}
use Rattle.paper.specs.declared.Read.{Read}
use Rattle.paper.specs.Codes as paper
use Rattle.paper.specs.Grammar.{tests, pattern, pattern_list}
use Rattle.paper.specs.Patterns.{passes, some_passes, patterns_give}
use Rattle.paper.proofs.Fuel.{onto}
use Rattle.paper.proofs.Patterns.{cut_by, passes_from, nothing, passes_forward}
use Rattle.paper.proofs.Truths.{ltb_or}
use Rattle.paper.proofs.Limits.{limited_within, Answered, gives_bytes}
use Rattle.paper.proofs.Predicates.{reads, reads_not, none_of, and_all}
use Rattle.lent.specs.Over.{over}
use Rattle.lent.proofs.Laws.{over_front}
use Rattle.codes.specs.declared.Test.{Test}
use Rattle.codes.specs.Meaning.{test_of, patterns_read, patterns_at}
use Rattle.readers.specs.Places.{Peeked, byte_at, after, choose_or, this, numeral}
use Rattle.readers.specs.Reading as place
use Rattle.readers.specs.Answers.{read}
use Rattle.readers.proofs.Bytes.{byte_past, after_inside}
use Rattle.readers.proofs.Quotes.{quoted_inside}
use Rattle.readers.proofs.Ever.{Ever, read_has, follow_then, follow_any, or_any, choose_reads}
use Rattle.readers.proofs.PatternReads.{tests_none, tests_last, tests_more, opened, pattern_is, patterns_none, patterns_last, patterns_more}
use Rattle.patterns.specs.Reach.{Marks, Moved, TestWithin}
use Rattle.patterns.specs.Readable.{Readable, readable, Judged, judged, Decided, decided}

-- what a reader answered

pub read_there : {A : Type 0} {r : Read A} (o : Option (A × ℕ)) → Ok r ≡ read o → o ≡ some (r.value, r.next)
read_there {r = r} (some p) h = let e : r ≡ record { value = p.0; next = p.1 } = cc in rw e refl
read_there none h = cc

pub read_nowhere : {A : Type 0} {n : Refusal} (o : Option (A × ℕ)) → Err n ≡ read o → o ≡ none
read_nowhere (some p) h = cc
read_nowhere none h = refl

-- this byte and no other: it stands there, or another does
this_or_not : (c : ℕ) (code : Bytes) (at : ℕ) (t : Bool) → eqb c (byte_at code at) ≡ t → this c code at ≡ (if t then some (tt, after code at) else none)
unfolding this choose_or
this_or_not c code at t e = rw e refl

this_there : (c : ℕ) (code : Bytes) (at : ℕ) {m : ℕ} → this c code at ≡ some (tt, m) → Peeked code at c m
this_there c code at {m} h = go (eqb c (byte_at code at)) refl
  where
    go : (t : Bool) → eqb c (byte_at code at) ≡ t → Peeked code at c m
    go true e =
        let told = this_or_not c code at true e in
        let both : ◌≡◌ {A = Unit {0} × ℕ} (tt, m) (tt, after code at) = cc in
        record { stands = eqb-true c _ e; leads = ap (λ (r : Unit {0} × ℕ). r.1) both }
    go false e = absurd (let told = this_or_not c code at false e in let z : ◌≡◌ {A = ℕ} 0 1 = cc in omega arith)

this_not : (c : ℕ) (code : Bytes) (at : ℕ) → this c code at ≡ none → byte_at code at ≡ c → ⊥
this_not c code at h f = let told = this_or_not c code at true (eq-eqb c _ (sym f)) in let z : ◌≡◌ {A = ℕ} 0 1 = cc in omega arith

-- ---- a literal that was read stands within the code

module _ (s : Bytes) where
  literal_stands : (q : ℕ) → Ever (TestWithin s) s (place.literal_test q)
  unfolding place.literal_test
  literal_stands q n = follow_then _ (quoted_inside q s n) (λ len h k. reads h)

  test_reads : Ever (TestWithin s) s place.test
  unfolding place.count_test place.quoted_test
  test_reads n =
      or_any (numeral 2 s n) _ _ (λ v k. follow_any (place.class_letter s k) _ (λ c j. reads tt))
      (choose_reads _ (and_all (literal_stands 39) (and_all (literal_stands 34) none_of)) (λ n. reads_not) n)

  pub test_stands : (at : ℕ) {t : Test} {n : ℕ} → place.test s at ≡ some (t, n) → TestWithin s t
  test_stands at e = read_has (test_reads at) e

-- ---- one pattern, test by test

-- from what stands before, the tests at place `at` tell what all tests tell
pub record Trying (code e : Bytes) (from at : ℕ) (flags : Bytes) : Type 0 where
  pub before : Bytes → Bool
  pub marks : Marks before e flags
  pub leads : (passed : Bool) (next : ℕ) → Judged (λ ts. passes_from before ts e) code passed next (tests (drop at code))
      → Judged (λ ts. passes ts e) code passed next (tests (drop from code))

pub trying_start : (code e : Bytes) (from : ℕ) {flags : Bytes} → Marks nothing e flags → Trying code e from from flags
trying_start code e from m = record { before = nothing; marks = m; leads = λ passed next j. go j }
  where
    go : {passed : Bool} {next : ℕ} {o : Option (paper.Pattern × Bytes)} → Judged (λ ts. passes_from nothing ts e) code passed next o
        → Judged (λ ts. passes ts e) code passed next o
    go (judged {ts = ts} p q) = judged (p ∙ sym (passes_forward ts e)) q
    go Judged.unread = Judged.unread

module _ {code e : Bytes} {from at : ℕ} {flags : Bytes} (x : Trying code e from at flags) where
  pub trying_none : (passed : Bool) (next : ℕ) → place.test code at ≡ none → Judged (λ ts. passes ts e) code passed next (tests (drop from code))
  trying_none passed next r = x.leads passed next (rw (tests_none code at r) Judged.unread)

  module _ {t : Test} {n b m : ℕ} (r : place.test code at ≡ some (t, n)) (p : Peeked code n b m) where
    pub trying_next : {flags' : Bytes} → Moved (test_of code t) e flags flags' → (b ≡ 41 → ⊥) → Trying code e from n flags'
    unfolding passes_from
    trying_next moved h = record {
      before = cut_by x.before (test_of code t);
      marks = moved.moves x.before x.marks;
      leads = λ passed next j. x.leads passed next (rw (tests_more code at r p h) (go j));
    }
      where
        go : {passed : Bool} {next : ℕ} {o : Option (paper.Pattern × Bytes)}
            → Judged (λ ts. passes_from (cut_by x.before (test_of code t)) ts e) code passed next o
            → Judged (λ ts. passes_from x.before ts e) code passed next (onto (test_of code t) o)
        go (judged p q) = judged p q
        go Judged.unread = Judged.unread

    -- the parenthesis: the pattern passes where the element's end is reached
    pub trying_last : {passed : Bool} → ((before : Bytes → Bool) → Marks before e flags → passed ≡ cut_by before (test_of code t) e) → b ≡ 41
        → Judged (λ ts. passes ts e) code passed m (tests (drop from code))
    unfolding passes_from
    trying_last told h = x.leads _ m (rw (tests_last code at r p h) (judged (told x.before x.marks) refl))

-- ---- patterns, one after the other

pub record Choosing (code e : Bytes) (start at : ℕ) : Type 0 where
  pub leads : (passed : Bool) → Decided (λ ps. some_passes ps e) passed (pattern_list (drop at code))
      → Decided (λ ps. some_passes ps e) passed (pattern_list (drop start code))

module _ {code e : Bytes} {start at : ℕ} (x : Choosing code e start at) where
  -- no parenthesis
  pub choosing_none : (passed : Bool) → this 40 code at ≡ none → Decided (λ ps. some_passes ps e) passed (pattern_list (drop start code))
  choosing_none passed h = x.leads passed (rw (patterns_none code at (pattern_is code at ∙ ap (opened code at) h)) Decided.unread)

module _ {code e : Bytes} {start at m : ℕ} (x : Choosing code e start at) (p : this 40 code at ≡ some (tt, m)) where
  behind : pattern (drop at code) ≡ tests (drop m code)
  behind = pattern_is code at ∙ ap (opened code at) p

  unreadable : (passed : Bool) → tests (drop m code) ≡ none → Decided (λ ps. some_passes ps e) passed (pattern_list (drop at code))
  unreadable passed none_read = rw (patterns_none code at (behind ∙ none_read)) Decided.unread

  onward : (ts : paper.Pattern) {passed : Bool} {o : Option (List paper.Pattern × Bytes)} → passes ts e ≡ false → Decided (λ ps. some_passes ps e) passed o
      → Decided (λ ps. some_passes ps e) passed (onto ts o)
  unfolding some_passes
  onward ts f (decided {ps = ps} {rest = rest} d) = decided {ps = ts ∷ ps} {rest = rest} (rw f d)
  onward ts f Decided.unread = Decided.unread

  -- one passes
  pub choosing_passed : {passed : Bool} {n : ℕ} → passed ≡ true → Judged (λ ts. passes ts e) code passed n (tests (drop m code))
      → Decided (λ ps. some_passes ps e) true (pattern_list (drop start code))
  unfolding some_passes
  choosing_passed {passed} {n} t j = x.leads true (go j refl)
    where
      through : (ts : paper.Pattern) (o : Option (List paper.Pattern × Bytes)) → passes ts e ≡ true → Decided (λ ps. some_passes ps e) true (onto ts o)
      through ts none f = Decided.unread
      through ts (some r) f = decided {ps = ts ∷ r.0} {rest = r.1} (rw f)

      here : Peeked code n (byte_at code n) (after code n)
      here = record { stands = refl; leads = refl }

      by : (ts : paper.Pattern) (u : Bool) → passes ts e ≡ true → pattern (drop at code) ≡ some (ts, drop n code) → eqb (byte_at code n) 59 ≡ u
          → Decided (λ ps. some_passes ps e) true (pattern_list (drop at code))
      by ts true f r w = rw (patterns_more code at r here (eqb-true (byte_at code n) 59 w)) (through ts (pattern_list (drop (after code n) code)) f)
      by ts false f r w = rw (patterns_last code at r here (eqb-false (byte_at code n) 59 w)) (decided {ps = ts ∷ []} (rw f))

      go : {o : Option (paper.Pattern × Bytes)} → Judged (λ ts. passes ts e) code passed n o → tests (drop m code) ≡ o
          → Decided (λ ps. some_passes ps e) true (pattern_list (drop at code))
      go (judged {ts = ts} d q) r = by ts (eqb (byte_at code n) 59) (sym d ∙ t) (behind ∙ (r ∙ ap (λ (l : Bytes). some (ts, l)) q)) refl
      go Judged.unread r = unreadable true r

  module _ {passed : Bool} {n : ℕ} (f : passed ≡ false) (j : Judged (λ ts. passes ts e) code passed n (tests (drop m code))) where
    -- none is left
    pub choosing_last : this 59 code n ≡ none → Decided (λ ps. some_passes ps e) false (pattern_list (drop start code))
    unfolding some_passes
    choosing_last w = x.leads false (go j refl)
      where
        go : {o : Option (paper.Pattern × Bytes)} → Judged (λ ts. passes ts e) code passed n o → tests (drop m code) ≡ o
            → Decided (λ ps. some_passes ps e) false (pattern_list (drop at code))
        go (judged {ts = ts} d q) r =
            rw (patterns_last code at (behind ∙ (r ∙ ap (λ (l : Bytes). some (ts, l)) q)) (record { stands = refl; leads = refl }) (this_not 59 code n w))
            (decided {ps = ts ∷ []} (rw (sym d ∙ f)))
        go Judged.unread r = unreadable false r

    pub choosing_next : {k : ℕ} → this 59 code n ≡ some (tt, k) → Choosing code e start k
    choosing_next {k} w = record { leads = λ passed d. x.leads passed (go d j refl) }
      where
        go : {v : Bool} {o : Option (paper.Pattern × Bytes)} → Decided (λ ps. some_passes ps e) v (pattern_list (drop k code))
            → Judged (λ ts. passes ts e) code passed n o
            → tests (drop m code) ≡ o → Decided (λ ps. some_passes ps e) v (pattern_list (drop at code))
        go g (judged {ts = ts} d q) r =
            rw (patterns_more code at (behind ∙ (r ∙ ap (λ (l : Bytes). some (ts, l)) q)) (this_there 59 code n w) refl)
            (onward ts (sym d ∙ f) g)
        go g Judged.unread r = unreadable _ r

-- a byte that is no mark stands within the code
pub this_on : (c : ℕ) (code : Bytes) (at : ℕ) {m : ℕ} → c < 255 → this c code at ≡ some (tt, m) → (at < m) × (m ≤ length code)
this_on c code at h e =
    let p = this_there c code at e in
    ⊎_elim (λ l. (omega (arith, p.leads, after_inside code at l), omega (arith, p.leads, after_inside code at l)))
    (λ u. absurd (omega (arith, p.stands, byte_past code at u))) (ltb_or at (length code))

-- ---- the answer

module _ {code : Bytes} {start : ℕ} (e : Bytes) (r : Readable code start) where
  -- the patterns that stand there were decided
  some_told : {passed : Bool} → Decided (λ ps. some_passes ps e) passed (pattern_list (drop start code)) → passed ≡ some_passes (patterns_at code start) e
  unfolding patterns_at
  some_told {passed} d = go r d
    where
      told : {o : Option (List paper.Pattern × Bytes)} {ps : List paper.Pattern} {rest : Bytes} → Decided (λ ps. some_passes ps e) passed o
          → o ≡ some (ps, rest)
          → passed ≡ some_passes (patterns_read o) e
      told (decided h) w = h
      told Decided.unread w = absurd (let z : ◌≡◌ {A = ℕ} 0 1 = cc in omega arith)

      go : Readable code start → Decided (λ ps. some_passes ps e) passed (pattern_list (drop start code))
          → passed ≡ some_passes (patterns_read (pattern_list (drop start code))) e
      go (readable w) d = told d w

  module _ (held : Bytes) {passed : Bool} (fits : length e ≤ entry_most) (d : Decided (λ ps. some_passes ps e) passed (pattern_list (drop start code))) where
    pub gives_element : {out : Bytes} → passed ≡ true → out ≡ over held 0 e
        → Answered (limited entry_most (given (patterns_give (patterns_at code start) e))) held out (Ok (length e))
    unfolding patterns_give
    gives_element h o = gives_bytes held e (limited_within entry_most (rw (sym (some_told d) ∙ h)) fits) refl (o ∙ over_front held e)

    pub gives_nothing : passed ≡ false → Answered (limited entry_most (given (patterns_give (patterns_at code start) e))) held held (Ok 0)
    unfolding patterns_give
    gives_nothing h = gives_bytes held [] (limited_within entry_most (rw (sym (some_told d) ∙ h)) (omega arith)) refl refl
