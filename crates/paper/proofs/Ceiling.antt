-- Demand 3, the ceiling: the defined count is at most the number of elements times what the string's steps can cost, for any limit `most` on
-- an entry, and so for converting at its own; a run is bounded by data, a case for each of its forms. That ceiling is document 01's with a P code's
-- own place in it, m x (A x (1,025 + R) + B x 4,097 + (P + T) x 1,025). Assumes nothing.
use Rattle.std.specs.Prelude.{if◌then◌else◌}
use Prim.Native.Nat.{ℕ, ◌+◌, ◌*◌, ◌≤◌}
use mathlib.Core.Path.{◌≡◌, refl, ap}
use mathlib.Core.Bool.{Bool, true, false}
use mathlib.Core.List.{List, [], ◌∷◌}
use native.Mathlib.Omega.{arith}
use native.Mathlib.Nat.{le_trans, suc-mul, zero-mul, one-mul, add-mul}
use lib.ListN.{length}
use lib.Dec.{leb, lit≤}
use borrow.Author.Tests.{leb-true}
use Rattle.paper.specs.Bytes.{Bytes}
use Rattle.paper.specs.Sizes.{entry_most, scratch_least}
use Rattle.paper.specs.Refusals.{Res, given, refuse◌unless◌, over_long_entry, short_scratch}
use Rattle.paper.specs.Codes.{Pattern, Conversion, Elm, Code, Kind}
use Rattle.paper.specs.Patterns.{some_passes, patterns_give, tests_in}
use Rattle.paper.specs.Checking.{
  conversion_kind,
  shape,
  Counts,
  together,
  step_counts,
  elms_counts,
  code_counts,
  codes_counts,
  Checked,
  accepted,
  faulty,
  check,
  report,
  no_steps,
  codes_of,
  checked_codes,
}
use Rattle.paper.specs.Steps.{
  Run,
  done,
  stop,
  step,
  onward,
  stepped,
  Setting,
  bytes_in,
  charged,
  price,
  step_ceiling,
  top_entry,
  conversion_step,
  elms_run,
  code_run,
  codes_run,
  element_run,
}
use Rattle.paper.specs.Converting.{
  Element,
  elements,
  elements_run,
  count,
  unbudgeted,
  lawful_place,
  lawful_code,
  ready,
  run,
  finished,
  carried_out,
  convert,
  convert_freely,
  elms_ceiling,
  code_ceiling,
  codes_ceiling,
  ceiling_over,
  ceiling,
  counted_ceiling,
}
use Rattle.paper.proofs.Predicates.{Holds, holds, refuses, holds_then, holds_after, holds_next, All, none_of, and_all}
use Rattle.paper.proofs.Entries.{Fit, limited_fits, steps_within, few_converted, price_capped}
use Rattle.paper.proofs.Budget.{budgeted_at_most}

-- A run that costs at most n and, where it is done, answers with P.
pub data Bounded {A : Type 0} (P : A → Type 0) : ℕ → Run A → Type 0 where
  ends : {n : ℕ} {a : A} → P a → Bounded P n (done a)
  stops : {n m : ℕ} → Bounded P n (stop m)
  goes : {n cost m : ℕ} {r : Run A} → cost + m ≤ n → Bounded P m r → Bounded P n (step cost r)

pub bounded_count : {A : Type 0} {P : A → Type 0} {n : ℕ} {r : Run A} → Bounded P n r → count r ≤ n
unfolding count
bounded_count (ends p) = omega arith
bounded_count stops = omega arith
bounded_count (goes h b) = omega (arith, bounded_count b)

wider : {A : Type 0} {P : A → Type 0} {n m : ℕ} {r : Run A} → n ≤ m → Bounded P n r → Bounded P m r
wider h (ends p) = ends p
wider h stops = stops
wider h (goes l b) = goes (le_trans l h) b

bounded_onward : {A B : Type 0} {P : A → Type 0} {Q : B → Type 0} {n : ℕ} (m : ℕ) {r : Run A} {k : A → Run B} → Bounded P n r
    → ((a : A) → P a → Bounded Q m (k a)) → Bounded Q (n + m) (onward r k)
unfolding onward
bounded_onward m (ends p) f = wider (omega arith) (f _ p)
bounded_onward m stops f = stops
bounded_onward m (goes {n = n} {cost = c} {m = l} h b) f =
    let fits : c + (l + m) ≤ n + m = omega arith in
    goes fits (bounded_onward m b f)

bounded_stepped : {A B : Type 0} {P : ℕ × A → Type 0} {Q : B → Type 0} (c m : ℕ) {r : Res (ℕ × A)} (k : A → Run B) → Holds P r
    → ((x : ℕ × A) → P x → (x.0 ≤ c) × Bounded Q m (k x.1)) → Bounded Q (c + m) (stepped r k)
unfolding stepped
bounded_stepped c m k (holds {a = x} p) f =
    let fits : x.0 + m ≤ c + m = omega (arith, (f x p).0) in
    goes fits (f x p).1
bounded_stepped c m k refuses f = stops

-- Over the limit on an entry and the record.
module _ (most : ℕ) (item : Bytes) where
  top_bounded : (stack : List Bytes) → All (Fit most) stack → Bounded (Fit most) 0 (top_entry stack)
  unfolding top_entry
  top_bounded [] fits = stops
  top_bounded (x ∷ xs) (and_all fit fits) = ends fit

  abbrev seen : ℕ → ℕ → Bytes → Setting
  seen v s e = record { item = item; v = v; s = s; previous = e }

  -- Elms from any stack within the limit.
  elms_bounded : (v s : ℕ) (e : Bytes) (es : List Elm) (stack : List Bytes) → All (Fit most) stack
      → Bounded (All (Fit most)) (elms_ceiling most (length item) es) (elms_run most (seen v s e) es stack)
  unfolding elms_run elms_ceiling
  elms_bounded v s e [] stack fits = ends fits
  elms_bounded v s e (m ∷ es) stack fits =
      bounded_stepped (step_ceiling most (length item) (shape m).kind) (elms_ceiling most (length item) es) _
      (steps_within most (seen v s e) m stack fits)
      (λ x p. (p.capped, elms_bounded v s e es x.1 p.fit))

  conversion_within : (v s : ℕ) (k : Conversion) (e : Bytes) → Fit most e
      → Holds (λ x. (x.0 ≤ step_ceiling most (length item) (conversion_kind k)) × Fit most x.1)
      (conversion_step most (seen v s e) k)
  unfolding conversion_step
  conversion_within v s k e fit =
      holds_then (limited_fits most _)
      (λ put fit'. holds
      (price_capped most item (conversion_kind k) 1 1 (e ∷ []) (put ∷ []) (and_all fit none_of) (lit≤ tt) refl (and_all fit' none_of) (few_converted most k), fit'))

  -- One code of an element within the limit.
  code_bounded : (v s : ℕ) (c : Code) (e : Bytes) → Fit most e
      → Bounded (Fit most) (code_ceiling most (length item) c) (code_run most (seen v s e) c)
  unfolding code_run code_ceiling
  code_bounded v s (Code.function es) e fit = wider (omega arith) (bounded_onward 0 (elms_bounded v s e es [] none_of) top_bounded)
  code_bounded v s (Code.single k) e fit =
      wider (omega arith) (bounded_stepped (step_ceiling most (length item) (conversion_kind k)) 0 done (conversion_within v s k e fit) (λ x p. (p.0, ends p.1)))

  codes_bounded : (v s : ℕ) (cs : List Code) (e : Bytes) → Fit most e
      → Bounded (Fit most) (codes_ceiling most (length item) cs) (codes_run most item v s cs e)
  unfolding codes_run codes_ceiling
  codes_bounded v s [] e fit = ends fit
  codes_bounded v s (c ∷ cs) e fit =
      bounded_onward (codes_ceiling most (length item) cs) (code_bounded v s c e fit) (λ r fit'. codes_bounded v s cs r fit')

  within_or_not : (v s : ℕ) (cs : List Code) (e : Bytes) (t : Bool) → leb (length e) most ≡ t
      → Bounded (Fit most) (codes_ceiling most (length item) cs) (if t then codes_run most item v s cs e else stop over_long_entry)
  within_or_not v s cs e true q = codes_bounded v s cs e (leb-true _ _ q)
  within_or_not v s cs e false q = stops

  -- All elements of an address.
  elements_bounded : (cs : List Code) (es : List Element)
      → Bounded (λ _. Unit {0}) (length es * codes_ceiling most (length item) cs) (elements_run most item cs es)
  unfolding elements_run element_run
  elements_bounded cs [] = ends tt
  elements_bounded cs (e ∷ es) =
      wider (rw suc-mul (omega arith))
      (bounded_onward (length es * codes_ceiling most (length item) cs + 0)
      (within_or_not e.v e.s cs e.text (leb (length e.text) most) refl)
      (λ r fit. bounded_onward 0 (elements_bounded cs es) (λ rest t. ends tt)))

-- The defined count of a run of any codes, for any limit on an entry.
pub run_within_ceiling : (most : ℕ) (item : Bytes) (cs : List Code) (es : List Element)
    → count (elements_run most item cs es) ≤ ceiling_over most (length item) cs (length es)
unfolding ceiling_over
run_within_ceiling most item cs es = bounded_count (elements_bounded most item cs es)

-- the codes that converting runs are those that checking accepted
codes_accepted : (c : Checked) (cs : List Code) → checked_codes c ≡ given cs → c ≡ accepted cs
unfolding checked_codes
codes_accepted (accepted ds) cs e = cc
codes_accepted (faulty n k) cs e = let z : ◌≡◌ {A = ℕ} 0 1 = cc in absurd (omega arith)

pub ready_accepted : (item string : Bytes) (a v s scratch : ℕ) → Holds (λ cs. check string ≡ accepted cs) (ready item string a v s scratch)
unfolding ready lawful_code
ready_accepted item string a v s scratch =
    holds_next (lawful_place item a v s)
    (λ _ _. holds_after (checked_codes (check string))
    (λ cs e. holds_next (refuse short_scratch unless leb scratch_least scratch) (λ _ _. holds (codes_accepted (check string) cs e))))

carried_within : (item string : Bytes) (a v s room : ℕ) {readied : Res (List Code)} → Holds (λ cs. check string ≡ accepted cs) readied
    → (carried_out unbudgeted item a v s room readied).steps ≤ ceiling (length item) (codes_of (check string)) (length (elements item a v s))
unfolding carried_out finished unbudgeted run ceiling
carried_within item string a v s room refuses = omega arith
carried_within item string a v s room (holds {a = cs} e) = rw e (run_within_ceiling entry_most item cs (elements item a v s))

-- The count is never above a ceiling worked out beforehand: the elements times what the string's steps can cost.
pub count_within_ceiling : (item string : Bytes) (a v s room scratch : ℕ)
    → (convert_freely item string a v s room scratch).steps ≤ ceiling (length item) (codes_of (check string)) (length (elements item a v s))
unfolding convert_freely
count_within_ceiling item string a v s room scratch = carried_within item string a v s room (ready_accepted item string a v s scratch)

-- and so with any budget, whatever comes of it
pub steps_within_ceiling : (item string : Bytes) (a v s budget room scratch : ℕ)
    → (convert item string a v s budget room scratch).steps ≤ ceiling (length item) (codes_of (check string)) (length (elements item a v s))
steps_within_ceiling item string a v s budget room scratch =
    le_trans (budgeted_at_most item string a v s budget room scratch) (count_within_ceiling item string a v s room scratch)

-- The sum over steps by their counts: "A x (1,025 + R) + B x 4,097" and, of P codes, "T x 1,025 + 1,025" each, for any limit on an entry.
module _ (most size : ℕ) where
  unfoldable pub counted_steps : Counts → ℕ
  counted_steps k = k.loads * (1 + most + size) + k.others * (1 + 4 * most) + (k.tests * (1 + most) + k.patterns * (1 + most))

  steps_together : (x y : Counts) → counted_steps x + counted_steps y ≡ counted_steps (together x y)
  unfolding counted_steps together
  steps_together x y =
      omega (
        arith,
        add-mul x.loads y.loads (1 + most + size),
        add-mul x.others y.others (1 + 4 * most),
        add-mul x.tests y.tests (1 + most),
        add-mul x.patterns y.patterns (1 + most),
      )

  one_step : (kind : Kind) → step_ceiling most size kind ≡ counted_steps (step_counts kind)
  unfolding step_ceiling counted_steps step_counts
  one_step Kind.loading = omega (arith, one-mul (1 + most + size), zero-mul (1 + 4 * most), zero-mul (1 + most))
  one_step (Kind.testing t) = omega (arith, zero-mul (1 + most + size), zero-mul (1 + 4 * most), one-mul (1 + most))
  one_step Kind.other = omega (arith, zero-mul (1 + most + size), one-mul (1 + 4 * most), zero-mul (1 + most))

  no_step : 0 ≡ counted_steps no_steps
  unfolding counted_steps
  no_step = omega (arith, zero-mul (1 + most + size), zero-mul (1 + 4 * most), zero-mul (1 + most))

  elms_counted : (es : List Elm) → elms_ceiling most size es ≡ counted_steps (elms_counts es)
  unfolding elms_ceiling elms_counts
  elms_counted [] = no_step
  elms_counted (e ∷ es) = rw (one_step (shape e).kind, elms_counted es) (steps_together _ _)

  code_counted : (c : Code) → code_ceiling most size c ≡ counted_steps (code_counts c)
  unfolding code_ceiling code_counts
  code_counted (Code.function es) = elms_counted es
  code_counted (Code.single k) = one_step (conversion_kind k)

  -- The sum over a string's steps is A x (1 + most + R) + B x (1 + 4 x most) + T x (1 + most) + P x (1 + most), whatever the limit.
  pub codes_counted : (cs : List Code) → codes_ceiling most size cs ≡ counted_steps (codes_counts cs)
  unfolding codes_ceiling codes_counts
  codes_counted [] = no_step
  codes_counted (c ∷ cs) = rw (code_counted c, codes_counted cs) (steps_together _ _)

-- Document 01's form: "m x (A x (1,025 + R) + B x 4,097)", with the place of P codes in it.
pub ceiling_counted : (size : ℕ) (cs : List Code) (m : ℕ) → ceiling size cs m ≡ counted_ceiling (codes_counts cs) size m
unfolding ceiling ceiling_over counted_ceiling counted_steps
ceiling_counted size cs m = ap (λ n. m * n) (codes_counted entry_most size cs)

-- the limit of 1,024 put in
pub ceiling_read : (k : Counts) (size m : ℕ)
    → counted_ceiling k size m ≡ m * (k.loads * (1_025 + size) + k.others * 4_097 + (k.tests * 1_025 + k.patterns * 1_025))
unfolding counted_ceiling entry_most
ceiling_read k size m = refl

-- from the numbers A, B, P and T that checking reports
pub ceiling_reported : (size m : ℕ) (c : Checked) → ceiling size (codes_of c) m ≡ counted_ceiling (report c).steps size m
unfolding report codes_counts
ceiling_reported size m (accepted cs) = ceiling_counted size cs m
ceiling_reported size m (faulty n k) = ceiling_counted size [] m

-- A P code's place in the ceiling is reached, by every element as long as the limit that passes.
pub patterns_reach : (most : ℕ) (item e : Bytes) (ps : List Pattern) → length e ≡ most → some_passes ps e ≡ true
    → price (Kind.testing (tests_in ps)) item (e ∷ []) (patterns_give ps e ∷ []) ≡ step_ceiling most (length item) (Kind.testing (tests_in ps))
unfolding price charged bytes_in step_ceiling patterns_give
patterns_reach most item e ps h passed =
    let each : tests_in ps * (length e + 0 + 1) ≡ tests_in ps * (1 + most) = ap (λ n. tests_in ps * n) (omega arith) in
    rw passed (omega arith)
