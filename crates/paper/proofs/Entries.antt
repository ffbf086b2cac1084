-- Of one F elm, for any limit on an entry: it puts as many entries as its shape says, none over the limit, and so its cost is at most its ceiling.
-- The check of the stack, the ceiling and the machine go by these. Assumes nothing.
use Prim.Native.Nat.{ℕ, zero, suc, ◌+◌, ◌-◌, ◌*◌, ◌≤◌}
use mathlib.Core.Path.{◌≡◌, refl, sym}
use mathlib.Core.Bool.{Bool, true, false}
use mathlib.Core.List.{List, [], ◌∷◌, ◌++◌}
use native.Mathlib.Omega.{arith}
use native.Mathlib.Nat.{mul-le-mul_right, mul-le-mul_left, le_trans, suc-mul, zero-add, add_assoc, add_comm}
use lib.ListN.{length, take, drop, length-append, length-drop, length-take}
use lib.Dec.{leb, lit≤}
use borrow.Author.Tests.{leb-true}
use Rattle.paper.specs.Bytes.{Bytes}
use Rattle.paper.specs.Refusals.{Res, given, refused, ◌>>◌, refuse◌unless◌, over_long_entry}
use Rattle.paper.specs.Codes.{Conversion, Elm, Operand, Kind}
use Rattle.paper.specs.Checking.{conversion_kind, shape, stacked}
use Rattle.paper.specs.Steps.{Setting, on_one, on_two, on_three, bytes_in, charged, price, step_ceiling, limited, one_entry, elm_puts, elm_step}
use Rattle.paper.proofs.Predicates.{Holds, holds, refuses, holds_then, holds_next, All, none_of, and_all, all_append}

module _ (most : ℕ) where
  -- an entry within the limit
  abbrev pub Fit : Bytes → Type 0
  Fit x = length x ≤ most

  -- so many entries, each within the limit
  abbrev pub Entries : ℕ → List Bytes → Type 0
  Entries n put = All Fit put × (length put ≡ n)

  tested : (bs : Bytes) (t : Bool) → leb (length bs) most ≡ t → Holds Fit ((refuse over_long_entry unless t) >> given bs)
  tested bs true e = holds (leb-true _ _ e)
  tested bs false e = refuses

  pub limited_fits : (r : Res Bytes) → Holds Fit (limited most r)
  unfolding limited
  limited_fits (given bs) = tested bs (leb (length bs) most) refl
  limited_fits (refused n) = refuses

  one_fits : (r : Res Bytes) → Holds (Entries 1) (one_entry most r)
  one_fits r = holds_then (limited_fits r) (λ x fit. holds (and_all fit none_of, refl))

  -- the entries that an elm takes are within the limit where the stack's are
  from_one : {n : ℕ} (f : Bytes → Res (List Bytes)) (stack : List Bytes) → All Fit stack
      → ((x : Bytes) → Fit x → Holds (Entries n) (f x)) → Holds (Entries n) (on_one f stack)
  from_one f [] fits g = refuses
  from_one f (x ∷ xs) (and_all fit fits) g = g x fit

  from_two : {n : ℕ} (f : Bytes → Bytes → Res (List Bytes)) (stack : List Bytes) → All Fit stack
      → ((x y : Bytes) → Fit x → Fit y → Holds (Entries n) (f x y)) → Holds (Entries n) (on_two f stack)
  from_two f [] fits g = refuses
  from_two f (x ∷ xs) (and_all fit fits) g = from_one (f x) xs fits (λ y fit'. g x y fit fit')

  from_three : {n : ℕ} (f : Bytes → Bytes → Bytes → Res (List Bytes)) (stack : List Bytes) → All Fit stack
      → ((x y z : Bytes) → Holds (Entries n) (f x y z)) → Holds (Entries n) (on_three f stack)
  from_three f [] fits g = refuses
  from_three f (x ∷ xs) (and_all fit fits) g = from_two (f x) xs fits (λ y z fit' fit''. g x y z)

  pub puts_entries : (c : Setting) (e : Elm) (stack : List Bytes) → All Fit stack
      → Holds (Entries (shape e).puts) (elm_puts most c e stack)
  unfolding elm_puts shape
  puts_entries c (Elm.push (Operand.attribute n r)) stack fits = one_fits _
  puts_entries c (Elm.push (Operand.literal bs)) stack fits = one_fits _
  puts_entries c (Elm.push Operand.previous) stack fits = one_fits _
  puts_entries c (Elm.binary o) stack fits = from_two _ stack fits (λ x y fit fit'. one_fits _)
  puts_entries c Elm.substring stack fits = from_three _ stack fits (λ x y z. one_fits _)
  puts_entries c Elm.exchange stack fits = from_two _ stack fits (λ x y fit fit'. holds (and_all fit' (and_all fit none_of), refl))
  puts_entries c Elm.duplicate stack fits = from_one _ stack fits (λ x fit. holds (and_all fit (and_all fit none_of), refl))
  puts_entries c (Elm.convert k) stack fits = from_one _ stack fits (λ x fit. one_fits _)

  fits_drop : (n : ℕ) {xs : List Bytes} → All Fit xs → All Fit (drop n xs)
  fits_drop zero fits = fits
  fits_drop (suc n) none_of = none_of
  fits_drop (suc n) (and_all fit fits) = fits_drop n fits

  fits_take : (n : ℕ) {xs : List Bytes} → All Fit xs → All Fit (take n xs)
  fits_take zero fits = none_of
  fits_take (suc n) none_of = none_of
  fits_take (suc n) (and_all fit fits) = and_all fit (fits_take n fits)

  bytes_of_entries : {xs : List Bytes} → All Fit xs → bytes_in xs ≤ length xs * most
  unfolding bytes_in
  bytes_of_entries none_of = omega arith
  bytes_of_entries (and_all {a = x} {rest = xs} fit fits) = rw suc-mul (omega (arith, bytes_of_entries fits))

  bytes_in_append : (xs ys : List Bytes) → bytes_in (xs ++ ys) ≡ bytes_in xs + bytes_in ys
  unfolding bytes_in
  bytes_in_append [] ys = sym (zero-add _)
  bytes_in_append (x ∷ xs) ys = rw (bytes_in_append xs ys) (sym (add_assoc _ _ _))

  -- entries counted by a cost: those put by a load, one taken and one put by a P code, four at most by any other step
  abbrev pub Few : Kind → ℕ → ℕ → Type 0
  Few Kind.loading takes puts = puts ≤ 1
  Few (Kind.testing t) takes puts = (takes ≤ 1) × (puts ≤ 1)
  Few Kind.other takes puts = takes + puts ≤ 4

  pub few_converted : (k : Conversion) → Few (conversion_kind k) 1 1
  unfolding conversion_kind
  few_converted (Conversion.plain p) = lit≤ tt
  few_converted (Conversion.mask m) = lit≤ tt
  few_converted (Conversion.date n s) = lit≤ tt
  few_converted (Conversion.patterns ps) = (lit≤ tt, lit≤ tt)

  few_counted : (e : Elm) → Few (shape e).kind (shape e).takes (shape e).puts
  unfolding shape
  few_counted (Elm.push (Operand.attribute n r)) = lit≤ tt
  few_counted (Elm.push (Operand.literal bs)) = lit≤ tt
  few_counted (Elm.push Operand.previous) = lit≤ tt
  few_counted (Elm.binary o) = lit≤ tt
  few_counted Elm.substring = lit≤ tt
  few_counted Elm.exchange = lit≤ tt
  few_counted Elm.duplicate = lit≤ tt
  few_counted (Elm.convert k) = few_converted k

  -- so many bytes at most in at most so many entries
  bytes_within : (n : ℕ) {xs : List Bytes} → All Fit xs → length xs ≤ n → bytes_in xs ≤ n * most
  bytes_within n fits h = le_trans (bytes_of_entries fits) (mul-le-mul_right most h)

  pub price_capped : (item : Bytes) (kind : Kind) (takes puts : ℕ) (taken put : List Bytes) → All Fit taken
      → length taken ≤ takes → length put ≡ puts → All Fit put → Few kind takes puts
      → price kind item taken put ≤ step_ceiling most (length item) kind
  unfolding price charged step_ceiling
  price_capped item Kind.loading takes puts taken put taken_fits t p fits few = omega (arith, bytes_within 1 fits (omega arith))
  price_capped item (Kind.testing n) takes puts taken put taken_fits t p fits few =
      let one : bytes_in taken + 1 ≤ 1 + most = omega (arith, bytes_within 1 taken_fits (omega (arith, few.0))) in
      omega (arith, mul-le-mul_left n one, bytes_within 1 fits (omega (arith, few.1)))
  price_capped item Kind.other takes puts taken put taken_fits t p fits few =
      omega (arith, bytes_within 4 (all_append taken_fits fits) (rw length-append (omega arith)), bytes_in_append taken put)

  -- What an elm's step comes to: a cost within the most that it can be, and a stack of entries within the limit, as many as the check counts.
  pub record Stepped (item : Bytes) (e : Elm) (stack : List Bytes) (r : ℕ × List Bytes) : Type 0 where
    pub capped : r.0 ≤ step_ceiling most (length item) (shape e).kind
    pub fit : All Fit r.1
    pub deep : length r.1 ≡ length stack - (shape e).takes + (shape e).puts

  pub steps_within : (c : Setting) (e : Elm) (stack : List Bytes) → All Fit stack
      → Holds (Stepped c.item e stack) (elm_step most c e stack)
  unfolding elm_step
  steps_within c e stack fits =
      holds_next (stacked e (length stack)) (λ d q. holds_then (puts_entries c e stack fits) (λ put p. holds
      (record {
        capped =
            price_capped c.item (shape e).kind (shape e).takes (shape e).puts (take (shape e).takes stack) put
            (fits_take (shape e).takes fits)
            (rw length-take (omega arith))
            p.1
            p.0
            (few_counted e);
        fit = all_append p.0 (fits_drop (shape e).takes fits);
        deep = rw (length-append, length-drop, p.1) (add_comm _ _);
      })))
