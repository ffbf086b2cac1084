-- What a call answers and a lent buffer holds after it, and the limit on a result: refusal 9, "element, entry or result over 1,024", for any limit.
-- Assumes nothing.
use Prim.Native.Nat.{ℕ, ◌≤◌, ◌<◌}
use mathlib.Core.Path.{◌≡◌, refl, ap}
use mathlib.Core.Bool.{Bool, true, false}
use mathlib.Core.List.{[], ◌∷◌, ◌++◌}
use native.Mathlib.Omega.{arith}
use lib.Dec.{leb}
use lib.ListN.{length, drop}
use borrow.Author.Tests.{le-leb, lt-leb, leb-true}
use Rattle.paper.specs.Bytes.{Bytes}
use Rattle.paper.specs.Sizes.{entry_most}
use Rattle.paper.specs.Refusals.{Res, given, refused, refuse◌unless◌, answer_of, over_long_entry}
use Rattle.paper.specs.Answers.{number_of, told, sized, written}
use Rattle.paper.specs.Steps.{limited}
use Rattle.paper.specs.Converting.{fitted}
use Rattle.paper.proofs.Refusing.{passed, never_held}
use Rattle.std.specs.Prelude.{Result, Ok, Err}
use Rattle.paper.specs.declared.Refusal.{Refusal}

-- the code's limit is the definitions'
pub entry_limit : entry_most ≡ 1_024
unfolding entry_most
entry_limit = refl

-- a result within the limit is as it is, one over it is 9, and a refusal stays
module _ (most : ℕ) {r : Res Bytes} where
  pub limited_within : {bs : Bytes} → r ≡ given bs → length bs ≤ most → limited most r ≡ given bs
  unfolding limited
  limited_within {bs} e h = rw (e, le-leb (length bs) most h)

  pub limited_over : {bs : Bytes} → r ≡ given bs → most < length bs → limited most r ≡ refused over_long_entry
  unfolding limited
  limited_over {bs} e h = rw (e, lt-leb (length bs) most h)

  pub limited_refused : {n : ℕ} → r ≡ refused n → limited most r ≡ refused n
  unfolding limited
  limited_refused e = rw e

-- and back: what is given under the limit was given, and a refusal other than 9 is the result's own
module _ (most : ℕ) where
  pub given_within : (r : Res Bytes) {bs : Bytes} → limited most r ≡ given bs → r ≡ given bs
  unfolding limited
  given_within (given bs) h = (passed ((refuse over_long_entry unless leb (length bs) most) ∷ []) (given bs) h).1
  given_within (refused n) h = h

  pub refused_before : (n : ℕ) → over_long_entry < n → (r : Res Bytes) → limited most r ≡ refused n → r ≡ refused n
  unfolding limited
  refused_before n l (given bs) h = never_held over_long_entry n (leb (length bs) most) bs (λ d. omega arith) h
  refused_before n l (refused m) h = h

-- what a call answers, and the buffer before and after it
abbrev pub Answered : Res Bytes → Bytes → Bytes → Result ℕ Refusal → Type 0
Answered r held out answer = record { value : told answer ≡ sized r; out_after : out ≡ written held r }

-- a refusal leaves the buffer as it was; else the bytes stand in front of what it held
module _ {r : Res Bytes} where
  pub refuses_with : {held : Bytes} (e : Refusal) → r ≡ refused (number_of e) → Answered r held held (Err e)
  unfolding written
  refuses_with e p = rw p (record { value = refl; out_after = refl })

  pub gives_bytes : (held bs : Bytes) {out : Bytes} {n : ℕ} → r ≡ given bs → n ≡ length bs → out ≡ bs ++ drop (length bs) held → Answered r held out (Ok n)
  unfolding written
  gives_bytes held bs e k f = rw e (record { value = ap given k; out_after = f })

-- "then 16": an answer is no longer than the output
pub fitted_short : (room : ℕ) (r : Res Bytes) → length (answer_of (fitted room r)) ≤ room
unfolding fitted
fitted_short room (refused n) = omega arith
fitted_short room (given bs) = go (leb (length bs) room) refl
  where
    go : (t : Bool) → leb (length bs) room ≡ t → length (answer_of (fitted room (given bs))) ≤ room
    go true e = rw e (leb-true (length bs) room e)
    go false e = rw e (omega arith)
