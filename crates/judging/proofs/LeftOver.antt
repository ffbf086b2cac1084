-- Document 02, L5: a code is refused with 18 exactly where it is an F code in the grammar whose elms pass the test of the stack and leave two entries or more.
-- Assumes nothing.
use Rattle.std.specs.Prelude.{if◌then◌else◌}
use Prim.Native.Nat.{ℕ, ◌<◌, ◌≤◌, ◌+◌}
use mathlib.Core.Path.{◌≡◌, refl}
use mathlib.Core.Bool.{Bool, true, false}
use mathlib.Core.Logic.{⊎_elim}
use mathlib.Core.List.{List, [], ◌∷◌}
use mathlib.Core.Option.{Option, none, some}
use lib.ListN.{length}
use lib.Dec.{eqb}
use native.Mathlib.Omega.{arith}
use borrow.Author.Tests.{ne_eqb, eqb-false}
use Rattle.paper.specs.Bytes.{Bytes}
use Rattle.paper.specs.Refusals.{Res, given, refused, ◌>>=◌, ◌>>◌, refuse◌unless◌, stack_fault, left_over_entries}
use Rattle.paper.specs.Grammar as paper
use Rattle.paper.specs.Codes as codes
use Rattle.paper.specs.Checking.{shape, all_stacked, lawful, in_grammar, judged}
use Rattle.paper.proofs.Truths.{ltb_or}
use Rattle.paper.proofs.Stack.{puts_one}
use Rattle.judging.specs.Tallies.{shape_in, left, room}
use Rattle.judging.proofs.Tallying.{stacked_room}
use Rattle.judging.proofs.Walking.{function_elms}

-- What elms come to from so many entries: 7 and no other refusal, or one entry at least where there is an elm or an entry.
data Stacked (es : List codes.Elm) (held : ℕ) : Res ℕ → Type 0 where
  misused : Stacked es held (refused stack_fault)
  leaves : {n : ℕ} → (1 ≤ length es + held → 1 ≤ n) → Stacked es held (given n)

elms_stacked : (es : List codes.Elm) (held : ℕ) → Stacked es held (all_stacked es held)
unfolding all_stacked
elms_stacked [] held = leaves {n = held} (λ h. omega arith)
elms_stacked (e ∷ es) held = rw (stacked_room e held) (go (room (shape_in (shape e)) held) (elms_stacked es (left (shape_in (shape e)) held)))
  where
    after : {r : Res ℕ} → Stacked es (left (shape_in (shape e)) held) r → Stacked (e ∷ es) held r
    after misused = misused
    after (leaves f) = leaves (λ h. f (omega (arith, puts_one e)))

    go : (t : Bool) → Stacked es (left (shape_in (shape e)) held) (all_stacked es (left (shape_in (shape e)) held))
        → Stacked (e ∷ es) held ((if t then given (left (shape_in (shape e)) held) else refused stack_fault) >>= all_stacked es)
    go true next = after next
    go false next = misused

-- an F code in the grammar, free of 7, that leaves two entries or more
abbrev pub LeavesOver : Bytes → Type 0
LeavesOver s = (es : List codes.Elm) × (n : ℕ) × (paper.read s ≡ some (codes.function es)) × (all_stacked es 0 ≡ given n) × (2 ≤ n)

pub left_over_means : (s : Bytes) → judged s ≡ refused left_over_entries → LeavesOver s
unfolding judged lawful
left_over_means s e = go (paper.read s) refl e
  where
    many : (es : List codes.Elm) (n : ℕ) → paper.read s ≡ some (codes.function es) → all_stacked es 0 ≡ given n → 1 ≤ n → (t : Bool) → eqb n 1 ≡ t
        → ((refuse left_over_entries unless t) >> given (codes.function es)) ≡ refused left_over_entries → LeavesOver s
    many es n f g h true k m = let z : ◌≡◌ {A = ℕ} 0 1 = cc in absurd (omega arith)
    many es n f g h false k m =
        ⊎_elim (λ (l : 1 < n). (es, n, f, g, omega arith))
        (λ (l : n ≤ 1). let one : n ≡ 1 = omega arith in absurd (eqb-false n 1 k one)) (ltb_or 1 n)

    elms : (es : List codes.Elm) → paper.read s ≡ some (codes.function es) → {r : Res ℕ} → all_stacked es 0 ≡ r → Stacked es 0 r
        → ((r >>= λ held. refuse left_over_entries unless eqb held 1) >> given (codes.function es)) ≡ refused left_over_entries → LeavesOver s
    elms es f g misused h = let z : stack_fault ≡ left_over_entries = cc in absurd (omega arith)
    elms es f g (leaves {n = n} k) h = many es n f g (k (omega (arith, function_elms s es f))) (eqb n 1) refl h

    go : (o : Option codes.Code) → paper.read s ≡ o → (in_grammar o >>= λ c. lawful c >> given c) ≡ refused left_over_entries → LeavesOver s
    go none f h = let z : ◌≡◌ {A = ℕ} 6 18 = cc in absurd (omega arith)
    go (some (codes.single c)) f h = let z : ◌≡◌ {A = ℕ} 0 1 = cc in absurd (omega arith)
    go (some (codes.function es)) f h = elms es f refl (elms_stacked es 0) h

pub left_over_where : (s : Bytes) → LeavesOver s → judged s ≡ refused left_over_entries
unfolding judged lawful
left_over_where s (es, n, f, g, h) = rw (f, g, ne_eqb n 1 (λ e. omega arith))
