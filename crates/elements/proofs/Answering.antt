-- The answer as it grows in the output: what was gathered stands in front as long as it fits. Assumes nothing.
use Rattle.std.specs.Prelude.{if◌then◌else◌}
use Prim.Native.Nat.{ℕ, ◌+◌, ◌≤◌}
use mathlib.Core.Path.{◌≡◌, refl, ap, ◌∙◌}
use mathlib.Core.Bool.{Bool, true, false}
use mathlib.Core.List.{[], ◌++◌}
use native.Mathlib.Omega.{arith}
use lib.ListN.{length, take, drop, length-append}
use lib.Seq.{take_at}
use lib.Dec.{leb}
use borrow.Author.Tests.{le-leb, leb-true}
use Rattle.paper.specs.Bytes.{Bytes}
use Rattle.lent.specs.Over.{over}
use Rattle.lent.proofs.Laws.{length_over}
use Rattle.elements.specs.Gather.{gathered_in, HoldsAnswer}

pub gathered_room : (out : Bytes) (n : ℕ) (bs : Bytes) → n + length bs ≤ length out → gathered_in out n bs ≡ over out n bs
unfolding gathered_in
gathered_room out n bs h = rw (le-leb (n + length bs) (length out) h)

pub gathered_length : (out : Bytes) (n : ℕ) (bs : Bytes) → length (gathered_in out n bs) ≡ length out
unfolding gathered_in
gathered_length out n bs = go (leb (n + length bs) (length out)) refl
  where
    go : (t : Bool) → leb (n + length bs) (length out) ≡ t → length (if t then over out n bs else out) ≡ length out
    go true e = length_over out n bs (leb-true _ _ e)
    go false e = refl

-- one piece more behind an answer that the output holds
pub held_more : (out answer bs : Bytes) → HoldsAnswer out answer → HoldsAnswer (gathered_in out (length answer) bs) (answer ++ bs)
unfolding HoldsAnswer over
held_more out answer bs held h =
    let room : length answer + length bs ≤ length out = omega (arith, length-append answer bs, gathered_length out (length answer) bs) in
    let front : take (length answer) out ≡ answer = held (omega arith) in
    ap (take (length (answer ++ bs))) (gathered_room out (length answer) bs room ∙ ap (λ (f : Bytes). f ++ bs ++ drop (length answer + length bs) out) front)
    ∙ take_at (answer ++ bs) (drop (length answer + length bs) out) (length (answer ++ bs)) refl

pub held_none : (out : Bytes) → HoldsAnswer out []
unfolding HoldsAnswer
held_none out h = refl
