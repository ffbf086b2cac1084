-- A text in its field, in front of what a lent buffer held, over plain lists. Assumes nothing.
use mathlib.Core.Path.{◌≡◌, sym, ap, ◌∙◌}
use mathlib.Core.Bool.{Bool}
use mathlib.Core.Option.{some}
use Prim.Native.Nat.{ℕ, ◌≤◌}
use native.Mathlib.Nat.{zero-add}
use lib.ListN.{length}
use borrow.Author.Tests.{le-leb}
use Rattle.paper.specs.Bytes.{Bytes}
use Rattle.paper.specs.Refusals.{Res, given}
use Rattle.std.specs.Prelude.{Result, Ok}
use Rattle.paper.specs.declared.Refusal.{Refusal}
use Rattle.paper.specs.Answers.{sized, written}
use Rattle.paper.specs.Masks.{padded, laid_out}
use Rattle.paper.proofs.Limits.{Answered, gives_bytes}
use Rattle.lent.specs.Over.{Laid}
use Rattle.lent.proofs.Laws.{over_front}

-- a call's answer and what its buffer holds afterwards, from what the definition gives
pub gives : (r : Res Bytes) {bs d after : Bytes} {n : ℕ} → r ≡ given bs → Laid bs d n after 0 → Answered r d after (Ok n)
gives r {bs} {d} e laid = gives_bytes d bs e (sym laid.place ∙ zero-add (length bs)) (laid.bytes ∙ over_front d bs)

pub same_answer : (d : Bytes) (answer : Result ℕ Refusal) {r s : Res Bytes} {after : Bytes} → r ≡ s → Answered r d after answer → Answered s d after answer
same_answer d answer e h = record { value = h.value ∙ ap sized e; out_after = h.out_after ∙ ap (written d) e }

-- "MR fills on the left, ML on the right"
pub fitting : (left : Bool) {t : Bool} (byte width : ℕ) (text : Bytes) → left ≡ t → length text ≤ width
    → laid_out left (some (byte, width)) text ≡ given (padded t byte width text)
unfolding laid_out
fitting left byte width text e h = rw (e, le-leb (length text) width h)
