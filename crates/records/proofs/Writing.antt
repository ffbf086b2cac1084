-- Front and rest laid one behind the other in the output are the record after replacing, and behind it come zeros.
use mathlib.Core.Path.{◌≡◌, sym, ap, ◌∙◌}
use mathlib.Core.List.{◌++◌, append_assoc}
use Prim.Native.Nat.{ℕ, ◌+◌, ◌-◌, ◌≤◌}
use native.Mathlib.Nat.{zero-add}
use native.Mathlib.Omega.{arith}
use lib.ListN.{length, take, drop, replicate, length-append, length-drop, length-replicate}
use lib.Seq.{length-take-le, take_all}
use Rattle.paper.specs.Bytes.{Bytes, buffer}
use Rattle.lent.specs.Over.{over, Laid}
use Rattle.lent.proofs.Laws.{over_all}
use Rattle.lent.proofs.Laying.{laid_at, laid_behind}
use Rattle.records.specs.Scan.{marks, made, changed, changed_length}
use Rattle.records.specs.declared.Spot.{Spot}
use Rattle.records.proofs.Spots.{length_marks, length_changed}

grouped : (a b c d : Bytes) → a ++ (b ++ c ++ d) ≡ a ++ b ++ c ++ d
grouped a b c d = simp append_assoc

pub whole_laid : (item new d : Bytes) (p : Spot) (at : ℕ) (x z : Bytes) → p.start ≤ p.end → p.end ≤ length item → changed_length (length item) p (length new) ≤ length d → length x ≡ length d
    → at ≡ p.start + made p → x ≡ over d 0 (take p.start item ++ marks p)
    → (let rest = take (length item - p.end) (drop p.end item) in z ≡ over x at (new ++ rest ++ replicate (length x - (at + length new + length rest)) 0))
    → z ≡ buffer (length d) (changed item p new)
unfolding buffer changed
whole_laid item new d p at x z ordered inside room lx eat ex ez =
    let front : Bytes = take p.start item ++ marks p in
    let rest : Bytes = take (length item - p.end) (drop p.end item) in
    let left : ℕ = length x - (at + length new + length rest) in
    let zeros : Bytes = replicate left 0 in
    let answer : Bytes = changed item p new in
    let er : rest ≡ drop p.end item = take_all (length item - p.end) (drop p.end item) (omega (arith, length-drop p.end item)) in
    let nr : length rest ≡ length item - p.end = ap length er ∙ length-drop p.end item in
    let nf : length front ≡ at = length-append (take p.start item) (marks p) ∙ omega (arith, length-take-le p.start item (omega arith), length_marks p) in
    let na : left ≡ length d - length answer = omega (arith, length_changed item p new (omega arith)) in
    let all : Laid (front ++ (new ++ rest ++ zeros)) d (length d) z 0
    = laid_behind (laid_at ex (sym (zero-add _ ∙ nf))) (laid_at ez (omega (arith, length-append (new ++ rest) zeros, length-append new rest, length-replicate {A = ℕ} left 0))) (omega arith) in
    all.bytes ∙ over_all d (front ++ (new ++ rest ++ zeros)) (sym (zero-add _) ∙ all.place)
    ∙ ap (λ (r : Bytes). front ++ (new ++ r ++ zeros)) er
    ∙ grouped front new (drop p.end item) zeros
    ∙ ap (λ (k : ℕ). answer ++ replicate k 0) na
