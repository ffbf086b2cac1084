-- A field by place: the fields before it are passed one by one, and what is left begins behind the last of them.
use Prim.Native.Nat.{ℕ, suc, ◌+◌, ◌-◌, ◌≤◌, ◌<◌}
use mathlib.Core.Path.{◌≡◌, refl, sym, ap, ◌∙◌}
use mathlib.Core.List.{[]}
use lib.ListN.{length, take, drop, drop_of_length-le}
use native.Mathlib.Omega.{arith}
use Rattle.paper.specs.Bytes.{Bytes}
use Rattle.lent.specs.Scan.{upto, piece}
use Rattle.lent.proofs.Pieces.{piece_here, pieces_behind, piece_none}

-- k fields are passed, and the next one begins at `at` and ends at `end`
module _ (m number : ℕ) (text : Bytes) (at k : ℕ) (inside : at ≤ length text) (e : piece m number text ≡ piece m (number - k) (drop at text))
    {end : ℕ} (f : end ≡ at + length (upto m m (drop at text))) where
  pub field_here : number ≤ k → take (end - at) (drop at text) ≡ piece m number text
  field_here h =
      let none : number - k ≡ 0 = omega arith in
      piece_here m text at inside f ∙ sym (e ∙ ap (λ (j : ℕ). piece m j (drop at text)) none)

  pub field_later : k < number → piece m number text ≡ piece m (number - (k + 1)) (drop (end + 1) text)
  field_later h =
      let more : number - k ≡ suc (number - (k + 1)) = omega arith in
      e ∙ ap (λ (j : ℕ). piece m j (drop at text)) more ∙ pieces_behind m text at inside f (number - (k + 1)) (end + 1) refl

  pub field_missing : k < number → length text ≤ end → [] ≡ piece m number text
  field_missing h g =
      let past : length text ≤ end + 1 = omega arith in
      sym (field_later h ∙ ap (piece m (number - (k + 1))) (drop_of_length-le text past) ∙ piece_none m (number - (k + 1)))
