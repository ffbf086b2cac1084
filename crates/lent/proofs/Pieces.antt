-- The pieces of a text between marks m, by place: a piece ends where a scan for m stops, and the next one begins behind it.
use Rattle.std.specs.Prelude.{if◌then◌else◌}
use Prim.Native.Nat.{ℕ, zero, suc, ◌+◌, ◌-◌, ◌≤◌}
use mathlib.Core.Path.{◌≡◌, refl, sym, ap, ◌∙◌}
use mathlib.Core.Bool.{Bool, true, false}
use mathlib.Core.List.{List, [], ◌∷◌}
use lib.ListN.{length, take, drop, length-drop, drop_of_length-le}
use lib.Dec.{eqb}
use lib.Seq.{drop-drop}
use native.Mathlib.Omega.{arith}
use Rattle.paper.specs.Bytes.{Bytes, within}
use Rattle.paper.specs.Records.{opened, split, nth, first_of, or_empty}
use Rattle.paper.proofs.Ranges.{within_one}
use Rattle.lent.specs.Scan.{range, upto, piece}
use Rattle.lent.proofs.Scans.{range_rest, length_upto}

pub first_opened : (t : Bool) (b : ℕ) (ps : List Bytes) → first_of (opened t b ps) ≡ (if t then [] else (b ∷ first_of ps))
first_opened true b ps = refl
first_opened false b [] = refl
first_opened false b (p ∷ ps) = refl

-- what stands before the byte that stops a scan
pub take_upto : (low high : ℕ) (bs : Bytes) → take (length (upto low high bs)) bs ≡ upto low high bs
unfolding upto
take_upto low high [] = refl
take_upto low high (b ∷ bs) = go (within low high b) (take_upto low high bs)
  where
    go : (t : Bool) → take (length (upto low high bs)) bs ≡ upto low high bs
        → take (length (if t then [] else (b ∷ upto low high bs))) (b ∷ bs) ≡ (if t then [] else (b ∷ upto low high bs))
    go true e = refl
    go false e = ap (λ (l : Bytes). b ∷ l) e

module _ (m : ℕ) where
  -- up to the first mark: the first piece
  pub upto_mark : (bs : Bytes) → upto m m bs ≡ first_of (split m bs)
  unfolding upto split
  upto_mark [] = refl
  upto_mark (b ∷ bs) =
      ap (λ (t : Bool). if t then [] else (b ∷ upto m m bs)) (within_one m b)
      ∙ ap (λ (l : Bytes). if eqb b m then [] else (b ∷ l)) (upto_mark bs)
      ∙ sym (first_opened (eqb b m) b (split m bs))

  first_piece : (bs : Bytes) → piece m 0 bs ≡ upto m m bs
  unfolding nth
  first_piece bs = go (split m bs) ∙ sym (upto_mark bs)
    where
      go : (ps : List Bytes) → or_empty (nth 0 ps) ≡ first_of ps
      go [] = refl
      go (p ∷ ps) = refl

  later_opened : (k b : ℕ) (ps : List Bytes) → nth (suc k) (opened false b ps) ≡ nth (suc k) ps
  unfolding nth
  later_opened k b [] = refl
  later_opened k b (p ∷ ps) = refl

  -- a later piece is one of what is behind the first
  later_piece : (k : ℕ) (bs : Bytes) → piece m (suc k) bs ≡ piece m k (drop (suc (length (upto m m bs))) bs)
  unfolding split nth upto
  later_piece zero [] = refl
  later_piece (suc k) [] = refl
  later_piece k (b ∷ bs) = go (eqb b m) refl (later_piece k bs)
    where
      go : (u : Bool) → eqb b m ≡ u → piece m (suc k) bs ≡ piece m k (drop (suc (length (upto m m bs))) bs)
          → or_empty (nth (suc k) (opened (eqb b m) b (split m bs)))
          ≡ piece m k (drop (suc (length (if within m m b then [] else (b ∷ upto m m bs)))) (b ∷ bs))
      go true e ih = rw (e, within_one m b ∙ e)
      go false e ih = rw (e, within_one m b ∙ e, later_opened k b (split m bs)) ih

  -- of nothing every piece is empty
  pub piece_none : (k : ℕ) → piece m k [] ≡ []
  unfolding split nth
  piece_none zero = refl
  piece_none (suc k) = refl

  -- the piece at a place: its end, and its bytes
  module _ (text : Bytes) (from : ℕ) (h : from ≤ length text) {end : ℕ} (e : end ≡ from + length (upto m m (drop from text))) where
    pub end_inside : (from ≤ end) × (end ≤ length text)
    end_inside =
        let s : length (upto m m (drop from text)) ≤ length (drop from text) = length_upto m m (drop from text) in
        omega (arith, length-drop from text)

    pub piece_here : take (end - from) (drop from text) ≡ piece m 0 (drop from text)
    piece_here =
        let k : end - from ≡ length (upto m m (drop from text)) = omega arith in
        ap (λ (n : ℕ). take n (drop from text)) k ∙ take_upto m m (drop from text) ∙ sym (first_piece (drop from text))

    -- behind it are the pieces that follow
    pub pieces_behind : (k next : ℕ) → drop next text ≡ drop (end + 1) text → piece m (suc k) (drop from text) ≡ piece m k (drop next text)
    pieces_behind k next f =
        let n : from + suc (length (upto m m (drop from text))) ≡ end + 1 = omega arith in
        later_piece k (drop from text)
        ∙ ap (piece m k) (drop-drop (suc (length (upto m m (drop from text)))) from text ∙ ap (λ (j : ℕ). drop j text) n ∙ sym f)

-- where a scan to the end of the text stops
pub scan_end : (m : ℕ) (text : Bytes) (from : ℕ) {end : ℕ} → end ≡ from + length (upto m m (range text from (length text))) → end ≡ from + length (upto m m (drop from text))
scan_end m text from e = e ∙ ap (λ (l : Bytes). from + length (upto m m l)) (range_rest text from)

-- behind the last piece there is nothing
pub none_behind : (text : Bytes) (end : ℕ) → length text ≤ end → drop end text ≡ drop (end + 1) text
none_behind text end h =
    let k : length text ≤ end + 1 = omega arith in
    drop_of_length-le text h ∙ sym (drop_of_length-le text k)
