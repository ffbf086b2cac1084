-- What a field spells, piece by piece: a byte as it stands, or what the next two braces hold.
use Rattle.std.specs.Prelude.{if◌then◌else◌, None, Some}
use Rattle.std.specs.List.{slice_get}
use Prim.Native.Nat.{ℕ, zero, suc, ◌+◌, ◌-◌, ◌≤◌, ◌<◌}
use mathlib.Core.Path.{◌≡◌, refl, sym, ap, ap₂, ◌∙◌}
use mathlib.Core.Bool.{Bool, true, false, true≢false, ◌&&◌, and-false}
use mathlib.Core.List.{[], ◌∷◌, ◌++◌, map, map-append, append_assoc, append-nil}
use mathlib.Core.Option.{none, some}
use lib.ListN.{length, take, drop, get_or, replicate, length-drop, drop_of_length-le}
use lib.Dec.{ltb, eqb}
use lib.Seq.{drop-drop}
use native.Mathlib.Omega.{arith}
use borrow.Author.Tests.{ne_eqb, ltb-true, lt-ltb, le-ltb}
use Rattle.paper.specs.Bytes.{Bytes, within}
use Rattle.paper.proofs.Ranges.{within_one}
use Rattle.lent.specs.Scan.{upto, piece}
use Rattle.lent.proofs.Scans.{next}
use Rattle.lent.proofs.Pieces.{take_upto}
use Rattle.cases.specs.Tables.{meant, laid, behind, number, repeated, braced, closed, unbraced, spelled}
use Rattle.cases.proofs.Laying.{spread, length_laid, behind_inside, spread_next, spread_none}

-- ---- what stands in braces

repeated_none : (n : ℕ) (x : Bytes) → None ≡ slice_get x 0 → repeated n x ≡ (if ltb n 256 then n else 63) ∷ []
unfolding repeated
repeated_none n [] e = refl
repeated_none n (x ∷ xs) e = cc

repeated_first : (n : ℕ) (x : Bytes) (b : ℕ) → Some b ≡ slice_get x 0 → repeated n x ≡ replicate n b
unfolding repeated
repeated_first n [] b e = cc
repeated_first n (x ∷ xs) b e = cc

module _ (text : Bytes) {n : ℕ} {count x : Bytes} (c : count ≡ piece 42 0 text) (e : n ≡ number count) (f : x ≡ piece 42 1 text) where
  both : repeated n x ≡ braced text
  unfolding braced
  both = ap (λ (k : ℕ). repeated k x) (e ∙ ap number c) ∙ ap (repeated (number (piece 42 0 text))) f

  pub one_byte : {b : ℕ} → None ≡ slice_get x 0 → b ≡ (if ltb n 256 then n else 63) → replicate 1 b ≡ braced text
  one_byte h g = ap (λ (b : ℕ). b ∷ []) g ∙ sym (repeated_none n x h) ∙ both

  pub many_bytes : {b : ℕ} → Some b ≡ slice_get x 0 → replicate n b ≡ braced text
  many_bytes {b} h = sym (repeated_first n x b h) ∙ both

-- ---- a piece and what is behind it

still_closed : (b : ℕ) (bs : Bytes) → eqb b 125 ≡ false → closed (b ∷ bs) ≡ true → closed bs ≡ true
unfolding closed upto
still_closed b bs e h =
    let longer : length (if within 125 125 b then [] else (b ∷ upto 125 125 bs)) ≡ suc (length (upto 125 125 bs))
    = ap (λ (t : Bool). length (if t then [] else (b ∷ upto 125 125 bs))) (within_one 125 b ∙ e) in
    lt-ltb (length (upto 125 125 bs)) (length bs) (omega (arith, ltb-true (length (if within 125 125 b then [] else (b ∷ upto 125 125 bs))) (suc (length bs)) h, longer))

-- up to the next `}`, and then outside again
within_braces : (held bs : Bytes) → closed bs ≡ true
    → unbraced (some held) bs ≡ braced (held ++ upto 125 125 bs) ++ unbraced none (drop (suc (length (upto 125 125 bs))) bs)
unfolding unbraced upto closed
within_braces held [] e = absurd (true≢false (sym e))
within_braces held (b ∷ bs) e = go (eqb b 125) refl (λ h. within_braces (held ++ b ∷ []) bs (still_closed b bs h e))
  where
    go : (t : Bool) → eqb b 125 ≡ t
        → (eqb b 125 ≡ false → unbraced (some (held ++ b ∷ [])) bs ≡ braced ((held ++ b ∷ []) ++ upto 125 125 bs) ++ unbraced none (drop (suc (length (upto 125 125 bs))) bs))
        → (if eqb b 125 then braced held ++ unbraced none bs else unbraced (some (held ++ b ∷ [])) bs)
        ≡ braced (held ++ (if within 125 125 b then [] else (b ∷ upto 125 125 bs)))
        ++ unbraced none (drop (suc (length (if within 125 125 b then [] else (b ∷ upto 125 125 bs)))) (b ∷ bs))
    go true t ih = rw (t, within_one 125 b ∙ t, append-nil)
    go false t ih =
        rw (t, within_one 125 b ∙ t)
        (rw append_assoc at (ih t))

module _ (text : Bytes) (at : ℕ) (h : at < length text) where
  abbrev rest : Bytes
  rest = drop (at + 1) text

  abbrev by_brace : Bool → Bytes
  by_brace t = if t then unbraced (some []) rest else (get_or text at 0 ∷ unbraced none rest)

  first : unbraced none (drop at text) ≡ by_brace (eqb (get_or text at 0) 123 && closed rest)
  unfolding unbraced
  first = ap (unbraced none) (next text at h)

  pub no_brace : (get_or text at 0 ≡ 123 → ⊥) → unbraced none (drop at text) ≡ replicate 1 (get_or text at 0) ++ unbraced none rest
  no_brace n = first ∙ ap (λ (t : Bool). by_brace (t && closed rest)) (ne_eqb (get_or text at 0) 123 n)

  module _ {end : ℕ} (e : end ≡ at + 1 + length (upto 125 125 rest)) where
    pub no_closing : length text ≤ end → unbraced none (drop at text) ≡ replicate 1 (get_or text at 0) ++ unbraced none rest
    unfolding closed
    no_closing k =
        let unshut : closed rest ≡ false = le-ltb (length (upto 125 125 rest)) (length rest) (omega (arith, length-drop (at + 1) text)) in
        first ∙ rw (unshut, and-false)

    pub in_braces : get_or text at 0 ≡ 123 → end < length text → (next count byte : ℕ) → next ≡ end + 1 → replicate count byte ≡ braced (take (end - (at + 1)) rest)
        → unbraced none (drop at text) ≡ replicate count byte ++ unbraced none (drop next text)
    unfolding closed
    in_braces b k next count byte n r =
        let l : ℕ = length (upto 125 125 rest) in
        let shut : closed rest ≡ true = lt-ltb (length (upto 125 125 rest)) (length rest) (omega (arith, length-drop (at + 1) text)) in
        let here : (eqb (get_or text at 0) 123 && closed rest) ≡ true = rw (b, shut) in
        let size : end - (at + 1) ≡ l = omega arith in
        let held : take (end - (at + 1)) rest ≡ upto 125 125 rest = ap (λ (j : ℕ). take j rest) size ∙ take_upto 125 125 rest in
        let place : at + 1 + suc l ≡ next = omega arith in
        let behind : drop (suc l) rest ≡ drop next text = drop-drop (suc l) (at + 1) text ∙ ap (λ (j : ℕ). drop j text) place in
        first ∙ ap by_brace here ∙ within_braces [] rest shut ∙ rw (behind, r, held)

-- ---- the pieces as they are laid

map_replicate : (f : ℕ → ℕ) (n b : ℕ) → map f (replicate n b) ≡ replicate n (f b)
map_replicate f zero b = refl
map_replicate f (suc n) b = ap (λ (l : Bytes). f b ∷ l) (map_replicate f n b)

-- what the text from `at` on gives from place n is what the whole of it gives from the start
module _ (marks : Bool) (text out : Bytes) (n at : ℕ) (inside : n ≤ length out) {whole : ℕ × Bytes} (e : whole ≡ spread out n (spelled marks (drop at text))) where
  module _ (next count byte : ℕ) (piece : unbraced none (drop at text) ≡ replicate count byte ++ unbraced none (drop next text))
      (b k : ℕ) (after : Bytes) (m : b ≡ meant marks byte) (g : k ≡ behind out n (replicate count b)) (l : after ≡ laid out n (replicate count b)) where
    parted : spelled marks (drop at text) ≡ replicate count b ++ spelled marks (drop next text)
    unfolding spelled
    parted = rw (piece, map-append (meant marks), map_replicate (meant marks) count byte, m)

    pub one_piece : (k ≤ length after) × (length after ≡ length out) × (whole ≡ spread after k (spelled marks (drop next text)))
    one_piece =
        let long = length_laid out n (replicate count b) inside in
        let same : length after ≡ length out = ap length l ∙ long in (
          omega (arith, same, long, behind_inside out n (replicate count b) inside),
          same,
          e ∙ ap (spread out n) parted ∙ spread_next out n (replicate count b) inside (spelled marks (drop next text))
              ∙ ap₂ (λ (s : Bytes) (j : ℕ). spread s j (spelled marks (drop next text))) (sym l) (sym g),
        )

  pub all_pieces : length text ≤ at → (n, out) ≡ whole
  unfolding spelled unbraced
  all_pieces h = sym (e ∙ ap (λ (s : Bytes). spread out n (spelled marks s)) (drop_of_length-le text h) ∙ spread_none out n inside)
