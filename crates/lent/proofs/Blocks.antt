-- What passing a block does, over plain lists: a front part in which a scan does not end.
use Rattle.std.specs.Prelude.{if◌then◌else◌}
use mathlib.Core.Path.{◌≡◌, refl, sym, ap, ◌∙◌}
use mathlib.Core.Bool.{Bool, true, false, true≢false, ◌||◌}
use mathlib.Core.List.{[], ◌∷◌, ◌++◌}
use Prim.Native.Nat.{ℕ, ◌+◌, ◌-◌, ◌≤◌, ◌<◌}
use native.Mathlib.Omega.{arith}
use lib.ListN.{length, take, drop, take-append-drop, length-drop, length-append}
use lib.Seq.{drop-drop, take-add, take_at, drop_at, length-take-le}
use Rattle.paper.specs.Bytes.{Bytes, any, within}
use Rattle.lent.specs.Scan.{range, upto, first_place}

-- ---- a part of the bytes, in two

module _ (text : Bytes) (from end : ℕ) (order : from ≤ end) where
  behind : drop (end - from) (drop from text) ≡ drop end text
  behind =
      let e : from + (end - from) ≡ end = omega arith in
      drop-drop (end - from) from text ∙ ap (λ (k : ℕ). drop k text) e

  range_parts : (to : ℕ) → end ≤ to → range text from to ≡ range text from end ++ range text end to
  unfolding range
  range_parts to h =
      let e : to - from ≡ (end - from) + (to - end) = omega arith in
      ap (λ (n : ℕ). take n (drop from text)) e
      ∙ take-add (end - from) (to - end) (drop from text)
      ∙ ap (λ (l : Bytes). take (end - from) (drop from text) ++ take (to - end) l) behind

  pub drop_parts : drop from text ≡ range text from end ++ drop end text
  unfolding range
  drop_parts = sym (take-append-drop (end - from) (drop from text)) ∙ ap (λ (l : Bytes). take (end - from) (drop from text) ++ l) behind

  pub length_range : end ≤ length text → length (range text from end) ≡ end - from
  unfolding range
  length_range h = length-take-le (end - from) (drop from text) (omega (arith, length-drop from text))

-- n bytes off the front
module _ (text : Bytes) (at to n : ℕ) (order : at ≤ to) (inside : to ≤ length text) where
  pub block_parts : {block rest : Bytes} → range text at to ≡ block ++ rest → length block ≡ n
      → (at + n ≤ to) × (block ≡ range text at (at + n)) × (rest ≡ range text (at + n) to)
  block_parts {block} {rest} e l =
      let size = length_range text at to order inside in
      let fits : at + n ≤ to = omega (arith, ap length e, length-append block rest) in
      let long : length (range text at (at + n)) ≡ n = omega (arith, length_range text at (at + n) (omega arith) (omega arith)) in
      let same : block ++ rest ≡ range text at (at + n) ++ range text (at + n) to = sym e ∙ range_parts text at (at + n) (omega arith) to fits in (
        fits,
        sym (take_at block rest n l) ∙ ap (take n) same ∙ take_at (range text at (at + n)) (range text (at + n) to) n long,
        sym (drop_at block rest n l) ∙ ap (drop n) same ∙ drop_at (range text at (at + n)) (range text (at + n) to) n long,
      )

-- ---- the first byte within low .. high

-- A scan of p gives u, and of p with more behind it, of which the scan gives v, gives w: it ends in p, or goes on.
data Ends (p u v w : Bytes) : Type 0 where
  early : length u < length p → w ≡ u → Ends p u v w
  late : u ≡ p → w ≡ p ++ v → Ends p u v w

near_length : {p u v w : Bytes} → Ends p u v w → length u < length p → length w ≡ length u
near_length (early h e) l = ap length e
near_length (late h e) l = absurd (omega (arith, ap length h))

far_length : {p u v w : Bytes} → Ends p u v w → length p ≤ length u → length w ≡ length p + length v
far_length (early h e) l = absurd (omega arith)
far_length {p} {u} {v} (late h e) l = ap length e ∙ length-append p v

module _ (low high : ℕ) where
  ends_byte : (b : ℕ) {p u v w : Bytes} (t : Bool) → Ends p u v w → Ends (b ∷ p) (if t then [] else (b ∷ u)) v (if t then [] else (b ∷ w))
  ends_byte b true s = early (omega arith) refl
  ends_byte b false (early h e) = early (omega arith) (ap (λ (l : Bytes). b ∷ l) e)
  ends_byte b false (late h e) = late (ap (λ (l : Bytes). b ∷ l) h) (ap (λ (l : Bytes). b ∷ l) e)

  ends : (p q : Bytes) → Ends p (upto low high p) (upto low high q) (upto low high (p ++ q))
  unfolding upto
  ends [] q = late refl refl
  ends (b ∷ p) q = ends_byte b (within low high b) (ends p q)

  upto_clear : (p : Bytes) → any (within low high) p ≡ false → upto low high p ≡ p
  unfolding upto any
  upto_clear [] e = refl
  upto_clear (b ∷ p) e = go (within low high b) e (upto_clear p)
    where
      go : (t : Bool) → t || any (within low high) p ≡ false → (any (within low high) p ≡ false → upto low high p ≡ p) → (if t then [] else (b ∷ upto low high p)) ≡ b ∷ p
      go true e ih = absurd (true≢false e)
      go false e ih = ap (λ (l : Bytes). b ∷ l) (ih e)

  module _ (text : Bytes) (from end to : ℕ) (order : from ≤ end) (before : end ≤ to) (inside : to ≤ length text) where
    parts : Ends (range text from end) (upto low high (range text from end)) (upto low high (range text end to)) (upto low high (range text from to))
    parts = rw (range_parts text from end order to before) (ends (range text from end) (range text end to))

    -- the answer for a front part is the answer where it lies in that part, and otherwise the rest has it
    pub first_near : first_place low high text from end < end → first_place low high text from to ≡ first_place low high text from end
    first_near h =
        let n = length_range text from end order (omega arith) in
        ap (λ (k : ℕ). from + k) (near_length parts (omega arith))

    pub first_far : end ≤ first_place low high text from end → first_place low high text from to ≡ first_place low high text end to
    first_far h =
        let n = length_range text from end order (omega arith) in
        omega (arith, far_length parts (omega arith))

    pub first_clear : any (within low high) (range text from end) ≡ false → first_place low high text from to ≡ first_place low high text end to
    first_clear e =
        let n = length_range text from end order (omega arith) in
        first_far (omega (arith, ap length (upto_clear (range text from end) e)))
