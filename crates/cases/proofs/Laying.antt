-- Bytes laid into a buffer as far as there is room: bytes drawn, one byte many times, and one part behind another.
use Prim.Native.Nat.{ℕ, zero, suc, ◌+◌, ◌-◌, ◌≤◌, ◌<◌, min}
use mathlib.Core.Path.{◌≡◌, refl, sym, ap, ap₂, ◌∙◌}
use mathlib.Core.List.{[], ◌∷◌, ◌++◌, map}
use lib.ListN.{length, take, get_or, set, replicate, length-append, length-take, length-map, length-replicate}
use lib.Seq.{take-nil, get_or-take}
use native.Mathlib.Omega.{arith}
use native.Mathlib.Nat.{zero-add, zero-sub, sub-zero, suc-sub-suc}
use Rattle.paper.specs.Bytes.{Bytes}
use Rattle.lent.specs.Over.{over}
use Rattle.lent.proofs.Laws.{over_none, over_over, length_over}
use Rattle.lent.proofs.Laying.{Laying, laying_none, laying_more, laying_all}
use Rattle.cases.specs.Tables.{shown_byte, laid, behind}

-- a byte of a text under a function
pub map_at : (f : ℕ → ℕ) (l : Bytes) (j : ℕ) → j < length l → get_or (map f l) j 0 ≡ f (get_or l j 0)
map_at f [] j h = absurd (omega arith)
map_at f (b ∷ bs) zero h = refl
map_at f (b ∷ bs) (suc j) h = map_at f bs j (omega arith)

-- a text with its marks drawn, byte by byte
module _ (text line : Bytes) {n : ℕ} (e : n ≡ min (length text) (length line)) where
  abbrev shown_text : Bytes
  shown_text = take (length line - 0) (map shown_byte text)

  pub drawn_none : Laying line 0 shown_text n 0 0 line
  drawn_none = laying_none line 0 shown_text n 0 (omega (arith, length-take (length line - 0) (map shown_byte text), length-map text shown_byte)) (omega arith) (omega arith)

  pub drawn_more : {now : Bytes} (j x : ℕ) → Laying line 0 shown_text n 0 j now → j < n → x ≡ shown_byte (get_or text j 0) → Laying line 0 shown_text n 0 (j + 1) (set now j x)
  drawn_more j x l h f =
      rw zero-add at (laying_more l x h (f ∙ sym (get_or-take (length line - 0) (map shown_byte text) j 0 (omega arith) ∙ map_at shown_byte text j (omega arith))))

  pub drawn_all : {now : Bytes} {j : ℕ} → Laying line 0 shown_text n 0 j now → n ≤ j → (n ≡ behind line 0 (map shown_byte text)) × (now ≡ laid line 0 (map shown_byte text))
  unfolding laid behind
  drawn_all l h = (omega (arith, length-map text shown_byte), laying_all l (omega arith) h)

-- one byte many times, as often as there is room
take_replicate : (k c b : ℕ) → take k (replicate c b) ≡ replicate (length (take k (replicate c b))) b
take_replicate zero c b = refl
take_replicate (suc k) zero b = refl
take_replicate (suc k) (suc c) b = ap (λ (l : Bytes). b ∷ l) (take_replicate k c b)

pub filled : (out : Bytes) (from count b : ℕ) → from ≤ length out → {n : ℕ} → n ≡ min count (length out - from)
    → (from + n ≡ behind out from (replicate count b)) × (over out from (replicate n b) ≡ laid out from (replicate count b))
unfolding behind laid
filled out from count b inside {n} e =
    let k : ℕ = length out - from in
    let many : n ≡ length (take k (replicate count b)) = omega (arith, length-take k (replicate count b), length-replicate count b) in
    (omega (arith, length-replicate count b), rw (take_replicate k count b, many))

-- as many bytes of two parts as there is room for
take_append : (k : ℕ) (s t : Bytes) → take k (s ++ t) ≡ take k s ++ take (k - length s) t
take_append zero s t = rw zero-sub
take_append (suc k) [] t = rw sub-zero
take_append (suc k) (b ∷ s) t = rw suc-sub-suc (ap (λ (l : Bytes). b ∷ l) (take_append k s t))

-- the place behind the bytes laid, and the buffer then
abbrev pub spread : Bytes → ℕ → Bytes → ℕ × Bytes
spread out n bs = (behind out n bs, laid out n bs)

-- one part behind another
module _ (out : Bytes) (n : ℕ) (p : Bytes) (inside : n ≤ length out) where
  abbrev room : ℕ
  room = length out - n

  pub length_laid : length (laid out n p) ≡ length out
  unfolding laid
  length_laid = length_over out n (take room p) (omega (arith, length-take room p))

  pub behind_inside : behind out n p ≤ length (laid out n p)
  unfolding behind
  behind_inside = omega (arith, length_laid)

  behind_next : (rest : Bytes) → behind out n (p ++ rest) ≡ behind (laid out n p) (behind out n p) rest
  unfolding behind
  behind_next rest = omega (arith, length_laid, length-append p rest)

  laid_next : (rest : Bytes) → laid out n (p ++ rest) ≡ laid (laid out n p) (behind out n p) rest
  unfolding laid behind
  laid_next rest =
      let end : min (n + length p) (length out) ≡ n + length (take room p) = omega (arith, length-take room p) in
      let left : length (over out n (take room p)) - min (n + length p) (length out) ≡ room - length p = omega (arith, length_laid) in
      rw (take_append room p rest, left, end) (sym (over_over out n (take room p) (take (room - length p) rest) inside))

  pub spread_next : (rest : Bytes) → spread out n (p ++ rest) ≡ spread (laid out n p) (behind out n p) rest
  spread_next rest = ap₂ (λ (k : ℕ) (l : Bytes). (k, l)) (behind_next rest) (laid_next rest)

-- nothing more
pub spread_none : (out : Bytes) (n : ℕ) → n ≤ length out → spread out n [] ≡ (n, out)
unfolding laid behind
spread_none out n inside =
    let end : min (n + 0) (length out) ≡ n = omega arith in
    ap₂ (λ (k : ℕ) (l : Bytes). (k, l)) end (ap (over out n) (take-nil (length out - n)) ∙ over_none out n)
