-- What the head of a code says is what the paper reads.
use Rattle.std.specs.Prelude.{if◌then◌else◌}
use Prim.Native.Nat.{ℕ, ◌≤◌}
use mathlib.Core.Path.{◌≡◌, refl, ap, ◌∙◌}
use mathlib.Core.Bool.{Bool, true, false}
use mathlib.Core.List.{List, [], ◌∷◌}
use mathlib.Core.Option.{Option, none, some}
use lib.ListN.{length}
use lib.Dec.{eqb}
use native.Mathlib.Omega.{arith}
use borrow.Author.Tests.{eqb-true}
use Rattle.paper.specs.Bytes.{Bytes, any}
use Rattle.paper.specs.Sizes.{is_mark}
use Rattle.paper.specs.Grammar as paper
use Rattle.paper.specs.Codes as codes
use Rattle.codes.specs.Meaning.{conversion_of}
use Rattle.codes.specs.declared.Conversion.{Conversion}
use Rattle.readers.specs.Places.{byte_at}
use Rattle.readers.specs.Reading as place
use Rattle.grammar.specs.Heads.{whole, head, elms_from}
use Rattle.grammar.specs.declared.Head.{Head}
use Rattle.readers.proofs.Bytes.{left_none}
use Rattle.readers.proofs.Agreement.{Agree, neither, both}
use Rattle.readers.proofs.AgreementLines.{conversion_reads}

abbrev pub functioned : Option (List codes.Elm) → Option codes.Code
functioned none = none
functioned (some es) = some (codes.function es)

abbrev pub read_by : Bytes → Option Head → Option codes.Code
read_by s (some (Head.Function first)) = functioned (elms_from s first)
read_by s (some (Head.Single c)) = some (codes.single (conversion_of s c))
read_by s none = none

single_reads : (s : Bytes) → paper.all_read (paper.follow (paper.conversion s) (λ c. paper.gives (codes.single c))) ≡ read_by s (whole (length s) (place.conversion s 0))
single_reads s = go (conversion_reads s 0 (omega arith))
  where
    go : {x : Option (Conversion × ℕ)} {y : Option (codes.Conversion × Bytes)} → Agree (conversion_of s) s 1 x y → paper.all_read (paper.follow y (λ c. paper.gives (codes.single c))) ≡ read_by s (whole (length s) x)
    go neither = refl
    go (both c n l u) = rw (left_none s n u) (pick (eqb n (length s)))
      where
        pick : (t : Bool) → (if t then some (codes.single (conversion_of s c)) else none) ≡ read_by s (if t then some (Head.Single c) else none)
        pick true = refl
        pick false = refl

function_reads : (o : Option (List codes.Elm × Bytes)) → paper.all_read (paper.follow o (λ es. paper.gives (codes.function es))) ≡ functioned (paper.all_read o)
function_reads none = refl
function_reads (some r) = go (eqb (length r.1) 0)
  where
    go : (t : Bool) → (if t then some (codes.function r.0) else none) ≡ functioned (if t then some r.0 else none)
    go true = refl
    go false = refl

code_reads : (s : Bytes) → paper.all_read (paper.code s) ≡ read_by s (head s)
unfolding paper.code paper.function_code paper.this head byte_at elms_from
code_reads [] = single_reads []
code_reads (b ∷ []) = go (eqb 70 b)
  where
    go : (t : Bool) → paper.all_read (if t then none else paper.follow (paper.conversion (b ∷ [])) (λ c. paper.gives (codes.single c))) ≡ read_by (b ∷ []) (if t then none else whole 1 (place.conversion (b ∷ []) 0))
    go true = refl
    go false = single_reads (b ∷ [])
code_reads (b ∷ c ∷ s) = go (eqb 70 b)
  where
    parted : (t : Bool) → paper.all_read (paper.follow (if t then some (tt {0}, s) else none) (λ _ bs. paper.follow (paper.elms bs) (λ es. paper.gives (codes.function es)))) ≡ read_by (b ∷ c ∷ s) (if t then some (Head.Function 2) else none)
    parted true = function_reads (paper.elms s)
    parted false = refl

    go : (t : Bool) → paper.all_read (if t then paper.function_code (c ∷ s) else paper.follow (paper.conversion (b ∷ c ∷ s)) (λ c. paper.gives (codes.single c))) ≡ read_by (b ∷ c ∷ s) (if t then (if eqb 59 c then some (Head.Function 2) else none) else whole (length (b ∷ c ∷ s)) (place.conversion (b ∷ c ∷ s) 0))
    go true = parted (eqb 59 c)
    go false = single_reads (b ∷ c ∷ s)

-- a code without marks is what its head says; "Bytes 251, 252, 254, 255 .. are 6"
pub head_reads : (s : Bytes) → any is_mark s ≡ false → paper.read s ≡ read_by s (head s)
unfolding paper.read
head_reads s e = rw e (code_reads s)

pub marks_read : (s : Bytes) → any is_mark s ≡ true → paper.read s ≡ none
unfolding paper.read
marks_read s e = rw e

-- the place of the first elm
whole_other : (size : ℕ) (o : Option (Conversion × ℕ)) (first : ℕ) → whole size o ≡ some (Head.Function first) → ⊥
whole_other size none first e = let z : ◌≡◌ {A = ℕ} 0 1 = cc in omega arith
whole_other size (some r) first e = go (eqb r.1 size) e
  where
    go : (t : Bool) → (if t then some (Head.Single r.0) else none) ≡ some (Head.Function first) → ⊥
    go true e = let z : ◌≡◌ {A = ℕ} 0 1 = cc in omega arith
    go false e = let z : ◌≡◌ {A = ℕ} 0 1 = cc in omega arith

pub head_first : (s : Bytes) (first : ℕ) → head s ≡ some (Head.Function first) → (first ≡ 2) × (2 ≤ length s)
unfolding head byte_at
head_first [] first e = absurd (whole_other 0 (place.conversion [] 0) first e)
head_first (b ∷ []) first e = absurd (go (eqb 70 b) e)
  where
    go : (t : Bool) → (if t then none else whole 1 (place.conversion (b ∷ []) 0)) ≡ some (Head.Function first) → ⊥
    go true e = let z : ◌≡◌ {A = ℕ} 0 1 = cc in omega arith
    go false e = whole_other 1 (place.conversion (b ∷ []) 0) first e
head_first (b ∷ c ∷ s) first e = (go (eqb 70 b) (eqb 59 c) e, omega arith)
  where
    go : (t u : Bool) → (if t then (if u then some (Head.Function 2) else none) else whole (length (b ∷ c ∷ s)) (place.conversion (b ∷ c ∷ s) 0)) ≡ some (Head.Function first) → first ≡ 2
    go true true e = cc
    go true false e = let z : ◌≡◌ {A = ℕ} 0 1 = cc in absurd (omega arith)
    go false u e = absurd (whole_other (length (b ∷ c ∷ s)) (place.conversion (b ∷ c ∷ s) 0) first e)

-- a code that stands alone is read whole
pub head_single : (s : Bytes) {c : Conversion} → head s ≡ some (Head.Single c) → place.conversion s 0 ≡ some (c, length s)
unfolding head
head_single s {c} h = go (eqb 70 (byte_at s 0)) (eqb 59 (byte_at s 1)) h
  where
    alone : (o : Option (Conversion × ℕ)) → place.conversion s 0 ≡ o → whole (length s) o ≡ some (Head.Single c) → place.conversion s 0 ≡ some (c, length s)
    alone none f e = let z : ◌≡◌ {A = ℕ} 0 1 = cc in absurd (omega arith)
    alone (some r) f e = pick (eqb r.1 (length s)) refl e
      where
        pick : (t : Bool) → eqb r.1 (length s) ≡ t → (if t then some (Head.Single r.0) else none) ≡ some (Head.Single c)
            → place.conversion s 0 ≡ some (c, length s)
        pick true q e =
            let same : r.0 ≡ c = cc in
            f ∙ ap (λ (k : Conversion). some (k, r.1)) same ∙ ap (λ (n : ℕ). some (c, n)) (eqb-true r.1 (length s) q)
        pick false q e = let z : ◌≡◌ {A = ℕ} 0 1 = cc in absurd (omega arith)

    go : (t u : Bool) → (if t then (if u then some (Head.Function 2) else none) else whole (length s) (place.conversion s 0)) ≡ some (Head.Single c)
        → place.conversion s 0 ≡ some (c, length s)
    go true true e = let z : ◌≡◌ {A = ℕ} 0 1 = cc in absurd (omega arith)
    go true false e = let z : ◌≡◌ {A = ℕ} 0 1 = cc in absurd (omega arith)
    go false u e = alone (place.conversion s 0) refl e
