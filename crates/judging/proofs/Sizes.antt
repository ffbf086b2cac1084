-- How many steps and tests a string of so many bytes holds: each takes two bytes, with what parts the steps.
use Rattle.std.specs.Prelude.{if◌then◌else◌}
use Prim.Native.Nat.{ℕ, zero, suc, ◌<◌, ◌≤◌, ◌+◌, ◌*◌}
use mathlib.Core.Path.{◌≡◌, refl, sym, ap, ◌∙◌}
use mathlib.Core.Bool.{Bool, true, false}
use mathlib.Core.List.{List, [], ◌∷◌}
use mathlib.Core.Option.{Option, none, some}
use lib.ListN.{length, drop, length-drop}
use lib.Dec.{eqb}
use native.Mathlib.Omega.{arith}
use Rattle.paper.specs.Bytes.{Bytes, any}
use Rattle.paper.specs.Sizes.{is_mark}
use Rattle.paper.specs.Grammar as paper
use Rattle.paper.specs.Refusals.{Res, given, refused, ◌>>=◌, ◌>>◌}
use Rattle.paper.specs.Codes as codes
use Rattle.paper.specs.Checking as checking
use Rattle.codes.specs.Meaning.{conversion_of, elm_of}
use Rattle.codes.specs.Counting.{elm_kind_of}
use Rattle.codes.specs.declared.Elm.{Elm}
use Rattle.codes.specs.declared.Conversion.{Conversion}
use Rattle.readers.proofs.Counted.{counted_elm}
use Rattle.grammar.specs.Reading as place
use Rattle.grammar.specs.Heads.{head, elms_from}
use Rattle.grammar.proofs.AgreementLines.{elm_reads}
use Rattle.grammar.proofs.Counted.{elm_counted}
use Rattle.grammar.specs.declared.Head.{Head}
use Rattle.paper.proofs.Weights.{weight, conversion_weighs, elm_weighs}
use Rattle.readers.proofs.AgreementLines.{conversion_reads}
use Rattle.readers.proofs.Agreement.{some_by}
use Rattle.grammar.proofs.Parted.{further}
use Rattle.grammar.proofs.HeadReads.{functioned, read_by, head_reads, head_first, head_single, marks_read}
use Rattle.judging.specs.Tallies.{counts_in, steps}
use Rattle.judging.specs.Verdicts.{judged_of}
use Rattle.judging.specs.declared.Counts.{Counts}
use Rattle.judging.proofs.Tallying.{no_step, one_step}
use Rattle.judging.proofs.Turns.{judged_lawful}

pub steps_together : (x y : checking.Counts) → steps (counts_in (checking.together x y)) ≡ steps (counts_in x) + steps (counts_in y)
unfolding checking.together steps
steps_together x y = omega arith

-- the steps of elms, and the tests in them
unfoldable pub heavy : List codes.Elm → ℕ
heavy es = steps (counts_in (checking.elms_counts es))

heavy_none : heavy [] ≡ 0
unfolding heavy checking.elms_counts
heavy_none = no_step

heavy_more : (e : codes.Elm) (es : List codes.Elm) → heavy (e ∷ es) ≡ weight (checking.shape e).kind + heavy es
unfolding heavy checking.elms_counts
heavy_more e es = omega (arith, steps_together (checking.step_counts (checking.shape e).kind) (checking.elms_counts es), one_step (checking.shape e).kind)

-- the step of one elm that was read, and its tests, by the bytes that it takes
pub elm_sized : (s : Bytes) (at : ℕ) → at ≤ length s → (e : Elm) (n : ℕ) → place.elm s at ≡ some (e, n)
    → (2 * weight (checking.shape (elm_of s e)).kind + at ≤ n + 1)
    × (steps (counts_in (checking.step_counts (elm_kind_of e))) ≡ weight (checking.shape (elm_of s e)).kind)
elm_sized s at h e n f =
    let read = some_by e n (elm_reads s at h) f in (
      omega (arith, elm_weighs (drop at s) (elm_of s e, drop n s) read.0, read.2, length-drop at s, length-drop n s),
      one_step (elm_kind_of e) ∙ ap weight (sym (counted_elm s e (elm_counted s at f))),
    )

-- one or more elms, and the bytes that they and the semicolons take
data Sized (bs : Bytes) : Option (List codes.Elm × Bytes) → Type 0 where
  unread : Sized bs none
  reads : (es : List codes.Elm) (rest : Bytes) → 0 < length es → 2 * heavy es + length rest ≤ length bs + 1 → Sized bs (some (es, rest))

further_sized : (n : ℕ) (bs : Bytes) (x : codes.Elm) (rest : Bytes) → 2 * weight (checking.shape x).kind + length rest ≤ length bs + 1
    → ((t : Bytes) → Sized t (paper.parted n 59 paper.elm t)) → Sized bs (further n x rest)
further_sized n bs x [] h ih = reads (x ∷ []) [] (omega arith) (omega (arith, heavy_more x [], heavy_none))
further_sized n bs x (b ∷ t) h ih = go (eqb 59 b) (ih t)
  where
    onward : {o : Option (List codes.Elm × Bytes)} → Sized t o → Sized bs (paper.follow o (λ xs. paper.gives (x ∷ xs)))
    onward unread = unread
    onward (reads es rest k l) = reads (x ∷ es) rest (omega arith) (omega (arith, heavy_more x es))

    go : (u : Bool) → Sized t (paper.parted n 59 paper.elm t) → Sized bs (if u then paper.follow (paper.parted n 59 paper.elm t) (λ xs. paper.gives (x ∷ xs)) else some (x ∷ [], b ∷ t))
    go true k = onward k
    go false k = reads (x ∷ []) (b ∷ t) (omega arith) (omega (arith, heavy_more x [], heavy_none))

parted_sized : (n : ℕ) (bs : Bytes) → Sized bs (paper.parted n 59 paper.elm bs)
unfolding paper.parted
parted_sized zero bs = unread
parted_sized (suc n) bs = go (paper.elm bs) refl (parted_sized n)
  where
    go : (o : Option (codes.Elm × Bytes)) → paper.elm bs ≡ o → ((t : Bytes) → Sized t (paper.parted n 59 paper.elm t)) → Sized bs (paper.follow o (further n))
    go none e ih = unread
    go (some r) e ih = further_sized n bs r.0 r.1 (elm_weighs bs r e) ih

-- "at least one elm"
pub elms_sized : (s : Bytes) (at : ℕ) (es : List codes.Elm) → elms_from s at ≡ some es → (0 < length es) × (2 * heavy es ≤ length (drop at s) + 1)
unfolding elms_from paper.elms
elms_sized s at es e = go (parted_sized (length (drop at s)) (drop at s)) e
  where
    go : {o : Option (List codes.Elm × Bytes)} → Sized (drop at s) o → paper.all_read o ≡ some es → (0 < length es) × (2 * heavy es ≤ length (drop at s) + 1)
    go unread f = let z : ◌≡◌ {A = ℕ} 0 1 = cc in absurd (omega arith)
    go (reads xs rest k l) f = pick (eqb (length rest) 0) f
      where
        pick : (t : Bool) → (if t then some xs else none) ≡ some es → (0 < length es) × (2 * heavy es ≤ length (drop at s) + 1)
        pick true g = let q : xs ≡ es = cc in omega (arith, ap length q, ap heavy q)
        pick false g = let z : ◌≡◌ {A = ℕ} 0 1 = cc in absurd (omega arith)

-- "an empty code" is none
some_byte : (s : Bytes) (c : codes.Code) → paper.read s ≡ some c → 0 < length s
unfolding paper.read paper.code paper.conversion paper.choose any
some_byte [] c e = let z : ◌≡◌ {A = ℕ} 0 1 = cc in absurd (omega arith)
some_byte (b ∷ s) c e = omega arith

pub unmarked : (s : Bytes) (c : codes.Code) → paper.read s ≡ some c → any is_mark s ≡ false
unmarked s c e = go (any is_mark s) refl
  where
    go : (t : Bool) → any is_mark s ≡ t → any is_mark s ≡ false
    go true f = let z : ◌≡◌ {A = ℕ} 0 1 = cc (marks_read s f) in absurd (omega arith)
    go false f = f

-- One code: `F` with its elms from place 2 on, or the code that is all of it.
pub data Headed (s : Bytes) : codes.Code → Type 0 where
  function_code : (es : List codes.Elm) → head s ≡ some (Head.Function 2) → 2 ≤ length s → elms_from s 2 ≡ some es → Headed s (codes.function es)
  single_code : (c : Conversion) → head s ≡ some (Head.Single c) → Headed s (codes.single (conversion_of s c))

pub code_headed : (s : Bytes) (c : codes.Code) → paper.read s ≡ some c → Headed s c
code_headed s c e = go (head s) refl (sym (head_reads s (unmarked s c e)) ∙ e)
  where
    elms : (first : ℕ) (o : Option (List codes.Elm)) → head s ≡ some (Head.Function first) → elms_from s first ≡ o → functioned o ≡ some c → Headed s c
    elms first none f g k = let z : ◌≡◌ {A = ℕ} 0 1 = cc in absurd (omega arith)
    elms first (some es) f g k =
        let w = head_first s first f in
        let q : codes.function es ≡ c = cc in
        rw (← q) (function_code es (f ∙ ap (λ (n : ℕ). some (Head.Function n)) w.0) w.1 (rw w.0 at g))

    go : (h : Option Head) → head s ≡ h → read_by s h ≡ some c → Headed s c
    go (some (Head.Function first)) f g = elms first (elms_from s first) f refl g
    go (some (Head.Single d)) f g = let q : codes.single (conversion_of s d) ≡ c = cc in rw (← q) (single_code d f)
    go none f g = let z : ◌≡◌ {A = ℕ} 0 1 = cc in absurd (omega arith)

-- A, B, P and T of one code
pub code_sized : (s : Bytes) (c : codes.Code) → paper.read s ≡ some c → 2 * steps (counts_in (checking.code_counts c)) ≤ length s + 1
unfolding checking.code_counts heavy
code_sized s c e = go (code_headed s c e) (some_byte s c e)
  where
    go : {c : codes.Code} → Headed s c → 0 < length s → 2 * steps (counts_in (checking.code_counts c)) ≤ length s + 1
    go (function_code es f l g) h = omega (arith, elms_sized s 2 es g, length-drop 2 s)
    go (single_code d f) h =
        let w = conversion_weighs s (conversion_of s d, drop (length s) s) (some_by d (length s) (conversion_reads s 0 (omega arith)) (head_single s f)).0 in
        omega (arith, w, one_step (checking.conversion_kind (conversion_of s d)))

pub judged_read : (s : Bytes) (c : codes.Code) → checking.judged s ≡ given c → paper.read s ≡ some c
unfolding checking.judged
judged_read s c e = go (paper.read s) refl e
  where
    go : (o : Option codes.Code) → paper.read s ≡ o → (checking.in_grammar o >>= λ d. checking.lawful d >> given d) ≡ given c → paper.read s ≡ some c
    go none f g = let z : ◌≡◌ {A = ℕ} 0 1 = cc in absurd (omega arith)
    go (some d) f g = pick (checking.lawful d) g
      where
        pick : (r : Res (Unit {0})) → (r >> given d) ≡ given c → paper.read s ≡ some c
        pick (given u) k = let q : d ≡ c = cc in f ∙ ap some q
        pick (refused n) k = let z : ◌≡◌ {A = ℕ} 0 1 = cc in absurd (omega arith)

pub judged_sized : (s : Bytes) (k : Counts) → judged_of (checking.judged s) ≡ given k → 2 * steps k ≤ length s + 1
judged_sized s k e = let j = judged_lawful s k e in rw j.2 (code_sized s j.0 (judged_read s j.0 j.1))
