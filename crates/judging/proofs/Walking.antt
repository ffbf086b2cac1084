-- Walking a string that checking accepts: place by place, exactly the codes and elms of the definition, in order, and never a refusal.
use Prim.Native.Nat.{ℕ, suc, ◌<◌, ◌≤◌, ◌+◌, ◌-◌, ◌*◌}
use mathlib.Core.Path.{◌≡◌, refl, sym, ap, ◌∙◌}
use mathlib.Core.Bool.{Bool, true, false}
use mathlib.Core.Logic.{⊎_elim}
use mathlib.Core.List.{List, [], ◌∷◌}
use mathlib.Core.Option.{Option, none, some}
use lib.ListN.{length, take, drop}
use lib.Dec.{eqb}
use native.Mathlib.Omega.{arith}
use borrow.Author.Tests.{eqb-true, eqb-false}
use Rattle.paper.specs.Bytes.{Bytes}
use Rattle.paper.specs.Refusals.{Res, given, refused, ◌>>◌}
use Rattle.paper.specs.Records.{opened, split}
use Rattle.paper.specs.Grammar as paper
use Rattle.paper.specs.Codes as codes
use Rattle.paper.specs.Checking.{lawful, judged, judged_all, in_turn, check, Checked, accepted, faulty, code_counts, codes_counts}
use Rattle.codes.specs.Meaning.{elm_of}
use Rattle.codes.specs.declared.Elm.{Elm}
use Rattle.readers.specs.Places.{byte_at, after}
use Rattle.grammar.specs.Reading as place
use Rattle.grammar.specs.Heads.{elms_from, code_end}
use Rattle.paper.proofs.Truths.{ltb_or}
use Rattle.grammar.proofs.Parted.{elm_onto, elm_within, elms_none, elms_last, elms_more, elms_stray}
use Rattle.grammar.proofs.Cuts.{end_within, split_last, split_more}
use Rattle.judging.specs.Tallies.{counts_in, steps}
use Rattle.judging.proofs.Tallying.{no_step}
use Rattle.judging.proofs.Turns.{check_long, check_empty, check_parts}
use Rattle.judging.proofs.Sizes.{Headed, function_code, code_headed, steps_together, elms_sized, code_sized, judged_read}

-- Its elms: the last one ends with the code; a semicolon stands behind every other, and the rest behind that.
pub data Elms (s : Bytes) (at : ℕ) : List codes.Elm → Type 0 where
  last_elm : (e : Elm) → place.elm s at ≡ some (e, length s) → at < length s → Elms s at (elm_of s e ∷ [])
  elm_before : (e : Elm) (n : ℕ) (es : List codes.Elm) → place.elm s at ≡ some (e, n) → at < n → n < length s → byte_at s n ≡ 59 → elms_from s (after s n) ≡ some es → Elms s at (elm_of s e ∷ es)

pub elms_walked : (s : Bytes) (at : ℕ) (es : List codes.Elm) → at ≤ length s → elms_from s at ≡ some es → Elms s at es
elms_walked s at es h f = go (place.elm s at) refl
  where
    rest : (e : Elm) (n : ℕ) → place.elm s at ≡ some (e, n) → at < n → n < length s → byte_at s n ≡ 59 → (o : Option (List codes.Elm)) → elms_from s (after s n) ≡ o → elm_onto (elm_of s e) o ≡ some es → Elms s at es
    rest e n k l u b none g j = let z : ◌≡◌ {A = ℕ} 0 1 = cc in absurd (omega arith)
    rest e n k l u b (some ds) g j = let q : elm_of s e ∷ ds ≡ es = cc in rw (← q) (elm_before e n ds k l u b g)

    behind : (e : Elm) (n : ℕ) → place.elm s at ≡ some (e, n) → at < n → n < length s → (t : Bool) → eqb (byte_at s n) 59 ≡ t → Elms s at es
    behind e n k l u true g =
        let b = eqb-true (byte_at s n) 59 g in
        rest e n k l u b (elms_from s (after s n)) refl (sym (elms_more s at h e n k {b = byte_at s n} {m = after s n} (omega arith) (record { stands = refl; leads = refl }) b) ∙ f)
    behind e n k l u false g =
        let z : ◌≡◌ {A = ℕ} 0 1 = cc (elms_stray s at h e n k {b = byte_at s n} {m = after s n} (omega arith) (record { stands = refl; leads = refl }) (eqb-false (byte_at s n) 59 g)) in
        absurd (omega arith)

    go : (o : Option (Elm × ℕ)) → place.elm s at ≡ o → Elms s at es
    go none k = let z : ◌≡◌ {A = ℕ} 0 1 = cc (elms_none s at h k) in absurd (omega arith)
    go (some r) k =
        let w = elm_within s at h r.0 r.1 k in
        ⊎_elim (λ u. behind r.0 r.1 k w.0 u (eqb (byte_at s r.1) 59) refl)
        (λ (u : length s ≤ r.1). let e : r.1 ≡ length s = omega arith in
        let q : elm_of s r.0 ∷ [] ≡ es = cc (elms_last s at h r.0 r.1 k e) in
        rw (← q) (last_elm r.0 (k ∙ ap (λ (n : ℕ). some (r.0, n)) e) (omega arith)))
        (ltb_or r.1 (length s))

-- The codes: each is lawful, and the last ends with the string; a byte 253 stands behind every other, and the rest behind that.
pub record Lawful (s : Bytes) (c : codes.Code) : Type 0 where
  pub reads : paper.read s ≡ some c
  pub stacks : lawful c ≡ given tt

judged_codes : (s : Bytes) (c : codes.Code) → judged s ≡ given c → Lawful s c
unfolding judged
judged_codes s c e = record { reads = judged_read s c e; stacks = go (lawful c) (rw (judged_read s c e) at e) }
  where
    go : (r : Res (Unit {0})) → (r >> given c) ≡ given c → r ≡ given tt
    go (given u) k = refl
    go (refused n) k = let z : ◌≡◌ {A = ℕ} 0 1 = cc in absurd (omega arith)

pub data Coded (s : Bytes) (at k end : ℕ) : List codes.Code → Type 0 where
  last_code : (c : codes.Code) → Lawful (take (end - at) (drop at s)) c → end ≡ length s → Coded s at k end (c ∷ [])
  code_before : (c : codes.Code) (cs : List codes.Code) → Lawful (take (end - at) (drop at s)) c → end < length s → judged_all (suc k) (split 253 (drop (end + 1) s)) ≡ accepted cs → Coded s at k end (c ∷ cs)

-- the first of some codes is judged, and then the others
first_judged : (k : ℕ) (p : Bytes) (ps : List Bytes) (cs : List codes.Code) → judged_all k (p ∷ ps) ≡ accepted cs → (c : codes.Code) × (ds : List codes.Code) × (judged p ≡ given c) × (judged_all (suc k) ps ≡ accepted ds) × (c ∷ ds ≡ cs)
unfolding judged_all
first_judged k p ps cs e = go (judged p) (judged_all (suc k) ps) refl refl e
  where
    go : (r : Res codes.Code) (o : Checked) → judged p ≡ r → judged_all (suc k) ps ≡ o → in_turn k r o ≡ accepted cs → (c : codes.Code) × (ds : List codes.Code) × (judged p ≡ given c) × (judged_all (suc k) ps ≡ accepted ds) × (c ∷ ds ≡ cs)
    go (given c) (accepted ds) f g j = (c, ds, f, g, cc)
    go (given c) (faulty n m) f g j = let z : ◌≡◌ {A = ℕ} 0 1 = cc in absurd (omega arith)
    go (refused n) o f g j = let z : ◌≡◌ {A = ℕ} 0 1 = cc in absurd (omega arith)

no_codes : (k : ℕ) (ds : List codes.Code) → judged_all k [] ≡ accepted ds → ds ≡ []
unfolding judged_all
no_codes k ds e = cc

pub codes_walked : (s : Bytes) (at k : ℕ) (cs : List codes.Code) → at ≤ length s → {end : ℕ} → end ≡ code_end (drop at s) at → judged_all k (split 253 (drop at s)) ≡ accepted cs → Coded s at k end cs
codes_walked s at k cs h {end} e f = ⊎_elim more last (ltb_or end (length s))
  where
    last : length s ≤ end → Coded s at k end cs
    last u =
        let w = end_within s at h e in
        let n : end ≡ length s = omega arith in
        let r = first_judged k (take (end - at) (drop at s)) [] cs (ap (judged_all k) (sym (split_last s at h e n)) ∙ f) in
        let q : r.0 ∷ [] ≡ cs = ap (λ (ds : List codes.Code). r.0 ∷ ds) (sym (no_codes (suc k) r.1 r.3)) ∙ r.4 in
        rw (← q) (last_code r.0 (judged_codes (take (end - at) (drop at s)) r.0 r.2) n)

    more : end < length s → Coded s at k end cs
    more u =
        let r = first_judged k (take (end - at) (drop at s)) (split 253 (drop (end + 1) s)) cs (ap (judged_all k) (sym (split_more s at h e (omega arith))) ∙ f) in
        rw (← r.4) (code_before r.0 r.1 (judged_codes (take (end - at) (drop at s)) r.0 r.2) u r.3)

-- The whole string: at most 512 bytes; no codes, or codes from place 0 on.
pub accepted_short : (s : Bytes) (cs : List codes.Code) → check s ≡ accepted cs → length s ≤ 512
accepted_short s cs e =
    ⊎_elim (λ (l : 512 < length s). let z : ◌≡◌ {A = ℕ} 0 1 = cc (check_long s l) in absurd (omega arith)) (λ (l : length s ≤ 512). l) (ltb_or 512 (length s))

pub accepted_empty : (s : Bytes) (cs : List codes.Code) → check s ≡ accepted cs → length s ≡ 0 → cs ≡ []
accepted_empty s cs e l = cc (check_empty s l)

pub accepted_codes : (s : Bytes) (cs : List codes.Code) → check s ≡ accepted cs → (length s ≡ 0 → ⊥) → judged_all 1 (split 253 (drop 0 s)) ≡ accepted cs
accepted_codes s cs e l = sym (check_parts s (accepted_short s cs e) l) ∙ e

-- "at least one elm"
pub function_elms : (s : Bytes) (es : List codes.Elm) → paper.read s ≡ some (codes.function es) → 0 < length es
function_elms s es e = go (code_headed s (codes.function es) e)
  where
    go : Headed s (codes.function es) → 0 < length es
    go (function_code es f l g) = (elms_sized s 2 es g).0

-- pieces with the byte that parts each from the next
spans : List Bytes → ℕ
spans [] = 0
spans (p ∷ ps) = length p + 1 + spans ps

opened_spans : (t : Bool) (b : ℕ) (ps : List Bytes) → 0 < spans ps → spans (opened t b ps) ≡ 1 + spans ps
unfolding spans
opened_spans true b ps h = omega arith
opened_spans false b [] h = absurd (omega arith)
opened_spans false b (p ∷ ps) h = omega arith

split_spans : (m : ℕ) (bs : Bytes) → spans (split m bs) ≡ length bs + 1
unfolding split spans
split_spans m [] = refl
split_spans m (b ∷ bs) = let h = split_spans m bs in omega (arith, opened_spans (eqb b m) b (split m bs) (omega arith))

steps_within : (k : ℕ) (ps : List Bytes) (cs : List codes.Code) → judged_all k ps ≡ accepted cs → 2 * steps (counts_in (codes_counts cs)) ≤ spans ps
unfolding codes_counts spans
steps_within k [] cs e = rw (no_codes k cs e) (omega (arith, no_step))
steps_within k (p ∷ ps) cs e =
    let r = first_judged k p ps cs e in
    let h = steps_within (suc k) ps r.1 r.3 in
    let w = code_sized p r.0 (judged_read p r.0 r.2) in
    rw (← r.4) (omega (arith, steps_together (code_counts r.0) (codes_counts r.1)))

-- A, B, P and T of a string: no more than 256 in all
pub accepted_steps : (s : Bytes) (cs : List codes.Code) → check s ≡ accepted cs → steps (counts_in (codes_counts cs)) ≤ 256
unfolding steps codes_counts
accepted_steps s cs e = ⊎_elim filled bare (ltb_or 0 (length s))
  where
    filled : 0 < length s → steps (counts_in (codes_counts cs)) ≤ 256
    filled l = let h = steps_within 1 (split 253 s) cs (accepted_codes s cs e (omega arith)) in omega (arith, split_spans 253 s, accepted_short s cs e)

    bare : length s ≤ 0 → steps (counts_in (codes_counts cs)) ≤ 256
    bare l = rw (accepted_empty s cs e (omega arith)) (omega arith)
