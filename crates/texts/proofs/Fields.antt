-- G: the fields that are skipped and taken are parts of the element, found by a scan for the separator.
use mathlib.Core.Path.{◌≡◌, refl, sym, ap, ◌∙◌}
use mathlib.Core.Bool.{Bool, true, false}
use mathlib.Core.List.{List, [], ◌∷◌}
use Prim.Native.Nat.{ℕ, zero, suc, ◌+◌, ◌-◌, ◌≤◌, ◌<◌}
use native.Mathlib.Nat.{le_refl}
use native.Mathlib.Numerals.{add-one}
use native.Mathlib.Omega.{arith}
use lib.Dec.{eqb}
use lib.ListN.{length, take, drop, get_or, length-take, length-drop, drop_of_length-le}
use lib.Seq.{take-nil, drop-nil}
use borrow.Author.Tests.{eq-eqb, ne_eqb, eqb-true}
use Rattle.paper.specs.Bytes.{Bytes}
use Rattle.paper.specs.Refusals.{given}
use Rattle.paper.specs.Records.{opened, split, join}
use Rattle.paper.specs.Codes.{Plain}
use Rattle.paper.specs.Texts.{plain_gives}
use Rattle.paper.proofs.Splitting.{Filled, filled, split_filled}
use Rattle.texts.specs.Scans.{ended, field_end, fields_after, first_fields}
use Rattle.lent.proofs.Scans.{next}

-- ---- the scan, a byte a turn

module _ (x : ℕ) (e : Bytes) (i : ℕ) where
  pub field_stops : i < length e → get_or e i 0 ≡ x → i + field_end x 0 (drop i e) ≡ i
  unfolding field_end
  field_stops h s = rw (next e i h, eq-eqb (get_or e i 0) x s) (omega arith)

  pub field_over : (n : ℕ) → length e ≤ i → i + field_end x n (drop i e) ≡ i
  unfolding field_end
  field_over n h = rw (drop_of_length-le e h) (omega arith)

  pub field_goes : (n : ℕ) → i < length e → (get_or e i 0 ≡ x → ⊥) → i + field_end x n (drop i e) ≡ i + 1 + field_end x n (drop (i + 1) e)
  unfolding field_end
  field_goes n h s = rw (next e i h, ne_eqb (get_or e i 0) x s) (omega arith)

  pub field_passes : (n : ℕ) → i < length e → get_or e i 0 ≡ x → 0 < n → i + field_end x n (drop i e) ≡ i + 1 + field_end x (n - 1) (drop (i + 1) e)
  unfolding field_end
  field_passes zero h s p = absurd (omega arith)
  field_passes (suc n) h s p =
      let m : suc n - 1 ≡ n = omega arith in
      rw (m, next e i h, eq-eqb (get_or e i 0) x s) (omega arith)

pub field_end_fits : (x n : ℕ) (e : Bytes) → field_end x n e ≤ length e
unfolding field_end
field_end_fits x n [] = le_refl 0
field_end_fits x n (b ∷ bs) = go (eqb b x) n (λ m. field_end_fits x m bs)
  where
    go : (t : Bool) (n : ℕ) → ((m : ℕ) → field_end x m bs ≤ length bs) → ended t n (λ m. field_end x m bs) ≤ suc (length bs)
    go true zero h = omega arith
    go true (suc n) h = omega (arith, h n)
    go false n h = omega (arith, h n)

pub skips_some : (x n : ℕ) (e : Bytes) → 0 < n → fields_after x n e ≡ drop (field_end x (n - 1) e + 1) e
unfolding fields_after
skips_some x zero e h = absurd (omega arith)
skips_some x (suc n) e h =
    let m : suc n - 1 ≡ n = omega arith in
    rw (m, add-one (field_end x n e))

pub takes_some : (x n : ℕ) (e : Bytes) → 0 < n → first_fields x n e ≡ take (field_end x (n - 1) e) e
unfolding first_fields
takes_some x zero e h = absurd (omega arith)
takes_some x (suc n) e h =
    let m : suc n - 1 ≡ n = omega arith in
    rw m

-- ---- the fields that are skipped

tail_opened : (b k : ℕ) (ps : List Bytes) → drop (suc k) (opened false b ps) ≡ drop (suc k) ps
tail_opened b k [] = drop-nil k
tail_opened b k (p ∷ ps) = refl

no_fields : (x n : ℕ) → join x (take n ([] ∷ [])) ≡ []
unfolding join
no_fields x zero = refl
no_fields x (suc n) = rw (take-nil {A = Bytes} n)

module _ (x n : ℕ) where
  abbrev Skipped : ℕ → Bytes → Type 0
  Skipped k e = join x (take n (drop (suc k) (split x e))) ≡ join x (take n (split x (drop (suc (field_end x k e)) e)))

  skipped : (k : ℕ) (e : Bytes) → Skipped k e
  unfolding split join field_end
  skipped k [] = rw (drop-nil {A = Bytes} k, take-nil {A = Bytes} n) (sym (no_fields x n))
  skipped k (b ∷ bs) = go (eqb b x) k (λ m. skipped m bs)
    where
      go : (t : Bool) (k : ℕ) → ((m : ℕ) → Skipped m bs)
          → join x (take n (drop (suc k) (opened t b (split x bs)))) ≡ join x (take n (split x (drop (suc (ended t k (λ m. field_end x m bs))) (b ∷ bs))))
      go true zero h = refl
      go true (suc k) h = h k
      go false k h = rw (tail_opened b k (split x bs)) (h k)

-- ---- the fields that are taken

module _ (x : ℕ) where
  join_byte : (b : ℕ) (p : Bytes) (ps : List Bytes) → join x ((b ∷ p) ∷ ps) ≡ b ∷ join x (p ∷ ps)
  unfolding join
  join_byte b p [] = refl
  join_byte b p (q ∷ ps) = refl

  after_byte : (b n : ℕ) {ps : List Bytes} → Filled ps → join x (take (suc n) (opened false b ps)) ≡ b ∷ join x (take (suc n) ps)
  after_byte b n (filled {p = p} {ps = ps}) = join_byte b p (take n ps)

  after_mark : (n : ℕ) {ps : List Bytes} → Filled ps → join x ([] ∷ take (suc n) ps) ≡ x ∷ join x (take (suc n) ps)
  unfolding join
  after_mark n filled = refl

  abbrev Taken : ℕ → Bytes → Type 0
  Taken n e = join x (take (suc n) (split x e)) ≡ take (field_end x n e) e

  taken : (n : ℕ) (e : Bytes) → Taken n e
  unfolding split join field_end
  taken n [] = rw (take-nil {A = Bytes} n)
  taken n (b ∷ bs) = go (eqb b x) refl n (λ m. taken m bs)
    where
      go : (t : Bool) → eqb b x ≡ t → (n : ℕ) → ((m : ℕ) → Taken m bs)
          → join x (take (suc n) (opened t b (split x bs))) ≡ take (ended t n (λ m. field_end x m bs)) (b ∷ bs)
      go true s zero h = refl
      go true s (suc n) h = after_mark n (split_filled x bs) ∙ rw (h n, eqb-true b x s)
      go false s n h = after_byte b n (split_filled x bs) ∙ rw (h n)

-- ---- G

all_skipped : (x n k : ℕ) (e : Bytes) → join x (take n (drop k (split x e))) ≡ join x (take n (split x (fields_after x k e)))
unfolding fields_after
all_skipped x n zero e = refl
all_skipped x n (suc k) e = skipped x n k e

all_taken : (x n : ℕ) (e : Bytes) → join x (take n (split x e)) ≡ first_fields x n e
unfolding first_fields join
all_taken x zero e = refl
all_taken x (suc n) e = taken x n e

-- "skips fields, then takes up to the number asked, separators between them kept"
pub group_gives : (k x n : ℕ) (e : Bytes) → plain_gives (Plain.group k x n) e ≡ given (first_fields x n (fields_after x k e))
unfolding plain_gives
group_gives k x n e = ap given (all_skipped x n k e ∙ all_taken x n (fields_after x k e))

first_fits : (x n : ℕ) (e : Bytes) → length (first_fields x n e) ≤ length e
unfolding first_fields
first_fits x zero e = omega arith
first_fits x (suc n) e = omega (arith, length-take (field_end x n e) e)

after_fits : (x n : ℕ) (e : Bytes) → length (fields_after x n e) ≤ length e
unfolding fields_after
after_fits x zero e = le_refl (length e)
after_fits x (suc n) e = omega (arith, length-drop (suc (field_end x n e)) e)

pub group_fits : (k x n : ℕ) (e : Bytes) → length (first_fields x n (fields_after x k e)) ≤ length e
group_fits k x n e = omega (arith, first_fits x n (fields_after x k e), after_fits x k e)

-- what follows the fields to skip
pub ruleset skipping = (skips_some, field_end_fits)
