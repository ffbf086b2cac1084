-- Each code as the scan that the code makes, a byte a turn, and that the scan is what document 01 says.
use Rattle.std.specs.Prelude.{if◌then◌else◌}
use mathlib.Core.Path.{◌≡◌, refl, ap}
use mathlib.Core.Bool.{Bool, true, false}
use mathlib.Core.List.{[], ◌∷◌, map}
use Prim.Native.Nat.{ℕ, suc, ◌+◌, ◌≤◌, ◌<◌}
use native.Mathlib.Nat.{le_refl}
use native.Mathlib.Omega.{arith}
use lib.ListN.{length, take, drop, get_or, length-take, length-drop, drop_of_length-le}
use Rattle.paper.specs.Bytes.{Bytes, is_letter, only}
use Rattle.paper.specs.Refusals.{given}
use Rattle.paper.specs.Texts.{plain_gives, raised, lowered, titled}
use Rattle.paper.proofs.Truths.{chosen}
use Rattle.lent.proofs.Scans.{next}
use Rattle.texts.specs.Codes.{kept_code, kept, cased_code, turned}
use Rattle.texts.specs.declared.Class.{Class}
use Rattle.texts.specs.declared.Class.TheVariants.{Letters, OtherThanLetters, Numerals, OtherThanNumerals}
use Rattle.texts.specs.declared.Casing.{Casing}
use Rattle.texts.specs.declared.Casing.TheVariants.{Upper, Lower, Title}

pub part_fits : (n k : ℕ) (e : Bytes) → length (take n (drop k e)) ≤ length e
part_fits n k e = omega (arith, length-take n (drop k e), length-drop k e)

pub either_fits : (t : Bool) (e : Bytes) → length (if t then e else []) ≤ length e
either_fits t e = chosen (λ bs. length bs ≤ length e) t {x = e} {y = []} (λ _. le_refl (length e)) (λ _. omega arith)

-- ---- MCA, MC/A, MCN, MC/N

module _ (p : ℕ → Bool) where
  -- the byte at i is kept, or is not
  pub keeps_next : (e : Bytes) (i : ℕ) → i < length e → p (get_or e i 0) ≡ true → only p (drop i e) ≡ get_or e i 0 ∷ only p (drop (i + 1) e)
  unfolding only
  keeps_next e i h t = rw (next e i h, t)

  pub drops_next : (e : Bytes) (i : ℕ) → i < length e → p (get_or e i 0) ≡ false → only p (drop i e) ≡ only p (drop (i + 1) e)
  unfolding only
  drops_next e i h t = rw (next e i h, t)

  pub only_none : (e : Bytes) (i : ℕ) → length e ≤ i → only p (drop i e) ≡ []
  unfolding only
  only_none e i h = rw (drop_of_length-le e h)

  pub only_fits : (bs : Bytes) → length (only p bs) ≤ length bs
  unfolding only
  only_fits [] = le_refl 0
  only_fits (b ∷ bs) =
      let fits = only_fits bs in
      chosen (λ l. length l ≤ suc (length bs)) (p b) {x = b ∷ only p bs} {y = only p bs} (λ _. omega arith) (λ _. omega arith)

pub keep_gives : (k : Class) (e : Bytes) → plain_gives (kept_code k) e ≡ given (only (kept k) e)
unfolding plain_gives kept_code kept
keep_gives Letters e = refl
keep_gives OtherThanLetters e = refl
keep_gives Numerals e = refl
keep_gives OtherThanNumerals e = refl

-- ---- MCU, MCL, MCT

-- each byte turned, with whether a letter stands before it
unfoldable pub cased : Casing → Bool → Bytes → Bytes
cased k after_letter [] = []
cased k after_letter (b ∷ bs) = turned k after_letter b ∷ cased k (is_letter b) bs

pub cased_next : (k : Casing) (a : Bool) (e : Bytes) (i : ℕ) → i < length e
    → cased k a (drop i e) ≡ turned k a (get_or e i 0) ∷ cased k (is_letter (get_or e i 0)) (drop (i + 1) e)
unfolding cased
cased_next k a e i h = rw (next e i h)

pub cased_none : (k : Casing) (a : Bool) (e : Bytes) (i : ℕ) → length e ≤ i → cased k a (drop i e) ≡ []
unfolding cased
cased_none k a e i h = rw (drop_of_length-le e h)

pub cased_fits : (k : Casing) (a : Bool) (e : Bytes) → length (cased k a e) ≡ length e
unfolding cased
cased_fits k a [] = refl
cased_fits k a (b ∷ bs) = ap suc (cased_fits k (is_letter b) bs)

-- one change of each byte, whatever stands before it
mapped : (k : Casing) (f : ℕ → ℕ) → ((a : Bool) (b : ℕ) → f b ≡ turned k a b) → (a : Bool) (e : Bytes) → map f e ≡ cased k a e
unfolding cased
mapped k f same a [] = refl
mapped k f same a (b ∷ bs) = rw (same a b, mapped k f same (is_letter b) bs)

title_case : (a : Bool) (e : Bytes) → titled a e ≡ cased Title a e
unfolding cased turned titled
title_case a [] = refl
title_case a (b ∷ bs) = ap (λ (r : Bytes). (if a then lowered b else raised b) ∷ r) (title_case (is_letter b) bs)

pub recase_gives : (k : Casing) (e : Bytes) → plain_gives (cased_code k) e ≡ given (cased k false e)
unfolding plain_gives cased_code turned
recase_gives Upper e = ap given (mapped Upper raised (λ a b. refl) false e)
recase_gives Lower e = ap given (mapped Lower lowered (λ a b. refl) false e)
recase_gives Title e = ap given (title_case false e)
