-- A code's numbers are within what the crates that give its text ask. Assumes nothing.
use Rattle.std.specs.Prelude.{Option as Maybe}
use Prim.Native.Nat.{ℕ, ◌+◌, ◌*◌, ◌≤◌}
use mathlib.Core.Path.{◌≡◌, refl, ap}
use native.Mathlib.Omega.{arith}
use native.Mathlib.Nat.{mul-le-mul}
use lib.ListN.{length, drop, length-drop}
use lib.Dec.{lit≤}
use Rattle.paper.specs.Bytes.{Bytes}
use Rattle.paper.specs.Sizes.{code_most, entry_most}
use Rattle.paper.specs.Checking.{conversion_kind}
use Rattle.paper.specs.Steps.{charged}
use Rattle.paper.proofs.Splitting.{told}
use Rattle.paper.proofs.Weights.{patterns_told}
use Rattle.codes.specs.declared.Mask.{Mask}
use Rattle.codes.specs.declared.Conversion.{Conversion}
use Rattle.codes.specs.Meaning.{mask_of, conversion_of}
use Rattle.codes.specs.Counting.{kind_of, Counted, patterns_counted}
use Rattle.readers.proofs.Counted.{counted_kind}
use Rattle.patterns.specs.Readable.{Readable, readable}
use Rattle.masks.specs.Bounds.{Bounded}
use Rattle.giving.specs.Bounds.{ConversionWithin, plain_within, mask_within, date_within, patterns_within, tests_of, charged_most}

-- a mask's numbers and a date's digits
pub mask_bounded : {code : Bytes} {m : Mask} → ConversionWithin code (Conversion.Mask m) → Bounded (mask_of m)
mask_bounded (mask_within h) = h

pub date_digits : {code : Bytes} {n : ℕ} {s : Maybe ℕ} → ConversionWithin code (Conversion.Date n s) → n ≤ 4
date_digits (date_within h) = h

-- a P code's patterns can be read, and have few tests
pub patterns_readable : {code : Bytes} {start tests : ℕ} → ConversionWithin code (Conversion.Patterns start tests) → Readable code start
patterns_readable (patterns_within (patterns_counted e f) h) = readable e

few_tests : {code : Bytes} {start tests : ℕ} → Counted code (Conversion.Patterns start tests) → length code ≤ code_most → tests ≤ code_most
few_tests {code} {start} (patterns_counted e f) h = omega (arith, told (rw e at (patterns_told (drop start code))), length-drop start code)

pub tests_within : {code : Bytes} {c : Conversion} → ConversionWithin code c → tests_of (kind_of c) ≤ code_most
unfolding kind_of
tests_within plain_within = lit≤ tt
tests_within (mask_within h) = lit≤ tt
tests_within (date_within h) = lit≤ tt
tests_within (patterns_within counted h) = few_tests counted h

pub charged_fits : {tests taken : ℕ} → tests ≤ code_most → taken ≤ entry_most → tests * (taken + 1) ≤ charged_most
charged_fits h k = mul-le-mul {n₂ = code_most} {m₂ = 1 + entry_most} h (omega arith)

-- What a code is charged by its own count is what the paper charges it, on a record of any length.
pub charged_within : {code : Bytes} {c : Conversion} (size taken : ℕ) → ConversionWithin code c
    → charged (conversion_kind (conversion_of code c)) size taken ≡ charged (kind_of c) 0 taken
unfolding kind_of conversion_of conversion_kind charged
charged_within size taken plain_within = refl
charged_within size taken (mask_within h) = refl
charged_within size taken (date_within h) = refl
charged_within size taken (patterns_within counted h) = ap (λ kind. charged kind 0 taken) (counted_kind counted)
