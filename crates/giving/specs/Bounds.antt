-- What the grammar keeps a code's numbers within: the functions that give its text take no others.
use Rattle.std.specs.Prelude.{ℕ, ◌+◌, ◌*◌, ◌≤◌, length}
use Rattle.std.specs.Prelude.{Option as Maybe}
use Rattle.paper.specs.Bytes.{Bytes}
use Rattle.paper.specs.Sizes.{code_most, entry_most}
use Rattle.paper.specs.Codes.{Kind}
use Rattle.codes.specs.declared.Mask.{Mask}
use Rattle.codes.specs.declared.Plain.{Plain}
use Rattle.codes.specs.declared.Conversion.{Conversion}
use Rattle.codes.specs.Meaning.{mask_of}
use Rattle.codes.specs.Counting.{Counted}
use Rattle.masks.specs.Bounds.{Bounded}

-- a mask as `masks` takes it; "`D{n}{s}`, n 0 to 4"; a P code's patterns stand in its code, which is not over-long, with as many tests as it counts
pub data ConversionWithin (code : Bytes) : Conversion → Type 0 where
  plain_within : {p : Plain} → ConversionWithin code (Conversion.Plain p)
  mask_within : {m : Mask} → Bounded (mask_of m) → ConversionWithin code (Conversion.Mask m)
  date_within : {n : ℕ} {s : Maybe ℕ} → n ≤ 4 → ConversionWithin code (Conversion.Date n s)
  patterns_within : {start tests : ℕ} → Counted code (Conversion.Patterns start tests) → length code ≤ code_most
      → ConversionWithin code (Conversion.Patterns start tests)

-- the tests that a step of this kind is charged for
abbrev pub tests_of : Kind → ℕ
tests_of Kind.loading = 0
tests_of (Kind.testing t) = t
tests_of Kind.other = 0

-- so many tests at most on an entry of so many bytes at most
abbrev pub charged_most : ℕ
charged_most = code_most * (1 + entry_most)
