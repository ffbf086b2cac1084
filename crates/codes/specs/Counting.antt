-- A P code counts the tests of its patterns: what it is charged by is then known without reading them again.
use Rattle.std.specs.Prelude.{ℕ, ◌≡◌, List, drop}
use Rattle.std.proofs.Math.Option.{some}
use Rattle.paper.specs.Bytes.{Bytes}
use Rattle.paper.specs.Codes.{Pattern, Kind}
use Rattle.paper.specs.Grammar.{pattern_list}
use Rattle.paper.specs.Patterns.{tests_in}
use Rattle.codes.specs.declared.Mask.{Mask}
use Rattle.codes.specs.declared.Plain.{Plain}
use Rattle.std.specs.Prelude.{Option as Maybe}
use Rattle.codes.specs.declared.Conversion.{Conversion}
use Rattle.codes.specs.declared.Operand.{Operand}
use Rattle.codes.specs.declared.Elm.{Elm}

-- the paper's kind of the step of a code other than F
unfoldable pub kind_of : Conversion → Kind
kind_of (Conversion.Plain p) = Kind.other
kind_of (Conversion.Mask m) = Kind.other
kind_of (Conversion.Date digits separator) = Kind.other
kind_of (Conversion.Patterns start tests) = Kind.testing tests

-- and of an elm
unfoldable pub elm_kind_of : Elm → Kind
elm_kind_of (Elm.Push (Operand.Attribute number repeat)) = Kind.loading
elm_kind_of (Elm.Push (Operand.Literal start len)) = Kind.other
elm_kind_of (Elm.Push Operand.Previous) = Kind.other
elm_kind_of (Elm.Binary o) = Kind.other
elm_kind_of Elm.Substring = Kind.other
elm_kind_of Elm.Exchange = Kind.other
elm_kind_of Elm.Duplicate = Kind.other
elm_kind_of (Elm.Convert c) = kind_of c

-- the patterns of a P code stand in its code string, and have as many tests as it counts
pub data Counted (string : Bytes) : Conversion → Type 0 where
  plain_counted : {p : Plain} → Counted string (Conversion.Plain p)
  mask_counted : {m : Mask} → Counted string (Conversion.Mask m)
  date_counted : {n : ℕ} {s : Maybe ℕ} → Counted string (Conversion.Date n s)
  patterns_counted : {start tests : ℕ} {ps : List Pattern} {rest : Bytes} → pattern_list (drop start string) ≡ some (ps, rest)
      → tests ≡ tests_in ps → Counted string (Conversion.Patterns start tests)

-- so does one in an elm's parentheses
abbrev pub ElmCounted : Bytes → Elm → Type 0
ElmCounted string (Elm.Convert c) = Counted string c
ElmCounted string (Elm.Push o) = Unit {0}
ElmCounted string (Elm.Binary o) = Unit {0}
ElmCounted string Elm.Substring = Unit {0}
ElmCounted string Elm.Exchange = Unit {0}
ElmCounted string Elm.Duplicate = Unit {0}
