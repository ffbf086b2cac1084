-- A code other than F that was read counts the tests of its patterns, so that what it is charged by is the paper's kind of it. Assumes nothing.
use mathlib.Core.Path.{◌≡◌, refl, ap}
use mathlib.Core.List.{List}
use mathlib.Core.Option.{some}
use Prim.Native.Nat.{ℕ}
use lib.ListN.{drop}
use Rattle.paper.specs.Bytes.{Bytes}
use Rattle.paper.specs.Codes as paper
use Rattle.paper.specs.Grammar.{pattern_list}
use Rattle.paper.specs.Patterns.{tests_in}
use Rattle.paper.specs.Checking.{conversion_kind, shape}
use Rattle.codes.specs.Meaning.{conversion_of, operand_of, elm_of, patterns_at}
use Rattle.codes.specs.Counting.{kind_of, elm_kind_of, Counted, plain_counted, mask_counted, date_counted, patterns_counted, ElmCounted}
use Rattle.codes.specs.declared.Conversion.{Conversion}
use Rattle.codes.specs.declared.Operand.{Operand}
use Rattle.codes.specs.declared.Elm.{Elm}
use Rattle.readers.specs.Reading as place
use Rattle.readers.proofs.Ever.{Ever, reads_as}
use Rattle.readers.proofs.Kept.{Kept, plain_kept, mask_kept, date_kept, patterns_kept, conversion_kept}

tests_at : (string : Bytes) (start : ℕ) {ps : List paper.Pattern} {rest : Bytes} → pattern_list (drop start string) ≡ some (ps, rest)
    → tests_in (patterns_at string start) ≡ tests_in ps
unfolding patterns_at
tests_at string start e = rw e

-- the paper's kind of a code, and of an elm
pub counted_kind : {string : Bytes} {c : Conversion} → Counted string c → conversion_kind (conversion_of string c) ≡ kind_of c
unfolding conversion_kind conversion_of kind_of
counted_kind plain_counted = refl
counted_kind mask_counted = refl
counted_kind date_counted = refl
counted_kind {string} (patterns_counted {start = start} e f) = rw f (ap paper.testing (tests_at string start e))

pub counted_elm : (string : Bytes) (e : Elm) → ElmCounted string e → (shape (elm_of string e)).kind ≡ elm_kind_of e
unfolding shape elm_of operand_of elm_kind_of
counted_elm string (Elm.Push (Operand.Attribute n r)) h = refl
counted_elm string (Elm.Push (Operand.Literal start len)) h = refl
counted_elm string (Elm.Push Operand.Previous) h = refl
counted_elm string (Elm.Binary o) h = refl
counted_elm string Elm.Substring h = refl
counted_elm string Elm.Exchange h = refl
counted_elm string Elm.Duplicate h = refl
counted_elm string (Elm.Convert c) h = counted_kind h

-- What is read of a code other than F is counted.
kept_counted : {s : Bytes} {c : Conversion} → Kept s c → Counted s c
kept_counted plain_kept = plain_counted
kept_counted (mask_kept d e w) = mask_counted
kept_counted (date_kept h) = date_counted
kept_counted (patterns_kept e) = patterns_counted e refl

pub conversion_counts : (s : Bytes) → Ever (Counted s) s place.conversion
conversion_counts s n = reads_as (λ c. kept_counted) (conversion_kept s n)
