-- Document 01, "The code grammar" and "Steps" (A and B), and document 02, L1 (P and T) and L5 (18): checking a code string.
use Rattle.std.specs.Prelude.{ℕ, suc, ◌+◌, ◌-◌, ◌≤◌, List, [], ◌∷◌, length, leb, eqb, if◌then◌else◌}
use Rattle.std.proofs.Math.Option.{Option, none, some}
use Rattle.paper.specs.Bytes.{Bytes}
use Rattle.paper.specs.Sizes.{value_mark, code_most, stack_most}
use Rattle.paper.specs.Records.{split}
use Rattle.paper.specs.Codes.{Conversion, Operand, Elm, Code, Kind, Shape}
use Rattle.paper.specs.Grammar.{read}
use Rattle.paper.specs.Patterns.{tests_in}
use Rattle.paper.specs.Refusals.{
  Res,
  given,
  refused,
  ◌>>=◌,
  ◌>>◌,
  refuse◌unless◌,
  over_long_code,
  not_in_grammar,
  stack_fault,
  left_over_entries,
}

abbrev pub shaped : ℕ → ℕ → Kind → Shape
shaped takes puts kind = record { takes = takes; puts = puts; kind = kind }

-- the step of a code other than F
unfoldable pub conversion_kind : Conversion → Kind
conversion_kind (Conversion.plain p) = Kind.other
conversion_kind (Conversion.mask k) = Kind.other
conversion_kind (Conversion.date n s) = Kind.other
conversion_kind (Conversion.patterns ps) = Kind.testing (tests_in ps)

-- "`P` takes one entry and puts two, `_` takes and puts two, a literal or LPV takes none"
unfoldable pub shape : Elm → Shape
shape (Elm.push (Operand.attribute n r)) = shaped 0 1 Kind.loading
shape (Elm.push (Operand.literal bs)) = shaped 0 1 Kind.other
shape (Elm.push Operand.previous) = shaped 0 1 Kind.other
shape (Elm.binary o) = shaped 2 1 Kind.other
shape Elm.substring = shaped 3 1 Kind.other
shape Elm.exchange = shaped 2 2 Kind.other
shape Elm.duplicate = shaped 1 2 Kind.other
shape (Elm.convert c) = shaped 1 1 (conversion_kind c)

-- an elm of this shape can be applied to so many entries
pub record Room (e : Elm) (entries : ℕ) : Type 0 where
  pub enough : (shape e).takes ≤ entries
  pub not_too_many : entries - (shape e).takes + (shape e).puts ≤ stack_most

-- refusal 7: "an F code takes more entries than are there, or would hold 17"; the entries after an elm
unfoldable pub stacked : Elm → ℕ → Res ℕ
stacked e held = do
  refuse stack_fault unless leb (shape e).takes held
  refuse stack_fault unless leb (held - (shape e).takes + (shape e).puts) stack_most
  given (held - (shape e).takes + (shape e).puts)

unfoldable pub all_stacked : List Elm → ℕ → Res ℕ
all_stacked [] held = given held
all_stacked (e ∷ es) held = stacked e held >>= all_stacked es

-- what is unlawful in a code that is in the grammar: 7, and then "an F code must end with exactly one entry"
unfoldable pub lawful : Code → Res (Unit {0})
lawful (Code.function es) = do
  held ← all_stacked es 0
  refuse left_over_entries unless eqb held 1
lawful (Code.single c) = given tt

abbrev pub in_grammar : Option Code → Res Code
in_grammar none = refused not_in_grammar
in_grammar (some c) = given c

-- the fault of one code: "6 or 7", in that order, and 18 "after 6 and 7"
unfoldable pub judged : Bytes → Res Code
judged bs = do
  c ← in_grammar (read bs)
  lawful c
  given c

-- Checking's answer: the codes, or a refusal with the number of the first bad code.
pub data Checked : Type 0 where
  accepted : List Code → Checked
  faulty : ℕ → ℕ → Checked

abbrev pub in_front : Code → Checked → Checked
in_front c (accepted cs) = accepted (c ∷ cs)
in_front c (faulty n k) = faulty n k

abbrev pub in_turn : ℕ → Res Code → Checked → Checked
in_turn k (given c) rest = in_front c rest
in_turn k (refused n) rest = faulty n k

-- "then the first bad code, 6 or 7", or 18, "with that code's number from 1"
unfoldable pub judged_all : ℕ → List Bytes → Checked
judged_all k [] = accepted []
judged_all k (c ∷ cs) = in_turn k (judged c) (judged_all (suc k) cs)

-- "A code string is empty (no codes) or codes parted at every byte 253, inside quotes too."
unfoldable pub code_texts : Bytes → List Bytes
code_texts [] = []
code_texts (b ∷ bs) = split value_mark (b ∷ bs)

-- "Checking: 5 (with code number 0), then the first bad code"
unfoldable pub check : Bytes → Checked
check string = if leb (length string) code_most then judged_all 1 (code_texts string) else faulty over_long_code 0

-- Steps by their kind, "A attribute loads and B other steps", P codes (which B does not count) and the tests in them: a further kind is a further field.
pub record Counts : Type 0 where
  pub loads : ℕ
  pub others : ℕ
  pub patterns : ℕ
  pub tests : ℕ

abbrev pub counted : ℕ → ℕ → ℕ → ℕ → Counts
counted loads others patterns tests = record { loads = loads; others = others; patterns = patterns; tests = tests }

abbrev pub no_steps : Counts
no_steps = counted 0 0 0 0

unfoldable pub together : Counts → Counts → Counts
together x y = counted (x.loads + y.loads) (x.others + y.others) (x.patterns + y.patterns) (x.tests + y.tests)

-- one step
unfoldable pub step_counts : Kind → Counts
step_counts Kind.loading = counted 1 0 0 0
step_counts (Kind.testing t) = counted 0 0 1 t
step_counts Kind.other = counted 0 1 0 0

unfoldable pub elms_counts : List Elm → Counts
elms_counts [] = no_steps
elms_counts (e ∷ es) = together (step_counts (shape e).kind) (elms_counts es)

-- "A step is one F elm, or one code other than F."
unfoldable pub code_counts : Code → Counts
code_counts (Code.function es) = elms_counts es
code_counts (Code.single c) = step_counts (conversion_kind c)

unfoldable pub codes_counts : List Code → Counts
codes_counts [] = no_steps
codes_counts (c ∷ cs) = together (code_counts c) (codes_counts cs)

-- What checking reports. "accepted, it gives A and B", and with them P and T; "A number not given here, by any call, is 0"
pub record Report : Type 0 where
  pub refusal : ℕ
  pub code_number : ℕ
  pub steps : Counts

unfoldable pub report : Checked → Report
report (accepted cs) = record { refusal = 0; code_number = 0; steps = codes_counts cs }
report (faulty n k) = record { refusal = n; code_number = k; steps = no_steps }

-- the codes of a string that was checked; none where it is faulty
abbrev pub codes_of : Checked → List Code
codes_of (accepted cs) = cs
codes_of (faulty n k) = []

-- the codes, or the refusal alone: what converting passes on
unfoldable pub checked_codes : Checked → Res (List Code)
checked_codes (accepted cs) = given cs
checked_codes (faulty n k) = refused n
