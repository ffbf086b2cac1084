-- The elms of an F code as the code tallies them, over the paper's shapes and counts (crates/paper/specs/Checking.antt).
use Rattle.std.specs.Prelude.{ℕ, ◌+◌, ◌-◌, Bool, ◌&&◌, List, [], ◌∷◌, leb, eqb, if◌then◌else◌, Result, Ok, Err}
use Rattle.paper.specs.Sizes.{stack_most}
use Rattle.paper.specs.Refusals.{Res, given, ◌>>=◌, ◌>>◌, refuse◌unless◌, left_over_entries}
use Rattle.paper.specs.Answers.{told}
use Rattle.paper.specs.declared.Refusal.{Refusal}
use Rattle.paper.specs.Codes as paper
use Rattle.paper.specs.Checking as checking
use Rattle.judging.specs.declared.Counts.{Counts}
use Rattle.judging.specs.declared.Kind.{Kind}
use Rattle.judging.specs.declared.Shape.{Shape}
use Rattle.judging.specs.declared.Tally.{Tally}

-- the paper's records and the code's, field by field
abbrev pub counts_in : checking.Counts → Counts
counts_in c = record { loads = c.loads; others = c.others; patterns = c.patterns; tests = c.tests }

abbrev pub counts_of : Counts → checking.Counts
counts_of c = record { loads = c.loads; others = c.others; patterns = c.patterns; tests = c.tests }

abbrev pub kind_in : paper.Kind → Kind
kind_in paper.loading = Kind.Loading
kind_in (paper.testing t) = Kind.Testing t
kind_in paper.other = Kind.Other

abbrev pub step_kind : Kind → paper.Kind
step_kind Kind.Loading = paper.loading
step_kind (Kind.Testing t) = paper.testing t
step_kind Kind.Other = paper.other

abbrev pub shape_in : paper.Shape → Shape
shape_in s = record { takes = s.takes; puts = s.puts; kind = kind_in s.kind }

abbrev pub no_steps : Counts
no_steps = counts_in checking.no_steps

unfoldable pub added : Counts → checking.Counts → Counts
added c more = counts_in (checking.together (counts_of c) more)

-- steps of every kind, and the tests in them
unfoldable pub steps : Counts → ℕ
steps c = c.loads + c.others + c.patterns + c.tests

-- refusal 7, "takes more entries than are there, or would hold 17": whether an elm of this shape has room, and the entries then
abbrev pub left : Shape → ℕ → ℕ
left z held = held - z.takes + z.puts

unfoldable pub room : Shape → ℕ → Bool
room z held = leb z.takes held && leb (left z held) stack_most

unfoldable pub entries_after : Shape → ℕ → Result ℕ Refusal
entries_after z held = if room z held then Ok (left z held) else Err Refusal.StackFault

-- a fault stays
abbrev pub onward : Result ℕ Refusal → (ℕ → Result ℕ Refusal) → Result ℕ Refusal
onward (Ok held) k = k held
onward (Err fault) k = Err fault

-- "F starts with an empty stack."
abbrev pub none_yet : Tally
none_yet = record { held = Ok 0; counts = no_steps }

-- one elm more
unfoldable pub tally_after : paper.Elm → Tally → Tally
tally_after e t =
    record {
      held = onward t.held (entries_after (shape_in (checking.shape e)));
      counts = added t.counts (checking.step_counts (checking.shape e).kind);
    }

unfoldable pub tally_all : List paper.Elm → Tally → Tally
tally_all [] t = t
tally_all (e ∷ es) t = tally_all es (tally_after e t)

-- a whole F code: its faults in their order, and then its steps
unfoldable pub judgement_of : Tally → Res Counts
judgement_of t = do
  held ← told t.held
  refuse left_over_entries unless eqb held 1
  given t.counts
