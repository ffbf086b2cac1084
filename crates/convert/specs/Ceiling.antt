-- The ceiling as a call. The paper does not list this call; its number the paper defines: "Ceiling: with A attribute loads and B other steps ..".
use Rattle.std.specs.Prelude.{ℕ, ◌+◌, ◌≤◌, length}
use Rattle.paper.specs.Bytes.{Bytes}
use Rattle.paper.specs.Sizes.{record_most}
use Rattle.paper.specs.Refusals.{Res, given, ◌>>=◌, ◌>>◌}
use Rattle.paper.specs.Checking.{check, checked_codes, codes_counts}
use Rattle.paper.specs.Converting.{elements, lawful_place, ceiling}
use Rattle.judging.specs.Tallies.{counts_in}
use Rattle.judging.specs.declared.Counts.{Counts}

-- the refusals that converting tries before its run, but for the scratch, which no ceiling asks for;
-- then the number of elements times what the string's steps can cost
unfoldable pub ceiling_of : Bytes → Bytes → ℕ → ℕ → ℕ → Res ℕ
ceiling_of item string a v s = do
  lawful_place item a v s
  cs ← checked_codes (check string)
  given (ceiling (length item) cs (length (elements item a v s)))

-- the same refusals, then what the string counts
unfoldable pub counted_of : Bytes → Bytes → ℕ → ℕ → ℕ → Res Counts
counted_of item string a v s = do
  lawful_place item a v s
  cs ← checked_codes (check string)
  given (counts_in (codes_counts cs))

-- figures with which no product of the ceiling wraps: m of a record, A, B, P and T of an accepted string in all, R
pub record Figures (m counted size : ℕ) : Type 0 where
  pub elements : m ≤ 1 + record_most
  pub steps : counted ≤ 256
  pub record_fits : size ≤ record_most
