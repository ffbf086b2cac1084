-- `giving::give` meets its contract: what the crate that a code belongs to asks of its numbers.
use Rattle.giving.proofs.Numbers.{mask_bounded, date_digits, patterns_readable}
use Rattle.giving.proofs.give.Goals as goal

pub give-requires-in-Patterns : goal.give-requires-in-Patterns
give-requires-in-Patterns c = (c.requires.0, c.requires.1, patterns_readable (rw c.in-Patterns.is at c.requires.2))
