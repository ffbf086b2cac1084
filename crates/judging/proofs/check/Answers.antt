-- `check` meets its contract: over 512 bytes, empty, or codes.
use mathlib.Core.Path.{sym}
use borrow.Author.Tests.{eqb-true, eqb-false}
use Rattle.judging.proofs.Turns.{check_long, check_empty, check_parts, verdicts, verdict_faulty, verdict_empty}
use Rattle.judging.proofs.check.Goals as goal

pub returns-then-code : goal.returns-then-code
returns-then-code c = verdicts _ _ (check_long _ c.if-code.true) (verdict_faulty 5 0)

pub returns-then-is_empty : goal.returns-then-is_empty
returns-then-is_empty c = verdicts _ _ (check_empty _ (eqb-true _ 0 (sym c.if-is_empty.ensures))) verdict_empty

pub returns : goal.returns
returns c = verdicts _ _ (check_parts _ c.if-code.false (eqb-false _ 0 (sym c.if-is_empty.ensures))) c.check_codes.ensures
