-- `main` is safe: what was read is a part of its buffer, and so is what is written.
use Rattle.std.proofs.Common.{ℕ, ◌≤◌, length, replicate, sym, arith}
use lib.ListN.{length-replicate}
use lib.Seq.{length-take-le}
use Rattle.console.specs.Lines.{line_most}
use Rattle.console.proofs.Answering.{written}
use Rattle.console.proofs.main.Goals as goal

room : line_most ≤ length {A = ℕ} (replicate line_most 0)
room = omega (arith, length-replicate {A = ℕ} line_most 0)

pub slice_bounds-line-end : goal.slice_bounds-line-end
slice_bounds-line-end c = written _ _ room c.answer-length.ensures.value c.answer-length.ensures.line_after

pub slice_bounds-write_all-end : goal.slice_bounds-write_all-end
slice_bounds-write_all-end c = sym (length-take-le _ _ (written _ _ room c.answer-length.ensures.value c.answer-length.ensures.line_after))
