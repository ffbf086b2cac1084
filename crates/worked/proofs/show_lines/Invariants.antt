-- `worked::show_lines` is safe and ends: each line lies within the text, and the next begins behind it. Assumes nothing.
use Rattle.std.proofs.Common.{length, ◌-◌}
use Rattle.worked.proofs.show_lines.Given as goal

abbrev pub decreases-loop-at : goal.decreases-loop-at
decreases-loop-at g l = length l.text - l.at
