-- `cases::meant` meets its contract: marks are put in where they are drawn.
use Rattle.cases.specs.Tables.{meant}
use Rattle.cases.proofs.meant.Goals as goal

pub returns-then-marks : goal.returns-then-marks
unfolding meant
returns-then-marks c = rw c.if-marks.true c.raw.ensures

pub returns-else-marks : goal.returns-else-marks
unfolding meant
returns-else-marks c = rw c.if-marks.false
