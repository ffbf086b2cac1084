use Rattle.masks.proofs.GroupLaws.{Turned}
use Rattle.masks.proofs.text.integer_text.Given as goal

abbrev pub invariant-loop-rest : goal.invariant-loop-rest
invariant-loop-rest l = Turned l.initial.text l.initial.place l.commas l.n l.text l.place l.rest l.count

abbrev pub decreases-loop-rest : goal.decreases-loop-rest
decreases-loop-rest l = l.rest
