use Rattle.smtlevels.proofs.Levels.{Moved}
use Rattle.smtlevels.proofs.halved.Given as goal

abbrev pub invariant-loop-i : goal.invariant-loop-i
invariant-loop-i l = Moved l.initial.bases l.bases l.i
