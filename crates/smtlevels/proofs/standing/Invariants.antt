use mathlib.Core.Path.{◌≡◌}
use Rattle.smtlevels.specs.Levels.{standing}
use Rattle.smtlevels.proofs.standing.Given as goal

abbrev pub invariant-loop-k : goal.invariant-loop-k
invariant-loop-k l = standing l.bases l.left l.k ≡ standing l.bases l.left l.known
