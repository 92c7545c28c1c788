use Rattle.scopes.specs.Scopes.{Pairs}
use Rattle.scopes.proofs.ScopeNames.{Left}
use Rattle.scopes.proofs.entries.twice.Given as goal

abbrev pub invariant-loop-i : goal.invariant-loop-i
invariant-loop-i l = (b : Pairs l.tree l.at l.n) → Left l.text l.tree b.names l.n l.i l.p
