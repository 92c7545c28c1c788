use Rattle.words.specs.Spans.{as_span}
use Rattle.scopes.proofs.ScopeNames.{Walk}
use Rattle.scopes.specs.Scopes.{Pairs}
use Rattle.scopes.proofs.entries.place_among.Given as goal

abbrev pub invariant-loop-i : goal.invariant-loop-i
invariant-loop-i l = (h : Pairs l.tree l.at l.n) → Walk l.text l.tree l.at l.n h (as_span l.name) l.i l.p
