use Rattle.words.specs.Spans.{as_span}
use Rattle.scopes.specs.Scopes.{OpenScopes}
use Rattle.scopes.proofs.ScopeNames.{Search}
use Rattle.scopes.proofs.entries.find.Given as goal

abbrev pub invariant-loop-d : goal.invariant-loop-d
invariant-loop-d l = (h : OpenScopes l.tree l.scopes l.depth) → Search l.text l.tree l.scopes l.depth h (as_span l.name) l.d
