use Rattle.std.proofs.Common.{refl, ◌∙◌}
use Rattle.grammar.specs.Scope.{same_name}
use Rattle.scopes.proofs.entries.same_name.Goals as goal

pub returns : goal.returns
unfolding same_name
returns c = c.same.ensures ∙ rw (c.bytes.ensures, c.bytes-2.ensures) refl
