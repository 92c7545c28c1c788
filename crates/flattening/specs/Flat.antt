-- Flattened expressions, and the chain of heads that flattening joins.
use Rattle.grammar.specs.Expr.{Expr, Exprs, node, app, enil, econs}
use Rattle.flattening.specs.Uncurry.{join}

-- The arguments of a chain of heads, the innermost first.
unfoldable pub gathered : Expr → Exprs
gathered (node k es) = enil
gathered (app o es h) = join (gathered h) es

-- The head at the end of the chain.
unfoldable pub spine : Expr → Expr
spine (node k es) = node k es
spine (app o es h) = spine h

-- No application.
abbrev pub NoApp : Expr → Type 0
NoApp (node k es) = Unit {0}
NoApp (app o es h) = ⊥

-- No application has an application as head.
abbrev mutual
  pub Flat : Expr → Type 0
  Flat (node k es) = FlatAll es
  Flat (app o es h) = FlatAll es × NoApp h × Flat h

  pub FlatAll : Exprs → Type 0
  FlatAll enil = Unit {0}
  FlatAll (econs e es) = Flat e × FlatAll es
