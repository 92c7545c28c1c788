-- `uncurry`: applications of applications joined into one.
use Rattle.std.specs.Prelude.{ℕ, max}
use Rattle.reading.specs.Bytes.{Maybe}
use Rattle.grammar.specs.Sort.{Sort}
use Rattle.grammar.specs.Expr.{Expr, Exprs, node, app, enil, econs, exprs, Solution}

-- The first expressions, then the second.
unfoldable pub join : Exprs → Exprs → Exprs
join enil fs = fs
join (econs e es) fs = econs e (join es fs)

-- An application of a flattened head: where that is an application, its head, its arguments followed by these, and this output sort.
unfoldable pub applied : Maybe Sort → Exprs → Expr → Expr
applied o es (node k fs) = app o es (node k fs)
applied o es (app o' fs h) = app o (join fs es) h

unfoldable mutual
  pub uncurry : Expr → Expr
  uncurry (node k es) = node k (uncurry_all es)
  uncurry (app o es h) = applied o (uncurry_all es) (uncurry h)

  pub uncurry_all : Exprs → Exprs
  uncurry_all enil = enil
  uncurry_all (econs e es) = econs (uncurry e) (uncurry_all es)

-- A solution with its body flattened.
abbrev pub flattened : Solution → Solution
flattened s = record { params = s.params; body = uncurry s.body }

-- The largest number of operands of a node or of arguments of an application.
unfoldable mutual
  pub most_operands : Expr → ℕ
  most_operands (node k es) = max (exprs es) (most_operands_all es)
  most_operands (app o es h) = max (exprs es) (max (most_operands_all es) (most_operands h))

  pub most_operands_all : Exprs → ℕ
  most_operands_all enil = 0
  most_operands_all (econs e es) = max (most_operands e) (most_operands_all es)
