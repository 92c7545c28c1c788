-- The bind that a tree is read as: `parse_bind`.
use Rattle.std.specs.Prelude.{ℕ, List}
use Rattle.reading.specs.Tree.{Tree}
use Rattle.reading.specs.Answer.{and_then, M, ◌>>=◌, done, lifted}
use Rattle.grammar.specs.ParseSort.{in_list, in_symbol, tree_at, parse_sort}
use Rattle.grammar.specs.Expr.{Bind}
use Rattle.grammar.specs.Scope.{var_of}
use Rattle.grammar.specs.ParseExpr.{child}

-- `((name sort) predicate ..)`; the name opens no scope.
unfoldable pub parse_bind : List ℕ → Tree → M Bind
parse_bind text t = do
  ts ← lifted (in_list t)
  pair ← lifted (and_then (tree_at ts 0) in_list)
  s ← lifted (and_then (tree_at pair 0) in_symbol)
  o ← lifted (and_then (tree_at pair 1) (parse_sort text))
  p ← lifted (tree_at ts 1)
  ps ← (child text p).preds
  done (record { name = var_of s; sort = o; preds = ps })
