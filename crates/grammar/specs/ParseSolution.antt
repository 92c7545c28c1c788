-- The solution that a tree is read as, before flattening: `parse_solution` without `uncurry`.
use Rattle.std.specs.Prelude.{ℕ, List, [], ◌∷◌, eqb, length}
use Rattle.reading.specs.Bytes.{Span}
use Rattle.reading.specs.Tree.{Tree, Trees, tnil, tcons, trees}
use Rattle.reading.specs.Answer.{Ans, got, and_then, check, malformed, M, ◌>>=◌, done, lifted, fresh}
use Rattle.grammar.specs.Sort.{Sort}
use Rattle.grammar.specs.ParseSort.{in_list, tree_at}
use Rattle.grammar.specs.Expr.{Solution}
use Rattle.grammar.specs.Scope.{numbered, distinct}
use Rattle.grammar.specs.ParseExpr.{name_of, sort_in, child}

-- All parameters' shapes come before the first of their sorts.
unfoldable pub all_names : Trees → Ans (List Span)
all_names tnil = got []
all_names (tcons t ts) =
    and_then (name_of t) λ s.
    and_then (all_names ts) λ ss.
    got (s ∷ ss)

unfoldable pub all_sorts : List ℕ → Trees → Ans (List Sort)
all_sorts text tnil = got []
all_sorts text (tcons t ts) =
    and_then (sort_in text t) λ o.
    and_then (all_sorts text ts) λ os.
    got (o ∷ os)

-- `(lambda (parameters) body)`: three items, the first of which is not looked at; 10 comes behind the body.
unfoldable pub parse_solution : List ℕ → Tree → M Solution
parse_solution text t = do
  ts ← lifted (in_list t)
  _ ← lifted (check (eqb (trees ts) 3) malformed)
  params ← lifted (and_then (tree_at ts 1) in_list)
  names ← lifted (all_names params)
  sorts ← lifted (all_sorts text params)
  k ← fresh (length sorts)
  body ← lifted (tree_at ts 2)
  e ← (child text body).plainly (record { names = names; first = k } ∷ [])
  _ ← lifted (distinct text names)
  done (record { params = numbered k sorts; body = e })
