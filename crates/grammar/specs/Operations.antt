-- The operations sort, expression and bind, and the draft of a solution: what each makes of its text, and what it decides in the end.
use Rattle.std.specs.Prelude.{ℕ, false, List}
use Rattle.reading.specs.Tree.{Tree}
use Rattle.reading.specs.Reading.{read_text, read_words}
use Rattle.reading.specs.Answer.{Ans, and_then, check, no_room, M, ◌>>=◌, lifted, Final, finish, fits_in}
use Rattle.grammar.specs.Sort.{Sort, sort_words}
use Rattle.grammar.specs.Item.{words_of}
use Rattle.grammar.specs.Expr.{Expr, expr_items, Bind, bind_items, Solution}
use Rattle.grammar.specs.ParseSort.{tree_at, parse_sort}
use Rattle.grammar.specs.ParseExpr.{parse_expr}
use Rattle.grammar.specs.ParseBind.{parse_bind}
use Rattle.grammar.specs.ParseSolution.{parse_solution}

-- The tree that a text begins with; 7 where the tree slice, which has these words, lacks room for it.
unfoldable pub the_tree : List ℕ → List ℕ → Ans Tree
the_tree text tree =
    and_then (read_text false text) λ r.
    and_then (check (fits_in tree (read_words r)) no_room) λ _.
    tree_at r.read 0

-- What is made of the tree that a text begins with: a sort, an expression, a bind, a solution before flattening.
unfoldable pub make_sort : List ℕ → List ℕ → M Sort
make_sort text tree = do
  t ← lifted (the_tree text tree)
  lifted (parse_sort text t)

unfoldable pub make_expr : List ℕ → List ℕ → M Expr
make_expr text tree = do
  t ← lifted (the_tree text tree)
  parse_expr text t

unfoldable pub make_bind : List ℕ → List ℕ → M Bind
make_bind text tree = do
  t ← lifted (the_tree text tree)
  parse_bind text t

unfoldable pub make_solution : List ℕ → List ℕ → M Solution
make_solution text tree = do
  t ← lifted (the_tree text tree)
  parse_solution text t

-- With an output of these words, at the reader's count c; a sort takes no number.
unfoldable pub sort_final : List ℕ → List ℕ → List ℕ → Final Sort
sort_final text tree out = finish (λ s. fits_in out (sort_words s)) 0 (make_sort text tree 0)

unfoldable pub expr_final : List ℕ → List ℕ → List ℕ → ℕ → Final Expr
expr_final text tree out c = finish (λ e. fits_in out (words_of (expr_items e))) c (make_expr text tree 0)

unfoldable pub bind_final : List ℕ → List ℕ → List ℕ → ℕ → Final Bind
bind_final text tree out c = finish (λ b. fits_in out (words_of (bind_items b))) c (make_bind text tree 0)

-- The draft of a solution: its body takes the draft slice.
unfoldable pub draft_final : List ℕ → List ℕ → List ℕ → ℕ → Final Solution
draft_final text tree draft c = finish (λ s. fits_in draft (words_of (expr_items s.body))) c (make_solution text tree 0)
