-- Expressions and solutions with each fresh number raised.
use Rattle.std.specs.Prelude.{ℕ, ◌+◌, List, [], ◌∷◌}
use Rattle.grammar.specs.Expr.{Binder, Kind, k_num, k_bool, k_str, k_bit_vec, k_fresh, k_named, k_neg, k_bin, k_if, k_and, k_or, k_not, k_imp, k_iff, k_atom, k_let, k_theory, k_is_ctor, k_exists, k_let_fresh, Expr, Exprs, node, app, enil, econs, Solution}

-- Numbers that binders bind.
unfoldable pub raise_binders : ℕ → List Binder → List Binder
raise_binders c [] = []
raise_binders c (b ∷ bs) = record { var = c + b.var; sort = b.sort } ∷ raise_binders c bs

-- Numbers of a kind: the one that a variable uses (36), and those that exists (51) and let (52) bind.
unfoldable pub raise_kind : ℕ → Kind → Kind
raise_kind c (k_num v) = k_num v
raise_kind c (k_bool b) = k_bool b
raise_kind c (k_str s) = k_str s
raise_kind c (k_bit_vec v width) = k_bit_vec v width
raise_kind c (k_fresh k) = k_fresh (c + k)
raise_kind c (k_named x) = k_named x
raise_kind c k_neg = k_neg
raise_kind c (k_bin op) = k_bin op
raise_kind c k_if = k_if
raise_kind c k_and = k_and
raise_kind c k_or = k_or
raise_kind c k_not = k_not
raise_kind c k_imp = k_imp
raise_kind c k_iff = k_iff
raise_kind c (k_atom r) = k_atom r
raise_kind c (k_let x) = k_let x
raise_kind c (k_theory k) = k_theory k
raise_kind c (k_is_ctor x) = k_is_ctor x
raise_kind c (k_exists bs) = k_exists (raise_binders c bs)
raise_kind c (k_let_fresh k) = k_let_fresh (c + k)

-- Numbers throughout an expression.
unfoldable mutual
  pub raise_expr : ℕ → Expr → Expr
  raise_expr c (node k es) = node (raise_kind c k) (raise_exprs c es)
  raise_expr c (app o es h) = app o (raise_exprs c es) (raise_expr c h)

  pub raise_exprs : ℕ → Exprs → Exprs
  raise_exprs c enil = enil
  raise_exprs c (econs e es) = econs (raise_expr c e) (raise_exprs c es)

-- Numbers of the parameters and of the body.
unfoldable pub raise_solution : ℕ → Solution → Solution
raise_solution c s = record { params = raise_binders c s.params; body = raise_expr c s.body }
