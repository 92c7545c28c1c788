-- Fresh numbers under their binders. A node's own words use numbers (36) and bind them (51, 52); what they bind encloses its operands, but
-- for a let's binding.
use Rattle.std.specs.Prelude.{ℕ, zero, suc, ◌+◌, List, [], ◌∷◌, ◌++◌, length}
use Rattle.grammar.specs.Item.{raise, used, bound}
use Rattle.grammar.specs.Expr.{Kind, k_num, k_bool, k_str, k_bit_vec, k_fresh, k_named, k_neg, k_bin, k_if, k_and, k_or, k_not, k_imp, k_iff, k_atom, k_let, k_theory, k_is_ctor, k_exists, k_let_fresh, Expr, Exprs, node, app, enil, econs, exprs, kind_items, outside, binder_items, Pred, kvar, expr, Solution}
use Rattle.grammar.specs.Numbers.{AllIn}

-- Each number that an expression uses, raised by c, is bound by an exists or a let round it or stands in the list.
abbrev mutual
  pub Scoped : Expr → ℕ → List ℕ → Type 0
  Scoped (node k es) c around =
      AllIn (used (raise c (kind_items k (exprs es)))) around × ScopedIn (outside k) es c around (bound (raise c (kind_items k (exprs es))) ++ around)
  Scoped (app o es h) c around = ScopedAll es c around × Scoped h c around

  -- operands, the first n of them outside
  pub ScopedIn : ℕ → Exprs → ℕ → List ℕ → List ℕ → Type 0
  ScopedIn n enil c around inside = Unit {0}
  ScopedIn zero (econs e es) c around inside = Scoped e c inside × ScopedIn zero es c around inside
  ScopedIn (suc n) (econs e es) c around inside = Scoped e c around × ScopedIn n es c around inside

  pub ScopedAll : Exprs → ℕ → List ℕ → Type 0
  ScopedAll enil c around = Unit {0}
  ScopedAll (econs e es) c around = Scoped e c around × ScopedAll es c around

abbrev pub ScopedPred : ℕ → Pred → Type 0
ScopedPred c (kvar k xs) = Unit {0}
ScopedPred c (expr e) = Scoped e c []

abbrev pub ScopedPreds : ℕ → List Pred → Type 0
ScopedPreds c [] = Unit {0}
ScopedPreds c (p ∷ ps) = ScopedPred c p × ScopedPreds c ps

-- How many numbers a kind, an expression and several bind: one for each binder of an exists, and one for each let.
abbrev pub binds_of : Kind → ℕ
binds_of (k_num v) = 0
binds_of (k_bool b) = 0
binds_of (k_str s) = 0
binds_of (k_bit_vec v width) = 0
binds_of (k_fresh k) = 0
binds_of (k_named x) = 0
binds_of k_neg = 0
binds_of (k_bin op) = 0
binds_of k_if = 0
binds_of k_and = 0
binds_of k_or = 0
binds_of k_not = 0
binds_of k_imp = 0
binds_of k_iff = 0
binds_of (k_atom r) = 0
binds_of (k_let x) = 0
binds_of (k_theory k) = 0
binds_of (k_is_ctor x) = 0
binds_of (k_exists bs) = length bs
binds_of (k_let_fresh k) = 1

unfoldable mutual
  pub binds_in : Expr → ℕ
  binds_in (node k es) = binds_of k + binds_in_all es
  binds_in (app o es h) = binds_in_all es + binds_in h

  pub binds_in_all : Exprs → ℕ
  binds_in_all enil = 0
  binds_in_all (econs e es) = binds_in e + binds_in_all es

-- The parameters of a solution enclose its expression.
abbrev pub ScopedSolution : ℕ → Solution → Type 0
ScopedSolution c s = Scoped s.body c (bound (raise c (binder_items s.params)))
