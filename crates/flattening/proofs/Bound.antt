-- Flattening binds the same numbers, each as often, and keeps the scoping.
use Prim.Native.Nat.{ℕ, zero, suc}
use mathlib.Core.Path.{◌≡◌, ap, ◌∙◌}
use mathlib.Core.List.{List, ◌++◌}
use lib.ListN.{length}
use Rattle.reading.specs.Bytes.{Maybe, nothing, just}
use Rattle.grammar.specs.Sort.{Sort, sort_words}
use Rattle.grammar.specs.Item.{Item, bound, raise}
use Rattle.grammar.specs.Expr.{Expr, Exprs, node, app, enil, econs, exprs, kind_items, outside, out_sort, expr_items, exprs_items, Solution, binder_items, solution_items}
use Rattle.grammar.specs.Numbers.{times}
use Rattle.grammar.specs.Scoped.{Scoped, ScopedIn, ScopedAll, ScopedSolution}
use Rattle.grammar.proofs.Items.{bound_append, bound-front}
use Rattle.grammar.proofs.SameNumbers.{Same, same_refl, same_of, same_trans, same_append, same_swap}
use Rattle.flattening.specs.Uncurry.{join, applied, uncurry, uncurry_all, flattened}
use Rattle.flattening.proofs.Uncurry.{exprs-uncurry, items-join}

-- The numbers that an expression binds, and that several bind.
abbrev bound_in : Expr → List ℕ
bound_in e = bound (expr_items e)

abbrev bound_in_all : Exprs → List ℕ
bound_in_all es = bound (exprs_items es)

-- An application binds what its arguments and its head bind.
app-bound : (o : Maybe Sort) (es : Exprs) (h : Expr) → bound_in (app o es h) ≡ bound_in_all es ++ bound_in h
unfolding expr_items bound
app-bound nothing es h = bound_append (exprs_items es) (expr_items h)
app-bound (just s) es h =
    bound_append (exprs_items es) (out_sort (just s) ++ expr_items h) ∙ ap (λ l. bound_in_all es ++ l) (bound-front (sort_words s) (expr_items h))

-- Joined expressions bind what they bind one by one.
join-bound : (fs es : Exprs) → bound_in_all (join fs es) ≡ bound_in_all fs ++ bound_in_all es
join-bound fs es = ap bound (items-join fs es) ∙ bound_append (exprs_items fs) (exprs_items es)

-- Two parts that bind the same one by one.
two-same : (a b c d : List Item) → Same (bound a) (bound c) → Same (bound b) (bound d) → Same (bound (a ++ b)) (bound (c ++ d))
two-same a b c d h k = rw (bound_append a b, bound_append c d) (same_append (bound a) (bound b) (bound c) (bound d) h k)

-- Joining a head's arguments binds the same numbers, in another order.
applied-same : (o : Maybe Sort) (es : Exprs) (h : Expr) → Same (bound_in (applied o es h)) (bound_in_all es ++ bound_in h)
unfolding applied
applied-same o es (node k fs) = same_of _ _ (app-bound o es (node k fs))
applied-same o es (app o' fs h) =
    rw (app-bound o (join fs es) h, join-bound fs es, app-bound o' fs h) (same_swap (bound_in_all fs) (bound_in_all es) (bound_in h))

mutual
  unfolding uncurry expr_items

  -- A flattened expression binds the same numbers.
  pub uncurry-same : (e : Expr) → Same (bound (expr_items (uncurry e))) (bound (expr_items e))
  uncurry-same (node k es) =
      two-same (kind_items k (exprs (uncurry_all es))) (exprs_items (uncurry_all es)) (kind_items k (exprs es)) (exprs_items es) (same_of _ _ (ap (λ n. bound (kind_items k n)) (exprs-uncurry es))) (uncurry-all-same es)
  uncurry-same (app o es h) =
      rw (app-bound o es h) (same_trans _ _ _ (applied-same o (uncurry_all es) (uncurry h)) (same_append _ _ _ _ (uncurry-all-same es) (uncurry-same h)))

  -- The same for several expressions.
  pub uncurry-all-same : (es : Exprs) → Same (bound (exprs_items (uncurry_all es))) (bound (exprs_items es))
  uncurry-all-same enil = same_refl _
  uncurry-all-same (econs e es) =
      two-same (expr_items (uncurry e)) (exprs_items (uncurry_all es)) (expr_items e) (exprs_items es) (uncurry-same e) (uncurry-all-same es)

-- It binds each number as often.
pub uncurry-often : (e : Expr) (k : ℕ) → times k (bound (expr_items (uncurry e))) ≡ times k (bound (expr_items e))
uncurry-often e k = (uncurry-same e).often k

-- It binds as many numbers.
pub uncurry-long : (e : Expr) → length (bound (expr_items (uncurry e))) ≡ length (bound (expr_items e))
uncurry-long e = (uncurry-same e).long

-- A flattened solution binds the same numbers.
pub flattened-same : (s : Solution) → Same (bound (solution_items (flattened s))) (bound (solution_items s))
unfolding solution_items bound
flattened-same s =
    two-same (binder_items s.params) (expr_items (uncurry s.body)) (binder_items s.params) (expr_items s.body) (same_refl _) (uncurry-same s.body)

-- Joined and applied expressions are scoped as before.
join-scoped : (fs es : Exprs) (c : ℕ) (around : List ℕ) → ScopedAll fs c around → ScopedAll es c around → ScopedAll (join fs es) c around
unfolding join
join-scoped enil es c around h k = k
join-scoped (econs f fs) es c around h k = (h.0, join-scoped fs es c around h.1 k)

applied-scoped : (o : Maybe Sort) (es : Exprs) (h : Expr) (c : ℕ) (around : List ℕ) → ScopedAll es c around → Scoped h c around → Scoped (applied o es h) c around
unfolding applied
applied-scoped o es (node k fs) c around p q = (p, q)
applied-scoped o es (app o' fs h) c around p q = (join-scoped fs es c around q.0 p, q.1)

mutual
  unfolding uncurry

  -- A flattened expression is scoped as before.
  pub uncurry-scoped : (e : Expr) (c : ℕ) (around : List ℕ) → Scoped e c around → Scoped (uncurry e) c around
  uncurry-scoped (node k es) c around h =
      rw (exprs-uncurry es) (h.0, uncurry_in_scoped (outside k) es c around (bound (raise c (kind_items k (exprs es))) ++ around) h.1)
  uncurry-scoped (app o es f) c around h = applied-scoped o (uncurry_all es) (uncurry f) c around (uncurry-all-scoped es c around h.0) (uncurry-scoped f c around h.1)

  -- The same for operands, the first n of them outside.
  uncurry_in_scoped : (n : ℕ) (es : Exprs) (c : ℕ) (around inside : List ℕ) → ScopedIn n es c around inside → ScopedIn n (uncurry_all es) c around inside
  uncurry_in_scoped n enil c around inside h = tt
  uncurry_in_scoped zero (econs e es) c around inside h = (uncurry-scoped e c inside h.0, uncurry_in_scoped zero es c around inside h.1)
  uncurry_in_scoped (suc n) (econs e es) c around inside h = (uncurry-scoped e c around h.0, uncurry_in_scoped n es c around inside h.1)

  -- The same for several expressions.
  pub uncurry-all-scoped : (es : Exprs) (c : ℕ) (around : List ℕ) → ScopedAll es c around → ScopedAll (uncurry_all es) c around
  uncurry-all-scoped enil c around h = tt
  uncurry-all-scoped (econs e es) c around h = (uncurry-scoped e c around h.0, uncurry-all-scoped es c around h.1)

-- A flattened solution is scoped as before.
pub flattened-scoped : (c : ℕ) (s : Solution) → ScopedSolution c s → ScopedSolution c (flattened s)
flattened-scoped c s h = uncurry-scoped s.body c (bound (raise c (binder_items s.params))) h
