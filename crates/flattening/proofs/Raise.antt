-- Flattening a raised expression raises the flattened one.
use Prim.Native.Nat.{ℕ}
use mathlib.Core.Path.{◌≡◌, refl, ap, ap₂, ◌∙◌}
use Rattle.reading.specs.Bytes.{Maybe}
use Rattle.grammar.specs.Sort.{Sort}
use Rattle.grammar.specs.Expr.{Expr, Exprs, node, app, enil, econs, Solution}
use Rattle.grammar.specs.Raise.{raise_binders, raise_kind, raise_expr, raise_exprs, raise_solution}
use Rattle.flattening.specs.Uncurry.{join, applied, uncurry, uncurry_all, flattened}

-- Joined expressions, raised.
join-raise : (c : ℕ) (fs es : Exprs) → join (raise_exprs c fs) (raise_exprs c es) ≡ raise_exprs c (join fs es)
unfolding join raise_expr
join-raise c enil es = refl
join-raise c (econs f fs) es = ap (econs (raise_expr c f)) (join-raise c fs es)

-- Applied expressions, raised.
applied-raise : (c : ℕ) (o : Maybe Sort) (es : Exprs) (h : Expr) → applied o (raise_exprs c es) (raise_expr c h) ≡ raise_expr c (applied o es h)
unfolding applied raise_expr
applied-raise c o es (node k fs) = refl
applied-raise c o es (app o' fs h) = ap (λ l. app o l (raise_expr c h)) (join-raise c fs es)

mutual
  unfolding uncurry raise_expr

  -- Flattening a raised expression raises the flattened one.
  pub uncurry-raise : (c : ℕ) (e : Expr) → uncurry (raise_expr c e) ≡ raise_expr c (uncurry e)
  uncurry-raise c (node k es) = ap (node (raise_kind c k)) (uncurry-all-raise c es)
  uncurry-raise c (app o es h) = ap₂ (applied o) (uncurry-all-raise c es) (uncurry-raise c h) ∙ applied-raise c o (uncurry_all es) (uncurry h)

  -- The same for several expressions.
  pub uncurry-all-raise : (c : ℕ) (es : Exprs) → uncurry_all (raise_exprs c es) ≡ raise_exprs c (uncurry_all es)
  uncurry-all-raise c enil = refl
  uncurry-all-raise c (econs e es) = ap₂ econs (uncurry-raise c e) (uncurry-all-raise c es)

-- The same for a solution.
pub flattened-raise : (c : ℕ) (s : Solution) → flattened (raise_solution c s) ≡ raise_solution c (flattened s)
unfolding raise_solution
flattened-raise c s = ap (λ e. record { params = raise_binders c s.params; body = e }) (uncurry-raise c s.body)
