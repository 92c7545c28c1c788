-- An expression binds as many numbers as its exists have binders and as it has lets.
use Prim.Native.Nat.{ℕ, ◌+◌}
use mathlib.Core.Path.{◌≡◌, refl, ap, ◌∙◌}
use mathlib.Core.List.{List, [], ◌∷◌, ◌++◌}
use native.Mathlib.Omega.{arith}
use lib.ListN.{length, length-append}
use Rattle.reading.specs.Bytes.{Maybe, nothing, just}
use Rattle.grammar.specs.Sort.{Sort, sort_words}
use Rattle.grammar.specs.Item.{Item, bound}
use Rattle.grammar.specs.Expr.{Binder, Kind, k_num, k_bool, k_str, k_bit_vec, k_fresh, k_named, k_neg, k_bin, k_if, k_and, k_or, k_not, k_imp, k_iff, k_atom, k_let, k_theory, k_is_ctor, k_exists, k_let_fresh, Expr, Exprs, node, app, enil, econs, exprs, binder_items, kind_items, out_sort, expr_items, exprs_items}
use Rattle.grammar.specs.Scoped.{binds_of, binds_in, binds_in_all}
use Rattle.grammar.proofs.Items.{bound_append, bound-front}

binders-counted : (bs : List Binder) → length (bound (binder_items bs)) ≡ length bs
unfolding binder_items bound
binders-counted [] = refl
binders-counted (b ∷ bs) = omega (arith, ap length (bound-front (sort_words b.sort) (binder_items bs)), binders-counted bs)

kind-counted : (k : Kind) (n : ℕ) → length (bound (kind_items k n)) ≡ binds_of k
unfolding kind_items bound
kind-counted (k_num v) n = refl
kind-counted (k_bool b) n = refl
kind-counted (k_str s) n = refl
kind-counted (k_bit_vec v width) n = refl
kind-counted (k_fresh j) n = refl
kind-counted (k_named x) n = refl
kind-counted k_neg n = refl
kind-counted (k_bin op) n = refl
kind-counted k_if n = refl
kind-counted k_and n = refl
kind-counted k_or n = refl
kind-counted k_not n = refl
kind-counted k_imp n = refl
kind-counted k_iff n = refl
kind-counted (k_atom r) n = refl
kind-counted (k_let x) n = refl
kind-counted (k_theory j) n = refl
kind-counted (k_is_ctor x) n = refl
kind-counted (k_exists bs) n = binders-counted bs
kind-counted (k_let_fresh j) n = refl

both-counted : (a b : List Item) → length (bound (a ++ b)) ≡ length (bound a) + length (bound b)
both-counted a b = ap length (bound_append a b) ∙ length-append (bound a) (bound b)

out-counted : (o : Maybe Sort) (its : List Item) → length (bound (out_sort o ++ its)) ≡ length (bound its)
out-counted nothing its = refl
out-counted (just s) its = ap length (bound-front (sort_words s) its)

mutual
  unfolding expr_items bound binds_in

  -- The count adds lets to the binders.
  pub binds-counted : (e : Expr) → length (bound (expr_items e)) ≡ binds_in e
  binds-counted (node k es) = omega (arith, both-counted (kind_items k (exprs es)) (exprs_items es), kind-counted k (exprs es), all-counted es)
  binds-counted (app o es h) = omega (arith, both-counted (exprs_items es) (out_sort o ++ expr_items h), out-counted o (expr_items h), all-counted es, binds-counted h)

  all-counted : (es : Exprs) → length (bound (exprs_items es)) ≡ binds_in_all es
  all-counted enil = refl
  all-counted (econs e es) = omega (arith, both-counted (expr_items e) (exprs_items es), binds-counted e, all-counted es)
