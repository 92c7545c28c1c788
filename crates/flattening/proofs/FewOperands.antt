-- No expression has more operands than words.
use Prim.Native.Nat.{ℕ, ◌≤◌}
use native.Mathlib.Omega.{arith}
use lib.ListN.{length}
use Rattle.grammar.specs.Item.{words_of}
use Rattle.grammar.specs.Expr.{Kind, k_num, k_bool, k_str, k_bit_vec, k_fresh, k_named, k_neg, k_bin, k_if, k_and, k_or, k_not, k_imp, k_iff, k_atom, k_let, k_theory, k_is_ctor, k_exists, k_let_fresh, Expr, Exprs, node, app, enil, econs, exprs, kind_items}
use Rattle.grammar.proofs.Lengths.{size, size_all, size-node, size-app, size_cons}
use Rattle.flattening.specs.Uncurry.{most_operands, most_operands_all}

-- A kind has a word.
kind-some : (k : Kind) (n : ℕ) → 1 ≤ length (words_of (kind_items k n))
unfolding kind_items words_of
kind-some (k_num v) n = omega arith
kind-some (k_bool b) n = omega arith
kind-some (k_str s) n = omega arith
kind-some (k_bit_vec v width) n = omega arith
kind-some (k_fresh k) n = omega arith
kind-some (k_named x) n = omega arith
kind-some k_neg n = omega arith
kind-some (k_bin op) n = omega arith
kind-some k_if n = omega arith
kind-some k_and n = omega arith
kind-some k_or n = omega arith
kind-some k_not n = omega arith
kind-some k_imp n = omega arith
kind-some k_iff n = omega arith
kind-some (k_atom r) n = omega arith
kind-some (k_let x) n = omega arith
kind-some (k_theory k) n = omega arith
kind-some (k_is_ctor x) n = omega arith
kind-some (k_exists bs) n = omega arith
kind-some (k_let_fresh k) n = omega arith

-- An expression has a word.
size-some : (e : Expr) → 1 ≤ size e
size-some (node k es) = omega (arith, size-node k es, kind-some k (exprs es))
size-some (app o es h) = omega (arith, size-app o es h)

-- Several have at least as many words as there are.
few : (es : Exprs) → exprs es ≤ size_all es
unfolding exprs
few enil = omega arith
few (econs e es) = omega (arith, size_cons e es, size-some e, few es)

mutual
  unfolding most_operands

  -- The largest number of operands is at most the number of words.
  pub most-size : (e : Expr) → most_operands e ≤ size e
  most-size (node k es) = omega (arith, size-node k es, few es, most_sizes es)
  most-size (app o es h) = omega (arith, size-app o es h, few es, most_sizes es, most-size h)

  -- The same for several expressions.
  pub most_sizes : (es : Exprs) → most_operands_all es ≤ size_all es
  most_sizes enil = omega arith
  most_sizes (econs e es) = omega (arith, size_cons e es, most-size e, most_sizes es)
