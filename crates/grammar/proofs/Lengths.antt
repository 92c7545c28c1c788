-- How many words expressions and solutions have.
use Prim.Native.Nat.{ℕ, ◌+◌}
use mathlib.Core.Path.{◌≡◌}
use mathlib.Core.List.{◌++◌}
use native.Mathlib.Omega.{arith}
use lib.ListN.{length}
use Rattle.reading.specs.Bytes.{Maybe}
use Rattle.grammar.specs.Sort.{Sort}
use Rattle.grammar.specs.Item.{words_of}
use Rattle.grammar.specs.Expr.{Kind, Expr, Exprs, node, app, econs, exprs, Solution, binder_items, kind_items, out_sort, expr_items, exprs_items, solution_items}
use Rattle.grammar.proofs.Items.{length-words}

-- How many words an expression has.
abbrev pub size : Expr → ℕ
size e = length (words_of (expr_items e))

-- How many words several expressions have.
abbrev pub size_all : Exprs → ℕ
size_all es = length (words_of (exprs_items es))

-- A kind and its operands.
pub size-node : (k : Kind) (es : Exprs) → size (node k es) ≡ length (words_of (kind_items k (exprs es))) + size_all es
unfolding expr_items
size-node k es = length-words (kind_items k (exprs es)) (exprs_items es)

-- An application: three words, the arguments, the output sort, the head.
pub size-app : (o : Maybe Sort) (es : Exprs) (h : Expr) → size (app o es h) ≡ 3 + size_all es + length (words_of (out_sort o)) + size h
unfolding expr_items words_of
size-app o es h = omega (arith, length-words (exprs_items es) (out_sort o ++ expr_items h), length-words (out_sort o) (expr_items h))

-- One expression and others.
pub size_cons : (e : Expr) (es : Exprs) → size_all (econs e es) ≡ size e + size_all es
unfolding expr_items
size_cons e es = length-words (expr_items e) (exprs_items es)

-- A solution: one word, the parameters, the body.
pub size-solution : (s : Solution) → length (words_of (solution_items s)) ≡ 1 + length (words_of (binder_items s.params)) + size s.body
unfolding solution_items words_of
size-solution s = omega (arith, length-words (binder_items s.params) (expr_items s.body))
