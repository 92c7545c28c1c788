-- The words of an expression are read as that expression, wherever they stand; and judged words of an expression or a solution give it back.
use Prim.Native.Nat.{ℕ, ◌+◌, ◌^◌, ◌≤◌, max}
use mathlib.Core.Path.{◌≡◌, ap}
use mathlib.Core.List.{List, [], ◌∷◌, ◌++◌}
use native.Mathlib.Omega.{arith}
use lib.ListN.{length}
use borrow.Author.Tests.{eq-eqb}
use Rattle.reading.specs.Limits.{max_nodes}
use Rattle.reading.specs.Pick.{pick}
use Rattle.reading.specs.Bytes.{Maybe, nothing, just}
use Rattle.reading.specs.At.{At}
use Rattle.reading.proofs.Placed.{at_here, at-whole, at_left, at_right, at_tail}
use Rattle.grammar.specs.Sort.{Sort, sort_words}
use Rattle.grammar.specs.Item.{Item, plains, words_of}
use Rattle.grammar.specs.Expr.{Expr, Exprs, node, app, enil, econs, exprs, Solution, binder_items, kind_items, flag, out_sort, expr_items, exprs_items, solution_items}
use Rattle.grammar.specs.Shape.{MaybeSortCoded, BindersCoded, Coded, CodedAll, depth, depths}
use Rattle.grammar.proofs.Items.{words_append, words-plains}
use Rattle.grammar.proofs.Lengths.{size-node, size-app, size_cons, size-solution}
use Rattle.judging.specs.Judge.{reads, several, sort_if, planned, expr_deep, expr_at, at_end, judge_expr, judge_solution}
use Rattle.judging.proofs.FieldsBack.{moved, word_back}
use Rattle.judging.proofs.SortBack.{deeper, sort-at, binders-at}
use Rattle.judging.proofs.KindBack.{has_sort, kind_at, arguments-at}

module _ (ws : List ℕ) where
  -- The words of the first items, and of those behind them.
  items_left : {at : ℕ} (a b : List Item) → At ws at (words_of (a ++ b)) → At ws at (words_of a)
  items_left a b h = at_left (words_of a) (words_of b) (rw (words_append a b) at h)

  items_right : {at : ℕ} (a b : List Item) → At ws at (words_of (a ++ b)) → At ws (at + length (words_of a)) (words_of b)
  items_right a b h = at_right (words_of a) (words_of b) (rw (words_append a b) at h)

-- Fresh numbers have 64 bits.
module _ (limit numbers : ℕ) (few : numbers ≤ 2 ^ 64) (ws : List ℕ) where
  -- An output sort, where there is one.
  out_at : (o : Maybe Sort) (at : ℕ) → MaybeSortCoded o limit → At ws at (words_of (out_sort o)) → sort_if limit (has_sort o) ws at ≡ reads o (at + length (words_of (out_sort o)))
  unfolding sort_if words_of
  out_at nothing at c a = moved (omega arith)
  out_at (just s) at c a =
      let e : words_of (plains (sort_words s)) ≡ sort_words s = words-plains (sort_words s) in
      rw (sort-at limit ws s at c (rw e at a)) (moved (omega (arith, ap length e)))

  -- The expression is read at a position, with room for so many inside one another.
  abbrev Back : Expr → ℕ → ℕ → Type 0
  Back e at room = expr_deep limit room ws at ≡ reads e (at + length (words_of (expr_items e)))

  mutual
    unfolding expr_deep planned several expr_items exprs words_of depth

    -- An expression is read where its words stand, if there is room for its nesting.
    pub expr-at : (e : Expr) (room at : ℕ) → Coded e limit numbers → depth e ≤ room → At ws at (words_of (expr_items e)) → expr_deep limit room ws at ≡ reads e (at + length (words_of (expr_items e)))
    expr-at (node k es) room at c h a =
        let front : List Item = kind_items k (exprs es) in
        deeper (Back (node k es) at) (depths es) room h λ g l.
        rw (kind_at limit numbers few ws k (exprs es) at c.0 c.1 (items_left ws front (exprs_items es) a), exprs-at es g (at + length (words_of front)) c.2 l (items_right ws front (exprs_items es) a)) (moved (omega (arith, size-node k es)))
    expr-at (app o es e) room at c h a =
        let b : At ws (at + 3) (words_of (exprs_items es ++ (out_sort o ++ expr_items e))) = at_right (38 ∷ flag o ∷ exprs es ∷ []) (words_of (exprs_items es ++ (out_sort o ++ expr_items e))) a in
        let d : At ws (at + 3 + length (words_of (exprs_items es))) (words_of (out_sort o ++ expr_items e)) = items_right ws (exprs_items es) (out_sort o ++ expr_items e) b in
        deeper (Back (app o es e) at) (max (depths es) (depth e)) room h λ g l.
        rw (arguments-at limit ws (exprs es) at o _ a, exprs-at es g (at + 3) c.0 (omega arith) (items_left ws (exprs_items es) (out_sort o ++ expr_items e) b), out_at o (at + 3 + length (words_of (exprs_items es))) c.1 (items_left ws (out_sort o) (expr_items e) d), expr-at e g (at + 3 + length (words_of (exprs_items es)) + length (words_of (out_sort o))) c.2 (omega arith) (items_right ws (out_sort o) (expr_items e) d)) (moved (omega (arith, size-app o es e)))

    -- The same for several expressions.
    pub exprs-at : (es : Exprs) (room at : ℕ) → CodedAll es limit numbers → depths es ≤ room → At ws at (words_of (exprs_items es)) → several (expr_deep limit room) enil econs (exprs es) ws at ≡ reads es (at + length (words_of (exprs_items es)))
    exprs-at enil room at c h a = moved (omega arith)
    exprs-at (econs e es) room at c h a =
        rw (expr-at e room at c.0 (omega arith) (items_left ws (expr_items e) (exprs_items es) a), exprs-at es room (at + length (words_of (expr_items e))) c.1 (omega arith) (items_right ws (expr_items e) (exprs_items es) a)) (moved (omega (arith, size_cons e es)))

-- The same, between a front and a rest.
pub expr-back : (limit numbers : ℕ) → numbers ≤ 2 ^ 64 → (room : ℕ) (e : Expr) → Coded e limit numbers → depth e ≤ room → (front rest : List ℕ) → expr_deep limit room (front ++ (words_of (expr_items e) ++ rest)) (length front) ≡ reads e (length front + length (words_of (expr_items e)))
expr-back limit numbers few room e c h front rest =
    expr-at limit numbers few (front ++ (words_of (expr_items e) ++ rest)) e room (length front) c h (at_here front (words_of (expr_items e)) rest)

-- Nothing is left at the end.
end_back : {A : Type 0} (limit : ℕ) (x : A) (ws : List ℕ) (at : ℕ) → at ≡ length ws → at_end limit x ws at ≡ reads x (length ws)
unfolding at_end pick
end_back limit x ws at e = rw (eq-eqb at (length ws) e) (moved e)

-- The words of an expression are judged as that expression.
pub judged-back : (limit numbers : ℕ) → numbers ≤ 2 ^ 64 → (e : Expr) → Coded e limit numbers → depth e ≤ max_nodes → judge_expr limit (words_of (expr_items e)) ≡ reads e (length (words_of (expr_items e)))
unfolding judge_expr expr_at
judged-back limit numbers few e c h =
    let ws : List ℕ = words_of (expr_items e) in
    rw (expr-at limit numbers few ws e max_nodes 0 c h (at-whole ws)) (end_back limit e ws (0 + length ws) (omega arith))

-- The words of a solution are judged as that solution.
pub solution-back : (limit numbers : ℕ) → numbers ≤ 2 ^ 64 → (s : Solution) → BindersCoded s.params limit numbers → Coded s.body limit numbers → depth s.body ≤ max_nodes → judge_solution limit (words_of (solution_items s)) ≡ reads s (length (words_of (solution_items s)))
unfolding judge_solution expr_at solution_items words_of
solution-back limit numbers few s b c h =
    let ws : List ℕ = words_of (solution_items s) in
    let bs : List Item = binder_items s.params in
    let its : List Item = expr_items s.body in
    let n : ℕ = 0 + 1 + length (words_of bs) in
    let a : At ws (0 + 1) (words_of (bs ++ its)) = at_tail (at-whole ws) in
    rw (word_back (at-whole ws), binders-at limit numbers few ws s.params (0 + 1) b (items_left ws bs its a), expr-at limit numbers few ws s.body max_nodes n c h (items_right ws bs its a)) (end_back limit s ws (n + length (words_of its)) (omega (arith, size-solution s)))
