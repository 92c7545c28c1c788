-- The fresh numbers of what an operation makes of its text, and how many there are.
use Prim.Native.Nat.{ℕ, ◌+◌}
use mathlib.Core.Path.{◌≡◌, refl, sym, ap, subst, ◌∙◌}
use mathlib.Core.List.{List, [], ◌∷◌, ◌++◌, append-nil, append_assoc}
use lib.ListN.{length}
use Rattle.reading.specs.Tree.{Tree}
use Rattle.reading.specs.Answer.{and_then}
use Rattle.grammar.specs.Sort.{sort_words}
use Rattle.grammar.specs.Item.{Item, plain, raise, bound}
use Rattle.grammar.specs.Numbers.{Exactly}
use Rattle.grammar.specs.Scoped.{ScopedPreds, ScopedSolution}
use Rattle.grammar.specs.Scope.{numbered}
use Rattle.grammar.specs.Expr.{VarName, Pred, Solution, expr_items, binder_items, name_items, pred_items, preds_items, bind_items, solution_items}
use Rattle.grammar.specs.ParseSort.{in_list, in_symbol, tree_at, parse_sort}
use Rattle.grammar.specs.ParseExpr.{child, parse_expr}
use Rattle.grammar.specs.ParseBind.{parse_bind}
use Rattle.grammar.specs.ParseSolution.{parse_solution}
use Rattle.grammar.proofs.Items.{bound_append, bound-front}
use Rattle.grammar.proofs.SameNumbers.{exactly_same}
use Rattle.grammar.proofs.Exact.{up_from, exactly_up, exactly_none, exactly_append, plus, bound-raise, plus-up}
use Rattle.grammar.proofs.AnswerHolds.{Post, chain_post, any_post, map_post}
use Rattle.grammar.proofs.Walk.{child_of}
use Rattle.grammar.proofs.WalkPreds.{KeptPreds, preds_of}
use Rattle.grammar.proofs.SolutionOf.{SolutionOf, solution_of}
use Rattle.grammar.proofs.FreshNumbers.{runs, Good, GoodAll, good, bound-numbered}
use Rattle.flattening.specs.Uncurry.{flattened}
use Rattle.flattening.proofs.Bound.{flattened-same, flattened-scoped}
use Rattle.session.specs.Session.{Term, an_expr, a_bind, a_solution, term_items}
use Rattle.session.specs.Compared.{ScopedTerm}

-- Each of the numbers from n up to m is bound once, and each that is used is bound round its use, at any count.
abbrev pub GoodTerm : ℕ → Term → ℕ → Type 0
GoodTerm n t m = Exactly n (bound (term_items t)) m × ((c : ℕ) → ScopedTerm c t)

-- The same of predicates, from a tree or from several.
abbrev GoodPreds : {A : Type 0} → A → ℕ → List Pred → ℕ → Type 0
GoodPreds t n ps m = Exactly n (bound (preds_items ps)) m × ((c : ℕ) → ScopedPreds c ps)

preds_append : (ps qs : List Pred) → preds_items (ps ++ qs) ≡ preds_items ps ++ preds_items qs
unfolding preds_items
preds_append [] qs = refl
preds_append (p ∷ ps) qs = ap (λ l. pred_items p ++ l) (preds_append ps qs) ∙ sym (append_assoc (pred_items p) (preds_items ps) (preds_items qs))

scoped_append : (c : ℕ) (ps qs : List Pred) → ScopedPreds c ps → ScopedPreds c qs → ScopedPreds c (ps ++ qs)
scoped_append c [] qs h k = k
scoped_append c (p ∷ ps) qs h k = (h.0, scoped_append c ps qs h.1 k)

names-bound : (xs : List VarName) → bound (name_items xs) ≡ []
unfolding name_items bound
names-bound [] = refl
names-bound (x ∷ xs) = names-bound xs

good-preds : KeptPreds Good GoodPreds GoodPreds
unfolding preds_items pred_items bound runs
good-preds =
    record {
      on_expr = λ t n m e h. (subst (λ (l : List Item). Exactly n (bound l) m) (sym (append-nil (expr_items e))) h.0, λ c. (h.1 c, tt));
      on_kvar = λ s ts n xs e. (rw (bound_append (name_items xs) [], names-bound xs) (exactly_none n), λ c. (tt, tt));
      on_and = λ t ts n m ps h. h;
      none = λ n. (exactly_none n, λ c. tt);
      more = λ t ts n m p ps qs h k.
          (rw (preds_append ps qs, bound_append (preds_items ps) (preds_items qs)) (exactly_append n m p (bound (preds_items ps)) (bound (preds_items qs)) h.0 k.0), λ c. scoped_append c ps qs (h.1 c) (k.1 c));
    }

module _ (text : List ℕ) where
  pub bind-good : (t : Tree) (n : ℕ) → Post (parse_bind text t n) (λ b m. GoodTerm n (a_bind b) m)
  unfolding parse_bind bind_items term_items bound
  bind-good t n =
      any_post (in_list t) n _ _ λ ts.
      any_post (and_then (tree_at ts 0) in_list) n _ _ λ pair.
      any_post (and_then (tree_at pair 0) in_symbol) n _ _ λ s.
      any_post (and_then (tree_at pair 1) (parse_sort text)) n _ _ λ o.
      any_post (tree_at ts 1) n _ _ λ p.
      chain_post ((child text p).preds n) _ (GoodPreds p n) _ (preds_of text Good GoodAll (good text) GoodPreds GoodPreds good-preds p n) λ ps m h.
      (rw (bound-front (sort_words o) (plain (length ps) ∷ preds_items ps)) h.0, λ c. h.1 c)

  -- A solution before flattening.
  draft-good : (t : Tree) (n : ℕ) (s : Solution) (m : ℕ) → SolutionOf text Good t n s m → Exactly n (bound (solution_items s)) m × ((c : ℕ) → ScopedSolution c s)
  unfolding solution_items bound runs plus
  draft-good t n s m h =
      let run : Exactly n (bound (binder_items s.params)) (n + length h.sorts) = rw (h.params, bound-numbered n h.sorts) (exactly_up n (length h.sorts)) in
      let be : (c : ℕ) → bound (raise c (binder_items s.params)) ≡ up_from (c + n) (length h.names) ++ [] =
      λ c. ap (λ l. bound (raise c (binder_items l))) h.params ∙ bound-raise c (binder_items (numbered n h.sorts)) ∙ ap (plus c) (bound-numbered n h.sorts) ∙ plus-up c n (length h.sorts) ∙ ap (up_from (c + n)) (sym h.binders.even) ∙ sym (append-nil (up_from (c + n) (length h.names))) in (
        rw (bound_append (binder_items s.params) (expr_items s.body)) (exactly_append n (n + length h.sorts) m (bound (binder_items s.params)) (bound (expr_items s.body)) run h.body.0),
        λ c. rw (be c) (h.body.1 c),
      )

  pub solution-good : (t : Tree) (n : ℕ) → Post (parse_solution text t n) (λ s m. GoodTerm n (a_solution s) m)
  unfolding term_items
  solution-good t n =
      map_post (parse_solution text t n) (SolutionOf text Good t n) _
      (λ s m h. let g = draft-good t n s m h in (exactly_same n (bound (solution_items (flattened s))) (bound (solution_items s)) m (flattened-same s) g.0, λ c. flattened-scoped c s (g.1 c)))
      (solution_of text Good GoodAll (good text) t n)

  pub expr-good : (t : Tree) (n : ℕ) → Post (parse_expr text t n) (λ e m. GoodTerm n (an_expr e) m)
  unfolding parse_expr term_items runs
  expr-good t n = (child_of text Good GoodAll (good text) t).plainly [] n
