-- How many words a bind has: at most 15 for each byte that its tree takes.
use Prim.Native.Nat.{ℕ, ◌+◌, ◌*◌, ◌≤◌}
use mathlib.Core.Path.{◌≡◌, refl, ap}
use mathlib.Core.List.{List, [], ◌∷◌, ◌++◌, append-nil}
use native.Mathlib.Omega.{arith}
use lib.ListN.{length, length-append}
use Rattle.reading.specs.Tree.{Tree, atom, list, tnil, tcons, weight, weights}
use Rattle.reading.specs.Answer.{and_then}
use Rattle.reading.proofs.Weight.{trees-weight}
use Rattle.grammar.specs.Sort.{sort_words}
use Rattle.grammar.specs.Item.{plain, words_of}
use Rattle.grammar.specs.Expr.{VarName, Pred, expr_items, name_items, pred_items, preds_items, bind_items}
use Rattle.grammar.specs.ParseSort.{in_list, in_symbol, tree_at, parse_sort}
use Rattle.grammar.specs.ParseExpr.{child}
use Rattle.grammar.specs.ParseBind.{parse_bind}
use Rattle.grammar.proofs.Items.{length-words, words-front}
use Rattle.grammar.proofs.AnswerHolds.{Post, chain_post, lifted_post, any_post, then-every, map-every}
use Rattle.grammar.proofs.SortOf.{SortOf, in_list_lem, sort_of_lem}
use Rattle.grammar.proofs.BindersOf.{TreeIn, tree-at, sort_from}
use Rattle.grammar.proofs.WalkPreds.{KeptPreds, preds_of}
use Rattle.grammar.proofs.Size.{Sized, SizedAll, sized}

names-size : (xs : List VarName) → length (words_of (name_items xs)) ≡ 3 * length xs
unfolding name_items words_of
names-size [] = refl
names-size (x ∷ xs) = omega (arith, names-size xs)

preds-size : (ps qs : List Pred) → length (words_of (preds_items (ps ++ qs))) ≡ length (words_of (preds_items ps)) + length (words_of (preds_items qs))
unfolding preds_items words_of
preds-size [] qs = omega arith
preds-size (p ∷ ps) qs = omega (arith, length-words (pred_items p) (preds_items (ps ++ qs)), length-words (pred_items p) (preds_items ps), preds-size ps qs)

-- The words of predicates.
sized-preds : KeptPreds Sized (λ t n ps m. length (words_of (preds_items ps)) ≤ 15 * weight t) (λ ts n ps m. length (words_of (preds_items ps)) ≤ 15 * weights ts)
unfolding weight preds_items pred_items words_of
sized-preds =
    record {
      on_expr = λ t n m e h. omega (arith, h.words, ap (λ l. length (words_of l)) (append-nil (expr_items e)));
      on_kvar = λ s ts n xs e. omega (arith, length-words (name_items xs) [], names-size xs, e, trees-weight ts);
      on_and = λ t ts n m ps h. omega (arith, h);
      none = λ n. omega arith;
      more = λ t ts n m p ps qs h k. omega (arith, preds-size ps qs, h, k);
    }

module _ (text : List ℕ) where
  -- A bind.
  pub bind-size : (t : Tree) (n : ℕ) → Post (parse_bind text t n) (λ b m. length (words_of (bind_items b)) ≤ 15 * weight t)
  unfolding parse_bind in_list tree_at bind_items words_of weight
  bind-size (atom a) n = tt
  bind-size (list tnil) n = tt
  bind-size (list (tcons a tnil)) n =
      any_post (in_list a) n _ _ λ pair.
      any_post (and_then (tree_at pair 0) in_symbol) n _ _ λ s.
      any_post (and_then (tree_at pair 1) (parse_sort text)) n _ _ λ o.
      tt
  bind-size (list (tcons a (tcons b ts))) n =
      lifted_post (in_list a) n _ (λ us. a ≡ list us) _ (in_list_lem a) λ pair e.
      any_post (and_then (tree_at pair 0) in_symbol) n _ _ λ s.
      lifted_post (and_then (tree_at pair 1) (parse_sort text)) n _ (SortOf (list pair)) _
      (then-every (tree_at pair 1) (parse_sort text) (TreeIn pair) (SortOf (list pair)) (tree-at pair 1) λ u i.
      map-every (parse_sort text u) (SortOf u) (SortOf (list pair)) (λ o h. sort_from pair u o i h) (sort_of_lem text u)) λ o h.
      chain_post ((child text b).preds n) _ (λ ps m. length (words_of (preds_items ps)) ≤ 15 * weight b) _ (preds_of text Sized SizedAll (sized text) _ _ sized-preds b n) λ ps m k.
      omega (arith, h.size, k, ap weight e, ap length (words-front (sort_words o) (plain (length ps) ∷ preds_items ps)), length-append (sort_words o) (words_of (plain (length ps) ∷ preds_items ps)))
