-- Flattening never refuses what the parser builds, and how many words that has.
use Prim.Native.Nat.{ℕ, suc, ◌+◌, ◌-◌, ◌*◌, ◌≤◌}
use mathlib.Core.Path.{◌≡◌, ap, subst}
use mathlib.Core.List.{List, []}
use native.Mathlib.Omega.{arith}
use lib.ListN.{length}
use Rattle.reading.specs.Limits.{max_bytes, max_lists, max_number}
use Rattle.reading.specs.Tree.{Tree, Within}
use Rattle.reading.proofs.Wider.{tree-wider}
use Rattle.reading.proofs.TextTree.{TextTree}
use Rattle.grammar.specs.Item.{raise, words_of}
use Rattle.grammar.specs.Expr.{Expr, expr_items, Solution, binder_items, solution_items}
use Rattle.grammar.specs.ParseExpr.{parse_expr}
use Rattle.grammar.specs.ParseSolution.{parse_solution}
use Rattle.grammar.specs.Operations.{the_tree, make_expr, make_solution}
use Rattle.grammar.specs.Raise.{raise_expr}
use Rattle.grammar.specs.Shape.{Coded, depth, scopes}
use Rattle.grammar.proofs.AnswerHolds.{Post, lifted_post, both_post, map_post}
use Rattle.grammar.proofs.Items.{length-words}
use Rattle.grammar.proofs.Raise.{items-raise, depth-raise}
use Rattle.grammar.proofs.Raised.{coded-raise}
use Rattle.grammar.proofs.Walk.{child_of}
use Rattle.grammar.proofs.SolutionOf.{SolutionOf, solution_of}
use Rattle.grammar.proofs.Shallow.{Small, SmallAll, small}
use Rattle.grammar.proofs.Size.{Sized, SizedAll, sized}
use Rattle.grammar.proofs.TheTree.{the_tree_lem}
use Rattle.judging.specs.Judge.{reads, judge_expr}
use Rattle.flattening.specs.Operations.{no_text}
use Rattle.judging.proofs.Back.{judged-back}

-- The words of an expression, with its numbers raised by any count that has room for them, are judged as that expression.
abbrev pub JudgedBack : Expr → ℕ → Type 0
JudgedBack e n = (c : ℕ) → c + n ≤ max_number → judge_expr no_text (words_of (raise c (expr_items e))) ≡ reads (raise_expr c e) (length (words_of (raise c (expr_items e))))

-- What is known of an expression: it nests at most two deeper than lists may, and opens fewer scopes than lists may nest; it is judged back; and it
-- has at most 15 words for each byte of the text.
pub record ParsedExpr (text : List ℕ) (e : Expr) (n : ℕ) : Type 0 where
  pub deep : depth e ≤ max_lists + 2
  pub opens : scopes e ≤ max_lists - 1
  pub back : JudgedBack e n
  pub size : length (words_of (expr_items e)) ≤ 15 * length text

-- The same of a solution before flattening; its parameters are a scope, too. The text is no longer than a text may be.
pub record ParsedSolution (text : List ℕ) (s : Solution) (n : ℕ) : Type 0 where
  pub short : length text ≤ max_bytes
  pub deep : depth s.body ≤ max_lists + 1
  pub opens : suc (scopes s.body) ≤ max_lists - 1
  pub back : JudgedBack s.body n
  pub size : length (words_of (solution_items s)) ≤ 15 * length text

coded-back : (e : Expr) (n : ℕ) → depth e ≤ max_lists + 2 → Coded e no_text n → JudgedBack e n
coded-back e n d h c l =
    subst (λ its. judge_expr no_text (words_of its) ≡ reads (raise_expr c e) (length (words_of its))) (items-raise c e)
    (judged-back no_text (c + n) (omega arith) (raise_expr c e) (coded-raise c no_text n e h) (omega (arith, depth-raise c e)))

module _ (text : List ℕ) where
  expr_from : (t : Tree) → TextTree text t → Post (parse_expr text t 0) (ParsedExpr text)
  unfolding parse_expr
  expr_from t i =
      map_post (parse_expr text t 0) (λ e m. Small t [] 0 e m × Sized t [] 0 e m) _
      (λ e m h.
      let d : depth e ≤ max_lists + 2 = omega (arith, h.0.deep, i.nests) in
      record {
        deep = d;
        opens = omega (arith, h.0.opens, i.nests);
        back = coded-back e m d (h.0.coded no_text (tree-wider t (length text) no_text (omega (arith, i.short)) i.within) tt);
        size = omega (arith, h.1.words, i.weighs);
      })
      (both_post (parse_expr text t 0) (Small t [] 0) (Sized t [] 0) ((child_of text Small SmallAll (small text) t).plainly [] 0) ((child_of text Sized SizedAll (sized text) t).plainly [] 0))

  solution_from : (t : Tree) → TextTree text t → Post (parse_solution text t 0) (ParsedSolution text)
  unfolding solution_items words_of
  solution_from t i =
      map_post (parse_solution text t 0) (λ s m. SolutionOf text Small t 0 s m × SolutionOf text Sized t 0 s m) _
      (λ s m h.
      let a = h.0 in
      let b = h.1 in
      let w : Within a.body_tree no_text = (a.within no_text (tree-wider t (length text) no_text (omega (arith, i.short)) i.within)).1 in
      record {
        short = i.short;
        deep = omega (arith, a.body.deep, a.nests, i.nests);
        opens = omega (arith, a.body.opens, a.nests, i.nests);
        back = coded-back s.body m (omega (arith, a.body.deep, a.nests, i.nests)) (a.body.coded no_text w (omega (arith, a.binders.even), tt));
        size = omega (arith, length-words (binder_items s.params) (expr_items s.body), ap (λ bs. length (words_of (binder_items bs))) b.params, b.binders.size 0, b.body.words, b.weighs, i.weighs);
      })
      (both_post (parse_solution text t 0) (SolutionOf text Small t 0) (SolutionOf text Sized t 0) (solution_of text Small SmallAll (small text) t 0) (solution_of text Sized SizedAll (sized text) t 0))

  -- Every expression that a text is read as.
  pub parsed-expr : (tree : List ℕ) → Post (make_expr text tree 0) (ParsedExpr text)
  unfolding make_expr
  parsed-expr tree = lifted_post (the_tree text tree) 0 _ (TextTree text) _ (the_tree_lem text tree) expr_from

  -- Every solution that a text is read as.
  pub parsed-solution : (tree : List ℕ) → Post (make_solution text tree 0) (ParsedSolution text)
  unfolding make_solution
  parsed-solution tree = lifted_post (the_tree text tree) 0 _ (TextTree text) _ (the_tree_lem text tree) solution_from
