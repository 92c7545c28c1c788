-- The words of a solution that a text is read as are judged to be that solution, after flattening, with that text or with none, and with its
-- fresh numbers raised or not.
use Prim.Native.Nat.{ℕ, ◌+◌, ◌^◌, ◌≤◌}
use mathlib.Core.Path.{◌≡◌, sym, subst}
use mathlib.Core.List.{List}
use native.Mathlib.Omega.{arith}
use lib.ListN.{length}
use Rattle.reading.specs.Limits.{max_nodes}
use Rattle.reading.specs.Tree.{Tree}
use Rattle.reading.proofs.Wider.{tree-wider}
use Rattle.reading.proofs.TextTree.{TextTree}
use Rattle.grammar.specs.Item.{words_of}
use Rattle.grammar.specs.Expr.{Solution, solution_items}
use Rattle.grammar.specs.ParseSolution.{parse_solution}
use Rattle.grammar.specs.Operations.{the_tree, make_solution}
use Rattle.grammar.specs.Shape.{BindersCoded, Coded, depth}
use Rattle.grammar.specs.Raise.{raise_solution}
use Rattle.grammar.proofs.AnswerHolds.{Post, lifted_post, map_post}
use Rattle.grammar.proofs.SolutionOf.{SolutionOf, solution_of}
use Rattle.grammar.proofs.Shallow.{Small, SmallAll, small}
use Rattle.grammar.proofs.TheTree.{the_tree_lem}
use Rattle.grammar.proofs.Raise.{depth-raise}
use Rattle.grammar.proofs.Raised.{binders-coded-raise, coded-raise}
use Rattle.judging.specs.Judge.{reads, judge_solution}
use Rattle.judging.proofs.Back.{solution-back}
use Rattle.flattening.specs.Uncurry.{uncurry, flattened}
use Rattle.flattening.proofs.FlatCoded.{uncurry-coded, uncurry-depth}

-- The words of a solution are judged to be it, where spans may end at the text's end or at any place behind it.
abbrev pub SolutionBack : List ℕ → Solution → Type 0
SolutionBack text s = (limit : ℕ) → length text ≤ limit → judge_solution limit (words_of (solution_items s)) ≡ reads s (length (words_of (solution_items s)))

-- So it is with a flattened solution, if it binds few enough numbers.
abbrev pub FlatBack : List ℕ → Solution → ℕ → Type 0
FlatBack text s n = n ≤ 2 ^ 64 → SolutionBack text (flattened s)

-- And so it is with its numbers raised by a count.
abbrev pub RaisedBack : List ℕ → Solution → ℕ → Type 0
RaisedBack text s n = (c : ℕ) → c + n ≤ 2 ^ 64 → SolutionBack text (raise_solution c (flattened s))

-- What is known of a solution, where spans may end at a limit: after flattening it is coded, and nests few enough expressions.
record CodedFlat (s : Solution) (m limit : ℕ) : Type 0 where
  params : BindersCoded s.params limit m
  body : Coded (uncurry s.body) limit m
  deep : depth (uncurry s.body) ≤ max_nodes

abbrev AnyLimit : List ℕ → Solution → ℕ → Type 0
AnyLimit text s m = (limit : ℕ) → length text ≤ limit → CodedFlat s m limit

module _ (text : List ℕ) where
  coded_from : (t : Tree) → TextTree text t → Post (parse_solution text t 0) (AnyLimit text)
  coded_from t i =
      map_post (parse_solution text t 0) (SolutionOf text Small t 0) (AnyLimit text)
      (λ s m a limit wide.
      let w = a.within limit (tree-wider t (length text) limit wide i.within) in
      record {
        params = subst (λ bs. BindersCoded bs limit m) (sym a.params) (a.binders.coded limit m 0 w.0 (omega (arith, a.body.rises)));
        body = uncurry-coded limit m s.body (a.body.coded limit w.1 (omega (arith, a.binders.even), tt));
        deep = omega (arith, uncurry-depth s.body, a.body.deep, a.nests, i.nests);
      })
      (solution_of text Small SmallAll (small text) t 0)

  coded-made : (tree : List ℕ) → Post (make_solution text tree 0) (AnyLimit text)
  unfolding make_solution
  coded-made tree = lifted_post (the_tree text tree) 0 _ (TextTree text) _ (the_tree_lem text tree) coded_from

  -- Every solution that a text is read as.
  pub flat_back : (tree : List ℕ) → Post (make_solution text tree 0) (FlatBack text)
  flat_back tree =
      map_post (make_solution text tree 0) (AnyLimit text) (FlatBack text)
      (λ s m h few limit wide. let k = h limit wide in solution-back limit m few (flattened s) k.params k.body k.deep) (coded-made tree)

  -- The same with its numbers raised.
  pub raised-back : (tree : List ℕ) → Post (make_solution text tree 0) (RaisedBack text)
  unfolding raise_solution
  raised-back tree =
      map_post (make_solution text tree 0) (AnyLimit text) (RaisedBack text)
      (λ s m h c few limit wide. let k = h limit wide in raised s m c few limit k.params k.body k.deep) (coded-made tree)
    where
      raised : (s : Solution) (m c : ℕ) → c + m ≤ 2 ^ 64 → (limit : ℕ) → BindersCoded s.params limit m → Coded (uncurry s.body) limit m → depth (uncurry s.body) ≤ max_nodes → judge_solution limit (words_of (solution_items (raise_solution c (flattened s)))) ≡ reads (raise_solution c (flattened s)) (length (words_of (solution_items (raise_solution c (flattened s)))))
      raised s m c few limit b e d =
          solution-back limit (c + m) few (raise_solution c (flattened s)) (binders-coded-raise c limit m s.params b) (coded-raise c limit m (uncurry s.body) e) (omega (arith, d, depth-raise c (uncurry s.body)))
