-- What holds of the solution that a tree is read as, before flattening.
use Prim.Native.Nat.{ℕ, suc, ◌+◌, ◌≤◌}
use mathlib.Core.Path.{◌≡◌, refl, sym, ap, ◌∙◌}
use mathlib.Core.List.{List, [], ◌∷◌}
use native.Mathlib.Omega.{arith}
use lib.Dec.{eqb}
use lib.ListN.{length}
use Rattle.reading.specs.Bytes.{Span}
use Rattle.reading.specs.Tree.{Tree, Trees, atom, list, tnil, tcons, trees, nesting, Within, weight}
use Rattle.reading.specs.Answer.{check, malformed}
use Rattle.grammar.specs.Sort.{Sort}
use Rattle.grammar.specs.Expr.{Expr, Exprs, Solution}
use Rattle.grammar.specs.ParseSort.{in_list, tree_at}
use Rattle.grammar.specs.Scope.{Scope, numbered, distinct}
use Rattle.grammar.specs.ParseExpr
use Rattle.grammar.specs.ParseExpr.{name_of}
use Rattle.grammar.specs.ParseSolution.{all_names, all_sorts, parse_solution}
use Rattle.grammar.proofs.AnswerHolds.{Post, Every, chain_post, lifted_post, any_post, then-every, any-every}
use Rattle.grammar.proofs.SortOf.{in_list_lem}
use Rattle.grammar.proofs.WalkKeeps.{BindersOf, Kept}
use Rattle.grammar.proofs.BindersOf.{BinderSort, SortsFrom, sorts-none, sorts-more, binders-made, sort_in_lem}
use Rattle.grammar.proofs.Walk.{child_of}

all-names : (ts : Trees) → Every (all_names ts) (λ ss. length ss ≡ trees ts)
unfolding all_names trees
all-names tnil = refl
all-names (tcons t ts) =
    any-every (name_of t) _ _ λ s.
    then-every (all_names ts) _ (λ ss. length ss ≡ trees ts) _ (all-names ts) λ ss e.
    ap suc e

module _ (text : List ℕ) where
  all-sorts : (ts : Trees) → Every (all_sorts text ts) (λ os. (length os ≡ trees ts) × SortsFrom ts os)
  unfolding all_sorts trees
  all-sorts tnil = (refl, sorts-none)
  all-sorts (tcons t ts) =
      then-every (ParseExpr.sort_in text t) _ (BinderSort t) _ (sort_in_lem text t) λ o p.
      then-every (all_sorts text ts) _ (λ os. (length os ≡ trees ts) × SortsFrom ts os) _ (all-sorts ts) λ os h.
      (ap suc h.0, sorts-more t ts o os p h.1)

  -- The trees of parameters and body, the parameters' names and sorts, and what is kept of the body.
  pub record SolutionOf (Inv : Tree → List Scope → ℕ → Expr → ℕ → Type 0) (t : Tree) (n : ℕ) (s : Solution) (m : ℕ) : Type 0 where
    pub names : List Span
    pub sorts : List Sort
    pub params_tree : Tree
    pub body_tree : Tree
    pub nests : suc (nesting body_tree) ≤ nesting t
    pub weighs : 2 + (weight params_tree + weight body_tree) ≤ weight t
    pub within : (limit : ℕ) → Within t limit → Within params_tree limit × Within body_tree limit
    pub params : s.params ≡ numbered n sorts
    pub binders : BindersOf params_tree names sorts
    pub body : Inv body_tree (record { names = names; first = n } ∷ []) (n + length sorts) s.body m

  module _ (Inv : Tree → List Scope → ℕ → Expr → ℕ → Type 0) (InvAll : Trees → List Scope → ℕ → Exprs → ℕ → Type 0) (kept : Kept text Inv InvAll) where
    pub solution_of : (t : Tree) (n : ℕ) → Post (parse_solution text t n) (SolutionOf Inv t n)
    unfolding parse_solution in_list tree_at trees nesting weight
    solution_of (atom a) n = tt
    solution_of (list tnil) n = tt
    solution_of (list (tcons a tnil)) n = tt
    solution_of (list (tcons a (tcons b tnil))) n = tt
    solution_of (list (tcons a (tcons b (tcons c us)))) n =
        any_post (check (eqb (suc (suc (suc (trees us)))) 3) malformed) n _ _ λ _.
        lifted_post (in_list b) n _ (λ ps. b ≡ list ps) _ (in_list_lem b) λ ps be.
        lifted_post (all_names ps) n _ (λ ss. length ss ≡ trees ps) _ (all-names ps) λ names en.
        lifted_post (all_sorts text ps) n _ (λ os. (length os ≡ trees ps) × SortsFrom ps os) _ (all-sorts ps) λ sorts so.
        let sc : List Scope = record { names = names; first = n } ∷ [] in
        let m₀ : ℕ = n + length sorts in
        chain_post ((ParseExpr.child text c).plainly sc m₀) _ (Inv c sc m₀) _ ((child_of text Inv InvAll kept c).plainly sc m₀) λ e m h.
        any_post (distinct text names) m _ _ λ _.
        record {
          names = names;
          sorts = sorts;
          params_tree = b;
          body_tree = c;
          nests = omega arith;
          weighs = omega arith;
          within = λ limit w. (w.1.0, w.1.1.0);
          params = refl;
          binders = rw be (binders-made ps names sorts (en ∙ sym so.0) so.1);
          body = h;
        }
