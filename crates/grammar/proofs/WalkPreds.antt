-- The same walk over the parser of predicates.
use Prim.Native.Nat.{ℕ, suc}
use mathlib.Core.Path.{◌≡◌, refl, sym, ap, subst}
use mathlib.Core.List.{List, [], ◌∷◌, ◌++◌}
use lib.Dec.{ltb}
use lib.ListN.{length}
use Rattle.reading.specs.Pick.{pick}
use Rattle.reading.specs.Bytes.{ascii, same_bytes, begins_with, Span, bytes_at}
use Rattle.reading.specs.Tree.{symbol, quoted, integer, decimal, boolean, Tree, Trees, atom, list, tnil, tcons, trees}
use Rattle.reading.specs.Answer.{check, malformed}
use Rattle.reading.proofs.Picks.{pick-holds}
use Rattle.grammar.specs.ParseSort.{in_symbol}
use Rattle.grammar.specs.Expr.{VarName, Expr, Exprs, Pred, kvar, expr}
use Rattle.grammar.specs.Scope.{Scope}
use Rattle.grammar.specs.ParseExpr
use Rattle.grammar.specs.ParseExpr.{P, Child, child_at, through, each_pred, symbols, kvar_form, expr_pred, atom_child}
use Rattle.grammar.proofs.AnswerHolds.{Post, Every, chain_post, lifted_post, any_post, then-every, any-every, map_post}
use Rattle.grammar.proofs.WalkKeeps.{Kept}
use Rattle.grammar.proofs.Walk.{ChildOf, ChildrenOf, child_of, children_of}

-- What is to be kept of predicates: that are read from a tree, taking the numbers from n up to m; that are read from all of these trees.
pub record KeptPreds (Inv : Tree → List Scope → ℕ → Expr → ℕ → Type 0) (InvPreds : Tree → ℕ → List Pred → ℕ → Type 0) (InvPredsAll : Trees → ℕ → List Pred → ℕ → Type 0) : Type 0 where
  pub on_expr : (t : Tree) (n m : ℕ) (e : Expr) → Inv t [] n e m → InvPreds t n (expr e ∷ []) m
  pub on_kvar : (s : Span) (ts : Trees) (n : ℕ) (xs : List VarName) → length xs ≡ trees ts → InvPreds (list (tcons (atom (symbol s)) ts)) n (kvar (record { span = s }) xs ∷ []) n
  pub on_and : (t : Tree) (ts : Trees) (n m : ℕ) (ps : List Pred) → InvPredsAll ts n ps m → InvPreds (list (tcons t ts)) n ps m
  pub none : (n : ℕ) → InvPredsAll tnil n [] n
  pub more : (t : Tree) (ts : Trees) (n m p : ℕ) (ps qs : List Pred) → InvPreds t n ps m → InvPredsAll ts m qs p → InvPredsAll (tcons t ts) n (ps ++ qs) p

module _ (text : List ℕ) (Inv : Tree → List Scope → ℕ → Expr → ℕ → Type 0) (InvAll : Trees → List Scope → ℕ → Exprs → ℕ → Type 0) (kept : Kept text Inv InvAll)
    (InvPreds : Tree → ℕ → List Pred → ℕ → Type 0) (InvPredsAll : Trees → ℕ → List Pred → ℕ → Type 0) (keptPreds : KeptPreds Inv InvPreds InvPredsAll) where
  abbrev Children : Trees → List Child → Type 0
  Children ts cs = ChildrenOf text Inv InvAll kept ts cs

  -- what the predicates of each item keep
  abbrev PredsOf : Trees → List Child → Type 0
  PredsOf tnil [] = Unit {0}
  PredsOf tnil (c ∷ cs) = ⊥
  PredsOf (tcons t ts) [] = ⊥
  PredsOf (tcons t ts) (c ∷ cs) = ((n : ℕ) → Post (c.preds n) (InvPreds t n)) × PredsOf ts cs

  each_pred_lem : (ts : Trees) (cs : List Child) → PredsOf ts cs → (n : ℕ) → Post (each_pred cs n) (InvPredsAll ts n)
  unfolding each_pred
  each_pred_lem tnil [] h n = keptPreds.none n
  each_pred_lem tnil (c ∷ cs) h n = absurd h
  each_pred_lem (tcons t ts) [] h n = absurd h
  each_pred_lem (tcons t ts) (c ∷ cs) h n =
      chain_post (c.preds n) _ (InvPreds t n) _ (h.0 n) λ ps m p.
      chain_post (each_pred cs m) _ (InvPredsAll ts m) _ (each_pred_lem ts cs h.1 m) λ qs k q.
      keptPreds.more t ts n m k ps qs p q

  all-symbols : (ts : Trees) (cs : List Child) → Children ts cs → Every (symbols cs) (λ xs. length xs ≡ trees ts)
  unfolding symbols trees
  all-symbols tnil [] h = refl
  all-symbols tnil (c ∷ cs) h = absurd h
  all-symbols (tcons t ts) [] h = absurd h
  all-symbols (tcons t ts) (c ∷ cs) h =
      any-every (in_symbol c.tree) _ _ λ s.
      then-every (symbols cs) _ (λ xs. length xs ≡ trees ts) _ (all-symbols ts cs h.1) λ xs e.
      ap suc e

  expr-pred : (t : Tree) (p : P) → ((sc : List Scope) (n : ℕ) → Post (p sc n) (Inv t sc n)) → (n : ℕ) → Post (expr_pred p n) (InvPreds t n)
  unfolding expr_pred
  expr-pred t p k n = chain_post (p [] n) _ (Inv t [] n) _ (k [] n) λ e m q. keptPreds.on_expr t n m e q

  kvar-pred : (s : Span) (ts : Trees) (c : Child) (cs : List Child) → Children ts cs → (n : ℕ) → Post (kvar_form s (c ∷ cs) n) (InvPreds (list (tcons (atom (symbol s)) ts)) n)
  unfolding kvar_form
  kvar-pred s ts c cs h n =
      any_post (check (ltb 1 (suc (length cs))) malformed) n _ _ λ _.
      lifted_post (symbols cs) n _ (λ xs. length xs ≡ trees ts) _ (all-symbols ts cs h) λ xs e.
      keptPreds.on_kvar s ts n xs e

  headed-preds : (t : Tree) (ts : Trees) (c : Child) (cs : List Child) (p : P) → Children ts cs → PredsOf ts cs → ((sc : List Scope) (n : ℕ) → Post (p sc n) (Inv (list (tcons t ts)) sc n)) → (n : ℕ) → Post (ParseExpr.headed_preds text t (c ∷ cs) p n) (InvPreds (list (tcons t ts)) n)
  unfolding ParseExpr.headed_preds ParseExpr.atom_preds ParseExpr.symbol_preds
  headed-preds (atom (symbol s)) ts c cs p h g k n =
      pick-holds (same_bytes (bytes_at text s) (ascii "and")) (each_pred cs) (pick (begins_with (ascii "$") (bytes_at text s)) (kvar_form s (c ∷ cs)) (expr_pred p)) (λ m. Post (m n) (InvPreds (list (tcons (atom (symbol s)) ts)) n))
      (chain-and ts cs g n)
      (pick-holds (begins_with (ascii "$") (bytes_at text s)) (kvar_form s (c ∷ cs)) (expr_pred p) (λ m. Post (m n) (InvPreds (list (tcons (atom (symbol s)) ts)) n)) (kvar-pred s ts c cs h n) (expr-pred (list (tcons (atom (symbol s)) ts)) p k n))
    where
      chain-and : (us : Trees) (ds : List Child) → PredsOf us ds → (i : ℕ) → Post (each_pred ds i) (InvPreds (list (tcons (atom (symbol s)) us)) i)
      chain-and us ds g i = map_post (each_pred ds i) (InvPredsAll us i) _ (λ ps m q. keptPreds.on_and (atom (symbol s)) us i m ps q) (each_pred_lem us ds g i)
  headed-preds (atom (quoted s)) ts c cs p h g k n = expr-pred (list (tcons (atom (quoted s)) ts)) p k n
  headed-preds (atom (integer w)) ts c cs p h g k n = expr-pred (list (tcons (atom (integer w)) ts)) p k n
  headed-preds (atom (decimal s)) ts c cs p h g k n = expr-pred (list (tcons (atom (decimal s)) ts)) p k n
  headed-preds (atom (boolean b)) ts c cs p h g k n = expr-pred (list (tcons (atom (boolean b)) ts)) p k n
  headed-preds (list us) ts c cs p h g k n = expr-pred (list (tcons (list us) ts)) p k n

  list-preds : (ts : Trees) (cs : List Child) (p : P) → Children ts cs → PredsOf ts cs → ((sc : List Scope) (n : ℕ) → Post (p sc n) (Inv (list ts) sc n)) → (n : ℕ) → Post (ParseExpr.list_preds text cs p n) (InvPreds (list ts) n)
  unfolding ParseExpr.list_preds child_at
  list-preds tnil [] p h g k n = tt
  list-preds tnil (c ∷ cs) p h g k n = absurd h
  list-preds (tcons t ts) [] p h g k n = absurd h
  list-preds (tcons t ts) (c ∷ cs) p h g k n =
      subst (λ (u : Tree). Post (ParseExpr.headed_preds text u (c ∷ cs) p n) (InvPreds (list (tcons t ts)) n)) (sym h.0.tree) (headed-preds t ts c cs p h.1 g.1 k n)

  list-child : (ts : Trees) (cs : List Child) → Children ts cs → PredsOf ts cs → ChildOf text Inv InvAll kept (list ts) (ParseExpr.list_child text ts cs) → (n : ℕ) → Post ((ParseExpr.list_child text ts cs).preds n) (InvPreds (list ts) n)
  unfolding ParseExpr.list_child
  list-child ts cs h g k n = list-preds ts cs (through cs (ParseExpr.list_expr text cs)) h g k.nested n

  mutual
    unfolding ParseExpr.child atom_child

    pub preds_of : (t : Tree) (n : ℕ) → Post ((ParseExpr.child text t).preds n) (InvPreds t n)
    preds_of (atom a) n = tt
    preds_of (list ts) n = list-child ts (ParseExpr.children text ts) (children_of text Inv InvAll kept ts) (all-preds ts) (child_of text Inv InvAll kept (list ts)) n

    all-preds : (ts : Trees) → PredsOf ts (ParseExpr.children text ts)
    all-preds tnil = tt
    all-preds (tcons t ts) = (λ n. preds_of t n, all-preds ts)
