-- What a walk over the parser of expressions keeps, form by form.
use Prim.Native.Nat.{ℕ, ◌+◌, ◌*◌, ◌≤◌}
use mathlib.Core.Path.{◌≡◌}
use mathlib.Core.Bool.{Bool}
use mathlib.Core.List.{List, [], ◌∷◌}
use lib.ListN.{length}
use Rattle.reading.specs.Bytes.{Span, nothing, just}
use Rattle.reading.specs.Number.{Wide}
use Rattle.reading.specs.Tree.{symbol, quoted, integer, boolean, Tree, Trees, atom, list, tcons, nesting, Within, AllWithin, weight}
use Rattle.grammar.specs.Sort.{Sort}
use Rattle.grammar.specs.Item.{words_of, used, bound}
use Rattle.grammar.specs.Expr.{Kind, k_bool, k_str, k_exists, k_let_fresh, Expr, Exprs, node, app, leaf, one_of, enil, econs, exprs, kind_items, binder_items}
use Rattle.grammar.specs.Scope.{Scope, numbered, symbol_expr}
use Rattle.grammar.specs.ParseExpr.{numeral}
use Rattle.grammar.specs.Shape.{BindersCoded, HasOperands, KindCoded, opens_scope}
use Rattle.grammar.specs.Literals.{LiteralFits}
use Rattle.grammar.specs.Lets.{names_of, NoNamedLet}
use Rattle.grammar.proofs.SortOf.{SortOf}

-- A kind that binds and uses no fresh number and is no variable, and whose fields come from these trees; a literal is below 2^width, and a
-- let is none of a name.
pub record PlainKind (ts : Trees) (k : Kind) : Type 0 where
  pub uses : (n : ℕ) → used (kind_items k n) ≡ []
  pub binds : (n : ℕ) → bound (kind_items k n) ≡ []
  pub opens : opens_scope k ≡ 0
  pub coded : (limit numbers : ℕ) → AllWithin ts limit → KindCoded k limit numbers
  pub size : (n : ℕ) → length (words_of (kind_items k n)) ≤ 6
  pub fits : LiteralFits k
  pub named : names_of k ≡ []
  pub made : NoNamedLet k

-- The names and sorts of binders that are read from a tree.
pub record BindersOf (t : Tree) (names : List Span) (sorts : List Sort) : Type 0 where
  pub even : length names ≡ length sorts
  pub coded : (limit numbers k : ℕ) → Within t limit → k + length sorts ≤ numbers → BindersCoded (numbered k sorts) limit numbers
  pub size : (k : ℕ) → length (words_of (binder_items (numbered k sorts))) + length sorts ≤ 15 * weight t
  pub few : length sorts ≤ weight t
  pub nests : 1 ≤ nesting t

-- What is to be kept: of an expression that is read from a tree under scopes, taking the numbers from n up to m; of several that are read
-- from some of these trees, in order; and of predicates.
module _ (text : List ℕ) where
  pub record Kept (Inv : Tree → List Scope → ℕ → Expr → ℕ → Type 0) (InvAll : Trees → List Scope → ℕ → Exprs → ℕ → Type 0) : Type 0 where
    pub on_symbol : (s : Span) (sc : List Scope) (n : ℕ) → Inv (atom (symbol s)) sc n (symbol_expr text s sc) n
    pub on_quoted : (s : Span) (sc : List Scope) (n : ℕ) → Inv (atom (quoted s)) sc n (leaf (k_str s)) n
    pub on_integer : (w : Wide) (sc : List Scope) (n : ℕ) → Inv (atom (integer w)) sc n (numeral w) n
    pub on_boolean : (b : Bool) (sc : List Scope) (n : ℕ) → Inv (atom (boolean b)) sc n (leaf (k_bool b)) n
    pub none : (ts : Trees) (sc : List Scope) (n : ℕ) → InvAll ts sc n enil n
    pub more : (t : Tree) (ts : Trees) (sc : List Scope) (n m p : ℕ) (e : Expr) (es : Exprs) → Inv t sc n e m → InvAll ts sc m es p → InvAll (tcons t ts) sc n (econs e es) p
    pub skip : (t : Tree) (ts : Trees) (sc : List Scope) (n m : ℕ) (es : Exprs) → InvAll ts sc n es m → InvAll (tcons t ts) sc n es m
    pub item : (ts : Trees) (sc : List Scope) (n m : ℕ) (e : Expr) → InvAll ts sc n (one_of e) m → Inv (list ts) sc n e m
    pub on_node : (ts : Trees) (sc : List Scope) (n m : ℕ) (k : Kind) (es : Exprs) → PlainKind ts k → HasOperands k (exprs es) → InvAll ts sc n es m → Inv (list ts) sc n (node k es) m
    pub on_call : (t : Tree) (ts : Trees) (sc : List Scope) (n m p : ℕ) (es : Exprs) (h : Expr) → InvAll ts sc n es m → Inv t sc m h p → Inv (list (tcons t ts)) sc n (app nothing es h) p
    pub on_as : (t : Tree) (ts : Trees) (sc : List Scope) (n m : ℕ) (o : Sort) (e : Expr) → SortOf t o → InvAll ts sc n (one_of e) m → Inv (list (tcons t ts)) sc n (app (just o) enil e) m
    pub on_exists : (s v : Tree) (ts : Trees) (sc : List Scope) (n m : ℕ) (names : List Span) (sorts : List Sort) (e : Expr) → BindersOf v names sorts → InvAll ts (record { names = names; first = n } ∷ sc) (n + length sorts) (one_of e) m
        → Inv (list (tcons s (tcons v ts))) sc n (node (k_exists (numbered n sorts)) (one_of e)) m
    pub on_let : (s u : Tree) (ts : Trees) (sc : List Scope) (n m p : ℕ) (x : Span) (v b : Expr) → 1 ≤ nesting u → Inv u sc n v m → InvAll ts (record { names = x ∷ []; first = m } ∷ sc) (m + 1) (one_of b) p
        → Inv (list (tcons s (tcons u ts))) sc n (node (k_let_fresh m) (econs v (one_of b))) p
