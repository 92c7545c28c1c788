-- What holds of every kind that the parser makes holds of each node of what is read: expressions, binds and solutions.
use Prim.Native.Nat.{ℕ, ◌^◌}
use mathlib.Core.Path.{◌≡◌, subst}
use mathlib.Core.Bool.{Bool}
use mathlib.Core.List.{List, [], ◌∷◌, ◌++◌}
use lib.Dec.{ltb}
use Rattle.reading.specs.Bytes.{Span, bytes_at, Maybe, nothing, just, lookup}
use Rattle.reading.specs.Number.{Wide, value_of, minus_of}
use Rattle.reading.specs.Tree.{Tree, Trees}
use Rattle.reading.specs.Answer.{and_then, Res, ok}
use Rattle.reading.proofs.Picks.{pick-holds}
use Rattle.grammar.specs.ParseSort.{in_list, in_symbol, tree_at, parse_sort}
use Rattle.grammar.specs.Expr.{VarName, Binder, Kind, k_num, k_bool, k_str, k_fresh, k_named, k_neg, k_theory, k_exists, k_let_fresh, Expr, node, leaf, one_of, EachKind, EachKindAll, Pred, kvar, expr, PredsHold, Bind, Solution}
use Rattle.grammar.specs.Names.{theory}
use Rattle.grammar.specs.Scope
use Rattle.grammar.specs.Scope.{Scope, numbered, var_of}
use Rattle.grammar.specs.ParseExpr
use Rattle.grammar.specs.ParseExpr.{numeral}
use Rattle.grammar.specs.ParseBind.{parse_bind}
use Rattle.grammar.specs.ParseSolution.{parse_solution}
use Rattle.grammar.proofs.AnswerHolds.{Post, chain_post, any_post, map_post}
use Rattle.grammar.proofs.WalkKeeps.{PlainKind, Kept}
use Rattle.grammar.proofs.Walk.{child_of}
use Rattle.grammar.proofs.WalkPreds.{KeptPreds, preds_of}
use Rattle.grammar.proofs.SolutionOf.{SolutionOf, solution_of}

-- What holds of every answer holds of this one.
pub holds : {A : Type 0} (Q : A → ℕ → Type 0) (r : Res A) (a : A) (m : ℕ) → r ≡ ok a m → Post r Q → Q a m
holds Q r a m e h = subst (λ x. Post x Q) e h

append_hold : (P : Expr → Type 0) (ps qs : List Pred) → PredsHold P ps → PredsHold P qs → PredsHold P (ps ++ qs)
append_hold P [] qs p q = q
append_hold P (kvar k xs ∷ ps) qs p q = append_hold P ps qs p q
append_hold P (expr e ∷ ps) qs p q = (p.0, append_hold P ps qs p.1 q)

-- What holds of each kind that the parser makes.
pub record KindsMade (P : Kind → Type 0) : Type 0 where
  pub string : (s : Span) → P (k_str s)
  pub number : (w : Wide) → P (k_num w)
  pub boolean : (b : Bool) → P (k_bool b)
  pub minus : P k_neg
  pub named : (x : VarName) → P (k_named x)
  pub fresh : (k : ℕ) → P (k_fresh k)
  pub theory : (k : ℕ) → P (k_theory k)
  pub exists : (bs : List Binder) → P (k_exists bs)
  pub lets : (k : ℕ) → P (k_let_fresh k)
  pub plain : (ts : Trees) (k : Kind) → PlainKind ts k → P k

module _ (text : List ℕ) (P : Kind → Type 0) (made : KindsMade P) where
  on-symbol : (s : Span) (sc : List Scope) → EachKind P (Scope.symbol_expr text s sc)
  unfolding Scope.symbol_expr
  on-symbol s sc = go (lookup theory (bytes_at text s))
    where
      named_or : (m : Maybe ℕ) → EachKind P (Scope.or_named text s m)
      named_or nothing = (made.named (var_of s), tt)
      named_or (just j) = (made.fresh j, tt)

      go : (m : Maybe ℕ) → EachKind P (Scope.or_variable text s sc m)
      go (just k) = (made.theory k, tt)
      go nothing = named_or (Scope.number_in text s sc)

  on-integer : (w : Wide) → EachKind P (numeral w)
  unfolding numeral
  on-integer w =
      pick-holds (ltb (value_of w) (2 ^ 127)) (leaf (k_num w)) (node k_neg (one_of (leaf (k_num (minus_of w))))) (EachKind P) (made.number w, tt) (made.minus, ((made.number (minus_of w), tt), tt))

  kept : Kept text (λ t sc n e m. EachKind P e) (λ ts sc n es m. EachKindAll P es)
  kept =
      record {
        on_symbol = λ s sc n. on-symbol s sc;
        on_quoted = λ s sc n. (made.string s, tt);
        on_integer = λ w sc n. on-integer w;
        on_boolean = λ b sc n. (made.boolean b, tt);
        none = λ ts sc n. tt;
        more = λ t ts sc n m p e es h k. (h, k);
        skip = λ t ts sc n m es h. h;
        item = λ ts sc n m e h. h.0;
        on_node = λ ts sc n m k es p a h. (made.plain ts k p, h);
        on_call = λ t ts sc n m p es h x y. (x, y);
        on_as = λ t ts sc n m o e s h. (tt, h.0);
        on_exists = λ s v ts sc n m names sorts e b h. (made.exists (numbered n sorts), h);
        on_let = λ s u ts sc n m p x v b l g h. (made.lets m, (g, h));
      }

  preds : KeptPreds (λ t sc n e m. EachKind P e) (λ t n ps m. PredsHold (EachKind P) ps) (λ ts n ps m. PredsHold (EachKind P) ps)
  preds =
      record {
        on_expr = λ t n m e h. (h, tt);
        on_kvar = λ s ts n xs l. tt;
        on_and = λ t ts n m ps h. h;
        none = λ n. tt;
        more = λ t ts n m p ps qs h k. append_hold (EachKind P) ps qs h k;
      }

  bind_post : (t : Tree) (n : ℕ) → Post (parse_bind text t n) (λ b m. PredsHold (EachKind P) b.preds)
  unfolding parse_bind
  bind_post t n =
      any_post (in_list t) n _ _ λ ts.
      any_post (and_then (tree_at ts 0) in_list) n _ _ λ pair.
      any_post (and_then (tree_at pair 0) in_symbol) n _ _ λ s.
      any_post (and_then (tree_at pair 1) (parse_sort text)) n _ _ λ o.
      any_post (tree_at ts 1) n _ _ λ p.
      chain_post ((ParseExpr.child text p).preds n) _ (λ ps m. PredsHold (EachKind P) ps) _ (preds_of text (λ t sc n e m. EachKind P e) (λ ts sc n es m. EachKindAll P es) kept (λ t n ps m. PredsHold (EachKind P) ps) (λ ts n ps m. PredsHold (EachKind P) ps) preds p n) λ ps m h.
      h

  pub solution_post : (t : Tree) (n : ℕ) → Post (parse_solution text t n) (λ s m. EachKind P s.body)
  solution_post t n =
      map_post (parse_solution text t n) (SolutionOf text (λ t sc n e m. EachKind P e) t n) _ (λ s m h. h.body) (solution_of text (λ t sc n e m. EachKind P e) (λ ts sc n es m. EachKindAll P es) kept t n)

  -- Expressions, binds and solutions.
  pub expr_so : (t : Tree) (n m : ℕ) (e : Expr) → ParseExpr.parse_expr text t n ≡ ok e m → EachKind P e
  unfolding ParseExpr.parse_expr
  expr_so t n m e q = holds (λ x k. EachKind P x) (ParseExpr.parse_expr text t n) e m q ((child_of text (λ t sc n e m. EachKind P e) (λ ts sc n es m. EachKindAll P es) kept t).plainly [] n)

  pub bind_so : (t : Tree) (n m : ℕ) (b : Bind) → parse_bind text t n ≡ ok b m → PredsHold (EachKind P) b.preds
  bind_so t n m b q = holds (λ x k. PredsHold (EachKind P) x.preds) (parse_bind text t n) b m q (bind_post t n)

  pub solution_so : (t : Tree) (n m : ℕ) (s : Solution) → parse_solution text t n ≡ ok s m → EachKind P s.body
  solution_so t n m s q = holds (λ x k. EachKind P x.body) (parse_solution text t n) s m q (solution_post t n)
