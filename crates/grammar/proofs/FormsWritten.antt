-- What each form of a list writes: the words of its head, then its operands, then what comes behind them.
use Prim.Native.Nat.{ℕ, zero, suc, ◌+◌}
use mathlib.Core.Path.{◌≡◌, refl, sym, ap, ap₂, ◌∙◌}
use mathlib.Core.Bool.{Bool, true, false, not}
use mathlib.Core.List.{List, [], ◌∷◌, ◌++◌, append_assoc, append-nil}
use lib.ListN.{length}
use Rattle.reading.specs.Pick.{pick}
use Rattle.reading.specs.Bytes.{Span, nothing, just}
use Rattle.reading.specs.Tree.{Tree, Trees, tnil, tcons, trees}
use Rattle.reading.specs.Answer.{check, malformed, repeated_name, Res, ok, no, chain, lifted}
use Rattle.grammar.specs.Sort.{Sort, sort_words}
use Rattle.grammar.specs.Item.{Item, raise, words_of}
use Rattle.grammar.specs.Expr.{Kind, k_exists, k_let_fresh, Expr, Exprs, node, app, one_of, enil, econs, exprs, expr_items, exprs_items, kind_items}
use Rattle.grammar.specs.Scope.{Scope, numbered, repeated, distinct}
use Rattle.grammar.specs.ParseExpr
use Rattle.grammar.specs.ParseExpr.{Child, child_at, nested_at, operands, node_form, call_form}
use Rattle.grammar.specs.Written.{W, expr_words, exprs_words, kind_words, told, told_all, ahead, after, behind, operands_w, no_last, bound_last, end_w}
use Rattle.grammar.proofs.Items.{words_append, words-front}
use Rattle.grammar.proofs.Raise.{raise_append, raise-front}
use Rattle.grammar.proofs.AnswerHolds.{Post, chain_post}

-- The words of two lists of raised items.
pub raised_append : (c : ℕ) (a b : List Item) → words_of (raise c (a ++ b)) ≡ words_of (raise c a) ++ words_of (raise c b)
raised_append c a b = ap words_of (raise_append c a b) ∙ words_append (raise c a) (raise c b)

pub ahead_nil : (x : W) → ahead [] x ≡ x
ahead_nil (ok ws n) = refl
ahead_nil (no r) = refl

pub ahead-ahead : (a b : List ℕ) (x : W) → ahead a (ahead b x) ≡ ahead (a ++ b) x
ahead-ahead a b (ok ws n) = ap (λ l. ok l n) (sym (append_assoc a b ws))
ahead-ahead a b (no r) = refl

pub after-done : (x : W) → after x (λ m. ok [] m) ≡ x
after-done (ok ws n) = ap (λ l. ok l n) (append-nil ws)
after-done (no r) = refl

-- As many expressions as operands that were wanted, and as many items as trees.
operands-count : (k : ℕ) (cs : List Child) (sc : List Scope) (n : ℕ) → Post (operands k cs sc n) (λ es m. exprs es ≡ k)
unfolding operands exprs
operands-count zero cs sc n = refl
operands-count (suc k) [] sc n = tt
operands-count (suc k) (x ∷ cs) sc n =
    chain_post (x.nested sc n) _ (λ _ _. Unit {0}) _ (any (x.nested sc n)) λ e m _.
    chain_post (operands k cs sc m) _ (λ es p. exprs es ≡ k) _ (operands-count k cs sc m) λ es p h.
    ap suc h
  where
    any : (r : Res Expr) → Post r (λ _ _. Unit {0})
    any (ok a m) = tt
    any (no r) = tt

pub children-count : (text : List ℕ) (ts : Trees) → length (ParseExpr.children text ts) ≡ trees ts
unfolding ParseExpr.child trees
children-count text tnil = refl
children-count text (tcons t ts) = ap suc (children-count text ts)

-- A let behind its name: the value is this tree, and the body the first of others.
abbrev pub let_behind : List ℕ → Span → Tree → Trees → List Scope → ℕ → Res Expr
let_behind text s t ts sc i =
    chain ((ParseExpr.child text t).nested sc i) (λ v m. chain (nested_at (ParseExpr.children text ts) 0 (record { names = s ∷ []; first = m } ∷ sc) (m + 1)) (λ b p. ok (node (k_let_fresh m) (econs v (one_of b))) p))

module _ (text : List ℕ) (c : ℕ) where
  -- So many operands, as the parser reads them.
  pub operands-told : (k : ℕ) (ts : Trees) (sc : List Scope) (n : ℕ) → told_all c (operands k (ParseExpr.children text ts) sc n) ≡ operands_w text c ts k sc n
  unfolding operands operands_w ParseExpr.child expr_items raise words_of
  operands-told zero ts sc n = refl
  operands-told (suc k) tnil sc n = refl
  operands-told (suc k) (tcons t ts) sc n = go ((ParseExpr.child text t).nested sc n) (λ m. operands-told k ts sc m)
    where
      rest_of : (e : Expr) (r : Res Exprs) → told_all c (chain r (λ es m. ok (econs e es) m)) ≡ ahead (expr_words c e) (told_all c r)
      rest_of e (ok es m) = ap (λ l. ok l m) (raised_append c (expr_items e) (exprs_items es))
      rest_of e (no r) = refl

      go : (x : Res Expr) → ((m : ℕ) → told_all c (operands k (ParseExpr.children text ts) sc m) ≡ operands_w text c ts k sc m)
          → told_all c (chain x (λ e m. chain (operands k (ParseExpr.children text ts) sc m) (λ es p. ok (econs e es) p))) ≡ after (told c x) (λ m. operands_w text c ts k sc m)
      go (ok e m) ih = rest_of e (operands k (ParseExpr.children text ts) sc m) ∙ ap (ahead (expr_words c e)) (ih m)
      go (no r) ih = refl

  -- One item, as an operand.
  pub one_told : (ts : Trees) (sc : List Scope) (n : ℕ) → told c (nested_at (ParseExpr.children text ts) 0 sc n) ≡ operands_w text c ts 1 sc n
  unfolding nested_at child_at operands_w ParseExpr.child
  one_told tnil sc n = refl
  one_told (tcons t ts) sc n = sym (after-done (told c ((ParseExpr.child text t).nested sc n)))

  -- A kind with so many operands behind the first item.
  pub node-told : (k : Kind) (n : ℕ) (t : Tree) (ts : Trees) (sc : List Scope) (i : ℕ) → told c (node_form k n (ParseExpr.children text (tcons t ts)) sc i) ≡ ahead (kind_words c k n) (operands_w text c ts n sc i)
  unfolding node_form ParseExpr.child expr_items
  node-told k n t ts sc i =
      go (operands n (ParseExpr.children text ts) sc i) (operands-count n (ParseExpr.children text ts) sc i) ∙ ap (ahead (kind_words c k n)) (operands-told n ts sc i)
    where
      go : (r : Res Exprs) → Post r (λ es m. exprs es ≡ n) → told c (chain r (λ es m. ok (node k es) m)) ≡ ahead (kind_words c k n) (told_all c r)
      go (ok es m) e = ap (λ l. ok l m) (ap (λ j. words_of (raise c (kind_items k j ++ exprs_items es))) e ∙ raised_append c (kind_items k n) (exprs_items es))
      go (no r) e = refl

  -- An application: the arguments, then the head.
  pub call-told : (t : Tree) (ts : Trees) (sc : List Scope) (i : ℕ)
      → told c (call_form (ParseExpr.children text (tcons t ts)) sc i) ≡ ahead (38 ∷ 0 ∷ trees ts ∷ []) (after (operands_w text c ts (trees ts) sc i) (λ m. told c ((ParseExpr.child text t).nested sc m)))
  unfolding call_form nested_at child_at ParseExpr.child expr_items raise words_of
  call-told t ts sc i =
      ap (λ j. told c (chain (operands j (ParseExpr.children text ts) sc i) (λ es m. chain ((ParseExpr.child text t).nested sc m) (λ h p. ok (app nothing es h) p)))) (children-count text ts)
      ∙ go (operands (trees ts) (ParseExpr.children text ts) sc i) (operands-count (trees ts) (ParseExpr.children text ts) sc i)
      ∙ ap (λ x. ahead (38 ∷ 0 ∷ trees ts ∷ []) (after x (λ m. told c ((ParseExpr.child text t).nested sc m)))) (operands-told (trees ts) ts sc i)
    where
      head_of : (es : Exprs) (e : exprs es ≡ trees ts) (x : Res Expr) → told c (chain x (λ h p. ok (app nothing es h) p)) ≡ ahead (38 ∷ 0 ∷ trees ts ∷ []) (ahead (exprs_words c es) (told c x))
      head_of es e (ok h p) = ap (λ l. ok l p) (ap₂ (λ (j : ℕ) (l : List ℕ). 38 ∷ 0 ∷ j ∷ l) e (raised_append c (exprs_items es) (expr_items h)))
      head_of es e (no r) = refl

      go : (r : Res Exprs) → Post r (λ es m. exprs es ≡ trees ts) → told c (chain r (λ es m. chain ((ParseExpr.child text t).nested sc m) (λ h p. ok (app nothing es h) p))) ≡ ahead (38 ∷ 0 ∷ trees ts ∷ []) (after (told_all c r) (λ m. told c ((ParseExpr.child text t).nested sc m)))
      go (ok es m) e = head_of es e ((ParseExpr.child text t).nested sc m)
      go (no r) e = refl

  -- `((as apply SORT) f ..)`, its sort being o.
  pub as_told : (o : Sort) (ts : Trees) (sc : List Scope) (i : ℕ)
      → told c (chain (nested_at (ParseExpr.children text ts) 0 sc i) (λ e m. ok (app (just o) enil e) m)) ≡ ahead (38 ∷ 1 ∷ 0 ∷ sort_words o) (operands_w text c ts 1 sc i)
  unfolding expr_items raise words_of exprs
  as_told o ts sc i = go (nested_at (ParseExpr.children text ts) 0 sc i) ∙ ap (ahead (38 ∷ 1 ∷ 0 ∷ sort_words o)) (one_told ts sc i)
    where
      go : (x : Res Expr) → told c (chain x (λ e m. ok (app (just o) enil e) m)) ≡ ahead (38 ∷ 1 ∷ 0 ∷ sort_words o) (told c x)
      go (ok e m) = ap (λ l. ok (38 ∷ 1 ∷ 0 ∷ l) m) (ap words_of (raise-front c (sort_words o) (expr_items e)) ∙ words-front (sort_words o) (raise c (expr_items e)))
      go (no r) = refl

  -- `(exists (binders) body)`, behind its binders: they take numbers from i on.
  pub exists-told : (names : List Span) (sorts : List Sort) (ts : Trees) (sc : List Scope) (i : ℕ)
      → told c (chain (nested_at (ParseExpr.children text ts) 0 (record { names = names; first = i } ∷ sc) (i + length sorts)) (λ e m. chain (lifted (distinct text names) m) (λ _ p. ok (node (k_exists (numbered i sorts)) (one_of e)) p)))
      ≡ ahead (kind_words c (k_exists (numbered i sorts)) 1) (after (operands_w text c ts 1 (record { names = names; first = i } ∷ sc) (i + length sorts)) (λ m. end_w text c no_last (record { names = names; first = i } ∷ sc) names m))
  unfolding expr_items exprs distinct end_w pick raise words_of
  exists-told names sorts ts sc i =
      go (nested_at (ParseExpr.children text ts) 0 (record { names = names; first = i } ∷ sc) (i + length sorts))
      ∙ ap (λ x. ahead (kind_words c (k_exists (numbered i sorts)) 1) (after x (λ m. end_w text c no_last (record { names = names; first = i } ∷ sc) names m))) (one_told ts (record { names = names; first = i } ∷ sc) (i + length sorts))
    where
      k : Kind
      k = k_exists (numbered i sorts)

      last : (e : Expr) (m : ℕ) (b : Bool) → told c (chain (lifted (check (not b) repeated_name) m) (λ _ p. ok (node k (one_of e)) p)) ≡ ahead (kind_words c k 1) (ahead (expr_words c e) (pick b (no repeated_name) (ok [] m)))
      last e m true = refl
      last e m false =
          ap (λ l. ok l m) (raised_append c (kind_items k 1) (expr_items e ++ []) ∙ ap (λ l. kind_words c k 1 ++ l) (raised_append c (expr_items e) []))

      go : (x : Res Expr) → told c (chain x (λ e m. chain (lifted (distinct text names) m) (λ _ p. ok (node k (one_of e)) p))) ≡ ahead (kind_words c k 1) (after (told c x) (λ m. end_w text c no_last (record { names = names; first = i } ∷ sc) names m))
      go (ok e m) = last e m (repeated text names)
      go (no r) = refl

  -- `(let (name value) body)`, behind its name: the value is an operand, the body comes behind it with the name bound to the number between
  -- them, and that number is written in front of both.
  pub let-told : (s : Span) (t b : Tree) (us : Trees) (sc : List Scope) (i : ℕ)
      → told c (let_behind text s t (tcons b us) sc i)
      ≡ behind (operands_w text c (tcons t tnil) 1 sc i) (λ m. kind_words c (k_let_fresh m) 2) (λ m. end_w text c (bound_last s b) sc [] m)
  unfolding expr_items exprs operands_w end_w nested_at child_at ParseExpr.child
  let-told s t b us sc i = go ((ParseExpr.child text t).nested sc i)
    where
      body : (v : Expr) (m : ℕ) (x : Res Expr) → told c (chain x (λ e p. ok (node (k_let_fresh m) (econs v (one_of e))) p)) ≡ ahead (kind_words c (k_let_fresh m) 2) (ahead (expr_words c v) (told c x))
      body v m (ok e p) =
          ap (λ l. ok l p) (raised_append c (kind_items (k_let_fresh m) 2) (expr_items v ++ (expr_items e ++ [])) ∙ ap (λ l. kind_words c (k_let_fresh m) 2 ++ l) (raised_append c (expr_items v) (expr_items e ++ []) ∙ ap (λ its. expr_words c v ++ words_of (raise c its)) (append-nil (expr_items e))))
      body v m (no r) = refl

      go : (x : Res Expr)
          → told c (chain x (λ v m. chain ((ParseExpr.child text b).nested (record { names = s ∷ []; first = m } ∷ sc) (m + 1)) (λ e p. ok (node (k_let_fresh m) (econs v (one_of e))) p)))
          ≡ behind (after (told c x) (λ m. ok [] m)) (λ m. kind_words c (k_let_fresh m) 2) (λ m. end_w text c (bound_last s b) sc [] m)
      go (ok v m) = rw (append-nil (expr_words c v)) (body v m ((ParseExpr.child text b).nested (record { names = s ∷ []; first = m } ∷ sc) (m + 1)))
      go (no r) = refl

  -- Without a body it is refused behind its value.
  pub let-short : (s : Span) (t : Tree) (sc : List Scope) (i : ℕ) → told c (let_behind text s t tnil sc i) ≡ operands_w text c (tcons t tnil) 2 sc i
  unfolding operands_w nested_at child_at ParseExpr.child
  let-short s t sc i = go ((ParseExpr.child text t).nested sc i)
    where
      go : (x : Res Expr)
          → told c (chain x (λ v m. chain (nested_at [] 0 (record { names = s ∷ []; first = m } ∷ sc) (m + 1)) (λ e p. ok (node (k_let_fresh m) (econs v (one_of e))) p)))
          ≡ after (told c x) (λ m. no malformed)
      go (ok v m) = refl
      go (no r) = refl

  -- `is$`, its operand being e.
  pub ctor-told : (k : Kind) (x : Res Expr) → told c (chain x (λ e m. ok (node k (one_of e)) m)) ≡ ahead (kind_words c k 1) (told c x)
  unfolding expr_items exprs
  ctor-told k (ok e m) = ap (λ l. ok l m) (raised_append c (kind_items k 1) (expr_items e ++ []) ∙ ap (λ its. kind_words c k 1 ++ words_of (raise c its)) (append-nil (expr_items e)))
  ctor-told k (no r) = refl
