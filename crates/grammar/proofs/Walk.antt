-- One walk over the parser of expressions: what its forms keep holds of every expression that it builds.
use Prim.Native.Nat.{ℕ, zero, suc, ◌+◌, ◌-◌, ◌≤◌}
use mathlib.Core.Path.{◌≡◌, refl, sym, ap, subst, ◌∙◌}
use mathlib.Core.List.{List, [], ◌∷◌}
use native.Mathlib.Omega.{arith}
use lib.Dec.{eqb}
use lib.ListN.{length}
use Rattle.reading.specs.Bytes.{ascii, begins_with, Span, bytes_at, lookup}
use Rattle.reading.specs.Number.{wide_of}
use Rattle.reading.specs.Tree.{Atom, symbol, quoted, integer, decimal, boolean, Tree, Trees, atom, list, tnil, tcons, nesting}
use Rattle.reading.specs.Answer.{check, malformed, chain, lifted}
use Rattle.reading.proofs.Bytes.{begins-length, bytes-length}
use Rattle.reading.proofs.Picks.{pick-holds}
use Rattle.grammar.specs.ParseSort.{in_list, in_symbol, tree_at, parse_sort}
use Rattle.grammar.specs.Expr.{Kind, k_bit_vec, k_neg, op_sub, k_bin, k_is_ctor, Expr, Exprs, one_of, enil, exprs}
use Rattle.grammar.specs.Names.{Form, fixed, many, cast, exists, let_in, lit, minus, is_ctor, apply, keywords}
use Rattle.grammar.specs.Scope.{Scope, var_of, distinct}
use Rattle.grammar.specs.ParseExpr
use Rattle.grammar.specs.ParseExpr.{P, Child, child_at, rest, nested_at, plain_at, operands, node_form, minus_form, through, through_name, through_value, let_form, is_ctor_form, call_form, atom_child, or_else_form}
use Rattle.grammar.specs.Shape.{HasOperands}
use Rattle.grammar.specs.Literals.{LiteralOf}
use Rattle.grammar.proofs.AnswerHolds.{Post, Every, chain_post, lifted_post, any_post, map_post, map-every, lookup-holds}
use Rattle.grammar.proofs.SortOf.{SortOf, in_list_lem, in_symbol_lem, sort_of_lem}
use Rattle.grammar.proofs.WalkKeeps.{PlainKind, BindersOf, Kept}
use Rattle.grammar.proofs.Forms.{NameFromAny, neg_plain, bin_plain, bits_plain, ctor-plain, FormFits, keywords-fit, form-fits}
use Rattle.grammar.proofs.LitForm.{literal_of}
use Rattle.grammar.proofs.BindersOf.{TreeIn, tree-at, sort_from, binders_of}

module _ (text : List ℕ) (Inv : Tree → List Scope → ℕ → Expr → ℕ → Type 0) (InvAll : Trees → List Scope → ℕ → Exprs → ℕ → Type 0) (kept : Kept text Inv InvAll) where
  abbrev Keeps : Tree → P → Type 0
  Keeps t p = (sc : List Scope) (n : ℕ) → Post (p sc n) (Inv t sc n)

  -- An item of a list, and what its parsers keep.
  pub record ChildOf (t : Tree) (c : Child) : Type 0 where
    pub tree : c.tree ≡ t
    pub plainly : Keeps t c.plainly
    pub nested : Keeps t c.nested
    pub let_name : Every c.let_name (λ x. 1 ≤ nesting t)
    pub let_value : Keeps t c.let_value

  abbrev pub ChildrenOf : Trees → List Child → Type 0
  ChildrenOf tnil [] = Unit {0}
  ChildrenOf tnil (c ∷ cs) = ⊥
  ChildrenOf (tcons t ts) [] = ⊥
  ChildrenOf (tcons t ts) (c ∷ cs) = ChildOf t c × ChildrenOf ts cs

  alone : (t : Tree) (ts : Trees) (sc : List Scope) (n : ℕ) (e : Expr) (m : ℕ) → Inv t sc n e m → InvAll (tcons t ts) sc n (one_of e) m
  alone t ts sc n e m h = kept.more t ts sc n m m e enil h (kept.none ts sc m)

  -- one item, by any of its parsers
  item-at : (p : Child → P) → ((t : Tree) (c : Child) → ChildOf t c → Keeps t (p c)) → (ts : Trees) (cs : List Child) (i : ℕ) → ChildrenOf ts cs → (sc : List Scope) (n : ℕ)
      → Post (chain (lifted (child_at cs i) n) (λ c. p c sc)) (λ e m. InvAll ts sc n (one_of e) m)
  unfolding child_at
  item-at p f tnil [] i h sc n = tt
  item-at p f tnil (c ∷ cs) i h sc n = absurd h
  item-at p f (tcons t ts) [] i h sc n = absurd h
  item-at p f (tcons t ts) (c ∷ cs) zero h sc n = map_post (p c sc n) (Inv t sc n) _ (λ e m q. alone t ts sc n e m q) (f t c h.0 sc n)
  item-at p f (tcons t ts) (c ∷ cs) (suc i) h sc n =
      map_post (chain (lifted (child_at cs i) n) (λ d. p d sc)) (λ e m. InvAll ts sc n (one_of e) m) _ (λ e m q. kept.skip t ts sc n m (one_of e) q) (item-at p f ts cs i h.1 sc n)

  nested-at : (ts : Trees) (cs : List Child) (i : ℕ) → ChildrenOf ts cs → (sc : List Scope) (n : ℕ) → Post (nested_at cs i sc n) (λ e m. InvAll ts sc n (one_of e) m)
  unfolding nested_at
  nested-at ts cs i h sc n = item-at (λ c. c.nested) (λ t c g. g.nested) ts cs i h sc n

  plain_at_lem : (ts : Trees) (cs : List Child) (i : ℕ) → ChildrenOf ts cs → (sc : List Scope) (n : ℕ) → Post (plain_at cs i sc n) (λ e m. InvAll ts sc n (one_of e) m)
  unfolding plain_at
  plain_at_lem ts cs i h sc n = item-at (λ c. c.plainly) (λ t c g. g.plainly) ts cs i h sc n

  operands_of_lem : (k : ℕ) (ts : Trees) (cs : List Child) → ChildrenOf ts cs → (sc : List Scope) (n : ℕ) → Post (operands k cs sc n) (λ es m. InvAll ts sc n es m × (exprs es ≡ k))
  unfolding operands exprs
  operands_of_lem zero ts cs h sc n = (kept.none ts sc n, refl)
  operands_of_lem (suc k) tnil [] h sc n = tt
  operands_of_lem (suc k) tnil (c ∷ cs) h sc n = absurd h
  operands_of_lem (suc k) (tcons t ts) [] h sc n = absurd h
  operands_of_lem (suc k) (tcons t ts) (c ∷ cs) h sc n =
      chain_post (c.nested sc n) _ (Inv t sc n) _ (h.0.nested sc n) λ e m p.
      chain_post (operands k cs sc m) _ (λ es q. InvAll ts sc m es q × (exprs es ≡ k)) _ (operands_of_lem k ts cs h.1 sc m) λ es q r.
      (kept.more t ts sc n m q e es p r.0, ap suc r.1)

  -- behind the first item
  operands-rest : (k : ℕ) (ts : Trees) (cs : List Child) → ChildrenOf ts cs → (sc : List Scope) (n : ℕ) → Post (operands k (rest cs) sc n) (λ es m. InvAll ts sc n es m × (exprs es ≡ k))
  operands-rest k tnil [] h sc n = operands_of_lem k tnil [] tt sc n
  operands-rest k tnil (c ∷ cs) h sc n = absurd h
  operands-rest k (tcons t ts) [] h sc n = absurd h
  operands-rest k (tcons t ts) (c ∷ cs) h sc n =
      map_post (operands k cs sc n) (λ es m. InvAll ts sc n es m × (exprs es ≡ k)) _ (λ es m q. (kept.skip t ts sc n m es q.0, q.1)) (operands_of_lem k ts cs h.1 sc n)

  node-form : (k : Kind) (n : ℕ) (ts : Trees) (cs : List Child) → ChildrenOf ts cs → PlainKind ts k → ((m : ℕ) → m ≡ n → HasOperands k m) → Keeps (list ts) (node_form k n cs)
  unfolding node_form
  node-form k n ts cs h p a sc i =
      chain_post (operands n (rest cs) sc i) _ (λ es m. InvAll ts sc i es m × (exprs es ≡ n)) _ (operands-rest n ts cs h sc i) λ es m q.
      kept.on_node ts sc i m k es p (a (exprs es) q.1) q.0

  minus-form : (ts : Trees) (cs : List Child) → ChildrenOf ts cs → Keeps (list ts) (minus_form cs)
  unfolding minus_form
  minus-form ts cs h =
      pick-holds (eqb (length cs) 2) (node_form k_neg 1 cs) (node_form (k_bin op_sub) 2 cs) (Keeps (list ts))
      (node-form k_neg 1 ts cs h (neg_plain ts) (λ m e. e)) (node-form (k_bin op_sub) 2 ts cs h (bin_plain op_sub ts) (λ m e. e))

  let-form : (ts : Trees) (cs : List Child) → ChildrenOf ts cs → Keeps (list ts) (let_form cs)
  unfolding let_form child_at nested_at exprs
  let-form tnil [] h sc n = tt
  let-form tnil (c ∷ cs) h sc n = absurd h
  let-form (tcons t ts) [] h sc n = absurd h
  let-form (tcons t tnil) (c ∷ []) h sc n = tt
  let-form (tcons t tnil) (c ∷ d ∷ cs) h sc n = absurd h.1
  let-form (tcons t (tcons u ts)) (c ∷ []) h sc n = absurd h.1
  let-form (tcons t (tcons u ts)) (c ∷ d ∷ cs) h sc n =
      lifted_post d.let_name n _ (λ x. 1 ≤ nesting u) _ h.1.0.let_name λ x f.
      chain_post (d.let_value sc n) _ (Inv u sc n) _ (h.1.0.let_value sc n) λ v m p.
      let sc' : List Scope = record { names = x ∷ []; first = m } ∷ sc in
      chain_post (nested_at cs 0 sc' (m + 1)) _ (λ e q. InvAll ts sc' (m + 1) (one_of e) q) _ (nested-at ts cs 0 h.1.1 sc' (m + 1)) λ b q r.
      kept.on_let t u ts sc n m q x v b f p r

  ctor-form : (s : Span) (ts : Trees) (cs : List Child) → 3 ≤ s.len → NameFromAny ts s → ChildrenOf ts cs → Keeps (list ts) (is_ctor_form s cs)
  unfolding is_ctor_form exprs
  ctor-form s ts cs l f h sc n =
      chain_post (plain_at cs 1 sc n) _ (λ e m. InvAll ts sc n (one_of e) m) _ (plain_at_lem ts cs 1 h sc n) λ e m q.
      kept.on_node ts sc n m (k_is_ctor (var_of (record { start = s.start + 3; len = s.len - 3 }))) (one_of e) (ctor-plain ts (record { start = s.start + 3; len = s.len - 3 }) (λ limit w. omega (arith, f limit w))) refl q

  lit-form : (ts : Trees) (cs : List Child) → Keeps (list ts) (ParseExpr.lit_form text cs)
  unfolding exprs
  lit-form ts cs sc n =
      map_post (ParseExpr.lit_form text cs sc n) (λ e m. LiteralOf text cs e × (m ≡ n)) _
      (λ e m l.
      let x = l.0 in
      rw (x.is, l.1) (kept.on_node ts sc n n (k_bit_vec (wide_of x.value) x.width) enil (bits_plain ts (wide_of x.value) x.width (x.some, rw x.whole x.below)) refl (kept.none ts sc n)))
      (literal_of text cs sc n)

  exists-form : (ts : Trees) (cs : List Child) → ChildrenOf ts cs → Keeps (list ts) (ParseExpr.exists_form text cs)
  unfolding ParseExpr.exists_form child_at nested_at
  exists-form tnil [] h sc n = tt
  exists-form tnil (c ∷ cs) h sc n = absurd h
  exists-form (tcons t ts) [] h sc n = absurd h
  exists-form (tcons t tnil) (c ∷ []) h sc n = tt
  exists-form (tcons t tnil) (c ∷ d ∷ cs) h sc n = absurd h.1
  exists-form (tcons t (tcons u ts)) (c ∷ []) h sc n = absurd h.1
  exists-form (tcons t (tcons u ts)) (c ∷ d ∷ cs) h sc n =
      any_post (check (eqb (suc (suc (length cs))) 3) malformed) n _ _ λ _.
      lifted_post (in_list d.tree) n _ (λ us. d.tree ≡ list us) _ (in_list_lem d.tree) λ us e.
      lifted_post (ParseExpr.binders text us) n _ (λ bs. BindersOf (list us) bs.names bs.sorts) _ (binders_of text us) λ bs p.
      let ue : u ≡ list us = sym h.1.0.tree ∙ e in
      let sc' : List Scope = record { names = bs.names; first = n } ∷ sc in
      chain_post (nested_at cs 0 sc' (n + length bs.sorts)) _ (λ b m. InvAll ts sc' (n + length bs.sorts) (one_of b) m) _ (nested-at ts cs 0 h.1.1 sc' (n + length bs.sorts)) λ b m q.
      any_post (distinct text bs.names) m _ _ λ _.
      kept.on_exists t u ts sc n m bs.names bs.sorts b (rw ue p) q

  as_form_lem : (inner ts : Trees) (c : Child) (cs : List Child) → ChildrenOf ts cs → Keeps (list (tcons (list inner) ts)) (ParseExpr.as_form text inner (c ∷ cs))
  unfolding ParseExpr.as_form child_at nested_at
  as_form_lem inner ts c cs h sc n =
      lifted_post (tree_at inner 2) n _ (TreeIn inner) _ (tree-at inner 2) λ t i.
      lifted_post (parse_sort text t) n _ (SortOf t) _ (sort_of_lem text t) λ o s.
      chain_post (nested_at cs 0 sc n) _ (λ e m. InvAll ts sc n (one_of e) m) _ (nested-at ts cs 0 h sc n) λ e m q.
      kept.on_as (list inner) ts sc n m o e (sort_from inner t o i s) q

  call-form : (t : Tree) (ts : Trees) (c : Child) (cs : List Child) → ChildOf t c → ChildrenOf ts cs → Keeps (list (tcons t ts)) (call_form (c ∷ cs))
  unfolding call_form child_at nested_at
  call-form t ts c cs g h sc n =
      chain_post (operands (length cs) cs sc n) _ (λ es m. InvAll ts sc n es m × (exprs es ≡ length cs)) _ (operands_of_lem (length cs) ts cs h sc n) λ es m q.
      chain_post (c.nested sc m) _ (Inv t sc m) _ (g.nested sc m) λ e p r.
      kept.on_call t ts sc n m p es e q.0 r

  apply-form : (ts : Trees) (cs : List Child) → ChildrenOf ts cs → Keeps (list ts) (ParseExpr.apply_form text cs)
  unfolding ParseExpr.apply_form child_at
  apply-form tnil [] h sc n = tt
  apply-form tnil (c ∷ cs) h sc n = absurd h
  apply-form (tcons t ts) [] h sc n = absurd h
  apply-form (tcons t ts) (c ∷ cs) h sc n =
      lifted_post (in_list c.tree) n _ (λ inner. c.tree ≡ list inner) _ (in_list_lem c.tree) λ inner e.
      any_post (tree_at inner 1) n _ _ λ u.
      let te : t ≡ list inner = sym h.0.tree ∙ e in
      pick-holds (ParseExpr.is_apply text u) (ParseExpr.as_form text inner (c ∷ cs) sc) (call_form (c ∷ cs) sc) (λ p. Post (p n) (Inv (list (tcons t ts)) sc n))
      (rw te (as_form_lem inner ts c cs h.1 sc n)) (call-form t ts c cs h.0 h.1 sc n)

  parse_form_lem : (f : Form) (s : Span) (ts : Trees) (cs : List Child) → FormFits s.len f → NameFromAny ts s → ChildrenOf ts cs → Keeps (list ts) (ParseExpr.parse_form text f s cs)
  unfolding ParseExpr.parse_form
  parse_form_lem (fixed k n) s ts cs f x h = node-form k n ts cs h (f.1 ts) f.0
  parse_form_lem (many k) s ts cs f x h = node-form k (length (rest cs)) ts cs h (f.1 ts) (λ m e. f.0 m)
  parse_form_lem cast s ts cs f x h = λ sc n. map_post (plain_at cs 1 sc n) _ _ (λ e m q. kept.item ts sc n m e q) (plain_at_lem ts cs 1 h sc n)
  parse_form_lem exists s ts cs f x h = exists-form ts cs h
  parse_form_lem let_in s ts cs f x h = let-form ts cs h
  parse_form_lem lit s ts cs f x h = lit-form ts cs
  parse_form_lem minus s ts cs f x h = minus-form ts cs h
  parse_form_lem is_ctor s ts cs f x h = ctor-form s ts cs f x h
  parse_form_lem apply s ts cs f x h = apply-form ts cs h

  symbol-headed : (s : Span) (ts : Trees) (cs : List Child) → ChildrenOf (tcons (atom (symbol s)) ts) cs → Keeps (list (tcons (atom (symbol s)) ts)) (ParseExpr.parse_form text (ParseExpr.form_of text s) s cs)
  unfolding ParseExpr.form_of
  symbol-headed s ts cs h =
      let w : List ℕ = bytes_at text s in
      parse_form_lem (or_else_form (begins_with (ascii "is$") w) (lookup keywords w)) s (tcons (atom (symbol s)) ts) cs
      (form-fits s.len (begins_with (ascii "is$") w) (lookup keywords w) (λ e. omega (arith, begins-length (ascii "is$") w e, bytes-length text s)) (lookup-holds keywords w (λ _ f. FormFits s.len f) (keywords-fit s.len)))
      (λ limit i. i.0) h

  headed_of : (t : Tree) (ts : Trees) (cs : List Child) → ChildrenOf (tcons t ts) cs → Keeps (list (tcons t ts)) (ParseExpr.headed text t cs)
  unfolding ParseExpr.headed ParseExpr.atom_headed
  headed_of (atom (symbol s)) ts cs h = symbol-headed s ts cs h
  headed_of (atom (quoted s)) ts cs h = apply-form (tcons (atom (quoted s)) ts) cs h
  headed_of (atom (integer w)) ts cs h = apply-form (tcons (atom (integer w)) ts) cs h
  headed_of (atom (decimal s)) ts cs h = apply-form (tcons (atom (decimal s)) ts) cs h
  headed_of (atom (boolean b)) ts cs h = apply-form (tcons (atom (boolean b)) ts) cs h
  headed_of (list us) ts cs h = apply-form (tcons (list us) ts) cs h

  list-expr : (ts : Trees) (cs : List Child) → ChildrenOf ts cs → Keeps (list ts) (ParseExpr.list_expr text cs)
  unfolding ParseExpr.list_expr child_at
  list-expr tnil [] h sc n = tt
  list-expr tnil (c ∷ cs) h sc n = absurd h
  list-expr (tcons t ts) [] h sc n = absurd h
  list-expr (tcons t ts) (c ∷ cs) h sc n =
      subst (λ (u : Tree). Post (ParseExpr.headed text u (c ∷ cs) sc n) (Inv (list (tcons t ts)) sc n)) (sym h.0.tree) (headed_of t ts (c ∷ cs) h sc n)

  through-list : (ts : Trees) (cs : List Child) (p : P) → ChildrenOf ts cs → Keeps (list ts) p → Keeps (list ts) (through cs p)
  unfolding through
  through-list ts [] p h k = k
  through-list tnil (c ∷ []) p h k = absurd h
  through-list (tcons t tnil) (c ∷ []) p h k = λ sc n. map_post (c.nested sc n) (Inv t sc n) _ (λ e m q. kept.item (tcons t tnil) sc n m e (alone t tnil sc n e m q)) (h.0.nested sc n)
  through-list (tcons t (tcons u ts)) (c ∷ []) p h k = absurd h.1
  through-list ts (c ∷ d ∷ cs) p h k = k

  through-name : (ts : Trees) (cs : List Child) → ChildrenOf ts cs → Every (through_name cs) (λ x. 1 ≤ nesting (list ts))
  unfolding through_name nesting
  through-name ts [] h = tt
  through-name tnil (c ∷ []) h = absurd h
  through-name (tcons t tnil) (c ∷ []) h = map-every c.let_name (λ x. 1 ≤ nesting t) _ (λ x f. omega arith) h.0.let_name
  through-name (tcons t (tcons u ts)) (c ∷ []) h = absurd h.1
  through-name tnil (c ∷ d ∷ cs) h = absurd h
  through-name (tcons t ts) (c ∷ d ∷ cs) h = map-every (in_symbol c.tree) (λ s. c.tree ≡ atom (symbol s)) _ (λ s e. omega arith) (in_symbol_lem c.tree)

  through-value : (ts : Trees) (cs : List Child) → ChildrenOf ts cs → Keeps (list ts) (through_value cs)
  unfolding through_value
  through-value ts [] h sc n = tt
  through-value tnil (c ∷ []) h sc n = absurd h
  through-value (tcons t tnil) (c ∷ []) h sc n = map_post (c.let_value sc n) (Inv t sc n) _ (λ e m q. kept.item (tcons t tnil) sc n m e (alone t tnil sc n e m q)) (h.0.let_value sc n)
  through-value (tcons t (tcons u ts)) (c ∷ []) h sc n = absurd h.1
  through-value tnil (c ∷ d ∷ cs) h sc n = absurd h
  through-value (tcons t tnil) (c ∷ d ∷ cs) h sc n = absurd h.1
  through-value (tcons t (tcons u ts)) (c ∷ d ∷ cs) h sc n =
      map_post (d.nested sc n) (Inv u sc n) _ (λ e m q. kept.item (tcons t (tcons u ts)) sc n m e (kept.skip t (tcons u ts) sc n m (one_of e) (alone u ts sc n e m q))) (h.1.0.nested sc n)

  atom_of_lem : (a : Atom) (p : P) → Keeps (atom a) p → ChildOf (atom a) (atom_child a p)
  unfolding atom_child
  atom_of_lem a p k = record { tree = refl; plainly = k; nested = k; let_name = tt; let_value = λ sc n. tt }

  atom-expr : (a : Atom) → Keeps (atom a) (ParseExpr.atom_expr text a)
  unfolding ParseExpr.atom_expr
  atom-expr (symbol s) sc n = kept.on_symbol s sc n
  atom-expr (quoted s) sc n = kept.on_quoted s sc n
  atom-expr (integer w) sc n = kept.on_integer w sc n
  atom-expr (decimal s) sc n = tt
  atom-expr (boolean b) sc n = kept.on_boolean b sc n

  list_of : (ts : Trees) (cs : List Child) → ChildrenOf ts cs → ChildOf (list ts) (ParseExpr.list_child text ts cs)
  unfolding ParseExpr.list_child
  list_of ts cs h =
      let k : Keeps (list ts) (ParseExpr.list_expr text cs) = list-expr ts cs h in
      record { tree = refl; plainly = k; nested = through-list ts cs (ParseExpr.list_expr text cs) h k; let_name = through-name ts cs h; let_value = through-value ts cs h }

  mutual
    unfolding ParseExpr.child

    pub child_of : (t : Tree) → ChildOf t (ParseExpr.child text t)
    child_of (atom a) = atom_of_lem a (ParseExpr.atom_expr text a) (atom-expr a)
    child_of (list ts) = list_of ts (ParseExpr.children text ts) (children_of ts)

    pub children_of : (ts : Trees) → ChildrenOf ts (ParseExpr.children text ts)
    children_of tnil = tt
    children_of (tcons t ts) = (child_of t, children_of ts)
