-- Which refusals a tree can meet as an expression, a bind or a solution: 8 to 12.
use Prim.Native.Nat.{ℕ, zero, suc, ◌+◌, ◌^◌}
use mathlib.Core.Bool.{not}
use mathlib.Core.List.{List, [], ◌∷◌}
use lib.Dec.{eqb, ltb}
use lib.ListN.{length}
use Rattle.reading.specs.Pick.{pick}
use Rattle.reading.specs.Bytes.{ascii, same_bytes, begins_with, Span, bytes_at}
use Rattle.reading.specs.Number.{below, digits}
use Rattle.reading.specs.Tree.{Atom, symbol, quoted, integer, decimal, boolean, Tree, Trees, atom, list, tnil, tcons, trees}
use Rattle.reading.specs.Answer.{Refusal, malformed, decimal_read, repeated_name, bad_literal, wrong_width, Ans, got, bad, and_then, check, Res, ok, no, chain, lifted}
use Rattle.reading.proofs.Picks.{pick-holds}
use Rattle.reading.proofs.ReadRefusals.{Bad, bad-then, bad-check}
use Rattle.grammar.specs.Names.{Form, fixed, many, cast, exists, let_in, lit, minus, is_ctor, apply}
use Rattle.grammar.specs.ParseSort.{in_list, in_atom, in_symbol, tree_at, parse_sort}
use Rattle.grammar.specs.Expr.{Kind, k_neg, k_bin, op_sub}
use Rattle.grammar.specs.Scope.{Scope, repeated, distinct}
use Rattle.grammar.specs.ParseExpr
use Rattle.grammar.specs.ParseExpr.{P, Child, child_at, rest, nested_at, plain_at, operands, node_form, minus_form, name_of, through, through_name, through_value, let_form, is_ctor_form, call_form, quoted_in, each_pred, symbols, kvar_form, expr_pred, atom_child, digits_in, bits_of}
use Rattle.grammar.specs.ParseBind.{parse_bind}
use Rattle.grammar.specs.ParseSolution.{all_names, all_sorts, parse_solution}
use Rattle.grammar.proofs.SortRefusals
use Rattle.grammar.proofs.SortRefusals.{OfSort}

-- The refusals of an expression are among these.
pub record OfExpr (Q : Refusal → Type 0) : Type 0 where
  pub sort : OfSort Q
  pub nine : Q decimal_read
  pub ten : Q repeated_name
  pub eleven : Q bad_literal
  pub seventeen : Q wrong_width

-- A refusal, where there is one, is one of these.
abbrev pub No : {A : Type 0} → (Refusal → Type 0) → Res A → Type 0
No Q (ok a n) = Unit {0}
No Q (no r) = Q r

pub no-chain : {A B : Type 0} (Q : Refusal → Type 0) (x : Res A) (f : A → ℕ → Res B) → No Q x → ((a : A) (n : ℕ) → No Q (f a n)) → No Q (chain x f)
no-chain Q (ok a n) f h k = k a n
no-chain Q (no r) f h k = h

pub no-lifted : {A B : Type 0} (Q : Refusal → Type 0) (x : Ans A) (n : ℕ) (f : A → ℕ → Res B) → Bad Q x → ((a : A) → No Q (f a n)) → No Q (chain (lifted x n) f)
no-lifted Q (got a) n f h k = k a
no-lifted Q (bad r) n f h k = h

module _ (Q : Refusal → Type 0) (q : OfExpr Q) where
  -- What a parser under open scopes refuses.
  abbrev NoP : P → Type 0
  NoP p = (sc : List Scope) (n : ℕ) → No Q (p sc n)

  -- An item of a list, by each of its parsers.
  record NoChild (c : Child) : Type 0 where
    plainly : NoP c.plainly
    nested : NoP c.nested
    let_name : Bad Q c.let_name
    let_value : NoP c.let_value
    preds : (n : ℕ) → No Q (c.preds n)

  abbrev NoChildren : List Child → Type 0
  NoChildren [] = Unit {0}
  NoChildren (c ∷ cs) = NoChild c × NoChildren cs

  in_rest : (cs : List Child) → NoChildren cs → NoChildren (rest cs)
  in_rest [] h = tt
  in_rest (c ∷ cs) h = h.1

  child-at : {A : Type 0} (cs : List Child) (i n : ℕ) (f : Child → ℕ → Res A) → NoChildren cs → ((c : Child) → NoChild c → No Q (f c n)) → No Q (chain (lifted (child_at cs i) n) f)
  unfolding child_at
  child-at [] i n f h k = q.sort.eight
  child-at (c ∷ cs) zero n f h k = k c h.0
  child-at (c ∷ cs) (suc i) n f h k = child-at cs i n f h.1 k

  nested-at : (cs : List Child) (i : ℕ) → NoChildren cs → NoP (nested_at cs i)
  unfolding nested_at
  nested-at cs i h sc n = child-at cs i n _ h λ c g. g.nested sc n

  plain_at_lem : (cs : List Child) (i : ℕ) → NoChildren cs → NoP (plain_at cs i)
  unfolding plain_at
  plain_at_lem cs i h sc n = child-at cs i n _ h λ c g. g.plainly sc n

  no-operands : (k : ℕ) (cs : List Child) → NoChildren cs → (sc : List Scope) (n : ℕ) → No Q (operands k cs sc n)
  unfolding operands
  no-operands zero cs h sc n = tt
  no-operands (suc k) [] h sc n = q.sort.eight
  no-operands (suc k) (c ∷ cs) h sc n =
      no-chain Q (c.nested sc n) _ (h.0.nested sc n) λ e m.
      no-chain Q (operands k cs sc m) _ (no-operands k cs h.1 sc m) λ es p.
      tt

  node-form : (k : Kind) (n : ℕ) (cs : List Child) → NoChildren cs → NoP (node_form k n cs)
  unfolding node_form
  node-form k n cs h sc i = no-chain Q (operands n (rest cs) sc i) _ (no-operands n (rest cs) (in_rest cs h) sc i) λ es m. tt

  minus-form : (cs : List Child) → NoChildren cs → NoP (minus_form cs)
  unfolding minus_form
  minus-form cs h = pick-holds (eqb (length cs) 2) (node_form k_neg 1 cs) (node_form (k_bin op_sub) 2 cs) NoP (node-form k_neg 1 cs h) (node-form (k_bin op_sub) 2 cs h)

  let-form : (cs : List Child) → NoChildren cs → NoP (let_form cs)
  unfolding let_form
  let-form cs h sc n =
      child-at cs 1 n _ h λ pair g.
      no-lifted Q pair.let_name n _ g.let_name λ s.
      no-chain Q (pair.let_value sc n) _ (g.let_value sc n) λ v m.
      let sc' : List Scope = record { names = s ∷ []; first = m } ∷ sc in
      no-chain Q (nested_at cs 2 sc' (m + 1)) _ (nested-at cs 2 h sc' (m + 1)) λ b p.
      tt

  ctor-form : (s : Span) (cs : List Child) → NoChildren cs → NoP (is_ctor_form s cs)
  unfolding is_ctor_form
  ctor-form s cs h sc n = no-chain Q (plain_at cs 1 sc n) _ (plain_at_lem cs 1 h sc n) λ e m. tt

  call-form : (cs : List Child) → NoChildren cs → NoP (call_form cs)
  unfolding call_form
  call-form cs h sc n =
      no-chain Q (operands (length (rest cs)) (rest cs) sc n) _ (no-operands (length (rest cs)) (rest cs) (in_rest cs h) sc n) λ es m.
      no-chain Q (nested_at cs 0 sc m) _ (nested-at cs 0 h sc m) λ e p.
      tt

  quoted_in_lem : (a : Atom) → Bad Q (quoted_in a)
  unfolding quoted_in
  quoted_in_lem (symbol s) = q.sort.eight
  quoted_in_lem (quoted s) = tt
  quoted_in_lem (integer w) = q.sort.eight
  quoted_in_lem (decimal s) = q.sort.eight
  quoted_in_lem (boolean b) = q.sort.eight

  bits_of_lem : (w : List ℕ) → Bad Q (bits_of w)
  unfolding bits_of
  bits_of_lem w =
      bad-then Q (check (begins_with (ascii "#b") w) malformed) _ (bad-check Q (begins_with (ascii "#b") w) malformed q.sort.eight) λ _.
      SortRefusals.or_bad_lem Q q.sort bad_literal (below (2 ^ 128) (digits 2 (digits_in w))) q.eleven

  name_of_lem : (t : Tree) → Bad Q (name_of t)
  unfolding name_of
  name_of_lem t =
      bad-then Q (in_list t) _ (SortRefusals.in_list_lem Q q.sort t) λ ts.
      bad-then Q (check (eqb (trees ts) 2) malformed) _ (bad-check Q (eqb (trees ts) 2) malformed q.sort.eight) λ _.
      bad-then Q (tree_at ts 0) in_symbol (SortRefusals.tree-at Q q.sort ts 0) (SortRefusals.in_symbol_lem Q q.sort)

  all-names : (ts : Trees) → Bad Q (all_names ts)
  unfolding all_names
  all-names tnil = tt
  all-names (tcons t ts) =
      bad-then Q (name_of t) _ (name_of_lem t) λ s.
      bad-then Q (all_names ts) _ (all-names ts) λ ss.
      tt

  no-symbols : (cs : List Child) → Bad Q (symbols cs)
  unfolding symbols
  no-symbols [] = tt
  no-symbols (c ∷ cs) =
      bad-then Q (in_symbol c.tree) _ (SortRefusals.in_symbol_lem Q q.sort c.tree) λ s.
      bad-then Q (symbols cs) _ (no-symbols cs) λ xs.
      tt

  each_pred_lem : (cs : List Child) → NoChildren cs → (n : ℕ) → No Q (each_pred cs n)
  unfolding each_pred
  each_pred_lem [] h n = tt
  each_pred_lem (c ∷ cs) h n =
      no-chain Q (c.preds n) _ (h.0.preds n) λ ps m.
      no-chain Q (each_pred cs m) _ (each_pred_lem cs h.1 m) λ qs p.
      tt

  kvar-form : (s : Span) (cs : List Child) (n : ℕ) → No Q (kvar_form s cs n)
  unfolding kvar_form
  kvar-form s cs n =
      no-lifted Q (check (ltb 1 (length cs)) malformed) n _ (bad-check Q (ltb 1 (length cs)) malformed q.sort.eight) λ _.
      no-lifted Q (symbols (rest cs)) n _ (no-symbols (rest cs)) λ xs.
      tt

  expr-pred : (p : P) → NoP p → (n : ℕ) → No Q (expr_pred p n)
  unfolding expr_pred
  expr-pred p h n = no-chain Q (p [] n) _ (h [] n) λ e m. tt

  through-list : (cs : List Child) (p : P) → NoChildren cs → NoP p → NoP (through cs p)
  unfolding through
  through-list [] p h k = k
  through-list (c ∷ []) p h k = h.0.nested
  through-list (c ∷ d ∷ cs) p h k = k

  through-name : (cs : List Child) → NoChildren cs → Bad Q (through_name cs)
  unfolding through_name
  through-name [] h = q.sort.eight
  through-name (c ∷ []) h = h.0.let_name
  through-name (c ∷ d ∷ cs) h = SortRefusals.in_symbol_lem Q q.sort c.tree

  through-value : (cs : List Child) → NoChildren cs → NoP (through_value cs)
  unfolding through_value
  through-value [] h sc n = q.sort.eight
  through-value (c ∷ []) h sc n = h.0.let_value sc n
  through-value (c ∷ d ∷ cs) h sc n = h.1.0.nested sc n

  module _ (text : List ℕ) where
    no-distinct : (names : List Span) → Bad Q (distinct text names)
    unfolding distinct
    no-distinct names = bad-check Q (not (repeated text names)) repeated_name q.ten

    sort_in_lem : (t : Tree) → Bad Q (ParseExpr.sort_in text t)
    unfolding ParseExpr.sort_in
    sort_in_lem t =
        bad-then Q (in_list t) _ (SortRefusals.in_list_lem Q q.sort t) λ ts.
        bad-then Q (tree_at ts 1) _ (SortRefusals.tree-at Q q.sort ts 1) λ u.
        SortRefusals.sort-bad Q q.sort text u

    all-sorts : (ts : Trees) → Bad Q (all_sorts text ts)
    unfolding all_sorts
    all-sorts tnil = tt
    all-sorts (tcons t ts) =
        bad-then Q (ParseExpr.sort_in text t) _ (sort_in_lem t) λ o.
        bad-then Q (all_sorts text ts) _ (all-sorts ts) λ os.
        tt

    no-binders : (ts : Trees) → Bad Q (ParseExpr.binders text ts)
    unfolding ParseExpr.binders
    no-binders tnil = tt
    no-binders (tcons t ts) =
        bad-then Q (name_of t) _ (name_of_lem t) λ s.
        bad-then Q (ParseExpr.sort_in text t) _ (sort_in_lem t) λ o.
        bad-then Q (ParseExpr.binders text ts) _ (no-binders ts) λ bs.
        tt

    exists-form : (cs : List Child) → NoChildren cs → NoP (ParseExpr.exists_form text cs)
    unfolding ParseExpr.exists_form
    exists-form cs h sc n =
        no-lifted Q (check (eqb (length cs) 3) malformed) n _ (bad-check Q (eqb (length cs) 3) malformed q.sort.eight) λ _.
        child-at cs 1 n _ h λ vars g.
        no-lifted Q (in_list vars.tree) n _ (SortRefusals.in_list_lem Q q.sort vars.tree) λ ts.
        no-lifted Q (ParseExpr.binders text ts) n _ (no-binders ts) λ bs.
        let sc' : List Scope = record { names = bs.names; first = n } ∷ sc in
        no-chain Q (nested_at cs 2 sc' (n + length bs.sorts)) _ (nested-at cs 2 h sc' (n + length bs.sorts)) λ e m.
        no-lifted Q (distinct text bs.names) m _ (no-distinct bs.names) λ _.
        tt

    width_of_lem : (t : Tree) → Bad Q (ParseExpr.width_of text t)
    unfolding ParseExpr.width_of
    width_of_lem t =
        bad-then Q (in_list t) _ (SortRefusals.in_list_lem Q q.sort t) λ ts.
        bad-then Q (check (eqb (trees ts) 2) malformed) _ (bad-check Q (eqb (trees ts) 2) malformed q.sort.eight) λ _.
        bad-then Q (tree_at ts 1) _ (SortRefusals.tree-at Q q.sort ts 1) λ u.
        SortRefusals.size_of_lem Q q.sort text u

    lit-form : (cs : List Child) → NoChildren cs → NoP (ParseExpr.lit_form text cs)
    unfolding ParseExpr.lit_form
    lit-form cs h sc n =
        child-at cs 1 n _ h λ c _.
        no-lifted Q (in_atom c.tree) n _ (SortRefusals.in_atom_lem Q q.sort c.tree) λ a.
        no-lifted Q (quoted_in a) n _ (quoted_in_lem a) λ s.
        no-lifted Q (bits_of (bytes_at text s)) n _ (bits_of_lem (bytes_at text s)) λ v.
        child-at cs 2 n _ h λ d _.
        no-lifted Q (ParseExpr.width_of text d.tree) n _ (width_of_lem d.tree) λ width.
        no-lifted Q (check (eqb (length (digits_in (bytes_at text s))) width) wrong_width) n _ (bad-check Q (eqb (length (digits_in (bytes_at text s))) width) wrong_width q.seventeen) λ _.
        tt

    as_form_lem : (inner : Trees) (cs : List Child) → NoChildren cs → NoP (ParseExpr.as_form text inner cs)
    unfolding ParseExpr.as_form
    as_form_lem inner cs h sc n =
        no-lifted Q (tree_at inner 2) n _ (SortRefusals.tree-at Q q.sort inner 2) λ t.
        no-lifted Q (parse_sort text t) n _ (SortRefusals.sort-bad Q q.sort text t) λ o.
        no-chain Q (nested_at cs 1 sc n) _ (nested-at cs 1 h sc n) λ e m.
        tt

    apply-form : (cs : List Child) → NoChildren cs → NoP (ParseExpr.apply_form text cs)
    unfolding ParseExpr.apply_form
    apply-form cs h sc n =
        child-at cs 0 n _ h λ head _.
        no-lifted Q (in_list head.tree) n _ (SortRefusals.in_list_lem Q q.sort head.tree) λ inner.
        no-lifted Q (tree_at inner 1) n _ (SortRefusals.tree-at Q q.sort inner 1) λ t.
        pick-holds (ParseExpr.is_apply text t) (ParseExpr.as_form text inner cs sc) (call_form cs sc) (λ p. No Q (p n)) (as_form_lem inner cs h sc n) (call-form cs h sc n)

    parse_form_lem : (f : Form) (s : Span) (cs : List Child) → NoChildren cs → NoP (ParseExpr.parse_form text f s cs)
    unfolding ParseExpr.parse_form
    parse_form_lem (fixed k n) s cs h = node-form k n cs h
    parse_form_lem (many k) s cs h = node-form k (length (rest cs)) cs h
    parse_form_lem cast s cs h = plain_at_lem cs 1 h
    parse_form_lem exists s cs h = exists-form cs h
    parse_form_lem let_in s cs h = let-form cs h
    parse_form_lem lit s cs h = lit-form cs h
    parse_form_lem minus s cs h = minus-form cs h
    parse_form_lem is_ctor s cs h = ctor-form s cs h
    parse_form_lem apply s cs h = apply-form cs h

    headed : (t : Tree) (cs : List Child) → NoChildren cs → NoP (ParseExpr.headed text t cs)
    unfolding ParseExpr.headed ParseExpr.atom_headed
    headed (atom (symbol s)) cs h = parse_form_lem (ParseExpr.form_of text s) s cs h
    headed (atom (quoted s)) cs h = apply-form cs h
    headed (atom (integer w)) cs h = apply-form cs h
    headed (atom (decimal s)) cs h = apply-form cs h
    headed (atom (boolean b)) cs h = apply-form cs h
    headed (list ts) cs h = apply-form cs h

    list-expr : (cs : List Child) → NoChildren cs → NoP (ParseExpr.list_expr text cs)
    unfolding ParseExpr.list_expr
    list-expr cs h sc n = child-at cs 0 n _ h λ c _. headed c.tree cs h sc n

    headed-preds : (t : Tree) (cs : List Child) (p : P) → NoChildren cs → NoP p → (n : ℕ) → No Q (ParseExpr.headed_preds text t cs p n)
    unfolding ParseExpr.headed_preds ParseExpr.atom_preds ParseExpr.symbol_preds
    headed-preds (atom (symbol s)) cs p h k n =
        let w : List ℕ = bytes_at text s in
        pick-holds (same_bytes w (ascii "and")) (each_pred (rest cs)) (pick (begins_with (ascii "$") w) (kvar_form s cs) (expr_pred p)) (λ m. No Q (m n)) (each_pred_lem (rest cs) (in_rest cs h) n)
        (pick-holds (begins_with (ascii "$") w) (kvar_form s cs) (expr_pred p) (λ m. No Q (m n)) (kvar-form s cs n) (expr-pred p k n))
    headed-preds (atom (quoted s)) cs p h k n = expr-pred p k n
    headed-preds (atom (integer w)) cs p h k n = expr-pred p k n
    headed-preds (atom (decimal s)) cs p h k n = expr-pred p k n
    headed-preds (atom (boolean b)) cs p h k n = expr-pred p k n
    headed-preds (list ts) cs p h k n = expr-pred p k n

    atom-expr : (a : Atom) → NoP (ParseExpr.atom_expr text a)
    unfolding ParseExpr.atom_expr
    atom-expr (symbol s) sc n = tt
    atom-expr (quoted s) sc n = tt
    atom-expr (integer w) sc n = tt
    atom-expr (decimal s) sc n = q.nine
    atom-expr (boolean b) sc n = tt

    list-child : (ts : Trees) (cs : List Child) → NoChildren cs → NoChild (ParseExpr.list_child text ts cs)
    unfolding ParseExpr.list_child ParseExpr.list_preds
    list-child ts cs h =
        let nested : NoP (through cs (ParseExpr.list_expr text cs)) = through-list cs (ParseExpr.list_expr text cs) h (list-expr cs h) in
        record {
          plainly = list-expr cs h;
          nested = nested;
          let_name = through-name cs h;
          let_value = through-value cs h;
          preds = λ n. child-at cs 0 n _ h λ c _. headed-preds c.tree cs (through cs (ParseExpr.list_expr text cs)) h nested n;
        }

    mutual
      unfolding ParseExpr.child atom_child

      no-child : (t : Tree) → NoChild (ParseExpr.child text t)
      no-child (atom a) = record { plainly = atom-expr a; nested = atom-expr a; let_name = q.sort.eight; let_value = λ sc n. q.sort.eight; preds = λ n. q.sort.eight }
      no-child (list ts) = list-child ts (ParseExpr.children text ts) (no-children ts)

      no-children : (ts : Trees) → NoChildren (ParseExpr.children text ts)
      no-children tnil = tt
      no-children (tcons t ts) = (no-child t, no-children ts)

    -- A tree as an expression, as a bind and as a solution.
    pub expr-no : (t : Tree) (n : ℕ) → No Q (ParseExpr.parse_expr text t n)
    unfolding ParseExpr.parse_expr
    expr-no t n = (no-child t).plainly [] n

    pub bind-no : (t : Tree) (n : ℕ) → No Q (parse_bind text t n)
    unfolding parse_bind
    bind-no t n =
        no-lifted Q (in_list t) n _ (SortRefusals.in_list_lem Q q.sort t) λ ts.
        no-lifted Q (and_then (tree_at ts 0) in_list) n _ (SortRefusals.list_at Q q.sort ts 0) λ pair.
        no-lifted Q (and_then (tree_at pair 0) in_symbol) n _ (bad-then Q (tree_at pair 0) in_symbol (SortRefusals.tree-at Q q.sort pair 0) (SortRefusals.in_symbol_lem Q q.sort)) λ s.
        no-lifted Q (and_then (tree_at pair 1) (parse_sort text)) n _ (bad-then Q (tree_at pair 1) (parse_sort text) (SortRefusals.tree-at Q q.sort pair 1) (SortRefusals.sort-bad Q q.sort text)) λ o.
        no-lifted Q (tree_at ts 1) n _ (SortRefusals.tree-at Q q.sort ts 1) λ p.
        no-chain Q ((ParseExpr.child text p).preds n) _ ((no-child p).preds n) λ ps m.
        tt

    pub solution-no : (t : Tree) (n : ℕ) → No Q (parse_solution text t n)
    unfolding parse_solution
    solution-no t n =
        no-lifted Q (in_list t) n _ (SortRefusals.in_list_lem Q q.sort t) λ ts.
        no-lifted Q (check (eqb (trees ts) 3) malformed) n _ (bad-check Q (eqb (trees ts) 3) malformed q.sort.eight) λ _.
        no-lifted Q (and_then (tree_at ts 1) in_list) n _ (SortRefusals.list_at Q q.sort ts 1) λ params.
        no-lifted Q (all_names params) n _ (all-names params) λ names.
        no-lifted Q (all_sorts text params) n _ (all-sorts params) λ sorts.
        no-lifted Q (tree_at ts 2) (n + length sorts) _ (SortRefusals.tree-at Q q.sort ts 2) λ body.
        let sc : List Scope = record { names = names; first = n } ∷ [] in
        no-chain Q ((ParseExpr.child text body).plainly sc (n + length sorts)) _ ((no-child body).plainly sc (n + length sorts)) λ e m.
        no-lifted Q (distinct text names) m _ (no-distinct names) λ _.
        tt
