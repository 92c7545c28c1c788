-- The expression that a tree is read as: `parse_expr` and the functions that it calls. Structural in the tree: the parsers of each item
-- of a list are made once (`Child`), and the forms pick among them.
use Rattle.std.specs.Prelude.{ℕ, zero, suc, ◌+◌, ◌-◌, ◌^◌, Bool, true, false, List, [], ◌∷◌, ◌++◌, eqb, ltb, length, drop}
use Rattle.reading.specs.Pick.{pick}
use Rattle.reading.specs.Bytes.{ascii, same_bytes, begins_with, Span, bytes_at, Maybe, nothing, just, lookup}
use Rattle.reading.specs.Number.{Wide, wide_of, minus_of, value_of, below, digits}
use Rattle.reading.specs.Tree.{Atom, symbol, quoted, integer, decimal, boolean, Tree, Trees, atom, list, tnil, tcons, trees}
use Rattle.reading.specs.Answer.{Ans, got, bad, and_then, or_bad, check, malformed, decimal_read, bad_literal, wrong_width, M, ◌>>=◌, done, lifted, fresh}
use Rattle.grammar.specs.Sort.{Sort}
use Rattle.grammar.specs.ParseSort.{in_list, in_atom, in_symbol, tree_at, size_of, parse_sort}
use Rattle.grammar.specs.Expr.{VarName, Kind, k_num, k_bool, k_str, k_bit_vec, k_neg, k_bin, op_sub, k_let_fresh, k_is_ctor, k_exists, Expr, Exprs, node, app, leaf, one_of, enil, econs, Pred, kvar, expr}
use Rattle.grammar.specs.Names.{Form, fixed, many, cast, exists, let_in, lit, minus, is_ctor, apply, keywords}
use Rattle.grammar.specs.Scope.{Scope, numbered, var_of, symbol_expr, distinct}

-- A parser under open scopes.
abbrev pub P : Type 0
P = List Scope → M Expr

-- An item of a list: its tree; `parse_expr` of it; `parse_expr_possibly_nested` of it, which sees through lists of one element; its name
-- and its value as the pair of a `let`; and `parse_pred_inner` of it.
pub record Child : Type 0 where
  pub tree : Tree
  pub plainly : P
  pub nested : P
  pub let_name : Ans Span
  pub let_value : P
  pub preds : M (List Pred)

-- The item at a place; a missing one is 8, when it is reached.
unfoldable pub child_at : List Child → ℕ → Ans Child
child_at [] i = bad malformed
child_at (c ∷ cs) zero = got c
child_at (c ∷ cs) (suc i) = child_at cs i

abbrev pub rest : List Child → List Child
rest [] = []
rest (c ∷ cs) = cs

unfoldable pub nested_at : List Child → ℕ → P
nested_at cs i sc = do
  c ← lifted (child_at cs i)
  c.nested sc

unfoldable pub plain_at : List Child → ℕ → P
plain_at cs i sc = do
  c ← lifted (child_at cs i)
  c.plainly sc

-- So many operands, one after the other.
unfoldable pub operands : ℕ → List Child → List Scope → M Exprs
operands zero cs sc = done enil
operands (suc n) [] sc = lifted (bad malformed)
operands (suc n) (c ∷ cs) sc = do
  e ← c.nested sc
  es ← operands n cs sc
  done (econs e es)

-- A kind with so many operands behind the keyword.
unfoldable pub node_form : Kind → ℕ → List Child → P
node_form k n cs sc = do
  es ← operands n (rest cs) sc
  done (node k es)

-- `(- a)` is Neg, with any other number of items it is Sub.
unfoldable pub minus_form : List Child → P
minus_form cs = pick (eqb (length cs) 2) (node_form k_neg 1 cs) (node_form (k_bin op_sub) 2 cs)

-- The names and sorts of binders.
pub record Binders : Type 0 where
  pub names : List Span
  pub sorts : List Sort

-- A `(name sort)`, and nothing more: its name.
unfoldable pub name_of : Tree → Ans Span
name_of t =
    and_then (in_list t) λ ts.
    and_then (check (eqb (trees ts) 2) malformed) λ _.
    and_then (tree_at ts 0) in_symbol

-- A list of one element is seen through.
unfoldable pub through : List Child → P → P
through [] p = p
through (c ∷ []) p = c.nested
through (c ∷ d ∷ cs) p = p

-- The pair of a `let` is seen through, too: its name, and its value.
unfoldable pub through_name : List Child → Ans Span
through_name [] = bad malformed
through_name (c ∷ []) = c.let_name
through_name (c ∷ d ∷ cs) = in_symbol c.tree

unfoldable pub through_value : List Child → P
through_value [] sc = lifted (bad malformed)
through_value (c ∷ []) sc = c.let_value sc
through_value (c ∷ d ∷ cs) sc = d.nested sc

-- `(let (name value) body)`: the value first and outside, then a fresh number, then the body with the name bound to it.
unfoldable pub let_form : List Child → P
let_form cs sc = do
  pair ← lifted (child_at cs 1)
  s ← lifted pair.let_name
  v ← pair.let_value sc
  k ← fresh 1
  b ← nested_at cs 2 (record { names = s ∷ []; first = k } ∷ sc)
  done (node (k_let_fresh k) (econs v (one_of b)))

-- `is$` and a constructor; its operand is not seen through.
unfoldable pub is_ctor_form : Span → List Child → P
is_ctor_form s cs sc = do
  e ← plain_at cs 1 sc
  done (node (k_is_ctor (var_of (record { start = s.start + 3; len = s.len - 3 }))) (one_of e))

-- An application: the arguments, then the head.
unfoldable pub call_form : List Child → P
call_form cs sc = do
  es ← operands (length (rest cs)) (rest cs) sc
  h ← nested_at cs 0 sc
  done (app nothing es h)

unfoldable pub quoted_in : Atom → Ans Span
quoted_in (symbol s) = bad malformed
quoted_in (quoted s) = got s
quoted_in (integer w) = bad malformed
quoted_in (decimal s) = bad malformed
quoted_in (boolean b) = bad malformed

-- An integer as an expression: a numeral, or Neg of one.
unfoldable pub numeral : Wide → Expr
numeral w = pick (ltb (value_of w) (2 ^ 127)) (leaf (k_num w)) (node k_neg (one_of (leaf (k_num (minus_of w)))))

unfoldable pub each_pred : List Child → M (List Pred)
each_pred [] = done []
each_pred (c ∷ cs) = do
  ps ← c.preds
  qs ← each_pred cs
  done (ps ++ qs)

unfoldable pub symbols : List Child → Ans (List VarName)
symbols [] = got []
symbols (c ∷ cs) =
    and_then (in_symbol c.tree) λ s.
    and_then (symbols cs) λ xs.
    got (var_of s ∷ xs)

-- `($k x ..)`: at least two items, all of them symbols.
unfoldable pub kvar_form : Span → List Child → M (List Pred)
kvar_form s cs = do
  _ ← lifted (check (ltb 1 (length cs)) malformed)
  xs ← lifted (symbols (rest cs))
  done (kvar (record { span = s }) xs ∷ [])

-- Any other predicate is an expression.
unfoldable pub expr_pred : P → M (List Pred)
expr_pred p = do
  e ← p []
  done (expr e ∷ [])

-- An atom is no pair of a `let` and no predicate.
unfoldable pub atom_child : Atom → P → Child
atom_child a p =
    record {
      tree = atom a;
      plainly = p;
      nested = p;
      let_name = bad malformed;
      let_value = λ sc. lifted (bad malformed);
      preds = lifted (bad malformed);
    }

abbrev pub or_else_form : Bool → Maybe Form → Form
or_else_form is (just f) = f
or_else_form true nothing = is_ctor
or_else_form false nothing = apply

-- The digits of `#b..`: every byte behind `#b`.
abbrev pub digits_in : List ℕ → List ℕ
digits_in w = drop 2 w

-- The value of `#b..`: at least one digit, each 0 or 1; 2^128 and more are 11, too.
unfoldable pub bits_of : List ℕ → Ans ℕ
bits_of w = and_then (check (begins_with (ascii "#b") w) malformed) λ _. or_bad bad_literal (below (2 ^ 128) (digits 2 (digits_in w)))

module _ (text : List ℕ) where
  -- The sort of a `(name sort)`.
  unfoldable pub sort_in : Tree → Ans Sort
  sort_in t =
      and_then (in_list t) λ ts.
      and_then (tree_at ts 1) λ u.
      parse_sort text u

  -- The binders of an exists: shape, name and sort, binder by binder.
  unfoldable pub binders : Trees → Ans Binders
  binders tnil = got (record { names = []; sorts = [] })
  binders (tcons t ts) =
      and_then (name_of t) λ s.
      and_then (sort_in t) λ o.
      and_then (binders ts) λ bs.
      got (record { names = s ∷ bs.names; sorts = o ∷ bs.sorts })

  -- `(exists (binders) body)`, and nothing more; 10 comes behind the body.
  unfoldable pub exists_form : List Child → P
  exists_form cs sc = do
    _ ← lifted (check (eqb (length cs) 3) malformed)
    vars ← lifted (child_at cs 1)
    ts ← lifted (in_list vars.tree)
    bs ← lifted (binders ts)
    k ← fresh (length bs.sorts)
    e ← nested_at cs 2 (record { names = bs.names; first = k } ∷ sc)
    _ ← lifted (distinct text bs.names)
    done (node (k_exists (numbered k bs.sorts)) (one_of e))

  -- The size of a list of two, whatever its first item is.
  unfoldable pub width_of : Tree → Ans ℕ
  width_of t =
      and_then (in_list t) λ ts.
      and_then (check (eqb (trees ts) 2) malformed) λ _.
      and_then (tree_at ts 1) λ u.
      size_of text u

  -- `(lit "#b.." (BitVec SIZE))`: there are as many digits as the size says; 17 comes last.
  unfoldable pub lit_form : List Child → P
  lit_form cs sc = do
    c ← lifted (child_at cs 1)
    a ← lifted (in_atom c.tree)
    s ← lifted (quoted_in a)
    v ← lifted (bits_of (bytes_at text s))
    d ← lifted (child_at cs 2)
    width ← lifted (width_of d.tree)
    _ ← lifted (check (eqb (length (digits_in (bytes_at text s))) width) wrong_width)
    done (leaf (k_bit_vec (wide_of v) width))

  unfoldable pub is_apply_atom : Atom → Bool
  is_apply_atom (symbol s) = same_bytes (bytes_at text s) (ascii "apply")
  is_apply_atom (quoted s) = false
  is_apply_atom (integer w) = false
  is_apply_atom (decimal s) = false
  is_apply_atom (boolean b) = false

  unfoldable pub is_apply : Tree → Bool
  is_apply (atom a) = is_apply_atom a
  is_apply (list ts) = false

  -- `((as apply SORT) f ..)`: the sort, then the function; further items are dropped.
  unfoldable pub as_form : Trees → List Child → P
  as_form inner cs sc = do
    t ← lifted (tree_at inner 2)
    o ← lifted (parse_sort text t)
    e ← nested_at cs 1 sc
    done (app (just o) enil e)

  -- An application's first item is a list of at least two.
  unfoldable pub apply_form : List Child → P
  apply_form cs sc = do
    head ← lifted (child_at cs 0)
    inner ← lifted (in_list head.tree)
    t ← lifted (tree_at inner 1)
    pick (is_apply t) (as_form inner cs sc) (call_form cs sc)

  -- How a list is read whose first item is this symbol.
  unfoldable pub form_of : Span → Form
  form_of s = or_else_form (begins_with (ascii "is$") (bytes_at text s)) (lookup keywords (bytes_at text s))

  unfoldable pub parse_form : Form → Span → List Child → P
  parse_form (fixed k n) s cs = node_form k n cs
  parse_form (many k) s cs = node_form k (length (rest cs)) cs
  parse_form cast s cs = plain_at cs 1
  parse_form exists s cs = exists_form cs
  parse_form let_in s cs = let_form cs
  parse_form lit s cs = lit_form cs
  parse_form minus s cs = minus_form cs
  parse_form is_ctor s cs = is_ctor_form s cs
  parse_form apply s cs = apply_form cs

  unfoldable pub atom_headed : Atom → List Child → P
  atom_headed (symbol s) cs = parse_form (form_of s) s cs
  atom_headed (quoted s) cs = apply_form cs
  atom_headed (integer w) cs = apply_form cs
  atom_headed (decimal s) cs = apply_form cs
  atom_headed (boolean b) cs = apply_form cs

  -- A list whose first item is this tree.
  unfoldable pub headed : Tree → List Child → P
  headed (atom a) cs = atom_headed a cs
  headed (list ts) cs = apply_form cs

  unfoldable pub list_expr : List Child → P
  list_expr cs sc = do
    c ← lifted (child_at cs 0)
    headed c.tree cs sc

  -- A predicate that is a list: `and` of predicates, a kvar, or an expression.
  unfoldable pub symbol_preds : Span → List Child → P → M (List Pred)
  symbol_preds s cs p =
      pick (same_bytes (bytes_at text s) (ascii "and")) (each_pred (rest cs))
      (pick (begins_with (ascii "$") (bytes_at text s)) (kvar_form s cs) (expr_pred p))

  unfoldable pub atom_preds : Atom → List Child → P → M (List Pred)
  atom_preds (symbol s) cs p = symbol_preds s cs p
  atom_preds (quoted s) cs p = expr_pred p
  atom_preds (integer w) cs p = expr_pred p
  atom_preds (decimal s) cs p = expr_pred p
  atom_preds (boolean b) cs p = expr_pred p

  unfoldable pub headed_preds : Tree → List Child → P → M (List Pred)
  headed_preds (atom a) cs p = atom_preds a cs p
  headed_preds (list ts) cs p = expr_pred p

  unfoldable pub list_preds : List Child → P → M (List Pred)
  list_preds cs p = do
    c ← lifted (child_at cs 0)
    headed_preds c.tree cs p

  -- An atom as an expression; a decimal is 9.
  unfoldable pub atom_expr : Atom → P
  atom_expr (symbol s) sc = done (symbol_expr text s sc)
  atom_expr (quoted s) sc = done (leaf (k_str s))
  atom_expr (integer w) sc = done (numeral w)
  atom_expr (decimal s) sc = lifted (bad decimal_read)
  atom_expr (boolean b) sc = done (leaf (k_bool b))

  -- A list, its items being these, by how it is read as an expression.
  abbrev pub list_of : Trees → List Child → P → Child
  list_of ts cs p =
      record {
        tree = list ts;
        plainly = p;
        nested = through cs p;
        let_name = through_name cs;
        let_value = through_value cs;
        preds = list_preds cs (through cs p);
      }

  -- The same, read as an expression by its first item.
  unfoldable pub list_child : Trees → List Child → Child
  list_child ts cs = list_of ts cs (list_expr cs)

  unfoldable mutual
    pub child : Tree → Child
    child (atom a) = atom_child a (atom_expr a)
    child (list ts) = list_child ts (children ts)

    pub children : Trees → List Child
    children tnil = []
    children (tcons t ts) = child t ∷ children ts

  -- The expression that a tree is.
  unfoldable pub parse_expr : Tree → M Expr
  parse_expr t = (child t).plainly []
