-- Which refusals a tree can meet as a sort: 8 and 12.
use Prim.Native.Nat.{ℕ, zero, suc, ◌^◌}
use mathlib.Core.List.{List, [], ◌∷◌}
use lib.Dec.{leb}
use lib.ListN.{length, drop}
use Rattle.reading.specs.Limits.{max_func}
use Rattle.reading.specs.Bytes.{ascii, begins_with, Span, bytes_at, Maybe, nothing, just, lookup}
use Rattle.reading.specs.Number.{Wide, value_of, unsigned}
use Rattle.reading.specs.Tree.{Atom, symbol, quoted, integer, decimal, boolean, Tree, Trees, atom, list, tnil, tcons}
use Rattle.reading.specs.Answer.{Refusal, malformed, bad_func, Ans, got, and_then, or_bad, check}
use Rattle.reading.proofs.Picks.{pick-holds}
use Rattle.reading.proofs.ReadRefusals.{Bad, bad-then, bad-check}
use Rattle.grammar.specs.Sort.{s_size}
use Rattle.grammar.specs.Names.{plain_sorts, SortForm, func, function, bit_vec, applied}
use Rattle.grammar.specs.ParseSort
use Rattle.grammar.specs.ParseSort.{in_list, in_atom, symbol_in, in_symbol, integer_in, in_integer, tree_at, size_named, index_named, or_data, other_sort, func_number, View, view_at, each_sort, func_sort, function_sort}

-- The refusals of a sort are among these.
pub record OfSort (Q : Refusal → Type 0) : Type 0 where
  pub eight : Q malformed
  pub twelve : Q bad_func

module _ (Q : Refusal → Type 0) (q : OfSort Q) where
  pub or_bad_lem : {A : Type 0} (r : Refusal) (m : Maybe A) → Q r → Bad Q (or_bad r m)
  or_bad_lem r nothing h = h
  or_bad_lem r (just a) h = tt

  pub in_list_lem : (t : Tree) → Bad Q (in_list t)
  unfolding in_list
  in_list_lem (atom a) = q.eight
  in_list_lem (list ts) = tt

  pub in_atom_lem : (t : Tree) → Bad Q (in_atom t)
  unfolding in_atom
  in_atom_lem (atom a) = tt
  in_atom_lem (list ts) = q.eight

  symbol_in_lem : (a : Atom) → Bad Q (symbol_in a)
  unfolding symbol_in
  symbol_in_lem (symbol s) = tt
  symbol_in_lem (quoted s) = q.eight
  symbol_in_lem (integer w) = q.eight
  symbol_in_lem (decimal s) = q.eight
  symbol_in_lem (boolean b) = q.eight

  pub in_symbol_lem : (t : Tree) → Bad Q (in_symbol t)
  unfolding in_symbol
  in_symbol_lem t = bad-then Q (in_atom t) symbol_in (in_atom_lem t) symbol_in_lem

  integer_in_lem : (a : Atom) → Bad Q (integer_in a)
  unfolding integer_in
  integer_in_lem (symbol s) = q.eight
  integer_in_lem (quoted s) = q.eight
  integer_in_lem (integer w) = tt
  integer_in_lem (decimal s) = q.eight
  integer_in_lem (boolean b) = q.eight

  in-integer : (t : Tree) → Bad Q (in_integer t)
  unfolding in_integer
  in-integer t = bad-then Q (in_atom t) integer_in (in_atom_lem t) integer_in_lem

  pub tree-at : (ts : Trees) (i : ℕ) → Bad Q (tree_at ts i)
  unfolding tree_at
  tree-at tnil i = q.eight
  tree-at (tcons t ts) zero = tt
  tree-at (tcons t ts) (suc i) = tree-at ts i

  pub list_at : (ts : Trees) (i : ℕ) → Bad Q (and_then (tree_at ts i) in_list)
  list_at ts i = bad-then Q (tree_at ts i) in_list (tree-at ts i) in_list_lem

  size-named : (w : List ℕ) → Bad Q (size_named w)
  unfolding size_named
  size-named w =
      bad-then Q (check (begins_with (ascii "Size") w) malformed) _ (bad-check Q (begins_with (ascii "Size") w) malformed q.eight) λ _.
      or_bad_lem malformed (unsigned 10 (2 ^ 32) (drop 4 w)) q.eight

  func-number : (w : Wide) → Bad Q (func_number w)
  unfolding func_number
  func-number w = bad-then Q (check (leb (value_of w) max_func) bad_func) _ (bad-check Q (leb (value_of w) max_func) bad_func q.twelve) λ _. tt

  -- An item of a list as a sort.
  record BadView (v : View) : Type 0 where
    sort : Bad Q v.sort
    inside : Bad Q v.inside

  abbrev BadViews : List View → Type 0
  BadViews [] = Unit {0}
  BadViews (v ∷ vs) = BadView v × BadViews vs

  view-at : {A : Type 0} (vs : List View) (i : ℕ) (f : View → Ans A) → BadViews vs → ((v : View) → BadView v → Bad Q (f v)) → Bad Q (and_then (view_at vs i) f)
  unfolding view_at
  view-at [] i f h k = q.eight
  view-at (v ∷ vs) zero f h k = k v h.0
  view-at (v ∷ vs) (suc i) f h k = view-at vs i f h.1 k

  each_sort_lem : (vs : List View) → BadViews vs → Bad Q (each_sort vs)
  unfolding each_sort
  each_sort_lem [] h = tt
  each_sort_lem (v ∷ vs) h =
      bad-then Q v.sort _ h.0.sort λ s.
      bad-then Q (each_sort vs) _ (each_sort_lem vs h.1) λ ss.
      tt

  func-sort : (vs : List View) → BadViews vs → Bad Q (func_sort vs)
  unfolding func_sort
  func-sort vs h =
      view-at vs 0 _ h λ k _.
      bad-then Q (in_integer k.tree) _ (in-integer k.tree) λ w.
      view-at vs 1 _ h λ ins i.
      bad-then Q (in_list ins.tree) _ (in_list_lem ins.tree) λ _.
      bad-then Q (func_number w) _ (func-number w) λ n.
      bad-then Q ins.inside _ i.inside λ ss.
      view-at vs 2 _ h λ out o.
      bad-then Q out.sort _ o.sort λ _.
      tt

  function-sort : (vs : List View) → BadViews vs → Bad Q (function_sort vs)
  unfolding function_sort
  function-sort vs h =
      view-at vs 0 _ h λ a i.
      bad-then Q a.sort _ i.sort λ s.
      view-at vs 1 _ h λ b j.
      bad-then Q b.sort _ j.sort λ t.
      tt

  module _ (text : List ℕ) where
    pub size_of_lem : (t : Tree) → Bad Q (ParseSort.size_of text t)
    unfolding ParseSort.size_of
    size_of_lem t = bad-then Q (in_symbol t) _ (in_symbol_lem t) λ s. size-named (bytes_at text s)

    form-sort : (form : SortForm) (vs : List View) → BadViews vs → Bad Q (ParseSort.form_sort text form vs)
    unfolding ParseSort.form_sort ParseSort.bit_vec_sort
    form-sort func vs h = func-sort vs h
    form-sort function vs h = function-sort vs h
    form-sort bit_vec vs h =
        bad-then Q (each_sort vs) _ (each_sort_lem vs h) λ _.
        view-at vs 0 _ h λ v _.
        bad-then Q (ParseSort.size_of text v.tree) _ (size_of_lem v.tree) λ width.
        tt
    form-sort (applied c) vs h = bad-then Q (each_sort vs) _ (each_sort_lem vs h) λ ss. tt

    symbol-sort : (s : Span) → Bad Q (ParseSort.symbol_sort text s)
    unfolding ParseSort.symbol_sort other_sort
    symbol-sort s = go (lookup plain_sorts (bytes_at text s))
      where
        go : (m : Maybe _) → Bad Q (other_sort (bytes_at text s) s m)
        go (just o) = tt
        go nothing =
            pick-holds (begins_with (ascii "Size") (bytes_at text s)) (and_then (size_named (bytes_at text s)) λ width. got (s_size width)) (got (or_data s (index_named (bytes_at text s)))) (Bad Q)
            (bad-then Q (size_named (bytes_at text s)) _ (size-named (bytes_at text s)) λ width. tt) tt

    list-sort : (vs : List View) → BadViews vs → Bad Q (ParseSort.list_sort text vs)
    unfolding ParseSort.list_sort
    list-sort [] h = q.eight
    list-sort (v ∷ vs) h = bad-then Q (in_symbol v.tree) _ (in_symbol_lem v.tree) λ s. form-sort (ParseSort.sort_form text s (length vs)) vs h.1

    mutual
      unfolding ParseSort.view ParseSort.atom_sort

      bad-view : (t : Tree) → BadView (ParseSort.view text t)
      bad-view (atom a) = record { sort = bad-then Q (symbol_in a) _ (symbol_in_lem a) symbol-sort; inside = q.eight }
      bad-view (list ts) = record { sort = list-sort (ParseSort.views text ts) (bad-views ts); inside = each_sort_lem (ParseSort.views text ts) (bad-views ts) }

      bad-views : (ts : Trees) → BadViews (ParseSort.views text ts)
      bad-views tnil = tt
      bad-views (tcons t ts) = (bad-view t, bad-views ts)

    -- A tree as a sort.
    pub sort-bad : (t : Tree) → Bad Q (ParseSort.parse_sort text t)
    unfolding ParseSort.parse_sort
    sort-bad t = (bad-view t).sort
