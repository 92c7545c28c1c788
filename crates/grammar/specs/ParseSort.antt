-- The sort that a tree is read as: `parse_sort`, `parse_list_sort`, `parse_func_sort`.
use Rattle.std.specs.Prelude.{ℕ, zero, suc, ◌-◌, ◌^◌, List, [], ◌∷◌, eqb, leb, length, take, drop, get_or}
use Rattle.reading.specs.Limits.{max_func}
use Rattle.reading.specs.Pick.{pick}
use Rattle.reading.specs.Bytes.{ascii, begins_with, Span, bytes_at, Maybe, nothing, just, Named, lookup}
use Rattle.reading.specs.Number.{Wide, value_of, unsigned}
use Rattle.reading.specs.Tree.{Atom, symbol, quoted, integer, decimal, boolean, Tree, Trees, atom, list, tnil, tcons}
use Rattle.reading.specs.Answer.{Ans, got, bad, and_then, or_bad, check, malformed, bad_func}
use Rattle.grammar.specs.Sort.{c_data, Sort, Sorts, s_bit_vec, s_size, s_var, s_func, s_app, snil, scons, funcs, abstracted}
use Rattle.grammar.specs.Names.{plain_sorts, SortForm, func, function, bit_vec, applied, one_sort, two_sorts, three_items}

-- A tree taken apart; any other is 8.
unfoldable pub in_list : Tree → Ans Trees
in_list (atom a) = bad malformed
in_list (list ts) = got ts

unfoldable pub in_atom : Tree → Ans Atom
in_atom (atom a) = got a
in_atom (list ts) = bad malformed

unfoldable pub symbol_in : Atom → Ans Span
symbol_in (symbol s) = got s
symbol_in (quoted s) = bad malformed
symbol_in (integer w) = bad malformed
symbol_in (decimal s) = bad malformed
symbol_in (boolean b) = bad malformed

unfoldable pub in_symbol : Tree → Ans Span
in_symbol t = and_then (in_atom t) symbol_in

unfoldable pub integer_in : Atom → Ans Wide
integer_in (symbol s) = bad malformed
integer_in (quoted s) = bad malformed
integer_in (integer w) = got w
integer_in (decimal s) = bad malformed
integer_in (boolean b) = bad malformed

unfoldable pub in_integer : Tree → Ans Wide
in_integer t = and_then (in_atom t) integer_in

-- The tree at a place; a missing one is 8.
unfoldable pub tree_at : Trees → ℕ → Ans Tree
tree_at tnil i = bad malformed
tree_at (tcons t ts) zero = got t
tree_at (tcons t ts) (suc i) = tree_at ts i

-- `Size` and a width, which is a u32.
unfoldable pub size_named : List ℕ → Ans ℕ
size_named w = and_then (check (begins_with (ascii "Size") w) malformed) λ _. or_bad malformed (unsigned 10 (2 ^ 32) (drop 4 w))

-- The index of `@(i)`, which is a 64-bit number.
unfoldable pub index_named : List ℕ → Maybe ℕ
index_named w =
    pick (begins_with (ascii "@(") w)
    (pick (eqb (get_or w (length w - 1) 0) 41) (unsigned 10 (2 ^ 64) (take (length w - 3) (drop 2 w))) nothing)
    nothing

abbrev pub or_data : Span → Maybe ℕ → Sort
or_data s nothing = s_app (c_data s) snil
or_data s (just i) = s_var i

abbrev pub sized : Ans ℕ → Ans Sort
sized a = and_then a λ width. got (s_size width)

-- A symbol that is no plain sort: a size, an index, or a constructor without sorts.
unfoldable pub other_sort : List ℕ → Span → Maybe Sort → Ans Sort
other_sort w s (just sort) = got sort
other_sort w s nothing = pick (begins_with (ascii "Size") w) (sized (size_named w)) (got (or_data s (index_named w)))

-- The names for a list with so many items behind its first.
unfoldable pub sort_table : ℕ → List (Named SortForm)
sort_table n = pick (eqb n 1) one_sort (pick (eqb n 2) two_sorts (pick (eqb n 3) three_items []))

abbrev pub or_applied : Span → Maybe SortForm → SortForm
or_applied s nothing = applied (c_data s)
or_applied s (just form) = form

-- A `func` number is at most the limit; one below 0 is far above it in two's complement.
unfoldable pub func_number : Wide → Ans ℕ
func_number w = and_then (check (leb (value_of w) max_func) bad_func) λ _. got (value_of w)

-- An item of a list: its tree, the sort it is, and the sorts of its own items.
pub record View : Type 0 where
  pub tree : Tree
  pub sort : Ans Sort
  pub inside : Ans Sorts

unfoldable pub view_at : List View → ℕ → Ans View
view_at [] i = bad malformed
view_at (v ∷ vs) zero = got v
view_at (v ∷ vs) (suc i) = view_at vs i

unfoldable pub each_sort : List View → Ans Sorts
each_sort [] = got snil
each_sort (v ∷ vs) =
    and_then v.sort λ s.
    and_then (each_sort vs) λ ss.
    got (scons s ss)

-- `(func k (inputs) out)`: the shape, then 12, the inputs, the output.
unfoldable pub func_sort : List View → Ans Sort
func_sort vs =
    and_then (view_at vs 0) λ k.
    and_then (in_integer k.tree) λ w.
    and_then (view_at vs 1) λ ins.
    and_then (in_list ins.tree) λ _.
    and_then (func_number w) λ n.
    and_then ins.inside λ ss.
    and_then (view_at vs 2) λ out.
    and_then out.sort λ o.
    got (abstracted n 0 (funcs ss o))

-- `(function in out)`.
unfoldable pub function_sort : List View → Ans Sort
function_sort vs =
    and_then (view_at vs 0) λ a.
    and_then a.sort λ s.
    and_then (view_at vs 1) λ b.
    and_then b.sort λ t.
    got (s_func s t)

module _ (text : List ℕ) where
  unfoldable pub symbol_sort : Span → Ans Sort
  symbol_sort s = other_sort (bytes_at text s) s (lookup plain_sorts (bytes_at text s))

  unfoldable pub atom_sort : Atom → Ans Sort
  atom_sort a = and_then (symbol_in a) symbol_sort

  -- A size is a symbol.
  unfoldable pub size_of : Tree → Ans ℕ
  size_of t = and_then (in_symbol t) λ s. size_named (bytes_at text s)

  -- `(BitVec SIZE)`: its item was read as a sort before.
  unfoldable pub bit_vec_sort : List View → Ans Sort
  bit_vec_sort vs =
      and_then (view_at vs 0) λ v.
      and_then (size_of v.tree) λ width.
      got (s_bit_vec (s_size width))

  -- The items of a list sort are read before its constructor is judged.
  unfoldable pub form_sort : SortForm → List View → Ans Sort
  form_sort func vs = func_sort vs
  form_sort function vs = function_sort vs
  form_sort bit_vec vs = and_then (each_sort vs) λ _. bit_vec_sort vs
  form_sort (applied c) vs = and_then (each_sort vs) λ ss. got (s_app c ss)

  unfoldable pub sort_form : Span → ℕ → SortForm
  sort_form s n = or_applied s (lookup (sort_table n) (bytes_at text s))

  unfoldable pub list_sort : List View → Ans Sort
  list_sort [] = bad malformed
  list_sort (v ∷ vs) = and_then (in_symbol v.tree) λ s. form_sort (sort_form s (length vs)) vs

  unfoldable mutual
    pub view : Tree → View
    view (atom a) = record { tree = atom a; sort = atom_sort a; inside = bad malformed }
    view (list ts) = record { tree = list ts; sort = list_sort (views ts); inside = each_sort (views ts) }

    pub views : Trees → List View
    views tnil = []
    views (tcons t ts) = view t ∷ views ts

  -- The sort that a tree is.
  unfoldable pub parse_sort : Tree → Ans Sort
  parse_sort t = (view t).sort
