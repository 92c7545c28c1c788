-- The shape of a solution: each name as its bytes, each number as a number, and the foldings of request C-11: an empty And is true and an empty Or
-- false, one operand stands alone, an exists without variables is its body, an application without arguments is its head, Iff is the equality, and
-- output sorts are skipped. Nothing else is changed.
use Rattle.std.specs.Prelude.{ℕ, Bool, true, false, List, [], ◌∷◌}
use Rattle.reading.specs.Bytes.{bytes_at}
use Rattle.reading.specs.Number.{value_of}
use Rattle.grammar.specs.Sort.{Ctor, c_set, c_map, c_data, Sort, Sorts, s_int, s_bool, s_real, s_str, s_bit_vec, s_size, s_var, s_func, s_abs, s_app, snil, scons}
use Rattle.grammar.specs.Expr.{rel_eq, Binder, Kind, k_num, k_bool, k_str, k_bit_vec, k_fresh, k_named, k_neg, k_bin, k_if, k_and, k_or, k_not, k_imp, k_iff, k_atom, k_let, k_theory, k_is_ctor, k_exists, k_let_fresh, Expr, Exprs, node, app, enil, econs, Solution}
use Rattle.smt.specs.Meant.{MeantSort, int_sort, real_sort, bool_sort, string_sort, bits_sort, array_sort, data_sort, unsaid, MeantSorts, onil, ocons, MeantVar, MeantKind, m_num, m_bool, m_str, m_bit_vec, m_fresh, m_named, m_neg, m_bin, m_if, m_and, m_or, m_not, m_imp, m_atom, m_let, m_theory, m_is_ctor, m_exists, m_let_fresh, Meant, says, calls, Meants, mnil, mcons, MeantSolution}

-- No operand, by a constant; one, which stands alone; or more.
abbrev pub joined : Bool → MeantKind → Meants → Meant
joined unit k mnil = says (m_bool unit) mnil
joined unit k (mcons e mnil) = e
joined unit k (mcons e (mcons f fs)) = says k (mcons e (mcons f fs))

-- An exists without variables is its body.
abbrev pub bound : List MeantVar → Meants → Meant
bound [] mnil = says (m_exists []) mnil
bound [] (mcons e mnil) = e
bound [] (mcons e (mcons f fs)) = says (m_exists []) (mcons e (mcons f fs))
bound (b ∷ bs) es = says (m_exists (b ∷ bs)) es

-- An application without arguments is its head.
abbrev pub called : Meants → Meant → Meant
called mnil h = h
called (mcons e es) h = calls (mcons e es) h

-- A BitVec of a width.
abbrev pub bits_shape : Sort → MeantSort
bits_shape s_int = unsaid
bits_shape s_bool = unsaid
bits_shape s_real = unsaid
bits_shape s_str = unsaid
bits_shape (s_bit_vec s) = unsaid
bits_shape (s_size width) = bits_sort width
bits_shape (s_var i) = unsaid
bits_shape (s_func s t) = unsaid
bits_shape (s_abs i s) = unsaid
bits_shape (s_app c ss) = unsaid

-- A Map of two sorts.
abbrev pub map_shape : MeantSorts → MeantSort
map_shape onil = unsaid
map_shape (ocons s onil) = unsaid
map_shape (ocons s (ocons t onil)) = array_sort s t
map_shape (ocons s (ocons t (ocons u us))) = unsaid

module _ (text : List ℕ) where
  -- A constructor with the shapes of its sorts.
  abbrev pub ctor_shape : Ctor → MeantSorts → MeantSort
  ctor_shape c_set ss = unsaid
  ctor_shape c_map ss = map_shape ss
  ctor_shape (c_data s) ss = data_sort (bytes_at text s) ss

  -- Sorts that cannot be written are not said.
  unfoldable mutual
    pub sort_shape : Sort → MeantSort
    sort_shape s_int = int_sort
    sort_shape s_bool = bool_sort
    sort_shape s_real = real_sort
    sort_shape s_str = string_sort
    sort_shape (s_bit_vec s) = bits_shape s
    sort_shape (s_size width) = unsaid
    sort_shape (s_var i) = unsaid
    sort_shape (s_func s t) = unsaid
    sort_shape (s_abs i s) = unsaid
    sort_shape (s_app c ss) = ctor_shape c (sorts_shape ss)

    pub sorts_shape : Sorts → MeantSorts
    sorts_shape snil = onil
    sorts_shape (scons s ss) = ocons (sort_shape s) (sorts_shape ss)

  -- Variables keep their numbers.
  unfoldable pub vars_shape : List Binder → List MeantVar
  vars_shape [] = []
  vars_shape (b ∷ bs) = record { var = b.var; sort = sort_shape b.sort } ∷ vars_shape bs

  -- A kind with the shapes of its operands.
  unfoldable pub node_shape : Kind → Meants → Meant
  node_shape (k_num v) es = says (m_num (value_of v)) es
  node_shape (k_bool b) es = says (m_bool b) es
  node_shape (k_str s) es = says (m_str (bytes_at text s)) es
  node_shape (k_bit_vec v width) es = says (m_bit_vec (value_of v) width) es
  node_shape (k_fresh k) es = says (m_fresh k) es
  node_shape (k_named x) es = says (m_named (bytes_at text x.span)) es
  node_shape k_neg es = says m_neg es
  node_shape (k_bin op) es = says (m_bin op) es
  node_shape k_if es = says m_if es
  node_shape k_and es = joined true m_and es
  node_shape k_or es = joined false m_or es
  node_shape k_not es = says m_not es
  node_shape k_imp es = says m_imp es
  node_shape k_iff es = says (m_atom rel_eq) es
  node_shape (k_atom r) es = says (m_atom r) es
  node_shape (k_let x) es = says (m_let (bytes_at text x.span)) es
  node_shape (k_theory k) es = says (m_theory k) es
  node_shape (k_is_ctor x) es = says (m_is_ctor (bytes_at text x.span)) es
  node_shape (k_exists bs) es = bound (vars_shape bs) es
  node_shape (k_let_fresh k) es = says (m_let_fresh k) es

  -- An output sort is skipped.
  unfoldable mutual
    pub expr_shape : Expr → Meant
    expr_shape (node k es) = node_shape k (exprs_shape es)
    expr_shape (app o es h) = called (exprs_shape es) (expr_shape h)

    pub exprs_shape : Exprs → Meants
    exprs_shape enil = mnil
    exprs_shape (econs e es) = mcons (expr_shape e) (exprs_shape es)

  -- Parameters and body.
  unfoldable pub shape : Solution → MeantSolution
  shape s = record { params = vars_shape s.params; body = expr_shape s.body }
