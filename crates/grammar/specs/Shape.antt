-- The shape of trees and expressions: which words they can be written in, and how deep they nest.
use Rattle.std.specs.Prelude.{ℕ, zero, suc, ◌+◌, ◌^◌, ◌<◌, max, ◌≡◌, List, [], ◌∷◌}
use Rattle.reading.specs.Bytes.{SpanWithin, Maybe, nothing, just}
use Rattle.grammar.specs.Sort.{Ctor, c_set, c_map, c_data, Sort, Sorts, s_int, s_bool, s_real, s_str, s_bit_vec, s_size, s_var, s_func, s_abs, s_app, snil, scons}
use Rattle.grammar.specs.Expr.{Binder, Kind, k_num, k_bool, k_str, k_bit_vec, k_fresh, k_named, k_neg, k_bin, k_if, k_and, k_or, k_not, k_imp, k_iff, k_atom, k_let, k_theory, k_is_ctor, k_exists, k_let_fresh, outside, Expr, Exprs, node, app, enil, econs, exprs}

-- A constructor whose span ends at most at a limit.
abbrev pub CtorWithin : Ctor → ℕ → Type 0
CtorWithin c_set limit = Unit {0}
CtorWithin c_map limit = Unit {0}
CtorWithin (c_data s) limit = SpanWithin s limit

-- A sort whose indexes have 64 bits and whose spans end at most at a limit.
abbrev mutual
  pub SortCoded : Sort → ℕ → Type 0
  SortCoded s_int limit = Unit {0}
  SortCoded s_bool limit = Unit {0}
  SortCoded s_real limit = Unit {0}
  SortCoded s_str limit = Unit {0}
  SortCoded (s_bit_vec s) limit = SortCoded s limit
  SortCoded (s_size width) limit = Unit {0}
  SortCoded (s_var i) limit = i < 2 ^ 64
  SortCoded (s_func s t) limit = SortCoded s limit × SortCoded t limit
  SortCoded (s_abs i s) limit = SortCoded s limit
  SortCoded (s_app c ss) limit = CtorWithin c limit × SortsCoded ss limit

  pub SortsCoded : Sorts → ℕ → Type 0
  SortsCoded snil limit = Unit {0}
  SortsCoded (scons s ss) limit = SortCoded s limit × SortsCoded ss limit

abbrev pub MaybeSortCoded : Maybe Sort → ℕ → Type 0
MaybeSortCoded nothing limit = Unit {0}
MaybeSortCoded (just s) limit = SortCoded s limit

-- Binders whose numbers are below a bound.
abbrev pub BindersCoded : List Binder → ℕ → ℕ → Type 0
BindersCoded [] limit numbers = Unit {0}
BindersCoded (b ∷ bs) limit numbers = (b.var < numbers) × SortCoded b.sort limit × BindersCoded bs limit numbers

-- So many operands are right for a kind.
abbrev pub HasOperands : Kind → ℕ → Type 0
HasOperands (k_num v) n = n ≡ 0
HasOperands (k_bool b) n = n ≡ 0
HasOperands (k_str s) n = n ≡ 0
HasOperands (k_bit_vec v width) n = n ≡ 0
HasOperands (k_fresh k) n = n ≡ 0
HasOperands (k_named x) n = n ≡ 0
HasOperands k_neg n = n ≡ 1
HasOperands (k_bin op) n = n ≡ 2
HasOperands k_if n = n ≡ 3
HasOperands k_and n = Unit {0}
HasOperands k_or n = Unit {0}
HasOperands k_not n = n ≡ 1
HasOperands k_imp n = n ≡ 2
HasOperands k_iff n = n ≡ 2
HasOperands (k_atom r) n = n ≡ 2
HasOperands (k_let x) n = n ≡ 2
HasOperands (k_theory k) n = n ≡ 0
HasOperands (k_is_ctor x) n = n ≡ 1
HasOperands (k_exists bs) n = n ≡ 1
HasOperands (k_let_fresh k) n = n ≡ 2

-- The fields of a kind are within their codes, its spans end at most at a limit, and its fresh numbers are below a bound.
abbrev pub KindCoded : Kind → ℕ → ℕ → Type 0
KindCoded (k_num v) limit numbers = Unit {0}
KindCoded (k_bool b) limit numbers = Unit {0}
KindCoded (k_str s) limit numbers = SpanWithin s limit
KindCoded (k_bit_vec v width) limit numbers = Unit {0}
KindCoded (k_fresh k) limit numbers = k < numbers
KindCoded (k_named x) limit numbers = SpanWithin x.span limit
KindCoded k_neg limit numbers = Unit {0}
KindCoded (k_bin op) limit numbers = Unit {0}
KindCoded k_if limit numbers = Unit {0}
KindCoded k_and limit numbers = Unit {0}
KindCoded k_or limit numbers = Unit {0}
KindCoded k_not limit numbers = Unit {0}
KindCoded k_imp limit numbers = Unit {0}
KindCoded k_iff limit numbers = Unit {0}
KindCoded (k_atom r) limit numbers = Unit {0}
KindCoded (k_let x) limit numbers = SpanWithin x.span limit
KindCoded (k_theory k) limit numbers = k < 42
KindCoded (k_is_ctor x) limit numbers = SpanWithin x.span limit
KindCoded (k_exists bs) limit numbers = BindersCoded bs limit numbers
KindCoded (k_let_fresh k) limit numbers = k < numbers

-- An expression that its words give back, where its fresh numbers are below 2^64.
abbrev mutual
  pub Coded : Expr → ℕ → ℕ → Type 0
  Coded (node k es) limit numbers = HasOperands k (exprs es) × KindCoded k limit numbers × CodedAll es limit numbers
  Coded (app o es h) limit numbers = CodedAll es limit numbers × MaybeSortCoded o limit × Coded h limit numbers

  pub CodedAll : Exprs → ℕ → ℕ → Type 0
  CodedAll enil limit numbers = Unit {0}
  CodedAll (econs e es) limit numbers = Coded e limit numbers × CodedAll es limit numbers

-- How many expressions stand inside one another.
unfoldable mutual
  pub depth : Expr → ℕ
  depth (node k es) = suc (depths es)
  depth (app o es h) = suc (max (depths es) (depth h))

  pub depths : Exprs → ℕ
  depths enil = 0
  depths (econs e es) = max (depth e) (depths es)

-- How many scopes a kind opens round its operands, but for those outside.
abbrev pub opens_scope : Kind → ℕ
opens_scope (k_num v) = 0
opens_scope (k_bool b) = 0
opens_scope (k_str s) = 0
opens_scope (k_bit_vec v width) = 0
opens_scope (k_fresh k) = 0
opens_scope (k_named x) = 0
opens_scope k_neg = 0
opens_scope (k_bin op) = 0
opens_scope k_if = 0
opens_scope k_and = 0
opens_scope k_or = 0
opens_scope k_not = 0
opens_scope k_imp = 0
opens_scope k_iff = 0
opens_scope (k_atom r) = 0
opens_scope (k_let x) = 0
opens_scope (k_theory k) = 0
opens_scope (k_is_ctor x) = 0
opens_scope (k_exists bs) = 1
opens_scope (k_let_fresh k) = 1

-- How many scopes stand inside one another.
unfoldable mutual
  pub scopes : Expr → ℕ
  scopes (node k es) = scopes_in (outside k) (opens_scope k) es
  scopes (app o es h) = max (scopes_all es) (scopes h)

  -- operands, all but the first n of them inside so many more
  pub scopes_in : ℕ → ℕ → Exprs → ℕ
  scopes_in n more enil = more
  scopes_in zero more (econs e es) = max (more + scopes e) (scopes_in zero more es)
  scopes_in (suc n) more (econs e es) = max (scopes e) (scopes_in n more es)

  pub scopes_all : Exprs → ℕ
  scopes_all enil = 0
  scopes_all (econs e es) = max (scopes e) (scopes_all es)
