-- Sorts and terms of SMT-LIB 2.6 (sections 3.3 to 3.6) without `as`, `forall`, `match` and `!`, and their S-expressions.
use Rattle.std.specs.Prelude.{ℕ, suc, List, [], ◌∷◌, ◌++◌}
use Rattle.reading.specs.Bytes.{ascii}
use Rattle.smt.specs.Sexp.{Sx, symbol, string, reserved, numeral, list, Sxs, xnil, xcons, print}

-- An index is a numeral or a symbol.
pub data Index : Type 0 where
  by_number : ℕ → Index
  by_symbol : List ℕ → Index

-- An identifier: a symbol, or (_ symbol index ..).
pub record Ident : Type 0 where
  pub name : List ℕ
  pub indices : List Index

-- A symbol by itself.
abbrev pub plain_ident : List ℕ → Ident
plain_ident s = record { name = s; indices = [] }

-- An identifier, and the sorts that it is applied to.
mutual
  pub data SmtSort : Type 0 where
    srt : Ident → SmtSorts → SmtSort

  pub data SmtSorts : Type 0 where
    rnil : SmtSorts
    rcons : SmtSort → SmtSorts → SmtSorts

-- A sorted variable.
pub record Var : Type 0 where
  pub name : List ℕ
  pub sort : SmtSort

-- An application has at least one argument, a let one binding, an exists one variable: the first is written by itself.
mutual
  pub data Term : Type 0 where
    tnum : ℕ → Term
    tstr : List ℕ → Term
    tid : Ident → Term
    tapp : Ident → Term → Terms → Term
    tlet : List ℕ → Term → Bindings → Term → Term
    texists : Var → List Var → Term → Term

  pub data Terms : Type 0 where
    tnil : Terms
    tcons : Term → Terms → Terms

  pub data Bindings : Type 0 where
    bnil : Bindings
    bcons : List ℕ → Term → Bindings → Bindings

-- How many terms there are.
unfoldable pub terms : Terms → ℕ
terms tnil = 0
terms (tcons t ts) = suc (terms ts)

-- Lists of two and of three.
abbrev pub pair_sx : Sx → Sx → Sx
pair_sx x y = list (xcons x (xcons y xnil))

abbrev pub triple_sx : Sx → Sx → Sx → Sx
triple_sx x y z = list (xcons x (xcons y (xcons z xnil)))

-- The S-expression of an index.
abbrev pub index_sx : Index → Sx
index_sx (by_number n) = numeral n
index_sx (by_symbol s) = symbol s

abbrev pub index_sxs : List Index → Sxs
index_sxs [] = xnil
index_sxs (i ∷ is) = xcons (index_sx i) (index_sxs is)

-- A symbol, or one with indices behind `_`.
abbrev pub indexed_sx : List ℕ → List Index → Sx
indexed_sx s [] = symbol s
indexed_sx s (i ∷ is) = list (xcons (reserved (ascii "_")) (xcons (symbol s) (xcons (index_sx i) (index_sxs is))))

abbrev pub ident_sx : Ident → Sx
ident_sx i = indexed_sx i.name i.indices

-- A sort's name by itself, or in front of its sorts.
abbrev pub parametric_sx : Sx → Sxs → Sx
parametric_sx x xnil = x
parametric_sx x (xcons y ys) = list (xcons x (xcons y ys))

-- The S-expression of a sort.
unfoldable mutual
  pub sort_sx : SmtSort → Sx
  sort_sx (srt i ss) = parametric_sx (ident_sx i) (sort_sxs ss)

  pub sort_sxs : SmtSorts → Sxs
  sort_sxs rnil = xnil
  sort_sxs (rcons s ss) = xcons (sort_sx s) (sort_sxs ss)

-- A sorted variable is a list of its symbol and its sort.
unfoldable pub var_sx : Var → Sx
var_sx v = pair_sx (symbol v.name) (sort_sx v.sort)

unfoldable pub var_sxs : List Var → Sxs
var_sxs [] = xnil
var_sxs (v ∷ vs) = xcons (var_sx v) (var_sxs vs)

-- The S-expression of a term.
unfoldable mutual
  pub term_sx : Term → Sx
  term_sx (tnum n) = numeral n
  term_sx (tstr s) = string s
  term_sx (tid i) = ident_sx i
  term_sx (tapp i t ts) = list (xcons (ident_sx i) (xcons (term_sx t) (term_sxs ts)))
  term_sx (tlet s t bs b) = triple_sx (reserved (ascii "let")) (list (xcons (pair_sx (symbol s) (term_sx t)) (binding_sxs bs))) (term_sx b)
  term_sx (texists v vs b) = triple_sx (reserved (ascii "exists")) (list (xcons (var_sx v) (var_sxs vs))) (term_sx b)

  pub term_sxs : Terms → Sxs
  term_sxs tnil = xnil
  term_sxs (tcons t ts) = xcons (term_sx t) (term_sxs ts)

  pub binding_sxs : Bindings → Sxs
  binding_sxs bnil = xnil
  binding_sxs (bcons s t bs) = xcons (pair_sx (symbol s) (term_sx t)) (binding_sxs bs)

-- A list of sorted variables and a term.
pub record Closed : Type 0 where
  pub vars : List Var
  pub term : Term

-- The list, one space, the term.
unfoldable pub closed_bytes : Closed → List ℕ
closed_bytes c = print (list (var_sxs c.vars)) ++ (32 ∷ print (term_sx c.term))
