-- Sorts and terms read from S-expressions: what one is in each place where it may stand.
use Rattle.std.specs.Prelude.{ℕ, List, [], ◌∷◌}
use Rattle.reading.specs.Pick.{pick}
use Rattle.reading.specs.Bytes.{ascii, same_bytes, Maybe, nothing, just}
use Rattle.smt.specs.Sexp.{Sx, symbol, string, reserved, numeral, list, Sxs, xnil, xcons}
use Rattle.smt.specs.SexpBack.{then, read_sxs}
use Rattle.smt.specs.Term.{Index, by_number, by_symbol, Ident, plain_ident, SmtSort, SmtSorts, srt, rnil, rcons, Var, Term, tnum, tstr, tid, tapp, tlet, texists, Terms, tnil, tcons, Bindings, bnil, bcons, Closed}

-- A symbol and the term that it is bound to.
pub record Binding : Type 0 where
  pub name : List ℕ
  pub value : Term

-- How a list begins: with `_`, `let`, `exists`, or anything else.
pub data Lead : Type 0 where
  underscore letting existing other : Lead

-- By its first item, which is a reserved word.
unfoldable pub lead_named : List ℕ → Lead
lead_named w = pick (same_bytes w (ascii "_")) underscore (pick (same_bytes w (ascii "let")) letting (pick (same_bytes w (ascii "exists")) existing other))

-- What an S-expression is in each place.
pub record View : Type 0 where
  pub lead : Lead
  pub name : Maybe (List ℕ)
  pub index : Maybe Index
  pub ident : Maybe Ident
  pub sort : Maybe SmtSort
  pub term : Maybe Term
  pub var : Maybe Var
  pub vars : Maybe (List Var)
  pub binding : Maybe Binding
  pub bindings : Maybe Bindings

-- Each S-expression of a list is an index, a sort, a term, a sorted variable, a binding.
abbrev pub each_index : List View → Maybe (List Index)
each_index [] = just []
each_index (v ∷ vs) = then v.index λ i. then (each_index vs) λ is. just (i ∷ is)

abbrev pub each_sort : List View → Maybe SmtSorts
each_sort [] = just rnil
each_sort (v ∷ vs) = then v.sort λ s. then (each_sort vs) λ ss. just (rcons s ss)

abbrev pub each_term : List View → Maybe Terms
each_term [] = just tnil
each_term (v ∷ vs) = then v.term λ t. then (each_term vs) λ ts. just (tcons t ts)

abbrev pub each_var : List View → Maybe (List Var)
each_var [] = just []
each_var (v ∷ vs) = then v.var λ x. then (each_var vs) λ xs. just (x ∷ xs)

abbrev pub each_binding : List View → Maybe Bindings
each_binding [] = just bnil
each_binding (v ∷ vs) = then v.binding λ b. then (each_binding vs) λ bs. just (bcons b.name b.value bs)

-- Behind `_`: a symbol and at least one index.
abbrev pub indexed_ident : List View → Maybe Ident
indexed_ident [] = nothing
indexed_ident (v ∷ []) = nothing
indexed_ident (v ∷ i ∷ is) = then v.name λ s. then i.index λ k. then (each_index is) λ ks. just (record { name = s; indices = k ∷ ks })

-- A list as an identifier.
abbrev pub list_ident : Lead → List View → Maybe Ident
list_ident underscore vs = indexed_ident vs
list_ident letting vs = nothing
list_ident existing vs = nothing
list_ident other vs = nothing

-- An identifier and at least one sort.
abbrev pub sort_with : Maybe Ident → List View → Maybe SmtSort
sort_with f [] = nothing
sort_with f (v ∷ vs) = then f λ i. then (each_sort (v ∷ vs)) λ ss. just (srt i ss)

-- A list as a sort.
abbrev pub list_sort : Lead → Maybe Ident → List View → Maybe SmtSort
list_sort underscore f vs = then (indexed_ident vs) λ i. just (srt i rnil)
list_sort letting f vs = nothing
list_sort existing f vs = nothing
list_sort other f vs = sort_with f vs

-- An identifier and at least one term.
abbrev pub applied : Maybe Ident → List View → Maybe Term
applied f [] = nothing
applied f (v ∷ vs) = then f λ i. then v.term λ t. then (each_term vs) λ ts. just (tapp i t ts)

-- A let has at least one binding, an exists at least one variable.
abbrev pub let_of : Bindings → Term → Maybe Term
let_of bnil b = nothing
let_of (bcons s t bs) b = just (tlet s t bs b)

abbrev pub exists_of : List Var → Term → Maybe Term
exists_of [] b = nothing
exists_of (v ∷ vs) b = just (texists v vs b)

-- Two items and no more.
abbrev pub both : {A B C : Type 0} → (View → Maybe A) → (View → Maybe B) → (A → B → Maybe C) → List View → Maybe C
both f g k [] = nothing
both f g k (v ∷ []) = nothing
both f g k (v ∷ w ∷ []) = then (f v) λ a. then (g w) λ b. k a b
both f g k (v ∷ w ∷ x ∷ xs) = nothing

-- A list as a term.
abbrev pub list_term : Lead → Maybe Ident → List View → Maybe Term
list_term underscore f vs = then (indexed_ident vs) λ i. just (tid i)
list_term letting f vs = both (λ v. v.bindings) (λ v. v.term) let_of vs
list_term existing f vs = both (λ v. v.vars) (λ v. v.term) exists_of vs
list_term other f vs = applied f vs

-- What stands in no place but perhaps first in a list.
abbrev pub nowhere : Lead → View
nowhere l = record { lead = l; name = nothing; index = nothing; ident = nothing; sort = nothing; term = nothing; var = nothing; vars = nothing; binding = nothing; bindings = nothing }

-- A list, by what its items are.
abbrev pub list_view : List View → View
list_view [] = record { lead = other; name = nothing; index = nothing; ident = nothing; sort = nothing; term = nothing; var = nothing; vars = just []; binding = nothing; bindings = just bnil }
list_view (v ∷ vs) =
    record {
      lead = other;
      name = nothing;
      index = nothing;
      ident = list_ident v.lead vs;
      sort = list_sort v.lead v.ident vs;
      term = list_term v.lead v.ident vs;
      var = both (λ v. v.name) (λ v. v.sort) (λ s t. just (record { name = s; sort = t })) (v ∷ vs);
      vars = each_var (v ∷ vs);
      binding = both (λ v. v.name) (λ v. v.term) (λ s t. just (record { name = s; value = t })) (v ∷ vs);
      bindings = each_binding (v ∷ vs);
    }

-- An S-expression.
unfoldable mutual
  pub view : Sx → View
  view (symbol s) =
      record {
        lead = other;
        name = just s;
        index = just (by_symbol s);
        ident = just (plain_ident s);
        sort = just (srt (plain_ident s) rnil);
        term = just (tid (plain_ident s));
        var = nothing;
        vars = nothing;
        binding = nothing;
        bindings = nothing;
      }
  view (string s) = record { lead = other; name = nothing; index = nothing; ident = nothing; sort = nothing; term = just (tstr s); var = nothing; vars = nothing; binding = nothing; bindings = nothing }
  view (numeral n) = record { lead = other; name = nothing; index = just (by_number n); ident = nothing; sort = nothing; term = just (tnum n); var = nothing; vars = nothing; binding = nothing; bindings = nothing }
  view (reserved w) = nowhere (lead_named w)
  view (list xs) = list_view (views xs)

  pub views : Sxs → List View
  views xnil = []
  views (xcons x xs) = view x ∷ views xs

-- A list of sorted variables, then a term.
abbrev pub closed_of : List View → Maybe Closed
closed_of vs = both (λ v. v.vars) (λ v. v.term) (λ xs t. just (record { vars = xs; term = t })) vs

-- What a reader of SMT-LIB finds in bytes.
unfoldable pub read_closed : List ℕ → Maybe Closed
read_closed bytes = then (read_sxs bytes) λ xs. closed_of (views xs)
