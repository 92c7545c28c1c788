-- S-expressions are read back from what is printed, terms from their S-expressions.
use Prim.Native.Nat.{ℕ}
use mathlib.Core.Path.{◌≡◌, refl, sym, ap, ◌∙◌}
use mathlib.Core.List.{List, [], ◌∷◌, ◌++◌, append_assoc, append-nil}
use Rattle.reading.specs.Pick.{pick}
use Rattle.reading.specs.Bytes.{same_bytes, Maybe, just}
use Rattle.smt.specs.Sexp.{Sx, symbol, string, reserved, numeral, list, Sxs, xnil, xcons, print}
use Rattle.smt.specs.SexpBack.{then, Token, closes, snoc, build, read_sxs}
use Rattle.smt.specs.Term.{Index, by_number, by_symbol, Ident, SmtSort, SmtSorts, srt, rnil, rcons, Var, Term, tnum, tstr, tid, tapp, tlet, texists, Terms, tnil, tcons, Bindings, bnil, bcons, index_sx, index_sxs, indexed_sx, ident_sx, parametric_sx, sort_sx, sort_sxs, var_sx, var_sxs, term_sx, term_sxs, binding_sxs, Closed, closed_bytes}
use Rattle.smt.specs.TermBack.{lead_named, other, each_index, each_sort, each_term, each_var, each_binding, view, views, closed_of, read_closed}
use Rattle.smt.proofs.Lexing.{Clean, CleanAll, tokens, tokens_all, lex_two}

-- Lists of S-expressions, one behind the other.
unfoldable pub joined : Sxs → Sxs → Sxs
joined xnil ys = ys
joined (xcons x xs) ys = xcons x (joined xs ys)

snoc-joined : (xs : Sxs) (x : Sx) (bs : Sxs) → joined (snoc xs x) bs ≡ joined xs (xcons x bs)
unfolding snoc joined
snoc-joined xnil x bs = refl
snoc-joined (xcons a xs) x bs = ap (xcons a) (snoc-joined xs x bs)

joined_nil : (xs : Sxs) → joined xs xnil ≡ xs
unfolding joined
joined_nil xnil = refl
joined_nil (xcons a xs) = ap (xcons a) (joined_nil xs)

nil_joined : (xs : Sxs) → joined xnil xs ≡ xs
unfolding joined
nil_joined xs = refl

mutual
  unfolding build tokens

  build_sx : (x : Sx) (ts : List Token) (now : Sxs) (os : List Sxs) → build (tokens x ++ ts) now os ≡ build ts (snoc now x) os
  build_sx (symbol s) ts now os = refl
  build_sx (string s) ts now os = refl
  build_sx (reserved w) ts now os = refl
  build_sx (numeral n) ts now os = refl
  build_sx (list xs) ts now os =
      ap (λ (l : List Token). build l xnil (now ∷ os)) (append_assoc (tokens_all xs) (closes ∷ []) ts)
      ∙ build-all xs (closes ∷ ts) xnil (now ∷ os)
      ∙ ap (λ (ys : Sxs). build ts (snoc now (list ys)) os) (nil_joined xs)

  build-all : (xs : Sxs) (ts : List Token) (now : Sxs) (os : List Sxs) → build (tokens_all xs ++ ts) now os ≡ build ts (joined now xs) os
  build-all xnil ts now os = ap (λ (ys : Sxs). build ts ys os) (sym (joined_nil now))
  build-all (xcons x xs) ts now os =
      ap (λ (l : List Token). build l now os) (append_assoc (tokens x) (tokens_all xs) ts)
      ∙ build_sx x (tokens_all xs ++ ts) now os
      ∙ build-all xs ts (snoc now x) os
      ∙ ap (λ (ys : Sxs). build ts ys os) (snoc-joined now x xs)

-- Two S-expressions, a space between them.
pub read-two : (x y : Sx) → Clean x → Clean y → read_sxs (print x ++ (32 ∷ print y)) ≡ just (xcons x (xcons y xnil))
unfolding read_sxs build snoc
read-two x y c d =
    ap (λ (m : Maybe (List Token)). then m λ ts. build ts xnil []) (lex_two x y c d)
    ∙ build_sx x (tokens y) xnil []
    ∙ ap (λ (l : List Token). build l (snoc xnil x) []) (sym (append-nil (tokens y)))
    ∙ build_sx y [] (snoc xnil x) []

-- Identifiers.
index-view : (i : Index) → (view (index_sx i)).index ≡ just i
unfolding view
index-view (by_number n) = refl
index-view (by_symbol s) = refl

indices-view : (ks : List Index) → each_index (views (index_sxs ks)) ≡ just ks
unfolding view
indices-view [] = refl
indices-view (k ∷ ks) = rw (index-view k, indices-view ks) refl

-- What an identifier is in its places
pub record Identifies (x : Sx) (i : Ident) : Type 0 where
  pub lead : (view x).lead ≡ other
  pub ident : (view x).ident ≡ just i
  pub sort : (view x).sort ≡ just (srt i rnil)
  pub term : (view x).term ≡ just (tid i)

indexed_view : (s : List ℕ) (ks : List Index) → Identifies (indexed_sx s ks) (record { name = s; indices = ks })
unfolding view lead_named pick same_bytes
indexed_view s [] = record { lead = refl; ident = refl; sort = refl; term = refl }
indexed_view s (k ∷ ks) =
    record {
      lead = refl;
      ident = rw (index-view k, indices-view ks) refl;
      sort = rw (index-view k, indices-view ks) refl;
      term = rw (index-view k, indices-view ks) refl;
    }

ident-view : (i : Ident) → Identifies (ident_sx i) i
ident-view i = indexed_view i.name i.indices

mutual
  unfolding view sort_sx

  pub sort-view : (s : SmtSort) → (view (sort_sx s)).sort ≡ just s
  sort-view (srt i ss) = go i ss (sorts-view ss)
    where
      go : (i : Ident) (ss : SmtSorts) → each_sort (views (sort_sxs ss)) ≡ just ss → (view (parametric_sx (ident_sx i) (sort_sxs ss))).sort ≡ just (srt i ss)
      go i rnil h = (ident-view i).sort
      go i (rcons s ss) h = rw ((ident-view i).lead, (ident-view i).ident, h) refl

  sorts-view : (ss : SmtSorts) → each_sort (views (sort_sxs ss)) ≡ just ss
  sorts-view rnil = refl
  sorts-view (rcons s ss) = rw (sort-view s, sorts-view ss) refl

var-view : (v : Var) → (view (var_sx v)).var ≡ just v
unfolding view var_sx
var-view v = rw (sort-view v.sort) refl

pub vars-view : (vs : List Var) → each_var (views (var_sxs vs)) ≡ just vs
unfolding view var_sxs
vars-view [] = refl
vars-view (v ∷ vs) = rw (var-view v, vars-view vs) refl

mutual
  unfolding view term_sx lead_named pick same_bytes

  pub term-view : (t : Term) → (view (term_sx t)).term ≡ just t
  term-view (tnum n) = refl
  term-view (tstr s) = refl
  term-view (tid i) = (ident-view i).term
  term-view (tapp i t ts) = rw ((ident-view i).lead, (ident-view i).ident, term-view t, terms-view ts) refl
  term-view (tlet s t bs b) = rw (term-view t, bindings-view bs, term-view b) refl
  term-view (texists v vs b) = rw (var-view v, vars-view vs, term-view b) refl

  terms-view : (ts : Terms) → each_term (views (term_sxs ts)) ≡ just ts
  terms-view tnil = refl
  terms-view (tcons t ts) = rw (term-view t, terms-view ts) refl

  bindings-view : (bs : Bindings) → each_binding (views (binding_sxs bs)) ≡ just bs
  bindings-view bnil = refl
  bindings-view (bcons s t bs) = rw (term-view t, bindings-view bs) refl

list-vars : (vs : List Var) → (view (list (var_sxs vs))).vars ≡ just vs
unfolding view var_sxs
list-vars [] = refl
list-vars (v ∷ vs) = rw (var-view v, vars-view vs) refl

-- A term and its variables whose names can be printed are read back.
pub record CleanClosed (c : Closed) : Type 0 where
  pub vars : CleanAll (var_sxs c.vars)
  pub term : Clean (term_sx c.term)

pub closed-back : (c : Closed) → CleanClosed c → read_closed (closed_bytes c) ≡ just c
unfolding read_closed closed_bytes view
closed-back c h =
    ap (λ (m : Maybe Sxs). then m λ xs. closed_of (views xs)) (read-two (list (var_sxs c.vars)) (term_sx c.term) h.vars h.term)
    ∙ rw (list-vars c.vars, term-view c.term) refl
