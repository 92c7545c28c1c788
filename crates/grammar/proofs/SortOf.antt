-- What holds of the sort that a tree is read as.
use Prim.Native.Nat.{ℕ, zero, suc, ◌+◌, ◌-◌, ◌*◌, ◌^◌, ◌≤◌, ◌<◌}
use mathlib.Core.Path.{◌≡◌, refl, sym, ap, ◌∙◌}
use mathlib.Core.Logic.{◌⊎◌, inl, inr}
use mathlib.Core.Bool.{Bool, true, false}
use mathlib.Core.List.{List, [], ◌∷◌}
use native.Mathlib.Omega.{arith}
use lib.Dec.{eqb, leb, ltb}
use lib.ListN.{length, length-append, take, drop, get_or}
use borrow.Author.Tests.{leb-true, ltb-true}
use Rattle.reading.specs.Limits.{max_func}
use Rattle.reading.specs.Pick.{pick}
use Rattle.reading.specs.Bytes.{ascii, begins_with, Span, SpanWithin, bytes_at, Maybe, nothing, just, lookup}
use Rattle.reading.specs.Number.{Wide, value_of, below, unsigned}
use Rattle.reading.specs.Tree.{Atom, symbol, quoted, integer, decimal, boolean, Tree, Trees, atom, list, tnil, tcons, atom_words, tree_words, trees_words, Within, AllWithin, weight, weights}
use Rattle.reading.specs.Answer.{got, and_then, check, Refusal, bad_func}
use Rattle.reading.proofs.Picks.{pick-holds}
use Rattle.grammar.specs.Sort.{Ctor, c_set, c_map, c_data, Sort, Sorts, s_size, s_app, snil, scons, sorts, ctor_words, sort_words, sorts_words, funcs, abstracted}
use Rattle.grammar.specs.Names.{plain_sorts, SortForm, func, function, bit_vec, applied, one_sort, two_sorts, three_items}
use Rattle.grammar.specs.ParseSort
use Rattle.grammar.specs.ParseSort.{in_list, in_atom, symbol_in, in_symbol, in_integer, size_named, index_named, or_data, other_sort, sort_table, or_applied, func_number, View, view_at, each_sort, func_sort, function_sort}
use Rattle.grammar.specs.Shape.{SortCoded, SortsCoded, CtorWithin}
use Rattle.reading.proofs.Bytes.{bytes-length}
use Rattle.reading.proofs.Weight.{weight-some}
use Rattle.reading.proofs.TreeHead.{tree-two}
use Rattle.grammar.proofs.AnswerHolds.{Every, map-every, then-every, any-every, AllRows, IfThere, lookup-holds}

-- The sort's fields are within their codes, and its words and one more are at most 15 for each byte that the tree takes, and 16 for each of its words.
pub record SortOf (t : Tree) (s : Sort) : Type 0 where
  pub coded : (limit : ℕ) → Within t limit → SortCoded s limit
  pub size : length (sort_words s) + 1 ≤ 15 * weight t
  pub short : length (sort_words s) + 1 ≤ 16 * length (tree_words t)

-- The same of sorts that are read from these trees.
pub record SortsOf (ts : Trees) (ss : Sorts) : Type 0 where
  pub coded : (limit : ℕ) → AllWithin ts limit → SortsCoded ss limit
  pub size : length (sorts_words ss) + sorts ss ≤ 15 * weights ts
  pub short : length (sorts_words ss) + sorts ss ≤ 16 * length (trees_words ts)

pub record ViewOf (t : Tree) (v : View) : Type 0 where
  pub tree : v.tree ≡ t
  pub sort : Every v.sort (SortOf t)
  pub inside : (ts : Trees) → t ≡ list ts → Every v.inside (SortsOf ts)

abbrev pub ViewsOf : Trees → List View → Type 0
ViewsOf tnil [] = Unit {0}
ViewsOf tnil (v ∷ vs) = ⊥
ViewsOf (tcons t ts) [] = ⊥
ViewsOf (tcons t ts) (v ∷ vs) = ViewOf t v × ViewsOf ts vs

pub in_list_lem : (t : Tree) → Every (in_list t) (λ ts. t ≡ list ts)
unfolding in_list
in_list_lem (atom a) = tt
in_list_lem (list ts) = refl

pub symbol_in_lem : (a : Atom) → Every (symbol_in a) (λ s. a ≡ symbol s)
unfolding symbol_in
symbol_in_lem (symbol s) = refl
symbol_in_lem (quoted s) = tt
symbol_in_lem (integer w) = tt
symbol_in_lem (decimal s) = tt
symbol_in_lem (boolean b) = tt

pub in_symbol_lem : (t : Tree) → Every (in_symbol t) (λ s. t ≡ atom (symbol s))
unfolding in_symbol in_atom
in_symbol_lem (atom a) = map-every (symbol_in a) (λ s. a ≡ symbol s) (λ s. atom a ≡ atom (symbol s)) (λ s e. ap atom e) (symbol_in_lem a)
in_symbol_lem (list ts) = tt

pub check-true : (b : Bool) (r : Refusal) → Every (check b r) (λ _. b ≡ true)
check-true true r = refl
check-true false r = tt

each_sort_lem : (ts : Trees) (vs : List View) → ViewsOf ts vs → Every (each_sort vs) (SortsOf ts)
unfolding each_sort sort_words sorts weight tree_words
each_sort_lem tnil [] h = record { coded = λ limit w. tt; size = omega arith; short = omega arith }
each_sort_lem tnil (v ∷ vs) h = absurd h
each_sort_lem (tcons t ts) [] h = absurd h
each_sort_lem (tcons t ts) (v ∷ vs) h =
    then-every v.sort _ (SortOf t) _ h.0.sort λ s p.
    then-every (each_sort vs) _ (SortsOf ts) _ (each_sort_lem ts vs h.1) λ ss q.
    record {
      coded = λ limit w. (p.coded limit w.0, q.coded limit w.1);
      size = omega (arith, p.size, q.size, length-append (sort_words s) (sorts_words ss));
      short = omega (arith, p.short, q.short, length-append (sort_words s) (sorts_words ss), length-append (tree_words t) (trees_words ts));
    }

-- the words of a list of four items and more
four-long : (a b c d : Tree) (ts : Trees) → length (trees_words (tcons a (tcons b (tcons c (tcons d ts))))) ≡ length (tree_words a) + (length (tree_words b) + (length (tree_words c) + (length (tree_words d) + length (trees_words ts))))
unfolding tree_words
four-long a b c d ts =
    omega (arith, length-append (tree_words a) (trees_words (tcons b (tcons c (tcons d ts)))), length-append (tree_words b) (trees_words (tcons c (tcons d ts))), length-append (tree_words c) (trees_words (tcons d ts)), length-append (tree_words d) (trees_words ts))

-- the words of a `func` sort
funcs-size : (ss : Sorts) (o : Sort) → length (sort_words (funcs ss o)) ≡ length (sorts_words ss) + sorts ss + length (sort_words o)
unfolding funcs sort_words sorts
funcs-size snil o = omega arith
funcs-size (scons s ss) o =
    omega (arith, length-append (sort_words s) (sort_words (funcs ss o)), length-append (sort_words s) (sorts_words ss), funcs-size ss o)

funcs-coded : (ss : Sorts) (o : Sort) (limit : ℕ) → SortsCoded ss limit → SortCoded o limit → SortCoded (funcs ss o) limit
unfolding funcs
funcs-coded snil o limit p q = q
funcs-coded (scons s ss) o limit p q = (p.0, funcs-coded ss o limit p.1 q)

abstracted-size : (n i : ℕ) (s : Sort) → length (sort_words (abstracted n i s)) ≡ 2 * n + length (sort_words s)
unfolding abstracted sort_words
abstracted-size zero i s = omega arith
abstracted-size (suc n) i s = omega (arith, abstracted-size n (suc i) s)

abstracted-coded : (n i : ℕ) (s : Sort) (limit : ℕ) → SortCoded s limit → SortCoded (abstracted n i s) limit
unfolding abstracted
abstracted-coded zero i s limit p = p
abstracted-coded (suc n) i s limit p = abstracted-coded n (suc i) s limit p

func-number : (w : Wide) → Every (func_number w) (λ n. n ≤ max_func)
unfolding func_number
func-number w = then-every (check (leb (value_of w) max_func) bad_func) _ (λ _. leb (value_of w) max_func ≡ true) _ (check-true (leb (value_of w) max_func) bad_func) λ _ e. leb-true (value_of w) max_func e

-- behind a first item that takes at least four bytes
func-sort : (t : Tree) (ts : Trees) (vs : List View) → 4 ≤ weight t → ViewsOf ts vs → Every (func_sort vs) (SortOf (list (tcons t ts)))
unfolding func_sort view_at weight tree_words
func-sort t tnil [] l h = tt
func-sort t tnil (v ∷ vs) l h = absurd h
func-sort t (tcons a ts) [] l h = absurd h
func-sort t (tcons a tnil) (k ∷ []) l h = any-every (in_integer k.tree) _ _ λ w. tt
func-sort t (tcons a tnil) (k ∷ v ∷ vs) l h = absurd h.1
func-sort t (tcons a (tcons b ts)) (k ∷ []) l h = absurd h.1
func-sort t (tcons a (tcons b tnil)) (k ∷ ins ∷ []) l h =
    any-every (in_integer k.tree) _ _ λ w.
    any-every (in_list ins.tree) _ _ λ _.
    any-every (func_number w) _ _ λ n.
    any-every ins.inside _ _ λ ss.
    tt
func-sort t (tcons a (tcons b tnil)) (k ∷ ins ∷ v ∷ vs) l h = absurd h.1.1
func-sort t (tcons a (tcons b (tcons c ts))) (k ∷ ins ∷ []) l h = absurd h.1.1
func-sort t (tcons a (tcons b (tcons c ts))) (k ∷ ins ∷ out ∷ vs) l h =
    any-every (in_integer k.tree) _ _ λ w.
    then-every (in_list ins.tree) _ (λ us. ins.tree ≡ list us) _ (in_list_lem ins.tree) λ us e.
    then-every (func_number w) _ (λ n. n ≤ max_func) _ (func-number w) λ n m.
    let be : b ≡ list us = sym h.1.0.tree ∙ e in
    then-every ins.inside _ (SortsOf us) _ (h.1.0.inside us be) λ ss p.
    then-every out.sort _ (SortOf c) _ h.1.1.0.sort λ o q.
    record {
      coded = λ limit w. abstracted-coded n 0 (funcs ss o) limit (funcs-coded ss o limit (p.coded limit (rw be at w.1.1.0)) (q.coded limit w.1.1.1.0));
      size = rw be (omega (arith, abstracted-size n 0 (funcs ss o), funcs-size ss o, p.size, q.size, m, l, weight-some a));
      short = rw be (omega (arith, abstracted-size n 0 (funcs ss o), funcs-size ss o, p.short, q.short, m, tree-two t, tree-two a, four-long t a (list us) c ts));
    }

function-sort : (t : Tree) (ts : Trees) (vs : List View) → ViewsOf ts vs → Every (function_sort vs) (SortOf (list (tcons t ts)))
unfolding function_sort view_at weight sort_words tree_words
function-sort t tnil [] h = tt
function-sort t tnil (v ∷ vs) h = absurd h
function-sort t (tcons a ts) [] h = absurd h
function-sort t (tcons a tnil) (v ∷ []) h = any-every v.sort _ _ λ s. tt
function-sort t (tcons a tnil) (v ∷ u ∷ vs) h = absurd h.1
function-sort t (tcons a (tcons b ts)) (v ∷ []) h = absurd h.1
function-sort t (tcons a (tcons b ts)) (v ∷ u ∷ vs) h =
    then-every v.sort _ (SortOf a) _ h.0.sort λ s p.
    then-every u.sort _ (SortOf b) _ h.1.0.sort λ o q.
    record {
      coded = λ limit w. (p.coded limit w.1.0, q.coded limit w.1.1.0);
      size = omega (arith, p.size, q.size, length-append (sort_words s) (sort_words o));
      short = omega (arith, p.short, q.short, length-append (sort_words s) (sort_words o), length-append (tree_words t) (trees_words (tcons a (tcons b ts))), length-append (tree_words a) (trees_words (tcons b ts)), length-append (tree_words b) (trees_words ts));
    }

-- a list form that was looked up by a name of so many bytes
abbrev FormFits : ℕ → SortForm → Type 0
FormFits n func = 4 ≤ n
FormFits n function = Unit {0}
FormFits n bit_vec = Unit {0}
FormFits n (applied c) = (limit : ℕ) → CtorWithin c limit

one-fits : AllRows one_sort FormFits
unfolding one_sort
one-fits = ((λ limit. tt), (tt, tt))

two_fits : AllRows two_sorts FormFits
unfolding two_sorts
two_fits = (tt, ((λ limit. tt), ((λ limit. tt), tt)))

three-fits : AllRows three_items FormFits
unfolding three_items
three-fits = (omega arith, tt)

table_fits : (n : ℕ) → AllRows (sort_table n) FormFits
unfolding sort_table
table_fits n =
    pick-holds (eqb n 1) one_sort (pick (eqb n 2) two_sorts (pick (eqb n 3) three_items [])) (λ rows. AllRows rows FormFits) one-fits
    (pick-holds (eqb n 2) two_sorts (pick (eqb n 3) three_items []) (λ rows. AllRows rows FormFits) two_fits
    (pick-holds (eqb n 3) three_items [] (λ rows. AllRows rows FormFits) three-fits tt))

ctor-size : (c : Ctor) → length (ctor_words c) ≤ 3
ctor-size c_set = omega arith
ctor-size c_map = omega arith
ctor-size (c_data s) = omega arith

app-sort : (t : Tree) (ts : Trees) (c : Ctor) (ss : Sorts) → ((limit : ℕ) → Within t limit → CtorWithin c limit) → SortsOf ts ss → SortOf (list (tcons t ts)) (s_app c ss)
unfolding sort_words weight tree_words
app-sort t ts c ss f p =
    record {
      coded = λ limit w. (f limit w.0, p.coded limit w.1);
      size = omega (arith, p.size, ctor-size c, weight-some t, length-append (ctor_words c) (sorts ss ∷ sorts_words ss));
      short = omega (arith, p.short, ctor-size c, length-append (ctor_words c) (sorts ss ∷ sorts_words ss), length-append (tree_words t) (trees_words ts));
    }

plain_fits : AllRows plain_sorts (λ n s. (length (sort_words s) ≡ 1) × ((limit : ℕ) → SortCoded s limit))
unfolding plain_sorts sort_words
plain_fits = (
  (refl, λ limit. tt),
  (
    (refl, λ limit. tt),
    (
      (refl, λ limit. tt),
      (
        (refl, λ limit. tt),
        ((refl, λ limit. tt), ((refl, λ limit. tt), ((refl, λ limit. tt), ((refl, λ limit. tt), tt)))),
      ),
    ),
  ),
)

-- an index has 64 bits
below_holds : (limit : ℕ) (m : Maybe ℕ) → IfThere (below limit m) (λ n. n < limit)
unfolding below pick
below_holds limit nothing = tt
below_holds limit (just n) = go (ltb n limit) refl
  where
    go : (b : Bool) → ltb n limit ≡ b → IfThere (pick b (just n) nothing) (λ k. k < limit)
    go true e = ltb-true n limit e
    go false e = tt

index-holds : (w : List ℕ) → IfThere (index_named w) (λ i. i < 2 ^ 64)
unfolding index_named unsigned
index-holds w =
    pick-holds (begins_with (ascii "@(") w) (pick (eqb (get_or w (length w - 1) 0) 41) (unsigned 10 (2 ^ 64) (take (length w - 3) (drop 2 w))) nothing) nothing (λ m. IfThere m (λ i. i < 2 ^ 64))
    (pick-holds (eqb (get_or w (length w - 1) 0) 41) (unsigned 10 (2 ^ 64) (take (length w - 3) (drop 2 w))) nothing (λ m. IfThere m (λ i. i < 2 ^ 64)) (below_holds (2 ^ 64) _) tt) tt

or_data_lem : (s : Span) (m : Maybe ℕ) → IfThere m (λ i. i < 2 ^ 64) → SortOf (atom (symbol s)) (or_data s m)
unfolding sort_words weight sorts tree_words atom_words
or_data_lem s nothing h = record { coded = λ limit w. (w, tt); size = omega arith; short = omega arith }
or_data_lem s (just i) h = record { coded = λ limit w. h; size = omega arith; short = omega arith }

other-sort : (w : List ℕ) (s : Span) (m : Maybe Sort) → IfThere m (λ o. (length (sort_words o) ≡ 1) × ((limit : ℕ) → SortCoded o limit)) → Every (other_sort w s m) (SortOf (atom (symbol s)))
unfolding other_sort sort_words weight tree_words atom_words
other-sort w s (just o) h = record { coded = λ limit _. h.1 limit; size = omega (arith, h.0); short = omega (arith, h.0) }
other-sort w s nothing h =
    pick-holds (begins_with (ascii "Size") w) (and_then (size_named w) λ width. got (s_size width)) (got (or_data s (index_named w))) (λ a. Every a (SortOf (atom (symbol s))))
    (any-every (size_named w) _ _ λ width. record { coded = λ limit _. tt; size = omega arith; short = omega arith })
    (or_data_lem s (index_named w) (index-holds w))

module _ (text : List ℕ) where
  bitvec_sort : (t : Tree) (ts : Trees) (vs : List View) → Every (ParseSort.bit_vec_sort text vs) (SortOf (list (tcons t ts)))
  unfolding ParseSort.bit_vec_sort sort_words weight tree_words
  bitvec_sort t ts vs =
      any-every (view_at vs 0) _ _ λ v.
      any-every (ParseSort.size_of text v.tree) _ _ λ width.
      record { coded = λ limit w. tt; size = omega (arith, weight-some t); short = omega arith }

  form-sort : (s : Span) (ts : Trees) (vs : List View) (form : SortForm) → FormFits s.len form ⊎ (form ≡ applied (c_data s)) → ViewsOf ts vs → Every (ParseSort.form_sort text form vs) (SortOf (list (tcons (atom (symbol s)) ts)))
  unfolding ParseSort.form_sort weight
  form-sort s ts vs func (inl l) h = func-sort (atom (symbol s)) ts vs (omega (arith, l)) h
  form-sort s ts vs func (inr e) h = let z : ◌≡◌ {A = ℕ} 0 1 = cc in absurd (omega arith)
  form-sort s ts vs function l h = function-sort (atom (symbol s)) ts vs h
  form-sort s ts vs bit_vec l h = any-every (each_sort vs) _ _ λ _. bitvec_sort (atom (symbol s)) ts vs
  form-sort s ts vs (applied c) l h =
      then-every (each_sort vs) _ (SortsOf ts) _ (each_sort_lem ts vs h) λ ss p.
      app-sort (atom (symbol s)) ts c ss (fits l) p
    where
      fits : ((limit : ℕ) → CtorWithin c limit) ⊎ (applied c ≡ applied (c_data s)) → (limit : ℕ) → SpanWithin s limit → CtorWithin c limit
      fits (inl f) limit w = f limit
      fits (inr e) limit w = let q : c ≡ c_data s = cc in rw q w

  or_applied_lem : (s : Span) (n : ℕ) (m : Maybe SortForm) → n ≤ s.len → IfThere m (FormFits n) → FormFits s.len (or_applied s m) ⊎ (or_applied s m ≡ applied (c_data s))
  or_applied_lem s n nothing l h = inr refl
  or_applied_lem s n (just func) l h = inl (omega arith)
  or_applied_lem s n (just function) l h = inl tt
  or_applied_lem s n (just bit_vec) l h = inl tt
  or_applied_lem s n (just (applied c)) l h = inl h

  list-sort : (ts : Trees) (vs : List View) → ViewsOf ts vs → Every (ParseSort.list_sort text vs) (SortOf (list ts))
  unfolding ParseSort.list_sort ParseSort.sort_form
  list-sort tnil [] h = tt
  list-sort tnil (v ∷ vs) h = absurd h
  list-sort (tcons t ts) [] h = absurd h
  list-sort (tcons t ts) (v ∷ vs) h =
      then-every (in_symbol v.tree) _ (λ s. v.tree ≡ atom (symbol s)) _ (in_symbol_lem v.tree) λ s e.
      let te : t ≡ atom (symbol s) = sym h.0.tree ∙ e in
      rw te (form-sort s ts vs (or_applied s (lookup (sort_table (length vs)) (bytes_at text s))) (or_applied_lem s (length (bytes_at text s)) (lookup (sort_table (length vs)) (bytes_at text s)) (bytes-length text s) (lookup-holds (sort_table (length vs)) (bytes_at text s) FormFits (table_fits (length vs)))) h.1)

  atom-sort : (a : Atom) → Every (ParseSort.atom_sort text a) (SortOf (atom a))
  unfolding ParseSort.atom_sort ParseSort.symbol_sort
  atom-sort a =
      then-every (symbol_in a) _ (λ s. a ≡ symbol s) _ (symbol_in_lem a) λ s e.
      rw e (other-sort (bytes_at text s) s (lookup plain_sorts (bytes_at text s)) (lookup-holds plain_sorts (bytes_at text s) _ plain_fits))

  not-list : (a : Atom) (ts : Trees) → atom a ≡ list ts → ⊥
  not-list a ts e = let z : ◌≡◌ {A = ℕ} 0 1 = cc in omega arith

  mutual
    unfolding ParseSort.view

    view_of : (t : Tree) → ViewOf t (ParseSort.view text t)
    view_of (atom a) = record { tree = refl; sort = atom-sort a; inside = λ ts e. absurd (not-list a ts e) }
    view_of (list ts) =
        let h : ViewsOf ts (ParseSort.views text ts) = views_of ts in
        record { tree = refl; sort = list-sort ts (ParseSort.views text ts) h; inside = λ us e. let q : ts ≡ us = cc in rw (← q) (each_sort_lem ts (ParseSort.views text ts) h) }

    views_of : (ts : Trees) → ViewsOf ts (ParseSort.views text ts)
    views_of tnil = tt
    views_of (tcons t ts) = (view_of t, views_of ts)

  -- The sort that a tree is read as.
  pub sort_of_lem : (t : Tree) → Every (ParseSort.parse_sort text t) (SortOf t)
  unfolding ParseSort.parse_sort
  sort_of_lem t = (view_of t).sort

  -- The sorts that trees are read as.
  pub sorts_of_lem : (ts : Trees) → Every (each_sort (ParseSort.views text ts)) (SortsOf ts)
  sorts_of_lem ts = each_sort_lem ts (ParseSort.views text ts) (views_of ts)
