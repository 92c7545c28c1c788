-- What is written of a solution says what the solution says, but for the foldings.
use Prim.Native.Nat.{ℕ, suc}
use Prim.Native.String.{String}
use mathlib.Core.Path.{◌≡◌, refl, sym, ap, ◌∙◌}
use mathlib.Core.List.{List, [], ◌∷◌, ◌++◌}
use mathlib.Core.Bool.{Bool, true, false, false≢true}
use native.Mathlib.Omega.{arith}
use lib.Dec.{eqb}
use borrow.Author.Tests.{eqb-true}
use Rattle.reading.specs.Pick.{pick}
use Rattle.reading.specs.Bytes.{ascii, same_bytes, Span, bytes_at, Maybe, lookup, just}
use Rattle.reading.specs.Number.{value_of}
use Rattle.reading.specs.Answer.{Ans, got, bad, and_then, check, unwritable}
use Rattle.grammar.specs.Sort.{c_set, c_map, c_data, Sort, Sorts, s_int, s_bool, s_real, s_str, s_bit_vec, s_size, s_var, s_func, s_abs, s_app, snil, scons, sorts}
use Rattle.grammar.specs.Expr.{rel_eq, Binder, Kind, k_num, k_bool, k_str, k_bit_vec, k_fresh, k_named, k_neg, k_bin, k_if, k_and, k_or, k_not, k_imp, k_iff, k_atom, k_let, k_theory, k_is_ctor, k_exists, k_let_fresh, Expr, Exprs, node, app, enil, econs, Solution}
use Rattle.grammar.proofs.AnswerHolds.{Every, check-every, then-every}
use Rattle.smt.specs.SexpBack.{then}
use Rattle.smt.specs.Term.{Ident, plain_ident, SmtSort, SmtSorts, Var, Term, tnum, tstr, tid, tapp, Terms, tnil, tcons, terms, Closed, closed_bytes}
use Rattle.smt.specs.TermBack.{read_closed}
use Rattle.smt.specs.Writer.{plainly, fresh_symbol, bits_ident, fits_width, width_of, Form, alone, operator, folded, letting, some, applying, folding, quantified, formed, application, all_writable, bytes_of, symbol_of, sort_of, sorts_of, vars_of, fields_of, head_kind, head_of, term_of, terms_of, solution_term, written}
use Rattle.smt.specs.Meant.{data_sort, MeantSorts, onil, ocons, MeantVar, MeantKind, m_num, m_bool, m_str, m_if, m_and, m_or, m_not, m_imp, m_atom, m_is_ctor, m_let_fresh, Meant, says, calls, Meants, mnil, mcons, meants}
use Rattle.smt.specs.Meaning.{Own, own_fresh, own_name, lettered, own_of, let_only, joining, variable, value, sense, plain_sorts, own_sorted, named_sort, sort_sense, sort_meaning, sorts_meaning, vars_meaning, meaning, meanings, closed_meaning, read_solution}
use Rattle.smt.specs.Shape.{joined, bound, called, sort_shape, sorts_shape, vars_shape, node_shape, expr_shape, exprs_shape, shape}
use Rattle.smt.specs.Claims.{ReadsBack}
use Rattle.smt.proofs.Tests.{pick_known}
use Rattle.smt.proofs.Clean.{term-back}
use Rattle.smt.proofs.Names.{fresh-own, name-own, fresh-sense, name-sense, bits_sense_lem, test_sense_lem, Says, operator-says, joining-says, minus_one, bin_says, atom-says, equal_sense, not-sense, imp_sense, if_sense, and-sense, or_sense, true-sense, false-sense, Calls, function-calls}

-- Terms one by one.
abbrev Means : Terms → Meants → Type 0
Means tnil mnil = Unit {0}
Means tnil (mcons e es) = ⊥
Means (tcons t ts) mnil = ⊥
Means (tcons t ts) (mcons e es) = (meaning t ≡ just e) × Means ts es

means-all : (ts : Terms) (es : Meants) → Means ts es → meanings ts ≡ just es
unfolding meaning
means-all tnil mnil h = refl
means-all tnil (mcons e es) h = absurd h
means-all (tcons t ts) mnil h = absurd h
means-all (tcons t ts) (mcons e es) h = rw (h.0, means-all ts es h.1) refl

means-count : (ts : Terms) (es : Meants) → Means ts es → terms ts ≡ meants es
unfolding terms meants
means-count tnil mnil h = refl
means-count tnil (mcons e es) h = absurd h
means-count (tcons t ts) mnil h = absurd h
means-count (tcons t ts) (mcons e es) h = ap suc (means-count ts es h.1)

-- Variables one by one.
abbrev MeansVars : List Var → List MeantVar → Type 0
MeansVars [] [] = Unit {0}
MeansVars [] (b ∷ bs) = ⊥
MeansVars (v ∷ vs) [] = ⊥
MeansVars (v ∷ vs) (b ∷ bs) = (own_of v.name ≡ just (own_fresh b.var)) × (sort_meaning v.sort ≡ just b.sort) × MeansVars vs bs

means-vars : (vs : List Var) (bs : List MeantVar) → MeansVars vs bs → vars_meaning vs ≡ just bs
unfolding vars_meaning
means-vars [] [] h = refl
means-vars [] (b ∷ bs) h = absurd h
means-vars (v ∷ vs) [] h = absurd h
means-vars (v ∷ vs) (b ∷ bs) h = rw (h.0, h.1, means-vars vs bs h.2) refl

-- Identifiers that stand alone.
value-means : (i : Ident) (k : MeantKind) → sense i ≡ just (value k) → meaning (tid i) ≡ just (says k mnil)
unfolding meaning
value-means i k h = rw h refl

variable-means : (i : Ident) (k : MeantKind) → sense i ≡ just (variable k) → meaning (tid i) ≡ just (says k mnil)
unfolding meaning
variable-means i k h = rw h refl

string-means : (w x : List ℕ) → w ≡ x → meaning (tstr w) ≡ just (says (m_str x) mnil)
unfolding meaning
string-means w x h = rw h refl

number-means : (n : ℕ) → meaning (tnum n) ≡ just (says (m_num n) mnil)
unfolding meaning
number-means n = refl

-- An identifier in front of terms.
applied-means : (i : Ident) (t : Term) (ts : Terms) (e : Meant) (es : Meants) (m : Meant) → meaning t ≡ just e → Means ts es → Says i (mcons e es) m → meaning (tapp i t ts) ≡ just m
unfolding meaning
applied-means i t ts e es m p q h = rw (p, means-all ts es q) h

-- A form with operands says what g makes of what they say.
abbrev FormSays : (Meants → Meant) → Form → Type 0
FormSays g f = (ts : Terms) (es : Meants) → Means ts es → Every (formed f ts) (λ t. meaning t ≡ just (g es))

alone-means : (g : Meants → Meant) (t : Term) → meaning t ≡ just (g mnil) → FormSays g (alone t)
unfolding formed
alone-means g t h tnil mnil c = h
alone-means g t h tnil (mcons e es) c = absurd c
alone-means g t h (tcons u us) es c = tt

operator-means : (g : Meants → Meant) (i : Ident) (n : ℕ) → ((es : Meants) → meants es ≡ n → Says i es (g es)) → FormSays g (operator i n)
unfolding formed
operator-means g i n h ts es c =
    pick_known (eqb (terms ts) n) _ _ (λ a. Every a (λ t. meaning t ≡ just (g es))) (λ e. go ts es c (h es (sym (means-count ts es c) ∙ eqb-true (terms ts) n e))) (λ e. tt)
  where
    go : (ts : Terms) (es : Meants) → Means ts es → Says i es (g es) → Every (applying i ts) (λ t. meaning t ≡ just (g es))
    go tnil es c k = tt
    go (tcons t ts) mnil c k = absurd c
    go (tcons t ts) (mcons e es) c k = applied-means i t ts e es (g (mcons e es)) c.0 c.1 k

folded-means : (u : Bool) (k : MeantKind) (unit i : Ident) → sense unit ≡ just (value (m_bool u)) → sense i ≡ just (joining k) → FormSays (joined u k) (folded unit i)
unfolding formed
folded-means u k unit i p q ts es c = go ts es c
  where
    go : (ts : Terms) (es : Meants) → Means ts es → meaning (folding unit i ts) ≡ just (joined u k es)
    go tnil mnil c = value-means unit (m_bool u) p
    go tnil (mcons e es) c = absurd c
    go (tcons t ts) mnil c = absurd c
    go (tcons t tnil) (mcons e mnil) c = c.0
    go (tcons t tnil) (mcons e (mcons f fs)) c = absurd c.1
    go (tcons t (tcons v vs)) (mcons e mnil) c = absurd c.1
    go (tcons t (tcons v vs)) (mcons e (mcons f fs)) c =
        applied-means i t (tcons v vs) e (mcons f fs) (says k (mcons e (mcons f fs))) c.0 c.1 (joining-says i k q e f fs)

letting-means : (w : List ℕ) (own : Own) (k : MeantKind) → own_of w ≡ just own → let_only own ≡ just k → FormSays (says k) (letting w)
unfolding formed meaning
letting-means w own k h l tnil es c = tt
letting-means w own k h l (tcons t tnil) es c = tt
letting-means w own k h l (tcons t (tcons u tnil)) mnil c = absurd c
letting-means w own k h l (tcons t (tcons u tnil)) (mcons e mnil) c = absurd c.1
letting-means w own k h l (tcons t (tcons u tnil)) (mcons e (mcons f mnil)) c = rw (c.0, c.1.0, h, l) refl
letting-means w own k h l (tcons t (tcons u tnil)) (mcons e (mcons f (mcons g gs))) c = absurd c.1.1
letting-means w own k h l (tcons t (tcons u (tcons v vs))) es c = tt

quantified-means : (vs : List Var) (bs : List MeantVar) (t : Term) (e : Meant) → MeansVars vs bs → meaning t ≡ just e → meaning (quantified vs t) ≡ just (bound bs (mcons e mnil))
unfolding meaning
quantified-means [] [] t e c d = d
quantified-means [] (b ∷ bs) t e c d = absurd c
quantified-means (v ∷ vs) [] t e c d = absurd c
quantified-means (v ∷ vs) (b ∷ bs) t e c d = rw (means-vars (v ∷ vs) (b ∷ bs) c, d) refl

some-means : (vs : List Var) (bs : List MeantVar) → MeansVars vs bs → FormSays (bound bs) (some vs)
unfolding formed
some-means vs bs h tnil es c = tt
some-means vs bs h (tcons t tnil) mnil c = absurd c
some-means vs bs h (tcons t tnil) (mcons e mnil) c = quantified-means vs bs t e h c.0
some-means vs bs h (tcons t tnil) (mcons e (mcons f fs)) c = absurd c.1
some-means vs bs h (tcons t (tcons u us)) es c = tt

-- An application: its head, or a call.
application-means : (ts : Terms) (es : Meants) (f : Ans Ident) (a : Ans Term) (h : Meant) → Means ts es
    → Every f (Calls h) → Every a (λ t. meaning t ≡ just h) → Every (application ts f a) (λ t. meaning t ≡ just (called es h))
application-means tnil mnil f a h c p q = q
application-means tnil (mcons e es) f a h c p q = absurd c
application-means (tcons t ts) mnil f a h c p q = absurd c
application-means (tcons t ts) (mcons e es) f a h c p q =
    then-every f _ (Calls h) (λ t. meaning t ≡ just (calls (mcons e es) h)) p λ i d.
    applied-means i t ts e es (calls (mcons e es) h) c.0 c.1 (d (mcons e es))

-- The width of a BitVec.
pub width_is : (s : Sort) → Every (width_of s) (λ n. s ≡ s_size n)
unfolding width_of
width_is s_int = tt
width_is s_bool = tt
width_is s_real = tt
width_is s_str = tt
width_is (s_bit_vec s) = tt
width_is (s_size width) = pick_known (eqb width 0) _ _ (λ a. Every a (λ n. s_size width ≡ s_size n)) (λ e. tt) (λ e. refl)
width_is (s_var i) = tt
width_is (s_func s t) = tt
width_is (s_abs i s) = tt
width_is (s_app c ss) = tt

module _ (text : List ℕ) where
  bytes_are : (s : Span) → Every (bytes_of text s) (λ n. n ≡ bytes_at text s)
  unfolding bytes_of
  bytes_are s = pick_known (all_writable (bytes_at text s)) _ _ (λ a. Every a (λ n. n ≡ bytes_at text s)) (λ e. refl) (λ e. tt)

  symbol-is : (kind : String) (s : Span) → Every (symbol_of text kind s) (λ n. n ≡ ascii kind ++ bytes_at text s)
  unfolding symbol_of
  symbol-is kind s =
      then-every (bytes_of text s) _ (λ n. n ≡ bytes_at text s) (λ n. n ≡ ascii kind ++ bytes_at text s) (bytes_are s) λ n h. ap (λ (l : List ℕ). ascii kind ++ l) h

  -- Sorts.
  abbrev SortMeans : Sort → SmtSort → Type 0
  SortMeans s t = sort_meaning t ≡ just (sort_shape text s)

  abbrev SortsMean : Sorts → SmtSorts → Type 0
  SortsMean ss ts = sorts_meaning ts ≡ just (sorts_shape text ss)

  array_means : (ss : Sorts) → eqb (sorts ss) 2 ≡ true → named_sort (ascii "Array") (sorts_shape text ss) ≡ just (sort_shape text (s_app c_map ss))
  unfolding sort_shape named_sort sorts same_bytes pick
  array_means snil h = absurd (false≢true h)
  array_means (scons s snil) h = absurd (false≢true h)
  array_means (scons s (scons t snil)) h = refl
  array_means (scons s (scons t (scons u us))) h =
      let e : suc (suc (suc (sorts us))) ≡ 2 = eqb-true (suc (suc (suc (sorts us)))) 2 h in
      absurd (omega (arith, e))

  data_means : (w : List ℕ) (ss : MeantSorts) → named_sort (ascii "s " ++ w) ss ≡ just (data_sort w ss)
  unfolding named_sort plain_sorts own_sorted lookup same_bytes pick own_of lettered
  data_means w onil = refl
  data_means w (ocons s onil) = refl
  data_means w (ocons s (ocons t onil)) = refl
  data_means w (ocons s (ocons t (ocons u us))) = refl

  mutual
    unfolding sort_of sort_shape sort_meaning sort_sense named_sort plain_sorts lookup same_bytes pick

    sort-means : (s : Sort) → Every (sort_of text s) (SortMeans s)
    sort-means s_int = refl
    sort-means s_bool = refl
    sort-means s_real = refl
    sort-means s_str = refl
    sort-means (s_bit_vec s) = then-every (width_of s) _ (λ n. s ≡ s_size n) (SortMeans (s_bit_vec s)) (width_is s) λ n e. rw e refl
    sort-means (s_size n) = tt
    sort-means (s_var i) = tt
    sort-means (s_func s t) = tt
    sort-means (s_abs i s) = tt
    sort-means (s_app c_set ss) = tt
    sort-means (s_app c_map ss) =
        then-every (check (eqb (sorts ss) 2) unwritable) _ (λ u. eqb (sorts ss) 2 ≡ true) (SortMeans (s_app c_map ss)) (check-every (eqb (sorts ss) 2) unwritable) λ u e.
        then-every (sorts_of text ss) _ (SortsMean ss) (SortMeans (s_app c_map ss)) (sorts_mean ss) λ ts h. rw h (array_means ss e)
    sort-means (s_app (c_data s) ss) =
        then-every (symbol_of text "s " s) _ (λ n. n ≡ ascii "s " ++ bytes_at text s) (SortMeans (s_app (c_data s) ss)) (symbol-is "s " s) λ n e.
        then-every (sorts_of text ss) _ (SortsMean ss) (SortMeans (s_app (c_data s) ss)) (sorts_mean ss) λ ts h. rw (h, e) (data_means (bytes_at text s) (sorts_shape text ss))

    sorts_mean : (ss : Sorts) → Every (sorts_of text ss) (SortsMean ss)
    sorts_mean snil = refl
    sorts_mean (scons s ss) =
        then-every (sort_of text s) _ (SortMeans s) (SortsMean (scons s ss)) (sort-means s) λ t c.
        then-every (sorts_of text ss) _ (SortsMean ss) (SortsMean (scons s ss)) (sorts_mean ss) λ ts d. rw (c, d) refl

  -- Variables.
  abbrev VarsMean : List Binder → List Var → Type 0
  VarsMean bs vs = MeansVars vs (vars_shape text bs)

  vars_mean : (bs : List Binder) → Every (vars_of text bs) (VarsMean bs)
  unfolding vars_of vars_shape
  vars_mean [] = tt
  vars_mean (b ∷ bs) =
      then-every (sort_of text b.sort) _ (SortMeans b.sort) (VarsMean (b ∷ bs)) (sort-means b.sort) λ s c.
      then-every (vars_of text bs) _ (VarsMean bs) (VarsMean (b ∷ bs)) (vars_mean bs) λ vs d. (fresh-own b.var, c, d)

  -- A name that is written, in a form.
  named-form : (k : Kind) (x : Span) (f : List ℕ → Form) → FormSays (node_shape text k) (f (ascii "n " ++ bytes_at text x)) → Every (and_then (symbol_of text "n " x) λ n. got (f n)) (FormSays (node_shape text k))
  named-form k x f h =
      then-every (symbol_of text "n " x) _ (λ n. n ≡ ascii "n " ++ bytes_at text x) (FormSays (node_shape text k)) (symbol-is "n " x) λ n e. rw e h

  fields_mean : (k : Kind) → Every (fields_of text k) (FormSays (node_shape text k))
  unfolding fields_of node_shape
  fields_mean (k_num v) = alone-means _ (tnum (value_of v)) (number-means (value_of v))
  fields_mean (k_bool true) = alone-means _ (tid (plainly "true")) (value-means _ _ true-sense)
  fields_mean (k_bool false) = alone-means _ (tid (plainly "false")) (value-means _ _ false-sense)
  fields_mean (k_str s) =
      then-every (bytes_of text s) _ (λ n. n ≡ bytes_at text s) (FormSays (node_shape text (k_str s))) (bytes_are s) λ n e. alone-means _ (tstr n) (string-means n (bytes_at text s) e)
  fields_mean (k_bit_vec v width) =
      pick_known (fits_width v width) _ _ (λ a. Every a (FormSays (node_shape text (k_bit_vec v width)))) (λ e. alone-means _ (tid (bits_ident (value_of v) width)) (value-means _ _ (bits_sense_lem (value_of v) width))) (λ e. tt)
  fields_mean (k_fresh k) = alone-means _ (tid (plain_ident (fresh_symbol k))) (variable-means _ _ (fresh-sense k))
  fields_mean (k_named x) = named-form (k_named x) x.span (λ n. alone (tid (plain_ident n))) (alone-means _ _ (variable-means _ _ (name-sense (bytes_at text x.span))))
  fields_mean k_neg = operator-means _ (plainly "-") 1 minus_one
  fields_mean (k_bin op) = operator-means _ _ 2 (bin_says op)
  fields_mean k_if = operator-means _ (plainly "ite") 3 (operator-says (plainly "ite") m_if 3 if_sense)
  fields_mean k_and = folded-means true m_and (plainly "true") (plainly "and") true-sense and-sense
  fields_mean k_or = folded-means false m_or (plainly "false") (plainly "or") false-sense or_sense
  fields_mean k_not = operator-means _ (plainly "not") 1 (operator-says (plainly "not") m_not 1 not-sense)
  fields_mean k_imp = operator-means _ (plainly "=>") 2 (operator-says (plainly "=>") m_imp 2 imp_sense)
  fields_mean k_iff = operator-means _ (plainly "=") 2 (operator-says (plainly "=") (m_atom rel_eq) 2 equal_sense)
  fields_mean (k_atom r) = operator-means _ _ 2 (atom-says r)
  fields_mean (k_let x) = named-form (k_let x) x.span letting (letting-means _ (own_name (bytes_at text x.span)) _ (name-own (bytes_at text x.span)) refl)
  fields_mean (k_theory k) = tt
  fields_mean (k_is_ctor x) =
      named-form (k_is_ctor x) x.span _ (operator-means _ _ 1 (operator-says _ (m_is_ctor (bytes_at text x.span)) 1 (test_sense_lem (bytes_at text x.span))))
  fields_mean (k_exists bs) =
      then-every (vars_of text bs) _ (VarsMean bs) (FormSays (node_shape text (k_exists bs))) (vars_mean bs) λ vs c. some-means vs (vars_shape text bs) c
  fields_mean (k_let_fresh k) = letting-means (fresh_symbol k) (own_fresh k) (m_let_fresh k) (fresh-own k) refl

  -- Heads.
  head-kind-calls : (k : Kind) → Every (head_kind text k) (Calls (node_shape text k mnil))
  unfolding head_kind node_shape
  head-kind-calls (k_num v) = tt
  head-kind-calls (k_bool b) = tt
  head-kind-calls (k_str s) = tt
  head-kind-calls (k_bit_vec v width) = tt
  head-kind-calls (k_fresh k) = λ es. rw (fresh-sense k) refl
  head-kind-calls (k_named x) =
      then-every (symbol_of text "n " x.span) _ (λ n. n ≡ ascii "n " ++ bytes_at text x.span) (Calls (node_shape text (k_named x) mnil)) (symbol-is "n " x.span) λ n e es. rw (e, name-sense (bytes_at text x.span)) refl
  head-kind-calls k_neg = tt
  head-kind-calls (k_bin op) = tt
  head-kind-calls k_if = tt
  head-kind-calls k_and = tt
  head-kind-calls k_or = tt
  head-kind-calls k_not = tt
  head-kind-calls k_imp = tt
  head-kind-calls k_iff = tt
  head-kind-calls (k_atom r) = tt
  head-kind-calls (k_let x) = tt
  head-kind-calls (k_theory k) = function-calls k
  head-kind-calls (k_is_ctor x) = tt
  head-kind-calls (k_exists bs) = tt
  head-kind-calls (k_let_fresh k) = tt

  head-calls : (h : Expr) → Every (head_of text h) (Calls (expr_shape text h))
  unfolding head_of expr_shape
  head-calls (node k enil) = head-kind-calls k
  head-calls (node k (econs e es)) = tt
  head-calls (app o es h) = tt

  -- Terms.
  abbrev TermMeans : Expr → Term → Type 0
  TermMeans e t = meaning t ≡ just (expr_shape text e)

  abbrev TermsMean : Exprs → Terms → Type 0
  TermsMean es ts = Means ts (exprs_shape text es)

  mutual
    unfolding term_of expr_shape

    term-means : (e : Expr) → Every (term_of text e) (TermMeans e)
    term-means (node k es) =
        then-every (fields_of text k) _ (FormSays (node_shape text k)) (TermMeans (node k es)) (fields_mean k) λ f h.
        then-every (terms_of text es) _ (TermsMean es) (TermMeans (node k es)) (terms_mean es) λ ts c. h ts (exprs_shape text es) c
    term-means (app o es h) =
        then-every (terms_of text es) _ (TermsMean es) (TermMeans (app o es h)) (terms_mean es) λ ts c.
        application-means ts (exprs_shape text es) (head_of text h) (term_of text h) (expr_shape text h) c (head-calls h) (term-means h)

    terms_mean : (es : Exprs) → Every (terms_of text es) (TermsMean es)
    terms_mean enil = tt
    terms_mean (econs e es) =
        then-every (term_of text e) _ (TermMeans e) (TermsMean (econs e es)) (term-means e) λ t c.
        then-every (terms_of text es) _ (TermsMean es) (TermsMean (econs e es)) (terms_mean es) λ ts d. (c, d)

  abbrev ClosedMeans : Solution → Closed → Type 0
  ClosedMeans s c = closed_meaning c ≡ just (shape text s)

  solution-means : (s : Solution) → Every (solution_term text s) (ClosedMeans s)
  unfolding solution_term closed_meaning shape
  solution-means s =
      then-every (vars_of text s.params) _ (VarsMean s.params) (ClosedMeans s) (vars_mean s.params) λ vs c.
      then-every (term_of text s.body) _ (TermMeans s.body) (ClosedMeans s) (term-means s.body) λ t d.
      rw (means-vars vs (vars_shape text s.params) c, d) refl

  written-shape : (s : Solution) → Every (written text s) (λ bytes. read_solution bytes ≡ just (shape text s))
  unfolding written read_solution
  written-shape s = go (solution_term text s) refl (solution-means s)
    where
      go : (x : Ans Closed) → solution_term text s ≡ x → Every x (ClosedMeans s) → Every (and_then x λ c. got (closed_bytes c)) (λ bytes. then (read_closed bytes) closed_meaning ≡ just (shape text s))
      go (bad r) e h = tt
      go (got c) e h = ap (λ (m : Maybe Closed). then m closed_meaning) (term-back text s c e) ∙ h

-- What is written of a solution reads back as the solution's shape.
pub reads-back : ReadsBack
reads-back text s bytes e = rw e at (written-shape text s)
