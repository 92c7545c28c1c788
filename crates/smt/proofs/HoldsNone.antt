-- What is written holds no part and no byte that request C-11 lists.
use Prim.Native.Nat.{ℕ, ◌^◌, ◌≤◌}
use Prim.Native.String.{String}
use mathlib.Core.Path.{◌≡◌, refl}
use mathlib.Core.Bool.{Bool, true, false, false≢true}
use mathlib.Core.List.{List}
use native.Mathlib.Omega.{arith}
use lib.Dec.{eqb}
use borrow.Author.Tests.{ltb-true, ltb-false, eqb-true}
use Rattle.reading.specs.Pick.{pick}
use Rattle.reading.specs.Bytes.{Span, bytes_at, Maybe}
use Rattle.reading.specs.Number.{Wide, value_of}
use Rattle.reading.specs.Answer.{Ans, got, bad, and_then, check, unwritable, unprintable}
use Rattle.grammar.specs.Sort.{Ctor, c_set, c_map, c_data, Sort, Sorts, s_size, s_app, sorts}
use Rattle.grammar.specs.Expr.{Kind, k_num, k_bool, k_str, k_bit_vec, k_fresh, k_named, k_neg, k_bin, k_if, k_and, k_or, k_not, k_imp, k_iff, k_atom, k_let, k_theory, k_is_ctor, k_exists, k_let_fresh, Expr, Exprs, node, app, enil, econs, leaf, Solution}
use Rattle.grammar.proofs.AnswerHolds.{Every}
use Rattle.smt.specs.Term.{tcons}
use Rattle.smt.specs.Writer.{fits_width, function_of, width_of, Form, application, writable, all_writable, bytes_of, symbol_of, sort_of, sorts_of, vars_of, fields_of, head_kind, head_of, term_of, terms_of, solution_term, written}
use Rattle.smt.specs.Unwritable.{SortPart, a_set, a_map_not_of_two, a_func, an_abs, a_sort_variable, a_size_outside, a_bit_vec_without_size, a_bit_vec_of_zero, in_sorts, SortsPart, in_first_sort, in_later_sorts, VarsPart, in_first_var, in_later_vars, IsHead, a_fresh_variable, a_named_variable, a_bit_vector_function, Part, a_function_below9, a_function_from32, a_function_alone, a_value_too_large, a_width_of_zero, in_vars, in_operands, in_arguments, in_head_alone, another_head, Parts, in_first, in_later, SolutionPart, in_params, in_body}
use Rattle.smt.specs.Unprintable.{Unfit, a_bar, a_quote, a_backslash, below32, above126, UnfitIn, first_byte, later_byte, SortByte, in_sort_name, byte_in_sorts, SortsByte, byte_in_first_sort, byte_in_later_sorts, VarsByte, byte_in_first_var, byte_in_later_vars, Byte, in_string, in_name, in_let_name, in_ctor_name, byte_in_vars, byte_in_operands, byte_in_arguments, byte_in_head, Bytes, byte_in_first, byte_in_later, SolutionByte, byte_in_params, byte_in_body}
use Rattle.smt.specs.Claims.{HoldsNone}
use Rattle.smt.proofs.Tests.{pick-and, pick_unless}
use Rattle.smt.proofs.Clean.{is-writable}
use Rattle.smt.proofs.Shaped.{width_is}

-- An answer that is no refusal.
abbrev Got : {A : Type 0} → Ans A → Type 0
Got (got a) = Unit {0}
Got (bad r) = ⊥

got-first : {A B : Type 0} (x : Ans A) (f : A → Ans B) → Got (and_then x f) → Got x
got-first (got a) f g = tt
got-first (bad r) f g = g

got-then : {A B : Type 0} (x : Ans A) (f : A → Ans B) (P : Type 0) → Got (and_then x f) → ((a : A) → Got (f a) → P) → P
got-then (got a) f P g k = k a g
got-then (bad r) f P g k = absurd g

got-every : {A : Type 0} (x : Ans A) (Q : A → Type 0) (P : Type 0) → Got x → Every x Q → ((a : A) → Q a → P) → P
got-every (got a) Q P g q k = k a q
got-every (bad r) Q P g q k = absurd g

-- One of two answers, of which one is a refusal.
got_unless : {A : Type 0} (t : Bool) (r x : Ans A) → (Got r → ⊥) → Got (pick t r x) → (t ≡ false) × Got x
unfolding pick
got_unless true r x n g = absurd (n g)
got_unless false r x n g = (refl, g)

got-pick : {A : Type 0} (t : Bool) (x r : Ans A) → (Got r → ⊥) → Got (pick t x r) → t ≡ true
unfolding pick
got-pick true x r n g = refl
got-pick false x r n g = absurd (n g)

got-check : (t : Bool) → Got (check t unwritable) → t ≡ true
got-check true g = refl
got-check false g = absurd g

-- Bytes that may be written are not listed.
fit : {b : ℕ} → Unfit b → writable b ≡ true → ⊥
fit a_bar e = unfold writable pick in false≢true e
fit a_quote e = unfold writable pick in false≢true e
fit a_backslash e = unfold writable pick in false≢true e
fit (below32 {b = b} l) e = omega (arith, (is-writable b e).low)
fit (above126 {b = b} l) e = omega (arith, (is-writable b e).high)

fit_all : {bs : List ℕ} → UnfitIn bs → all_writable bs ≡ true → ⊥
unfolding all_writable
fit_all (first_byte {b = b} u) e = fit u (pick-and (writable b) _ e).0
fit_all (later_byte {b = b} u) e = fit_all u (pick-and (writable b) _ e).1

-- A value that fits its width.
fits_width_lem : (v : Wide) (width : ℕ) → fits_width v width ≡ true → 2 ^ width ≤ value_of v → ⊥
unfolding fits_width
fits_width_lem v width e l = omega (arith, ltb-true (value_of v) (2 ^ width) (pick_unless _ _ e).1, l)

no-width : (v : Wide) → fits_width v 0 ≡ true → ⊥
unfolding fits_width pick
no-width v e = false≢true e

-- A theory function that is a head.
got-function : (k : ℕ) → Got (function_of k) → IsHead (leaf (k_theory k))
unfolding function_of
got-function k g =
    let l = got_unless _ (bad unwritable) _ (λ n. n) g in
    a_bit_vector_function (ltb-false _ _ l.0) (ltb-true _ _ (got-pick _ _ (bad unwritable) (λ n. n) l.1))

module _ (text : List ℕ) where
  bytes_fit : (s : Span) → Got (bytes_of text s) → UnfitIn (bytes_at text s) → ⊥
  unfolding bytes_of
  bytes_fit s g u = fit_all u (got-pick (all_writable (bytes_at text s)) (got (bytes_at text s)) (bad unprintable) (λ n. n) g)

  symbol-fits : (kind : String) (s : Span) → Got (symbol_of text kind s) → UnfitIn (bytes_at text s) → ⊥
  unfolding symbol_of
  symbol-fits kind s g u = bytes_fit s (got-first (bytes_of text s) _ g) u

  -- Sorts.
  app-sorts : (c : Ctor) (ss : Sorts) → Got (sort_of text (s_app c ss)) → Got (sorts_of text ss)
  unfolding sort_of
  app-sorts c_set ss g = absurd g
  app-sorts c_map ss g = got-then (check (eqb (sorts ss) 2) unwritable) _ _ g λ u h. got-first (sorts_of text ss) _ h
  app-sorts (c_data s) ss g = got-then (symbol_of text "s " s) _ _ g λ n h. got-first (sorts_of text ss) _ h

  mutual
    unfolding sort_of width_of pick

    no-sort-part : {s : Sort} → SortPart s → Got (sort_of text s) → ⊥
    no-sort-part a_set g = g
    no-sort-part (a_map_not_of_two {ss = ss} n) g = n (eqb-true (sorts ss) 2 (got-check (eqb (sorts ss) 2) (got-first (check (eqb (sorts ss) 2) unwritable) _ g)))
    no-sort-part a_func g = g
    no-sort-part an_abs g = g
    no-sort-part a_sort_variable g = g
    no-sort-part a_size_outside g = g
    no-sort-part (a_bit_vec_without_size {s = s} n) g = got-every (width_of s) (λ w. s ≡ s_size w) ⊥ (got-first (width_of s) _ g) (width_is s) n
    no-sort-part a_bit_vec_of_zero g = g
    no-sort-part (in_sorts {c = c} {ss = ss} p) g = no-sorts-part p (app-sorts c ss g)

    no-sorts-part : {ss : Sorts} → SortsPart ss → Got (sorts_of text ss) → ⊥
    no-sorts-part (in_first_sort {s = s} p) g = no-sort-part p (got-first (sort_of text s) _ g)
    no-sorts-part (in_later_sorts {s = s} {ss = ss} p) g = no-sorts-part p (got-then (sort_of text s) _ _ g λ t h. got-first (sorts_of text ss) _ h)

  mutual
    unfolding sort_of

    no-sort-byte : {s : Sort} → SortByte text s → Got (sort_of text s) → ⊥
    no-sort-byte (in_sort_name {s = s} u) g = symbol-fits "s " s (got-first (symbol_of text "s " s) _ g) u
    no-sort-byte (byte_in_sorts {c = c} {ss = ss} p) g = no-sorts-byte p (app-sorts c ss g)

    no-sorts-byte : {ss : Sorts} → SortsByte text ss → Got (sorts_of text ss) → ⊥
    no-sorts-byte (byte_in_first_sort {s = s} p) g = no-sort-byte p (got-first (sort_of text s) _ g)
    no-sorts-byte (byte_in_later_sorts {s = s} {ss = ss} p) g = no-sorts-byte p (got-then (sort_of text s) _ _ g λ t h. got-first (sorts_of text ss) _ h)

  -- Variables.
  no-vars-part : {bs : List _} → VarsPart bs → Got (vars_of text bs) → ⊥
  unfolding vars_of
  no-vars-part (in_first_var {b = b} p) g = no-sort-part p (got-first (sort_of text b.sort) _ g)
  no-vars-part (in_later_vars {b = b} {bs = bs} p) g = no-vars-part p (got-then (sort_of text b.sort) _ _ g λ t h. got-first (vars_of text bs) _ h)

  no-vars-byte : {bs : List _} → VarsByte text bs → Got (vars_of text bs) → ⊥
  unfolding vars_of
  no-vars-byte (byte_in_first_var {b = b} p) g = no-sort-byte p (got-first (sort_of text b.sort) _ g)
  no-vars-byte (byte_in_later_vars {b = b} {bs = bs} p) g = no-vars-byte p (got-then (sort_of text b.sort) _ _ g λ t h. got-first (vars_of text bs) _ h)

  -- Heads.
  got-head-kind : (k : Kind) → Got (head_kind text k) → IsHead (leaf k)
  unfolding head_kind
  got-head-kind (k_num v) g = absurd g
  got-head-kind (k_bool b) g = absurd g
  got-head-kind (k_str s) g = absurd g
  got-head-kind (k_bit_vec v width) g = absurd g
  got-head-kind (k_fresh k) g = a_fresh_variable
  got-head-kind (k_named x) g = a_named_variable
  got-head-kind k_neg g = absurd g
  got-head-kind (k_bin op) g = absurd g
  got-head-kind k_if g = absurd g
  got-head-kind k_and g = absurd g
  got-head-kind k_or g = absurd g
  got-head-kind k_not g = absurd g
  got-head-kind k_imp g = absurd g
  got-head-kind k_iff g = absurd g
  got-head-kind (k_atom r) g = absurd g
  got-head-kind (k_let x) g = absurd g
  got-head-kind (k_theory k) g = got-function k g
  got-head-kind (k_is_ctor x) g = absurd g
  got-head-kind (k_exists bs) g = absurd g
  got-head-kind (k_let_fresh k) g = absurd g

  got-head : (h : Expr) → Got (head_of text h) → IsHead h
  unfolding head_of
  got-head (node k enil) g = got-head-kind k g
  got-head (node k (econs e es)) g = absurd g
  got-head (app o es h) g = absurd g

  -- A head has no operands.
  head-leaf : (k : Kind) (es : Exprs) → Got (head_of text (node k es)) → Got (head_kind text k)
  unfolding head_of
  head-leaf k enil g = g
  head-leaf k (econs e es) g = absurd g

  abbrev Some : Exprs → Type 0
  Some enil = ⊥
  Some (econs e es) = Unit {0}

  some_byte : {es : Exprs} → Bytes text es → Some es
  some_byte (byte_in_first p) = tt
  some_byte (byte_in_later p) = tt

  head-operands : (k : Kind) (es : Exprs) → Got (head_of text (node k es)) → Some es → ⊥
  unfolding head_of
  head-operands k enil g s = s
  head-operands k (econs e es) g s = g

  no-head-byte : {h : Expr} → Byte text h → Got (head_of text h) → ⊥
  unfolding head_kind head_of
  no-head-byte (in_string {s = s} {es = es} u) g = head-leaf (k_str s) es g
  no-head-byte (in_name {x = x} {es = es} u) g = symbol-fits "n " x.span (got-first (symbol_of text "n " x.span) _ (head-leaf (k_named x) es g)) u
  no-head-byte (in_let_name {x = x} {es = es} u) g = head-leaf (k_let x) es g
  no-head-byte (in_ctor_name {x = x} {es = es} u) g = head-leaf (k_is_ctor x) es g
  no-head-byte (byte_in_vars {bs = bs} {es = es} p) g = head-leaf (k_exists bs) es g
  no-head-byte (byte_in_operands {k = k} {es = es} p) g = head-operands k es g (some_byte p)
  no-head-byte (byte_in_arguments p) g = g
  no-head-byte (byte_in_head p) g = g

  -- What is written of a node, and of an application.
  node-fields : (k : Kind) (es : Exprs) → Got (term_of text (node k es)) → Got (fields_of text k)
  unfolding term_of
  node-fields k es g = got-first (fields_of text k) _ g

  node-operands : (k : Kind) (es : Exprs) → Got (term_of text (node k es)) → Got (terms_of text es)
  unfolding term_of
  node-operands k es g = got-then (fields_of text k) _ _ g λ f h. got-first (terms_of text es) _ h

  app-arguments : (o : Maybe Sort) (es : Exprs) (h : Expr) → Got (term_of text (app o es h)) → Got (terms_of text es)
  unfolding term_of
  app-arguments o es h g = got-first (terms_of text es) _ g

  app-head : (o : Maybe Sort) (e : Expr) (es : Exprs) (h : Expr) → Got (term_of text (app o (econs e es) h)) → Got (head_of text h)
  unfolding term_of
  app-head o e es h g = go (term_of text e) (terms_of text es) g
    where
      go : (x : Ans _) (y : Ans _) → Got (and_then (and_then x λ t. and_then y λ ts. got (tcons t ts)) λ ts. application ts (head_of text h) (term_of text h)) → Got (head_of text h)
      go (got t) (got ts) g = got-first (head_of text h) _ g
      go (got t) (bad r) g = absurd g
      go (bad r) y g = absurd g

  -- Fields.
  no-fields-byte : (k : Kind) (x : Span) (f : List ℕ → Form) → fields_of text k ≡ (and_then (symbol_of text "n " x) λ n. got (f n)) → Got (fields_of text k) → UnfitIn (bytes_at text x) → ⊥
  no-fields-byte k x f e g u = symbol-fits "n " x (got-first (symbol_of text "n " x) (λ n. got (f n)) (rw e at g)) u

  mutual
    unfolding term_of fields_of

    no_part : {e : Expr} → Part e → Got (term_of text e) → ⊥
    no_part (a_function_below9 l) g = g
    no_part (a_function_from32 l) g = g
    no_part (a_function_alone l m) g = g
    no_part (a_value_too_large {v = v} {width = width} {es = es} l) g = fits_width_lem v width (got-pick (fits_width v width) _ (bad unwritable) (λ n. n) (node-fields (k_bit_vec v width) es g)) l
    no_part (a_width_of_zero {v = v} {es = es}) g = no-width v (got-pick (fits_width v 0) _ (bad unwritable) (λ n. n) (node-fields (k_bit_vec v 0) es g))
    no_part (in_vars {bs = bs} {es = es} p) g = no-vars-part p (got-first (vars_of text bs) _ (node-fields (k_exists bs) es g))
    no_part (in_operands {k = k} {es = es} p) g = no-parts p (node-operands k es g)
    no_part (in_arguments {o = o} {es = es} {h = h} p) g = no-parts p (app-arguments o es h g)
    no_part (in_head_alone p) g = no_part p g
    no_part (another_head {o = o} {e = e} {es = es} {h = h} n) g = n (got-head h (app-head o e es h g))

    no-parts : {es : Exprs} → Parts es → Got (terms_of text es) → ⊥
    no-parts (in_first {e = e} p) g = no_part p (got-first (term_of text e) _ g)
    no-parts (in_later {e = e} {es = es} p) g = no-parts p (got-then (term_of text e) _ _ g λ t h. got-first (terms_of text es) _ h)

  -- A head, by whether there are arguments.
  head_byte : (o : Maybe Sort) (es : Exprs) (h : Expr) → Byte text h → (Got (term_of text h) → ⊥) → Got (term_of text (app o es h)) → ⊥
  unfolding term_of
  head_byte o enil h b n g = n g
  head_byte o (econs e es) h b n g = no-head-byte b (app-head o e es h g)

  mutual
    unfolding term_of fields_of

    no_byte : {e : Expr} → Byte text e → Got (term_of text e) → ⊥
    no_byte (in_string {s = s} {es = es} u) g = bytes_fit s (got-first (bytes_of text s) _ (node-fields (k_str s) es g)) u
    no_byte (in_name {x = x} {es = es} u) g = no-fields-byte (k_named x) x.span _ refl (node-fields (k_named x) es g) u
    no_byte (in_let_name {x = x} {es = es} u) g = no-fields-byte (k_let x) x.span _ refl (node-fields (k_let x) es g) u
    no_byte (in_ctor_name {x = x} {es = es} u) g = no-fields-byte (k_is_ctor x) x.span _ refl (node-fields (k_is_ctor x) es g) u
    no_byte (byte_in_vars {bs = bs} {es = es} p) g = no-vars-byte p (got-first (vars_of text bs) _ (node-fields (k_exists bs) es g))
    no_byte (byte_in_operands {k = k} {es = es} p) g = no_bytes p (node-operands k es g)
    no_byte (byte_in_arguments {o = o} {es = es} {h = h} p) g = no_bytes p (app-arguments o es h g)
    no_byte (byte_in_head {o = o} {es = es} {h = h} p) g = head_byte o es h p (no_byte p) g

    no_bytes : {es : Exprs} → Bytes text es → Got (terms_of text es) → ⊥
    no_bytes (byte_in_first {e = e} p) g = no_byte p (got-first (term_of text e) _ g)
    no_bytes (byte_in_later {e = e} {es = es} p) g = no_bytes p (got-then (term_of text e) _ _ g λ t h. got-first (terms_of text es) _ h)

  -- Solutions.
  got-params : (s : Solution) → Got (written text s) → Got (vars_of text s.params)
  unfolding written solution_term
  got-params s g = got-first (vars_of text s.params) _ (got-first (solution_term text s) _ g)

  got-body : (s : Solution) → Got (written text s) → Got (term_of text s.body)
  unfolding written solution_term
  got-body s g = got-then (vars_of text s.params) _ _ (got-first (solution_term text s) _ g) λ vs h. got-first (term_of text s.body) _ h

  no-solution-part : {s : Solution} → SolutionPart s → Got (written text s) → ⊥
  no-solution-part (in_params {s = s} p) g = no-vars-part p (got-params s g)
  no-solution-part (in_body {s = s} p) g = no_part p (got-body s g)

  no-solution-byte : {s : Solution} → SolutionByte text s → Got (written text s) → ⊥
  no-solution-byte (byte_in_params {s = s} p) g = no-vars-byte p (got-params s g)
  no-solution-byte (byte_in_body {s = s} p) g = no_byte p (got-body s g)

-- What is written holds neither.
pub holds-none : HoldsNone
holds-none text s bytes e = let g : Got (written text s) = rw e tt in (λ p. no-solution-part text p g, λ p. no-solution-byte text p g)
