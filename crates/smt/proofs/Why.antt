-- A solution that is judged is written, or holds a part or a byte that request C-11 lists.
use Prim.Native.Nat.{ℕ, suc, ◌≤◌, ◌<◌}
use Prim.Native.String.{String}
use mathlib.Core.Path.{◌≡◌, refl, sym, ap, ◌∙◌}
use mathlib.Core.Bool.{Bool, true, false, false≢true}
use mathlib.Core.List.{List, [], ◌∷◌}
use native.Mathlib.Omega.{arith}
use lib.Dec.{eqb, ltb}
use lib.ListN.{length}
use borrow.Author.Tests.{ltb-true, ltb-false, eqb-true, eqb-false}
use Rattle.reading.specs.Pick.{pick}
use Rattle.reading.specs.Bytes.{Span, bytes_at, Maybe}
use Rattle.reading.specs.Number.{Wide}
use Rattle.reading.specs.Answer.{Refusal, too_long, not_utf8, ends_early, stray_close, unclosed, too_deep, no_room, malformed, decimal_read, repeated_name, bad_literal, bad_func, unwritable, unprintable, wrong_width, Ans, got, bad, and_then, check}
use Rattle.grammar.specs.Sort.{c_set, c_map, c_data, Sort, Sorts, s_int, s_bool, s_real, s_str, s_bit_vec, s_size, s_var, s_func, s_abs, s_app, snil, scons, sorts}
use Rattle.grammar.specs.Expr.{Binder, Kind, k_num, k_bool, k_str, k_bit_vec, k_fresh, k_named, k_neg, k_bin, k_if, k_and, k_or, k_not, k_imp, k_iff, k_atom, k_let, k_theory, k_is_ctor, k_exists, k_let_fresh, Expr, Exprs, node, app, enil, econs, exprs, leaf, Solution}
use Rattle.grammar.specs.Shape.{HasOperands}
use Rattle.smt.specs.Term.{Terms, tnil, tcons, terms}
use Rattle.smt.specs.Writer.{fits_width, function_of, width_of, Form, alone, operator, folded, letting, some, applying, formed, application, writable, all_writable, bytes_of, symbol_of, sort_of, sorts_of, vars_of, fields_of, head_kind, head_of, term_of, terms_of, solution_term, written}
use Rattle.smt.specs.Unwritable.{SortPart, a_set, a_map_not_of_two, a_func, an_abs, a_sort_variable, a_size_outside, a_bit_vec_without_size, a_bit_vec_of_zero, in_sorts, SortsPart, in_first_sort, in_later_sorts, VarsPart, in_first_var, in_later_vars, IsHead, a_fresh_variable, a_named_variable, a_bit_vector_function, Part, a_function_below9, a_function_from32, a_function_alone, a_value_too_large, a_width_of_zero, in_vars, in_operands, in_arguments, in_head_alone, another_head, Parts, in_first, in_later, SolutionPart, in_params, in_body}
use Rattle.smt.specs.Unprintable.{Unfit, a_bar, a_quote, a_backslash, below32, above126, UnfitIn, first_byte, later_byte, SortByte, in_sort_name, byte_in_sorts, SortsByte, byte_in_first_sort, byte_in_later_sorts, VarsByte, byte_in_first_var, byte_in_later_vars, Byte, in_string, in_name, in_let_name, in_ctor_name, byte_in_vars, byte_in_operands, byte_in_arguments, byte_in_head, Bytes, byte_in_first, byte_in_later, SolutionByte, byte_in_params, byte_in_body}
use Rattle.smt.specs.Claims.{Answered, is_written, is_unwritable, is_unprintable, WrittenOrWhy}
use Rattle.smt.proofs.Tests.{pick_neither}
use Rattle.smt.proofs.Judged.{Formed, FormedAll, body-formed}

-- A refusal is 15 and has the one reason, or is 16 and has the other.
abbrev Reason : Refusal → Type 0 → Type 0 → Type 0
Reason too_long P B = ⊥
Reason not_utf8 P B = ⊥
Reason ends_early P B = ⊥
Reason stray_close P B = ⊥
Reason unclosed P B = ⊥
Reason too_deep P B = ⊥
Reason no_room P B = ⊥
Reason malformed P B = ⊥
Reason decimal_read P B = ⊥
Reason repeated_name P B = ⊥
Reason bad_literal P B = ⊥
Reason bad_func P B = ⊥
Reason unwritable P B = P
Reason unprintable P B = B
Reason wrong_width P B = ⊥

-- An answer of which Q holds, or a refusal with its reason.
abbrev Gives : {A : Type 0} → Ans A → (A → Type 0) → Type 0 → Type 0 → Type 0
Gives (got a) Q P B = Q a
Gives (bad r) Q P B = Reason r P B

reason_map : (r : Refusal) {P P' B B' : Type 0} → (P → P') → (B → B') → Reason r P B → Reason r P' B'
reason_map too_long p b h = h
reason_map not_utf8 p b h = h
reason_map ends_early p b h = h
reason_map stray_close p b h = h
reason_map unclosed p b h = h
reason_map too_deep p b h = h
reason_map no_room p b h = h
reason_map malformed p b h = h
reason_map decimal_read p b h = h
reason_map repeated_name p b h = h
reason_map bad_literal p b h = h
reason_map bad_func p b h = h
reason_map unwritable p b h = p h
reason_map unprintable p b h = b h
reason_map wrong_width p b h = h

-- A value, then what is made of it; each reason is one of the whole.
then-gives : {A B : Type 0} (x : Ans A) (f : A → Ans B) (Q : A → Type 0) (R : B → Type 0) (P C P' C' : Type 0) → Gives x Q P C → (P → P') → (C → C') → ((a : A) → Q a → Gives (f a) R P' C') → Gives (and_then x f) R P' C'
then-gives (got a) f Q R P C P' C' q p c k = k a q
then-gives (bad r) f Q R P C P' C' q p c k = reason_map r p c q

-- The same answer, with reasons of the whole.
map_gives : {A : Type 0} (x : Ans A) (Q : A → Type 0) (P C P' C' : Type 0) → Gives x Q P C → (P → P') → (C → C') → Gives x Q P' C'
map_gives (got a) Q P C P' C' q p c = q
map_gives (bad r) Q P C P' C' q p c = reason_map r p c q

-- Either of two answers, by a test.
pick_gives : {A : Type 0} (t : Bool) (x y : Ans A) (Q : A → Type 0) (P B : Type 0) → (t ≡ true → Gives x Q P B) → (t ≡ false → Gives y Q P B) → Gives (pick t x y) Q P B
unfolding pick
pick_gives true x y Q P B h k = h refl
pick_gives false x y Q P B h k = k refl

-- Any value will do.
abbrev Any : {A : Type 0} → A → Type 0
Any a = Unit {0}

-- A byte that may not be written is one of those that are listed.
unfit : (b : ℕ) → writable b ≡ false → Unfit b
unfolding writable pick
unfit b e = low (ltb b 32) refl e
  where
    backslash : (t : Bool) → eqb b 92 ≡ t → pick t false true ≡ false → Unfit b
    backslash true h e = rw (eqb-true b 92 h) a_backslash
    backslash false h e = absurd (false≢true (sym e))

    quote : (t : Bool) → eqb b 34 ≡ t → pick t false (pick (eqb b 92) false true) ≡ false → Unfit b
    quote true h e = rw (eqb-true b 34 h) a_quote
    quote false h e = backslash (eqb b 92) refl e

    bar : (t : Bool) → eqb b 124 ≡ t → pick t false (pick (eqb b 34) false (pick (eqb b 92) false true)) ≡ false → Unfit b
    bar true h e = rw (eqb-true b 124 h) a_bar
    bar false h e = quote (eqb b 34) refl e

    high : (t : Bool) → ltb b 127 ≡ t → pick t (pick (eqb b 124) false (pick (eqb b 34) false (pick (eqb b 92) false true))) false ≡ false → Unfit b
    high true h e = bar (eqb b 124) refl e
    high false h e = let l : 127 ≤ b = ltb-false b 127 h in above126 {b = b} (omega arith)

    low : (t : Bool) → ltb b 32 ≡ t → pick t false (pick (ltb b 127) (pick (eqb b 124) false (pick (eqb b 34) false (pick (eqb b 92) false true))) false) ≡ false → Unfit b
    low true h e = below32 (ltb-true b 32 h)
    low false h e = high (ltb b 127) refl e

unfit_in : (bs : List ℕ) → all_writable bs ≡ false → UnfitIn bs
unfolding all_writable pick
unfit_in [] e = absurd (false≢true (sym e))
unfit_in (b ∷ bs) e = go (writable b) refl e (unfit_in bs)
  where
    go : (t : Bool) → writable b ≡ t → pick t (all_writable bs) false ≡ false → (all_writable bs ≡ false → UnfitIn bs) → UnfitIn (b ∷ bs)
    go true h e k = later_byte (k e)
    go false h e k = first_byte (unfit b h)

-- A width of 0, or a value of 2^width or more.
too_large : (v : Wide) (width : ℕ) (es : Exprs) → fits_width v width ≡ false → Part (node (k_bit_vec v width) es)
unfolding fits_width
too_large v width es e = go (eqb width 0) refl
  where
    go : (t : Bool) → eqb width 0 ≡ t → Part (node (k_bit_vec v width) es)
    go true h = rw (eqb-true width 0 h) a_width_of_zero
    go false h = a_value_too_large (ltb-false _ _ (pick_neither _ _ e h))

-- A theory function that is no head, by its number.
function-part : (k : ℕ) (es : Exprs) → Part (node (k_theory k) es)
function-part k es = low (ltb k 9) refl
  where
    high : (t : Bool) → 9 ≤ k → ltb k 32 ≡ t → Part (node (k_theory k) es)
    high true l h = a_function_alone l (ltb-true k 32 h)
    high false l h = a_function_from32 (ltb-false k 32 h)

    low : (t : Bool) → ltb k 9 ≡ t → Part (node (k_theory k) es)
    low true h = a_function_below9 (ltb-true k 9 h)
    low false h = high (ltb k 32) (ltb-false k 9 h) refl

-- Different sorts.
abbrev IsSize : Sort → Type 0
IsSize s_int = ⊥
IsSize s_bool = ⊥
IsSize s_real = ⊥
IsSize s_str = ⊥
IsSize (s_bit_vec s) = ⊥
IsSize (s_size width) = Unit {0}
IsSize (s_var i) = ⊥
IsSize (s_func s t) = ⊥
IsSize (s_abs i s) = ⊥
IsSize (s_app c ss) = ⊥

no_size : (s : Sort) → (IsSize s → ⊥) → SortPart (s_bit_vec s)
no_size s h = a_bit_vec_without_size {s = s} λ width e. h (rw e tt)

width-gives : (s : Sort) → Gives (width_of s) Any (SortPart (s_bit_vec s)) ⊥
unfolding width_of
width-gives s_int = no_size s_int λ h. h
width-gives s_bool = no_size s_bool λ h. h
width-gives s_real = no_size s_real λ h. h
width-gives s_str = no_size s_str λ h. h
width-gives (s_bit_vec s) = no_size (s_bit_vec s) λ h. h
width-gives (s_size width) = pick_gives (eqb width 0) _ _ Any (SortPart (s_bit_vec (s_size width))) ⊥ (λ e. rw (eqb-true width 0 e) a_bit_vec_of_zero) (λ e. tt)
width-gives (s_var i) = no_size (s_var i) λ h. h
width-gives (s_func s t) = no_size (s_func s t) λ h. h
width-gives (s_abs i s) = no_size (s_abs i s) λ h. h
width-gives (s_app c ss) = no_size (s_app c ss) λ h. h

-- What is no head.
abbrev HeadKind : Kind → Type 0
HeadKind (k_num v) = ⊥
HeadKind (k_bool b) = ⊥
HeadKind (k_str s) = ⊥
HeadKind (k_bit_vec v width) = ⊥
HeadKind (k_fresh k) = Unit {0}
HeadKind (k_named x) = Unit {0}
HeadKind k_neg = ⊥
HeadKind (k_bin op) = ⊥
HeadKind k_if = ⊥
HeadKind k_and = ⊥
HeadKind k_or = ⊥
HeadKind k_not = ⊥
HeadKind k_imp = ⊥
HeadKind k_iff = ⊥
HeadKind (k_atom r) = ⊥
HeadKind (k_let x) = ⊥
HeadKind (k_theory k) = (9 ≤ k) × (k < 32)
HeadKind (k_is_ctor x) = ⊥
HeadKind (k_exists bs) = ⊥
HeadKind (k_let_fresh k) = ⊥

abbrev Head : Expr → Type 0
Head (node k enil) = HeadKind k
Head (node k (econs e es)) = ⊥
Head (app o es h) = ⊥

is-head : {h : Expr} → IsHead h → Head h
is-head a_fresh_variable = tt
is-head a_named_variable = tt
is-head (a_bit_vector_function l m) = (l, m)

no-function : (k : ℕ) → Gives (function_of k) Any (IsHead (leaf (k_theory k)) → ⊥) ⊥
unfolding function_of
no-function k =
    pick_gives _ _ _ Any (IsHead (leaf (k_theory k)) → ⊥) ⊥ (λ e i. omega (arith, ltb-true k 9 e, (is-head i).0)) λ e.
    pick_gives _ _ _ Any (IsHead (leaf (k_theory k)) → ⊥) ⊥ (λ f. tt) (λ f i. omega (arith, ltb-false k 32 f, (is-head i).1))

-- How many operands a form takes.
abbrev Takes : Form → ℕ → Type 0
Takes (alone t) n = n ≡ 0
Takes (operator i m) n = (n ≡ m) × (0 < m)
Takes (folded unit i) n = Unit {0}
Takes (letting x) n = n ≡ 2
Takes (some vs) n = n ≡ 1

-- A form with the operands that it takes is written.
formed-gives : (f : Form) (ts : Terms) (n : ℕ) (P B : Type 0) → terms ts ≡ n → Takes f n → Gives (formed f ts) Any P B
unfolding formed terms
formed-gives (alone t) tnil n P B e h = tt
formed-gives (alone t) (tcons u us) n P B e h = absurd (omega (arith, e, h))
formed-gives (operator i m) ts n P B e h = pick_gives (eqb (terms ts) m) _ _ Any P B (λ t. go ts (omega (arith, e, h.0, h.1))) (λ t. absurd (eqb-false (terms ts) m t (e ∙ h.0)))
  where
    go : (ts : Terms) → 0 < terms ts → Gives (applying i ts) Any P B
    go tnil l = absurd (omega (arith, l))
    go (tcons t ts) l = tt
formed-gives (folded unit i) ts n P B e h = tt
formed-gives (letting x) tnil n P B e h = absurd (omega (arith, e, h))
formed-gives (letting x) (tcons t tnil) n P B e h = absurd (omega (arith, e, h))
formed-gives (letting x) (tcons t (tcons u tnil)) n P B e h = tt
formed-gives (letting x) (tcons t (tcons u (tcons v vs))) n P B e h = absurd (omega (arith, e, h))
formed-gives (some vs) tnil n P B e h = absurd (omega (arith, e, h))
formed-gives (some vs) (tcons t tnil) n P B e h = tt
formed-gives (some vs) (tcons t (tcons u us)) n P B e h = absurd (omega (arith, e, h))

module _ (text : List ℕ) where
  bytes_give : (s : Span) → Gives (bytes_of text s) Any ⊥ (UnfitIn (bytes_at text s))
  unfolding bytes_of
  bytes_give s = pick_gives (all_writable (bytes_at text s)) _ _ Any ⊥ (UnfitIn (bytes_at text s)) (λ e. tt) (λ e. unfit_in (bytes_at text s) e)

  symbol-gives : (kind : String) (s : Span) → Gives (symbol_of text kind s) Any ⊥ (UnfitIn (bytes_at text s))
  unfolding symbol_of
  symbol-gives kind s = then-gives (bytes_of text s) _ Any Any _ _ _ _ (bytes_give s) (λ p. p) (λ c. c) λ n u. tt

  mutual
    unfolding sort_of

    sort-gives : (s : Sort) → Gives (sort_of text s) Any (SortPart s) (SortByte text s)
    sort-gives s_int = tt
    sort-gives s_bool = tt
    sort-gives s_real = tt
    sort-gives s_str = tt
    sort-gives (s_bit_vec s) = then-gives (width_of s) _ Any Any _ _ _ _ (width-gives s) (λ p. p) (λ c. absurd c) λ n u. tt
    sort-gives (s_size width) = a_size_outside
    sort-gives (s_var i) = a_sort_variable
    sort-gives (s_func s t) = a_func
    sort-gives (s_abs i s) = an_abs
    sort-gives (s_app c_set ss) = a_set
    sort-gives (s_app c_map ss) =
        then-gives (check (eqb (sorts ss) 2) unwritable) _ Any Any _ _ _ _ (two-sorts (eqb (sorts ss) 2) refl) (λ p. p) (λ c. absurd c) λ u _.
        then-gives (sorts_of text ss) _ Any Any _ _ _ _ (sorts_give ss) in_sorts byte_in_sorts λ ts _. tt
      where
        two-sorts : (t : Bool) → eqb (sorts ss) 2 ≡ t → Gives (check t unwritable) Any (SortPart (s_app c_map ss)) ⊥
        two-sorts true e = tt
        two-sorts false e = a_map_not_of_two (eqb-false (sorts ss) 2 e)
    sort-gives (s_app (c_data s) ss) =
        then-gives (symbol_of text "s " s) _ Any Any _ _ _ _ (symbol-gives "s " s) (λ p. absurd p) in_sort_name λ n _.
        then-gives (sorts_of text ss) _ Any Any _ _ _ _ (sorts_give ss) in_sorts byte_in_sorts λ ts _. tt

    sorts_give : (ss : Sorts) → Gives (sorts_of text ss) Any (SortsPart ss) (SortsByte text ss)
    sorts_give snil = tt
    sorts_give (scons s ss) =
        then-gives (sort_of text s) _ Any Any _ _ _ _ (sort-gives s) in_first_sort byte_in_first_sort λ t _.
        then-gives (sorts_of text ss) _ Any Any _ _ _ _ (sorts_give ss) in_later_sorts byte_in_later_sorts λ ts _. tt

  vars_give : (bs : List Binder) → Gives (vars_of text bs) Any (VarsPart bs) (VarsByte text bs)
  unfolding vars_of
  vars_give [] = tt
  vars_give (b ∷ bs) =
      then-gives (sort_of text b.sort) _ Any Any _ _ _ _ (sort-gives b.sort) in_first_var byte_in_first_var λ s _.
      then-gives (vars_of text bs) _ Any Any _ _ _ _ (vars_give bs) in_later_vars byte_in_later_vars λ vs _. tt

  -- A name in a form.
  name-gives : (x : Span) (f : List ℕ → Form) (n : ℕ) (P B : Type 0) → (UnfitIn (bytes_at text x) → B) → ((w : List ℕ) → Takes (f w) n) → Gives (and_then (symbol_of text "n " x) λ w. got (f w)) (λ f. Takes f n) P B
  name-gives x f n P B b h = then-gives (symbol_of text "n " x) _ Any (λ f. Takes f n) _ _ _ _ (symbol-gives "n " x) (λ p. absurd p) b λ w _. h w

  fields_give : (k : Kind) (es : Exprs) → HasOperands k (exprs es) → Gives (fields_of text k) (λ f. Takes f (exprs es)) (Part (node k es)) (Byte text (node k es))
  unfolding fields_of
  fields_give (k_num v) es h = h
  fields_give (k_bool true) es h = h
  fields_give (k_bool false) es h = h
  fields_give (k_str s) es h =
      then-gives (bytes_of text s) _ Any (λ f. Takes f (exprs es)) _ _ _ _ (bytes_give s) (λ p. absurd p) in_string λ n _. h
  fields_give (k_bit_vec v width) es h =
      pick_gives (fits_width v width) _ _ (λ f. Takes f (exprs es)) (Part (node (k_bit_vec v width) es)) (Byte text (node (k_bit_vec v width) es)) (λ e. h) (λ e. too_large v width es e)
  fields_give (k_fresh k) es h = h
  fields_give (k_named x) es h = name-gives x.span _ (exprs es) _ _ in_name λ w. h
  fields_give k_neg es h = (h, omega arith)
  fields_give (k_bin op) es h = (h, omega arith)
  fields_give k_if es h = (h, omega arith)
  fields_give k_and es h = tt
  fields_give k_or es h = tt
  fields_give k_not es h = (h, omega arith)
  fields_give k_imp es h = (h, omega arith)
  fields_give k_iff es h = (h, omega arith)
  fields_give (k_atom r) es h = (h, omega arith)
  fields_give (k_let x) es h = name-gives x.span letting (exprs es) _ _ in_let_name λ w. h
  fields_give (k_theory k) es h = function-part k es
  fields_give (k_is_ctor x) es h = name-gives x.span _ (exprs es) _ _ in_ctor_name λ w. (h, omega arith)
  fields_give (k_exists bs) es h =
      then-gives (vars_of text bs) _ Any (λ f. Takes f (exprs es)) _ _ _ _ (vars_give bs) in_vars byte_in_vars λ vs _. h
  fields_give (k_let_fresh k) es h = h

  -- The head of an application with arguments.
  head-kind-gives : (k : Kind) → Gives (head_kind text k) Any (IsHead (leaf k) → ⊥) (Byte text (leaf k))
  unfolding head_kind
  head-kind-gives (k_num v) = is-head
  head-kind-gives (k_bool b) = is-head
  head-kind-gives (k_str s) = is-head
  head-kind-gives (k_bit_vec v width) = is-head
  head-kind-gives (k_fresh k) = tt
  head-kind-gives (k_named x) =
      then-gives (symbol_of text "n " x.span) _ Any Any _ _ _ _ (symbol-gives "n " x.span) (λ p. absurd p) in_name λ w _. tt
  head-kind-gives k_neg = is-head
  head-kind-gives (k_bin op) = is-head
  head-kind-gives k_if = is-head
  head-kind-gives k_and = is-head
  head-kind-gives k_or = is-head
  head-kind-gives k_not = is-head
  head-kind-gives k_imp = is-head
  head-kind-gives k_iff = is-head
  head-kind-gives (k_atom r) = is-head
  head-kind-gives (k_let x) = is-head
  head-kind-gives (k_theory k) = map_gives (function_of k) Any _ ⊥ _ (Byte text (leaf (k_theory k))) (no-function k) (λ p. p) (λ c. absurd c)
  head-kind-gives (k_is_ctor x) = is-head
  head-kind-gives (k_exists bs) = is-head
  head-kind-gives (k_let_fresh k) = is-head

  head-gives : (h : Expr) → Gives (head_of text h) Any (IsHead h → ⊥) (Byte text h)
  unfolding head_of
  head-gives (node k enil) = head-kind-gives k
  head-gives (node k (econs e es)) = is-head
  head-gives (app o es h) = is-head

  application-gives : (o : Maybe Sort) (es : Exprs) (h : Expr) (ts : Terms) → terms ts ≡ exprs es → Gives (term_of text h) Any (Part h) (Byte text h) → Gives (application ts (head_of text h) (term_of text h)) Any (Part (app o es h)) (Byte text (app o es h))
  unfolding terms exprs
  application-gives o enil h tnil e g = map_gives (term_of text h) Any (Part h) (Byte text h) (Part (app o enil h)) (Byte text (app o enil h)) g in_head_alone byte_in_head
  application-gives o enil h (tcons t ts) e g = absurd (omega (arith, e))
  application-gives o (econs a es) h tnil e g = absurd (omega (arith, e))
  application-gives o (econs a es) h (tcons t ts) e g =
      then-gives (head_of text h) _ Any Any _ _ _ _ (head-gives h) another_head byte_in_head λ i _. tt

  -- Terms.
  mutual
    unfolding term_of terms exprs

    term-gives : (e : Expr) → Formed e → Gives (term_of text e) Any (Part e) (Byte text e)
    term-gives (node k es) h =
        then-gives (fields_of text k) _ (λ f. Takes f (exprs es)) Any _ _ _ _ (fields_give k es h.0) (λ p. p) (λ c. c) λ f t.
        then-gives (terms_of text es) _ (λ ts. terms ts ≡ exprs es) Any _ _ _ _ (terms_give es h.1) in_operands byte_in_operands λ ts c.
        formed-gives f ts (exprs es) (Part (node k es)) (Byte text (node k es)) c t
    term-gives (app o es h) f =
        then-gives (terms_of text es) _ (λ ts. terms ts ≡ exprs es) Any _ _ _ _ (terms_give es f.0) in_arguments byte_in_arguments λ ts c.
        application-gives o es h ts c (term-gives h f.1)

    terms_give : (es : Exprs) → FormedAll es → Gives (terms_of text es) (λ ts. terms ts ≡ exprs es) (Parts es) (Bytes text es)
    terms_give enil h = refl
    terms_give (econs e es) h =
        then-gives (term_of text e) _ Any (λ ts. terms ts ≡ exprs (econs e es)) _ _ _ _ (term-gives e h.0) in_first byte_in_first λ t _.
        then-gives (terms_of text es) _ (λ ts. terms ts ≡ exprs es) (λ ts. terms ts ≡ exprs (econs e es)) _ _ _ _ (terms_give es h.1) in_later byte_in_later λ ts c. ap suc c

  solution-gives : (s : Solution) → Formed s.body → Gives (written text s) Any (SolutionPart s) (SolutionByte text s)
  unfolding written solution_term
  solution-gives s h =
      then-gives (solution_term text s) _ Any Any _ _ _ _ (
      then-gives (vars_of text s.params) _ Any Any _ _ _ _ (vars_give s.params) in_params byte_in_params λ vs _.
      then-gives (term_of text s.body) _ Any Any _ _ _ _ (term-gives s.body h) in_body byte_in_body λ t _. tt
      ) (λ p. p) (λ c. c) λ c _. tt

-- The same as one of three answers.
answered : (text : List ℕ) (s : Solution) (x : Ans (List ℕ)) → Gives x Any (SolutionPart s) (SolutionByte text s) → Answered text s x
answered text s (got bytes) h = is_written
answered text s (bad r) h = go r h
  where
    go : (r : Refusal) → Reason r (SolutionPart s) (SolutionByte text s) → Answered text s (bad r)
    go too_long h = absurd h
    go not_utf8 h = absurd h
    go ends_early h = absurd h
    go stray_close h = absurd h
    go unclosed h = absurd h
    go too_deep h = absurd h
    go no_room h = absurd h
    go malformed h = absurd h
    go decimal_read h = absurd h
    go repeated_name h = absurd h
    go bad_literal h = absurd h
    go bad_func h = absurd h
    go unwritable h = is_unwritable h
    go unprintable h = is_unprintable h
    go wrong_width h = absurd h

-- A solution that is judged is written, or is refused for what the request lists.
pub written_or_why : WrittenOrWhy
written_or_why text words s n e = answered text s (written text s) (solution-gives text s (body-formed (length text) words s n e))
