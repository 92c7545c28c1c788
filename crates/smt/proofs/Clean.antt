-- What is written of a solution can be printed, so it is read back.
use Prim.Native.Nat.{ℕ, ◌-◌, ◌≤◌, ◌<◌}
use Prim.Native.String.{String}
use mathlib.Core.Path.{◌≡◌, refl, ap}
use mathlib.Core.List.{List, [], ◌∷◌}
use mathlib.Core.Bool.{Bool, true, false, not, ◌&&◌, ◌||◌}
use native.Mathlib.Omega.{arith}
use lib.Dec.{eqb, leb, ltb}
use borrow.Author.Tests.{le-leb, ltb-true, ltb-false, ne_eqb}
use Rattle.reading.specs.Pick.{pick}
use Rattle.reading.specs.Bytes.{ascii, same_bytes, Span, bytes_at, just}
use Rattle.reading.specs.Number.{value_of, is_digit}
use Rattle.reading.specs.Answer.{Ans, got, check, unwritable}
use Rattle.grammar.specs.Sort.{c_set, c_map, c_data, Sort, Sorts, s_int, s_bool, s_real, s_str, s_bit_vec, s_size, s_var, s_func, s_abs, s_app, snil, scons, sorts}
use Rattle.grammar.specs.Expr.{op_number, rel_number, Binder, Kind, k_num, k_bool, k_str, k_bit_vec, k_fresh, k_named, k_neg, k_bin, k_if, k_and, k_or, k_not, k_imp, k_iff, k_atom, k_let, k_theory, k_is_ctor, k_exists, k_let_fresh, Expr, Exprs, node, app, enil, econs, Solution}
use Rattle.grammar.proofs.AnswerHolds.{Every, then-every, any-every}
use Rattle.writing.specs.Digits.{decimal}
use Rattle.writing.proofs.DecimalBack.{decimal-back}
use Rattle.smt.specs.Sexp.{Sx, reserved, Sxs, xnil, xcons, between, every, digit, symbol_byte, white, printable, quotable, reserved_words, is_reserved}
use Rattle.smt.specs.SexpBack.{run_sx}
use Rattle.smt.specs.Term.{Ident, plain_ident, SmtSort, SmtSorts, Var, Term, Terms, tnil, tcons, terms, ident_sx, parametric_sx, sort_sx, sort_sxs, var_sx, var_sxs, term_sx, term_sxs, Closed, closed_bytes}
use Rattle.smt.specs.TermBack.{read_closed}
use Rattle.grammar.specs.Names.{theory}
use Rattle.smt.specs.Vocabulary.{operators, relations, bit_vectors}
use Rattle.smt.specs.Writer.{plainly, fresh_symbol, bits_ident, fits_width, function_of, width_of, Form, alone, operator, folded, letting, some, applying, folding, quantified, formed, application, writable, all_writable, bytes_of, symbol_of, sort_of, sorts_of, vars_of, fields_of, head_kind, head_of, term_of, terms_of, solution_term}
use Rattle.smt.proofs.Tests.{and_both, or_left, or_right, every_append, all-every, pick-and, pick_unless, pick_known}
use Rattle.smt.proofs.Tables.{each_name, name_passes}
use Rattle.smt.proofs.Figures.{digits-every}
use Rattle.smt.proofs.Lexing.{IsRun, Clean, CleanAll, string_byte}
use Rattle.smt.proofs.Reading.{CleanClosed, closed-back}

-- What is known of a byte that may be written.
pub record IsWritable (b : ℕ) : Type 0 where
  pub low : 32 ≤ b
  pub high : b < 127
  pub bar : eqb b 124 ≡ false
  pub quote : eqb b 34 ≡ false
  pub backslash : eqb b 92 ≡ false

pub is-writable : (b : ℕ) → writable b ≡ true → IsWritable b
unfolding writable
is-writable b e =
    let l = pick_unless _ _ e in
    let h = pick-and _ _ l.1 in
    let x = pick_unless _ _ h.1 in
    let y = pick_unless _ _ x.1 in
    let z = pick_unless _ _ y.1 in
    record { low = ltb-false _ _ l.0; high = ltb-true _ _ h.0; bar = x.0; quote = y.0; backslash = z.0 }

is-printable : (b : ℕ) → 32 ≤ b → b < 127 → (white b || printable b) ≡ true
unfolding printable
is-printable b h k =
    or_right (white b) (printable b) (or_left (between 32 126 b) (between 128 255 b) (and_both (leb 32 b) (leb b 126) (le-leb 32 b h) (le-leb b 126 (omega arith))))

is-quotable : (b : ℕ) → 32 ≤ b → b < 127 → eqb b 124 ≡ false → eqb b 92 ≡ false → quotable b ≡ true
unfolding quotable
is-quotable b h k x y =
    and_both ((white b || printable b) && not (eqb b 124)) (not (eqb b 92)) (and_both (white b || printable b) (not (eqb b 124)) (is-printable b h k) (ap not x)) (ap not y)

writable-quotable : (b : ℕ) → writable b ≡ true → quotable b ≡ true
writable-quotable b e = let w = is-writable b e in is-quotable b w.low w.high w.bar w.backslash

writable-string : (b : ℕ) → writable b ≡ true → string_byte b ≡ true
unfolding string_byte
writable-string b e =
    let w = is-writable b e in
    and_both (white b || printable b) (not (eqb b 34)) (is-printable b w.low w.high) (ap not w.quote)

digit-quotable : (b : ℕ) → digit b ≡ true → quotable b ≡ true
unfolding is_digit
digit-quotable b h =
    let d = pick_unless (ltb b 48) (ltb b 58) h in
    let low : 48 ≤ b = ltb-false b 48 d.0 in
    let high : b < 58 = ltb-true b 58 d.1 in
    is-quotable b (omega arith) (omega arith) (ne_eqb b 124 (λ e. omega arith)) (ne_eqb b 92 (λ e. omega arith))

-- The three reserved words that are written.
under-run : IsRun (ascii "_") (reserved (ascii "_"))
unfolding symbol_byte is_digit run_sx is_reserved reserved_words pick same_bytes
under-run = record { bytes = refl; item = refl; first = (95, [], refl) }

let-run : IsRun (ascii "let") (reserved (ascii "let"))
unfolding symbol_byte is_digit run_sx is_reserved reserved_words pick same_bytes
let-run = record { bytes = refl; item = refl; first = (108, ascii "et", refl) }

exists-run : IsRun (ascii "exists") (reserved (ascii "exists"))
unfolding symbol_byte is_digit run_sx is_reserved reserved_words pick same_bytes
exists-run = record { bytes = refl; item = refl; first = (101, ascii "xists", refl) }

-- Symbols.
abbrev Fine : List ℕ → Type 0
Fine s = every quotable s ≡ true

abbrev CleanIdent : Ident → Type 0
CleanIdent i = Clean (ident_sx i)

decimal-fine : (n : ℕ) → Fine (decimal n)
decimal-fine n = digits-every quotable digit-quotable (decimal n) (decimal-back n).all

fresh-fine : (k : ℕ) → Fine (fresh_symbol k)
unfolding fresh_symbol quotable white printable
fresh-fine k = decimal-fine k

bits_clean : (v width : ℕ) → CleanIdent (bits_ident v width)
unfolding bits_ident quotable white printable
bits_clean v width = (under-run, (decimal-fine v, (tt, tt)))

-- The names of a table.
operators-fine : each_name (every quotable) operators ≡ true
unfolding operators quotable white printable
operators-fine = refl

relations-fine : each_name (every quotable) relations ≡ true
unfolding relations quotable white printable
relations-fine = refl

functions-fine : each_name (every quotable) bit_vectors ≡ true
unfolding bit_vectors theory quotable white printable
functions-fine = refl

function_clean : (k : ℕ) → Every (function_of k) CleanIdent
unfolding function_of
function_clean k =
    pick_known _ _ _ (λ a. Every a CleanIdent) (λ e. tt) λ e.
    pick_known _ _ _ (λ a. Every a CleanIdent) (λ f. name_passes (every quotable) bit_vectors (k - 9) functions-fine (λ l. refl)) (λ f. tt)

-- Sorts.
parametric_clean : (x : Sx) (xs : Sxs) → Clean x → CleanAll xs → Clean (parametric_sx x xs)
parametric_clean x xnil c d = c
parametric_clean x (xcons y ys) c d = (c, d)

abbrev CleanSort : SmtSort → Type 0
CleanSort s = Clean (sort_sx s)

abbrev CleanSorts : SmtSorts → Type 0
CleanSorts ss = CleanAll (sort_sxs ss)

abbrev CleanVars : List Var → Type 0
CleanVars vs = CleanAll (var_sxs vs)

-- Terms.
abbrev CleanTerm : Term → Type 0
CleanTerm t = Clean (term_sx t)

abbrev CleanTerms : Terms → Type 0
CleanTerms ts = CleanAll (term_sxs ts)

abbrev CleanForm : Form → Type 0
CleanForm (alone t) = CleanTerm t
CleanForm (operator i n) = CleanIdent i
CleanForm (folded unit i) = CleanIdent unit × CleanIdent i
CleanForm (letting x) = Fine x
CleanForm (some vs) = CleanVars vs

applying_clean : (i : Ident) (ts : Terms) → CleanIdent i → CleanTerms ts → Every (applying i ts) CleanTerm
unfolding term_sx
applying_clean i tnil c d = tt
applying_clean i (tcons t ts) c d = (c, d)

folding_clean : (unit i : Ident) (ts : Terms) → CleanIdent unit → CleanIdent i → CleanTerms ts → CleanTerm (folding unit i ts)
unfolding term_sx
folding_clean unit i tnil b c d = b
folding_clean unit i (tcons t tnil) b c d = d.0
folding_clean unit i (tcons t (tcons u us)) b c d = (c, d)

quantified_clean : (vs : List Var) (t : Term) → CleanVars vs → CleanTerm t → CleanTerm (quantified vs t)
unfolding term_sx var_sxs
quantified_clean [] t c d = d
quantified_clean (v ∷ vs) t c d = (exists-run, (c, (d, tt)))

formed_clean : (f : Form) (ts : Terms) → CleanForm f → CleanTerms ts → Every (formed f ts) CleanTerm
unfolding formed term_sx
formed_clean (alone t) tnil c d = c
formed_clean (alone t) (tcons u us) c d = tt
formed_clean (operator i n) ts c d = pick_known (eqb (terms ts) n) _ _ (λ a. Every a CleanTerm) (λ e. applying_clean i ts c d) (λ e. tt)
formed_clean (folded unit i) ts c d = folding_clean unit i ts c.0 c.1 d
formed_clean (letting x) tnil c d = tt
formed_clean (letting x) (tcons t tnil) c d = tt
formed_clean (letting x) (tcons t (tcons u tnil)) c d = (let-run, (((c, (d.0, tt)), tt), (d.1.0, tt)))
formed_clean (letting x) (tcons t (tcons u (tcons v vs))) c d = tt
formed_clean (some vs) tnil c d = tt
formed_clean (some vs) (tcons t tnil) c d = quantified_clean vs t c d.0
formed_clean (some vs) (tcons t (tcons u us)) c d = tt

application_clean : (ts : Terms) (f : Ans Ident) (h : Ans Term) → CleanTerms ts → Every f CleanIdent → Every h CleanTerm → Every (application ts f h) CleanTerm
unfolding term_sx
application_clean tnil f h c p q = q
application_clean (tcons t ts) f h c p q = then-every f _ CleanIdent CleanTerm p λ i d. (d, c)

all-writable : (p : ℕ → Bool) → ((b : ℕ) → writable b ≡ true → p b ≡ true) → (xs : List ℕ) → all_writable xs ≡ true → every p xs ≡ true
unfolding all_writable
all-writable p f xs h = all-every all_writable writable p (λ x xs e. pick-and (writable x) (all_writable xs) e) f xs h

module _ (text : List ℕ) where
  bytes_clean : (p : ℕ → Bool) → ((b : ℕ) → writable b ≡ true → p b ≡ true) → (s : Span) → Every (bytes_of text s) (λ n. every p n ≡ true)
  unfolding bytes_of
  bytes_clean p f s =
      pick_known (all_writable (bytes_at text s)) _ _ (λ a. Every a (λ n. every p n ≡ true)) (λ e. all-writable p f (bytes_at text s) e) (λ e. tt)

  symbol_clean : (kind : String) → Fine (ascii kind) → (s : Span) → Every (symbol_of text kind s) Fine
  unfolding symbol_of
  symbol_clean kind h s = then-every (bytes_of text s) _ Fine Fine (bytes_clean quotable writable-quotable s) λ n k. every_append quotable (ascii kind) n h k

  name_clean : (s : Span) → Every (symbol_of text "n " s) Fine
  unfolding quotable white printable
  name_clean s = symbol_clean "n " refl s

  mutual
    unfolding sort_of sort_sx quotable white printable

    sort_clean : (s : Sort) → Every (sort_of text s) CleanSort
    sort_clean s_int = refl
    sort_clean s_bool = refl
    sort_clean s_real = refl
    sort_clean s_str = refl
    sort_clean (s_bit_vec s) = any-every (width_of s) _ CleanSort λ n. (under-run, (refl, (tt, tt)))
    sort_clean (s_size n) = tt
    sort_clean (s_var i) = tt
    sort_clean (s_func s t) = tt
    sort_clean (s_abs i s) = tt
    sort_clean (s_app c_set ss) = tt
    sort_clean (s_app c_map ss) =
        any-every (check (eqb (sorts ss) 2) unwritable) _ CleanSort λ _.
        then-every (sorts_of text ss) _ CleanSorts CleanSort (sorts_clean ss) λ ts h. parametric_clean (ident_sx (plainly "Array")) (sort_sxs ts) refl h
    sort_clean (s_app (c_data s) ss) =
        then-every (symbol_of text "s " s) _ Fine CleanSort (symbol_clean "s " refl s) λ n f.
        then-every (sorts_of text ss) _ CleanSorts CleanSort (sorts_clean ss) λ ts h. parametric_clean (ident_sx (plain_ident n)) (sort_sxs ts) f h

    sorts_clean : (ss : Sorts) → Every (sorts_of text ss) CleanSorts
    sorts_clean snil = tt
    sorts_clean (scons s ss) =
        then-every (sort_of text s) _ CleanSort CleanSorts (sort_clean s) λ t c.
        then-every (sorts_of text ss) _ CleanSorts CleanSorts (sorts_clean ss) λ ts d. (c, d)

  vars_clean : (bs : List Binder) → Every (vars_of text bs) CleanVars
  unfolding vars_of var_sxs var_sx
  vars_clean [] = tt
  vars_clean (b ∷ bs) =
      then-every (sort_of text b.sort) _ CleanSort CleanVars (sort_clean b.sort) λ s c.
      then-every (vars_of text bs) _ CleanVars CleanVars (vars_clean bs) λ vs d. ((fresh-fine b.var, (c, tt)), d)

  fields_clean : (k : Kind) → Every (fields_of text k) CleanForm
  unfolding fields_of term_sx quotable white printable
  fields_clean (k_num v) = tt
  fields_clean (k_bool true) = refl
  fields_clean (k_bool false) = refl
  fields_clean (k_str s) = then-every (bytes_of text s) _ (λ n. every string_byte n ≡ true) CleanForm (bytes_clean string_byte writable-string s) λ n h. h
  fields_clean (k_bit_vec v width) =
      pick_known (fits_width v width) _ _ (λ a. Every a CleanForm) (λ e. bits_clean (value_of v) width) (λ e. tt)
  fields_clean (k_fresh k) = fresh-fine k
  fields_clean (k_named x) = then-every (symbol_of text "n " x.span) _ Fine CleanForm (name_clean x.span) λ n h. h
  fields_clean k_neg = refl
  fields_clean (k_bin op) = name_passes (every quotable) operators (op_number op) operators-fine (λ l. refl)
  fields_clean k_if = refl
  fields_clean k_and = (refl, refl)
  fields_clean k_or = (refl, refl)
  fields_clean k_not = refl
  fields_clean k_imp = refl
  fields_clean k_iff = refl
  fields_clean (k_atom r) = name_passes (every quotable) relations (rel_number r) relations-fine (λ l. refl)
  fields_clean (k_let x) = then-every (symbol_of text "n " x.span) _ Fine CleanForm (name_clean x.span) λ n h. h
  fields_clean (k_theory k) = tt
  fields_clean (k_is_ctor x) = then-every (symbol_of text "n " x.span) _ Fine CleanForm (name_clean x.span) λ n h. (under-run, (refl, (h, tt)))
  fields_clean (k_exists bs) = then-every (vars_of text bs) _ CleanVars CleanForm (vars_clean bs) λ vs c. c
  fields_clean (k_let_fresh k) = fresh-fine k

  head_kind_clean : (k : Kind) → Every (head_kind text k) CleanIdent
  unfolding head_kind
  head_kind_clean (k_num v) = tt
  head_kind_clean (k_bool b) = tt
  head_kind_clean (k_str s) = tt
  head_kind_clean (k_bit_vec v width) = tt
  head_kind_clean (k_fresh k) = fresh-fine k
  head_kind_clean (k_named x) = then-every (symbol_of text "n " x.span) _ Fine CleanIdent (name_clean x.span) λ n f. f
  head_kind_clean k_neg = tt
  head_kind_clean (k_bin op) = tt
  head_kind_clean k_if = tt
  head_kind_clean k_and = tt
  head_kind_clean k_or = tt
  head_kind_clean k_not = tt
  head_kind_clean k_imp = tt
  head_kind_clean k_iff = tt
  head_kind_clean (k_atom r) = tt
  head_kind_clean (k_let x) = tt
  head_kind_clean (k_theory k) = function_clean k
  head_kind_clean (k_is_ctor x) = tt
  head_kind_clean (k_exists bs) = tt
  head_kind_clean (k_let_fresh k) = tt

  head_clean : (h : Expr) → Every (head_of text h) CleanIdent
  unfolding head_of
  head_clean (node k enil) = head_kind_clean k
  head_clean (node k (econs e es)) = tt
  head_clean (app o es h) = tt

  mutual
    unfolding term_of term_sx

    term_clean : (e : Expr) → Every (term_of text e) CleanTerm
    term_clean (node k es) =
        then-every (fields_of text k) _ CleanForm CleanTerm (fields_clean k) λ f c.
        then-every (terms_of text es) _ CleanTerms CleanTerm (terms_clean es) λ ts d. formed_clean f ts c d
    term_clean (app o es h) =
        then-every (terms_of text es) _ CleanTerms CleanTerm (terms_clean es) λ ts c.
        application_clean ts (head_of text h) (term_of text h) c (head_clean h) (term_clean h)

    terms_clean : (es : Exprs) → Every (terms_of text es) CleanTerms
    terms_clean enil = tt
    terms_clean (econs e es) =
        then-every (term_of text e) _ CleanTerm CleanTerms (term_clean e) λ t c.
        then-every (terms_of text es) _ CleanTerms CleanTerms (terms_clean es) λ ts d. (c, d)

  solution_clean : (s : Solution) → Every (solution_term text s) CleanClosed
  unfolding solution_term
  solution_clean s =
      then-every (vars_of text s.params) _ CleanVars CleanClosed (vars_clean s.params) λ vs c.
      then-every (term_of text s.body) _ CleanTerm CleanClosed (term_clean s.body) λ t d. record { vars = c; term = d }

  -- A reader of SMT-LIB reads, from the bytes of a solution that is written, its variables and its term.
  pub term-back : (s : Solution) (c : Closed) → solution_term text s ≡ got c → read_closed (closed_bytes c) ≡ just c
  term-back s c e = closed-back c (rw e at (solution_clean s))
