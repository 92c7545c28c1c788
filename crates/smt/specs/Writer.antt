-- Request C-11: a solution as its list of sorted variables and a term of SMT-LIB; or 15 or 16, as met in the order of the words.
use Rattle.std.specs.Prelude.{ℕ, zero, suc, ◌-◌, ◌^◌, Bool, true, false, List, [], ◌∷◌, ◌++◌, eqb, ltb}
use Prim.Native.String.{String}
use Rattle.reading.specs.Pick.{pick}
use Rattle.reading.specs.Bytes.{ascii, Span, bytes_at, Named, named}
use Rattle.reading.specs.Number.{Wide, value_of}
use Rattle.reading.specs.Answer.{Ans, got, bad, and_then, check, unwritable, unprintable}
use Rattle.grammar.specs.Sort.{c_set, c_map, c_data, Sort, Sorts, s_int, s_bool, s_real, s_str, s_bit_vec, s_size, s_var, s_func, s_abs, s_app, snil, scons, sorts}
use Rattle.grammar.specs.Expr.{op_number, rel_number, Binder, Kind, k_num, k_bool, k_str, k_bit_vec, k_fresh, k_named, k_neg, k_bin, k_if, k_and, k_or, k_not, k_imp, k_iff, k_atom, k_let, k_theory, k_is_ctor, k_exists, k_let_fresh, Expr, Exprs, node, app, enil, econs, Solution}
use Rattle.writing.specs.Digits.{decimal}
use Rattle.smt.specs.Term.{by_number, by_symbol, Ident, plain_ident, SmtSort, SmtSorts, srt, rnil, rcons, Var, Term, Terms, tnum, tstr, tid, tapp, tlet, texists, tnil, tcons, terms, bnil, Closed, closed_bytes}
use Rattle.smt.specs.Vocabulary.{operators, relations, bit_vectors}

-- A symbol of SMT-LIB's own.
abbrev pub plainly : String → Ident
plainly s = plain_ident (ascii s)

-- The name in a row of a table, counted from 0.
abbrev pub spelled_at : {A : Type 0} → List (Named A) → ℕ → List ℕ
spelled_at [] k = []
spelled_at (named s a ∷ rows) zero = ascii s
spelled_at (named s a ∷ rows) (suc k) = spelled_at rows k

-- The symbol of a fresh variable, `v 3`.
unfoldable pub fresh_symbol : ℕ → List ℕ
fresh_symbol k = ascii "v " ++ decimal k

-- A bit-vector value of a width, (_ bv5 3).
unfoldable pub bits_ident : ℕ → ℕ → Ident
bits_ident v width = record { name = ascii "bv" ++ decimal v; indices = by_number width ∷ [] }

-- A value of a width: below 2^width, and the width is not 0.
unfoldable pub fits_width : Wide → ℕ → Bool
fits_width v width = pick (eqb width 0) false (ltb (value_of v) (2 ^ width))

-- A theory function as a head: the bit-vector functions, numbers 9 to 31, have SMT-LIB's names.
unfoldable pub function_of : ℕ → Ans Ident
function_of k = pick (ltb k 9) (bad unwritable) (pick (ltb k 32) (got (plain_ident (spelled_at bit_vectors (k - 9)))) (bad unwritable))

-- The width of a BitVec, which is that of a BvSize, but 0.
unfoldable pub width_of : Sort → Ans ℕ
width_of s_int = bad unwritable
width_of s_bool = bad unwritable
width_of s_real = bad unwritable
width_of s_str = bad unwritable
width_of (s_bit_vec s) = bad unwritable
width_of (s_size width) = pick (eqb width 0) (bad unwritable) (got width)
width_of (s_var i) = bad unwritable
width_of (s_func s t) = bad unwritable
width_of (s_abs i s) = bad unwritable
width_of (s_app c ss) = bad unwritable

-- What a kind and its fields become: a term by itself; an operator with just so many operands; And and Or, by the constant for no operand and the
-- operator for more than one; a let of a symbol; an exists with these variables.
pub data Form : Type 0 where
  alone : Term → Form
  operator : Ident → ℕ → Form
  folded : Ident → Ident → Form
  letting : List ℕ → Form
  some : List Var → Form

-- An identifier applied to at least one term.
abbrev pub applying : Ident → Terms → Ans Term
applying i tnil = bad unwritable
applying i (tcons t ts) = got (tapp i t ts)

-- No operand, one, which stands alone, or more.
abbrev pub folding : Ident → Ident → Terms → Term
folding unit i tnil = tid unit
folding unit i (tcons t tnil) = t
folding unit i (tcons t (tcons u us)) = tapp i t (tcons u us)

-- An exists without variables is its body.
abbrev pub quantified : List Var → Term → Term
quantified [] t = t
quantified (v ∷ vs) t = texists v vs t

-- A form with its operands. Words that are judged have the operands that their kind takes; any others cannot be written.
unfoldable pub formed : Form → Terms → Ans Term
formed (alone t) tnil = got t
formed (alone t) (tcons u us) = bad unwritable
formed (operator i n) ts = pick (eqb (terms ts) n) (applying i ts) (bad unwritable)
formed (folded unit i) ts = got (folding unit i ts)
formed (letting x) tnil = bad unwritable
formed (letting x) (tcons t tnil) = bad unwritable
formed (letting x) (tcons t (tcons u tnil)) = got (tlet x t bnil u)
formed (letting x) (tcons t (tcons u (tcons v vs))) = bad unwritable
formed (some vs) tnil = bad unwritable
formed (some vs) (tcons t tnil) = got (quantified vs t)
formed (some vs) (tcons t (tcons u us)) = bad unwritable

-- An application without arguments is its head; with arguments the head is an identifier.
abbrev pub application : Terms → Ans Ident → Ans Term → Ans Term
application tnil f h = h
application (tcons t ts) f h = and_then f λ i. got (tapp i t ts)

-- A byte that a name or a string may have.
unfoldable pub writable : ℕ → Bool
writable b = pick (ltb b 32) false (pick (ltb b 127) (pick (eqb b 124) false (pick (eqb b 34) false (pick (eqb b 92) false true))) false)

unfoldable pub all_writable : List ℕ → Bool
all_writable [] = true
all_writable (b ∷ bs) = pick (writable b) (all_writable bs) false

-- Names and strings are spans of the text.
module _ (text : List ℕ) where
  -- The bytes of a name or a string, or 16.
  unfoldable pub bytes_of : Span → Ans (List ℕ)
  bytes_of s = pick (all_writable (bytes_at text s)) (got (bytes_at text s)) (bad unprintable)

  -- The symbol of a name, `n NAME` or `s NAME`.
  unfoldable pub symbol_of : String → Span → Ans (List ℕ)
  symbol_of kind s = and_then (bytes_of s) λ name. got (ascii kind ++ name)

  unfoldable mutual
    pub sort_of : Sort → Ans SmtSort
    sort_of s_int = got (srt (plainly "Int") rnil)
    sort_of s_bool = got (srt (plainly "Bool") rnil)
    sort_of s_real = got (srt (plainly "Real") rnil)
    sort_of s_str = got (srt (plainly "String") rnil)
    sort_of (s_bit_vec s) = and_then (width_of s) λ n. got (srt (record { name = ascii "BitVec"; indices = by_number n ∷ [] }) rnil)
    sort_of (s_size width) = bad unwritable
    sort_of (s_var i) = bad unwritable
    sort_of (s_func s t) = bad unwritable
    sort_of (s_abs i s) = bad unwritable
    sort_of (s_app c_set ss) = bad unwritable
    sort_of (s_app c_map ss) =
        and_then (check (eqb (sorts ss) 2) unwritable) λ _.
        and_then (sorts_of ss) λ ts.
        got (srt (plainly "Array") ts)
    sort_of (s_app (c_data s) ss) =
        and_then (symbol_of "s " s) λ name.
        and_then (sorts_of ss) λ ts.
        got (srt (plain_ident name) ts)

    pub sorts_of : Sorts → Ans SmtSorts
    sorts_of snil = got rnil
    sorts_of (scons s ss) =
        and_then (sort_of s) λ t.
        and_then (sorts_of ss) λ ts.
        got (rcons t ts)

  -- Sorted variables, by their fresh numbers.
  unfoldable pub vars_of : List Binder → Ans (List Var)
  vars_of [] = got []
  vars_of (b ∷ bs) =
      and_then (sort_of b.sort) λ s.
      and_then (vars_of bs) λ vs.
      got (record { name = fresh_symbol b.var; sort = s } ∷ vs)

  -- What a kind and its fields become, before the operands.
  unfoldable pub fields_of : Kind → Ans Form
  fields_of (k_num v) = got (alone (tnum (value_of v)))
  fields_of (k_bool true) = got (alone (tid (plainly "true")))
  fields_of (k_bool false) = got (alone (tid (plainly "false")))
  fields_of (k_str s) = and_then (bytes_of s) λ bytes. got (alone (tstr bytes))
  fields_of (k_bit_vec v width) = pick (fits_width v width) (got (alone (tid (bits_ident (value_of v) width)))) (bad unwritable)
  fields_of (k_fresh k) = got (alone (tid (plain_ident (fresh_symbol k))))
  fields_of (k_named x) = and_then (symbol_of "n " x.span) λ name. got (alone (tid (plain_ident name)))
  fields_of k_neg = got (operator (plainly "-") 1)
  fields_of (k_bin op) = got (operator (plain_ident (spelled_at operators (op_number op))) 2)
  fields_of k_if = got (operator (plainly "ite") 3)
  fields_of k_and = got (folded (plainly "true") (plainly "and"))
  fields_of k_or = got (folded (plainly "false") (plainly "or"))
  fields_of k_not = got (operator (plainly "not") 1)
  fields_of k_imp = got (operator (plainly "=>") 2)
  fields_of k_iff = got (operator (plainly "=") 2)
  fields_of (k_atom r) = got (operator (plain_ident (spelled_at relations (rel_number r))) 2)
  fields_of (k_let x) = and_then (symbol_of "n " x.span) λ name. got (letting name)
  fields_of (k_theory k) = bad unwritable
  fields_of (k_is_ctor x) = and_then (symbol_of "n " x.span) λ name. got (operator (record { name = ascii "is"; indices = by_symbol name ∷ [] }) 1)
  fields_of (k_exists bs) = and_then (vars_of bs) λ vs. got (some vs)
  fields_of (k_let_fresh k) = got (letting (fresh_symbol k))

  -- The head of an application with arguments: a variable or a bit-vector function.
  unfoldable pub head_kind : Kind → Ans Ident
  head_kind (k_num v) = bad unwritable
  head_kind (k_bool b) = bad unwritable
  head_kind (k_str s) = bad unwritable
  head_kind (k_bit_vec v width) = bad unwritable
  head_kind (k_fresh k) = got (plain_ident (fresh_symbol k))
  head_kind (k_named x) = and_then (symbol_of "n " x.span) λ name. got (plain_ident name)
  head_kind k_neg = bad unwritable
  head_kind (k_bin op) = bad unwritable
  head_kind k_if = bad unwritable
  head_kind k_and = bad unwritable
  head_kind k_or = bad unwritable
  head_kind k_not = bad unwritable
  head_kind k_imp = bad unwritable
  head_kind k_iff = bad unwritable
  head_kind (k_atom r) = bad unwritable
  head_kind (k_let x) = bad unwritable
  head_kind (k_theory k) = function_of k
  head_kind (k_is_ctor x) = bad unwritable
  head_kind (k_exists bs) = bad unwritable
  head_kind (k_let_fresh k) = bad unwritable

  unfoldable pub head_of : Expr → Ans Ident
  head_of (node k enil) = head_kind k
  head_of (node k (econs e es)) = bad unwritable
  head_of (app o es h) = bad unwritable

  -- The arguments of an application stand before its head in the words; its output sort is skipped.
  unfoldable mutual
    pub term_of : Expr → Ans Term
    term_of (node k es) =
        and_then (fields_of k) λ f.
        and_then (terms_of es) λ ts.
        formed f ts
    term_of (app o es h) = and_then (terms_of es) λ ts. application ts (head_of h) (term_of h)

    pub terms_of : Exprs → Ans Terms
    terms_of enil = got tnil
    terms_of (econs e es) =
        and_then (term_of e) λ t.
        and_then (terms_of es) λ ts.
        got (tcons t ts)

  -- The parameters, then the body.
  unfoldable pub solution_term : Solution → Ans Closed
  solution_term s =
      and_then (vars_of s.params) λ vs.
      and_then (term_of s.body) λ t.
      got (record { vars = vs; term = t })

  -- The bytes of a solution.
  unfoldable pub written : Solution → Ans (List ℕ)
  written s = and_then (solution_term s) λ c. got (closed_bytes c)
