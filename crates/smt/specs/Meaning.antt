-- What a term of SMT-LIB says: what each symbol of SMT-LIB's theories stands for, and each `v 3`, `n NAME` and `s NAME`.
use Rattle.std.specs.Prelude.{ℕ, true, false, ◌&&◌, List, [], ◌∷◌, eqb, ltb}
use Rattle.reading.specs.Pick.{pick}
use Rattle.reading.specs.Bytes.{ascii, same_bytes, Maybe, nothing, just, Named, named, lookup}
use Rattle.grammar.specs.Expr.{op_sub}
use Rattle.smt.specs.SexpBack.{then, natural}
use Rattle.smt.specs.Term.{Index, by_number, by_symbol, Ident, SmtSort, SmtSorts, srt, rnil, rcons, Var, Term, tnum, tstr, tid, tapp, tlet, texists, Terms, tnil, tcons, Bindings, bnil, bcons, Closed}
use Rattle.smt.specs.TermBack.{read_closed}
use Rattle.smt.specs.Vocabulary.{operators, relations, bit_vectors}
use Rattle.smt.specs.Meant.{MeantSort, int_sort, real_sort, bool_sort, string_sort, bits_sort, array_sort, data_sort, MeantSorts, onil, ocons, MeantVar, MeantKind, m_num, m_bool, m_str, m_bit_vec, m_fresh, m_named, m_neg, m_bin, m_if, m_and, m_or, m_not, m_imp, m_atom, m_let, m_theory, m_is_ctor, m_exists, m_let_fresh, Meant, says, calls, Meants, mnil, mcons, meants, MeantSolution}

-- The first of two values that there is.
abbrev pub or_else : {A : Type 0} → Maybe A → Maybe A → Maybe A
or_else nothing y = y
or_else (just a) y = just a

-- A symbol of the solution's own: a fresh variable, a named one, a sort.
pub data Own : Type 0 where
  own_fresh : ℕ → Own
  own_name own_sort : List ℕ → Own

-- By the letter and what stands behind the space.
unfoldable pub lettered : ℕ → List ℕ → Maybe Own
lettered b w =
    pick (eqb b 118) (then (natural w) λ k. just (own_fresh k))
    (pick (eqb b 110) (just (own_name w))
    (pick (eqb b 115) (just (own_sort w)) nothing))

-- A letter, a space and anything.
unfoldable pub own_of : List ℕ → Maybe Own
own_of [] = nothing
own_of (b ∷ []) = nothing
own_of (b ∷ c ∷ w) = pick (eqb c 32) (lettered b w) nothing

-- Where only one of them may stand, or only a variable.
abbrev pub fresh_only : Own → Maybe ℕ
fresh_only (own_fresh k) = just k
fresh_only (own_name w) = nothing
fresh_only (own_sort w) = nothing

abbrev pub name_only : Own → Maybe (List ℕ)
name_only (own_fresh k) = nothing
name_only (own_name w) = just w
name_only (own_sort w) = nothing

abbrev pub sort_only : Own → Maybe (List ℕ)
sort_only (own_fresh k) = nothing
sort_only (own_name w) = nothing
sort_only (own_sort w) = just w

abbrev pub variable_only : Own → Maybe MeantKind
variable_only (own_fresh k) = just (m_fresh k)
variable_only (own_name w) = just (m_named w)
variable_only (own_sort w) = nothing

-- A let by the variable that it binds.
abbrev pub let_only : Own → Maybe MeantKind
let_only (own_fresh k) = just (m_let_fresh k)
let_only (own_name w) = just (m_let w)
let_only (own_sort w) = nothing

-- What an identifier is: a variable, which stands alone or is called; a value, which stands alone; a bit-vector function, which is called; an operator of
-- just so many operands; one of at least two; and `-`, which is Neg of one operand and Sub of two.
pub data Sense : Type 0 where
  variable value : MeantKind → Sense
  function : ℕ → Sense
  operator : MeantKind → ℕ → Sense
  joining : MeantKind → Sense
  minus : Sense

-- What is neither an operation, a relation nor a bit-vector function.
unfoldable pub words : List (Named Sense)
words =
    named "true" (value (m_bool true))
    ∷ named "false" (value (m_bool false))
    ∷ named "not" (operator m_not 1)
    ∷ named "and" (joining m_and)
    ∷ named "or" (joining m_or)
    ∷ named "=>" (operator m_imp 2)
    ∷ named "ite" (operator m_if 3)
    ∷ named "-" minus
    ∷ []

-- A symbol by itself.
unfoldable pub plain_sense : List ℕ → Maybe Sense
plain_sense w =
    or_else (lookup words w)
    (or_else (then (lookup operators w) λ op. just (operator (m_bin op) 2))
    (or_else (then (lookup relations w) λ r. just (operator (m_atom r) 2))
    (or_else (then (lookup bit_vectors w) λ k. just (function k))
    (then (own_of w) λ own. then (variable_only own) λ k. just (variable k)))))

-- (_ bv5 3): a value in digits, and a width.
unfoldable pub bits_sense : List ℕ → ℕ → Maybe Sense
bits_sense [] width = nothing
bits_sense (b ∷ []) width = nothing
bits_sense (b ∷ c ∷ w) width = pick (eqb b 98 && eqb c 118) (then (natural w) λ v. just (value (m_bit_vec v width))) nothing

-- (_ is |n NAME|): a constructor test.
unfoldable pub test_sense : List ℕ → List ℕ → Maybe Sense
test_sense w x = pick (same_bytes w (ascii "is")) (then (own_of x) λ own. then (name_only own) λ name. just (operator (m_is_ctor name) 1)) nothing

-- An identifier by its symbol and its indices.
abbrev pub sense_of : List ℕ → List Index → Maybe Sense
sense_of w [] = plain_sense w
sense_of w (by_number n ∷ []) = bits_sense w n
sense_of w (by_symbol x ∷ []) = test_sense w x
sense_of w (i ∷ j ∷ js) = nothing

unfoldable pub sense : Ident → Maybe Sense
sense i = sense_of i.name i.indices

-- An identifier that stands alone.
abbrev pub alone : Sense → Maybe Meant
alone (variable k) = just (says k mnil)
alone (value k) = just (says k mnil)
alone (function n) = nothing
alone (operator k n) = nothing
alone (joining k) = nothing
alone minus = nothing

-- `-` by its operands.
abbrev pub minus_of : Meants → Maybe Meant
minus_of mnil = nothing
minus_of (mcons e mnil) = just (says m_neg (mcons e mnil))
minus_of (mcons e (mcons f mnil)) = just (says (m_bin op_sub) (mcons e (mcons f mnil)))
minus_of (mcons e (mcons f (mcons g gs))) = nothing

-- An identifier in front of operands or arguments.
abbrev pub in_front : Sense → Meants → Maybe Meant
in_front (variable k) es = just (calls es (says k mnil))
in_front (value k) es = nothing
in_front (function n) es = just (calls es (says (m_theory n) mnil))
in_front (operator k n) es = pick (eqb (meants es) n) (just (says k es)) nothing
in_front (joining k) es = pick (ltb 1 (meants es)) (just (says k es)) nothing
in_front minus es = minus_of es

-- Sorts that are a name.
unfoldable pub plain_sorts : List (Named MeantSort)
plain_sorts = named "Int" int_sort ∷ named "Bool" bool_sort ∷ named "Real" real_sort ∷ named "String" string_sort ∷ []

-- A Data sort.
unfoldable pub own_sorted : List ℕ → MeantSorts → Maybe MeantSort
own_sorted w ss = then (own_of w) λ own. then (sort_only own) λ name. just (data_sort name ss)

-- A sort by its symbol and the sorts that it is applied to.
unfoldable pub named_sort : List ℕ → MeantSorts → Maybe MeantSort
named_sort w onil = or_else (lookup plain_sorts w) (own_sorted w onil)
named_sort w (ocons s onil) = own_sorted w (ocons s onil)
named_sort w (ocons s (ocons t onil)) = pick (same_bytes w (ascii "Array")) (just (array_sort s t)) (own_sorted w (ocons s (ocons t onil)))
named_sort w (ocons s (ocons t (ocons u us))) = own_sorted w (ocons s (ocons t (ocons u us)))

-- The same by its indices, too: (_ BitVec 8) is the one that has any.
unfoldable pub sort_sense : List ℕ → List Index → MeantSorts → Maybe MeantSort
sort_sense w [] ss = named_sort w ss
sort_sense w (by_number n ∷ []) onil = pick (same_bytes w (ascii "BitVec")) (just (bits_sort n)) nothing
sort_sense w (by_number n ∷ []) (ocons s ss) = nothing
sort_sense w (by_symbol x ∷ []) ss = nothing
sort_sense w (i ∷ j ∷ js) ss = nothing

-- A sort.
unfoldable mutual
  pub sort_meaning : SmtSort → Maybe MeantSort
  sort_meaning (srt i ss) = then (sorts_meaning ss) λ ts. sort_sense i.name i.indices ts

  pub sorts_meaning : SmtSorts → Maybe MeantSorts
  sorts_meaning rnil = just onil
  sorts_meaning (rcons s ss) = then (sort_meaning s) λ t. then (sorts_meaning ss) λ ts. just (ocons t ts)

-- Sorted variables, which are fresh ones.
unfoldable pub vars_meaning : List Var → Maybe (List MeantVar)
vars_meaning [] = just []
vars_meaning (v ∷ vs) =
    then (own_of v.name) λ own.
    then (fresh_only own) λ k.
    then (sort_meaning v.sort) λ s.
    then (vars_meaning vs) λ bs.
    just (record { var = k; sort = s } ∷ bs)

-- A let of one variable, which is a fresh one or a name.
abbrev pub let_meaning : List ℕ → Bindings → Meant → Meant → Maybe Meant
let_meaning w bnil e f = then (own_of w) λ own. then (let_only own) λ k. just (says k (mcons e (mcons f mnil)))
let_meaning w (bcons v t bs) e f = nothing

-- A term.
unfoldable mutual
  pub meaning : Term → Maybe Meant
  meaning (tnum n) = just (says (m_num n) mnil)
  meaning (tstr s) = just (says (m_str s) mnil)
  meaning (tid i) = then (sense i) alone
  meaning (tapp i t ts) = then (sense i) λ s. then (meaning t) λ e. then (meanings ts) λ es. in_front s (mcons e es)
  meaning (tlet w t bs b) = then (meaning t) λ e. then (meaning b) λ f. let_meaning w bs e f
  meaning (texists v vs b) = then (vars_meaning (v ∷ vs)) λ xs. then (meaning b) λ e. just (says (m_exists xs) (mcons e mnil))

  pub meanings : Terms → Maybe Meants
  meanings tnil = just mnil
  meanings (tcons t ts) = then (meaning t) λ e. then (meanings ts) λ es. just (mcons e es)

-- A list of sorted variables and a term.
unfoldable pub closed_meaning : Closed → Maybe MeantSolution
closed_meaning c = then (vars_meaning c.vars) λ bs. then (meaning c.term) λ e. just (record { params = bs; body = e })

-- The solution that a reader of SMT-LIB finds in bytes.
unfoldable pub read_solution : List ℕ → Maybe MeantSolution
read_solution bytes = then (read_closed bytes) closed_meaning
