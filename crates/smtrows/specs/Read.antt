-- What a reader of SMT-LIB finds in texts: what some of them say, other spellings of the same, and texts that say no solution.
use Rattle.std.specs.Prelude.{ℕ, ◌≡◌, refl, true, false, List, [], ◌∷◌, map}
use Prim.Native.String.{String}
use Rattle.reading.specs.Bytes.{ascii, Maybe, nothing, just}
use Rattle.grammar.specs.Expr.{op_sub, op_div, rel_eq, rel_ne, rel_lt}
use Rattle.smt.specs.Meant.{MeantSort, int_sort, bool_sort, real_sort, string_sort, bits_sort, array_sort, data_sort, onil, ocons, MeantVar, MeantKind, m_num, m_bool, m_str, m_bit_vec, m_fresh, m_named, m_neg, m_bin, m_if, m_and, m_or, m_not, m_imp, m_atom, m_let, m_theory, m_is_ctor, m_exists, m_let_fresh, Meant, says, calls, Meants, mnil, mcons, MeantSolution}
use Rattle.smt.specs.Meaning.{read_solution}
use Rattle.smt.specs.Compute.{smt_computes}

-- A variable of a sort; what stands alone; one operand, and two.
abbrev pub var : ℕ → MeantSort → MeantVar
var k s = record { var = k; sort = s }

abbrev pub leaf : MeantKind → Meant
leaf k = says k mnil

abbrev pub one : Meant → Meants
one e = mcons e mnil

abbrev pub two : Meant → Meant → Meants
two e f = mcons e (mcons f mnil)

-- A text, and what it says of the variables in its list.
pub record Row : Type 0 where
  pub text : String
  pub meant : MeantSolution

abbrev pub row : String → List MeantVar → Meant → Row
row text params body = record { text = text; meant = record { params = params; body = body } }

abbrev pub rows : List Row
rows =
    row "() true" [] (leaf (m_bool true))
    ∷ row "((|v 0| Int)) (< |v 0| 5)" (var 0 int_sort ∷ []) (says (m_atom rel_lt) (two (leaf (m_fresh 0)) (leaf (m_num 5))))
    ∷ row "((|v 1| Bool) (|v 2| Real) (|v 3| String) (|v 4| (_ BitVec 8)) (|v 5| (Array Int |s T|)) (|v 6| (|s T| Int))) |n x|" (var 1 bool_sort ∷ var 2 real_sort ∷ var 3 string_sort ∷ var 4 (bits_sort 8) ∷ var 5 (array_sort int_sort (data_sort (ascii "T") onil)) ∷ var 6 (data_sort (ascii "T") (ocons int_sort onil)) ∷ []) (leaf (m_named (ascii "x")))
    ∷ row "() (- 5)" [] (says m_neg (one (leaf (m_num 5))))
    ∷ row "() (- 5 2)" [] (says (m_bin op_sub) (two (leaf (m_num 5)) (leaf (m_num 2))))
    ∷ row "() (div 5 2)" [] (says (m_bin op_div) (two (leaf (m_num 5)) (leaf (m_num 2))))
    ∷ row "() (= (distinct true false) (not true))" [] (says (m_atom rel_eq) (two (says (m_atom rel_ne) (two (leaf (m_bool true)) (leaf (m_bool false)))) (says m_not (one (leaf (m_bool true))))))
    ∷ row "() (and true (or false true))" [] (says m_and (two (leaf (m_bool true)) (says m_or (two (leaf (m_bool false)) (leaf (m_bool true))))))
    ∷ row "() (=> true (ite true false true))" [] (says m_imp (two (leaf (m_bool true)) (says m_if (mcons (leaf (m_bool true)) (two (leaf (m_bool false)) (leaf (m_bool true)))))))
    ∷ row "() (let ((|n x| 1)) |n x|)" [] (says (m_let (ascii "x")) (two (leaf (m_num 1)) (leaf (m_named (ascii "x")))))
    ∷ row "() (let ((|v 3| 1)) (< |v 3| 2))" [] (says (m_let_fresh 3) (two (leaf (m_num 1)) (says (m_atom rel_lt) (two (leaf (m_fresh 3)) (leaf (m_num 2))))))
    ∷ row "() (let ((|v 4294967296| (let ((|v 1| 1)) |v 1|))) (let ((|n x| 2)) |v 4294967296|))" [] (says (m_let_fresh 4294967296) (two (says (m_let_fresh 1) (two (leaf (m_num 1)) (leaf (m_fresh 1)))) (says (m_let (ascii "x")) (two (leaf (m_num 2)) (leaf (m_fresh 4294967296))))))
    ∷ row "() (exists ((|v 1| Int)) ((_ is |n Cons|) |v 1|))" [] (says (m_exists (var 1 int_sort ∷ [])) (one (says (m_is_ctor (ascii "Cons")) (one (leaf (m_fresh 1))))))
    ∷ row "() (|n f| \"a b\" (_ bv5 3))" [] (calls (two (leaf (m_str (ascii "a b"))) (leaf (m_bit_vec 5 3))) (leaf (m_named (ascii "f"))))
    ∷ row "() (bvadd |v 7|)" [] (calls (one (leaf (m_fresh 7))) (leaf (m_theory 27)))
    ∷ []

unfoldable pub read_all : List String → List (Maybe MeantSolution)
unfolding smt_computes
read_all texts = map (λ t. read_solution (ascii t)) texts

pub rows-read : read_all (map (λ r. r.text) rows) ≡ map (λ r. just r.meant) rows
unfolding read_all
rows-read = refl

-- Two spellings: comments, other white space or none, bars that are not needed, and a quote in a string, which is written twice.
abbrev pub loose : List String
loose =
    "(  (|v 0|\tInt )) ; a note )\n(<|v 0|5) " ∷ "() (|and| true(or false true))" ∷ "() (|n f|\"a\"\"b\")" ∷ "() ; ends\r(not ; here |\n true)" ∷ []

abbrev pub plain : List String
plain = "((|v 0| Int)) (< |v 0| 5)" ∷ "() (and true (or false true))" ∷ "() (|n f| \"a\"\"b\")" ∷ "() (not true)" ∷ []

pub loose-read : read_all loose ≡ read_all plain
unfolding read_all
loose-read = refl

pub quotes-read : read_all ("() \"a\"\"b\"" ∷ []) ≡ (just (record { params = []; body = leaf (m_str (97 ∷ 34 ∷ 98 ∷ [])) }) ∷ [])
unfolding read_all
quotes-read = refl

-- No list and term; brackets, bars or quotes that do not end; numbers that are none; reserved words out of place; symbols that say nothing here.
abbrev pub strange : List String
strange =
    "" ∷ "()" ∷ "true" ∷ "() true false" ∷ "true ()" ∷ "() ()" ∷ "() (not true" ∷ "() (not true))" ∷ "() |n x" ∷ "() \"a" ∷ "() 007" ∷ "() 5x" ∷ "() -5" ∷ "() (-5)"
    ∷ "() let" ∷ "() exists" ∷ "() (let true)" ∷ "() (let () true)" ∷ "() (let ((x 1)) true)" ∷ "() (let ((|s T| 1)) true)" ∷ "() (let ((|v 03| 1)) true)" ∷ "() (let ((|v 3| 1) (|v 4| 2)) true)" ∷ "() (exists () true)" ∷ "() (_ bv5)" ∷ "() (_ bv05 3)" ∷ "() (_ bv5 3 4)" ∷ "() ((_ is |s T|) true)" ∷ "((x Int)) true" ∷ "((|v 0|)) true" ∷ "((|v 0| Set)) true"
    ∷ "((|v 0| (Array Int))) true" ∷ "((|v 0| (_ BitVec))) true" ∷ "((|n x| Int)) true" ∷ "() x" ∷ "() |v 03|" ∷ "() |v x|" ∷ "() |s T|" ∷ "() and" ∷ "() bvadd" ∷ "() (and true)" ∷ "() (not true false)" ∷ "() (< 1 2 3)" ∷ "() (true 1)" ∷ "() (5 1)" ∷ "() ((|n f| 1) 2)" ∷ "() \\" ∷ []

pub strange-read : read_all strange ≡ map (λ t. nothing) strange
unfolding read_all
strange-read = refl
