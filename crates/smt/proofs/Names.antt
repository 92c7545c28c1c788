-- What the symbols that are written stand for when they are read.
use Prim.Native.Nat.{ℕ, zero, suc, ◌+◌, ◌-◌, ◌≤◌, ◌<◌}
use mathlib.Core.Path.{◌≡◌, refl}
use mathlib.Core.List.{List, [], ◌∷◌, ◌++◌}
use mathlib.Core.Bool.{true, false}
use native.Mathlib.Omega.{arith}
use lib.ListN.{length}
use borrow.Author.Tests.{ltb-true, ltb-false, lt-ltb, eq-eqb}
use Rattle.reading.specs.Pick.{pick}
use Rattle.reading.specs.Bytes.{ascii, same_bytes, Named, named, lookup, just}
use Rattle.grammar.specs.Expr.{BinOp, op_add, op_sub, op_mul, op_div, op_mod, Relation, rel_eq, rel_ne, rel_gt, rel_ge, rel_lt, rel_le, op_number, rel_number}
use Rattle.grammar.proofs.AnswerHolds.{Every}
use Rattle.smt.specs.SexpBack.{then}
use Rattle.smt.specs.Term.{by_symbol, Ident, plain_ident}
use Rattle.grammar.specs.Names.{theory}
use Rattle.smt.specs.Vocabulary.{operators, relations, bit_vectors}
use Rattle.smt.specs.Writer.{plainly, spelled_at, fresh_symbol, bits_ident, function_of}
use Rattle.smt.specs.Meant.{MeantKind, m_bool, m_bit_vec, m_fresh, m_named, m_neg, m_bin, m_if, m_and, m_or, m_not, m_imp, m_atom, m_theory, m_is_ctor, Meant, says, calls, Meants, mnil, mcons, meants}
use Rattle.smt.specs.Meaning.{own_fresh, own_name, lettered, own_of, variable, value, function, operator, joining, words, plain_sense, bits_sense, test_sense, sense, in_front}
use Rattle.smt.proofs.Tests.{pick_known}
use Rattle.smt.proofs.Figures.{natural-decimal}

-- Symbols of the solution's own.
pub fresh-own : (k : ℕ) → own_of (fresh_symbol k) ≡ just (own_fresh k)
unfolding own_of lettered fresh_symbol pick
fresh-own k = rw (natural-decimal k) refl

pub name-own : (w : List ℕ) → own_of (ascii "n " ++ w) ≡ just (own_name w)
unfolding own_of lettered pick
name-own w = refl

pub fresh-sense : (k : ℕ) → sense (plain_ident (fresh_symbol k)) ≡ just (variable (m_fresh k))
unfolding sense plain_sense words operators relations bit_vectors theory lookup same_bytes pick own_of lettered fresh_symbol
fresh-sense k = rw (natural-decimal k) refl

pub name-sense : (w : List ℕ) → sense (plain_ident (ascii "n " ++ w)) ≡ just (variable (m_named w))
unfolding sense plain_sense words operators relations bit_vectors theory lookup same_bytes pick own_of lettered
name-sense w = refl

-- Identifiers with an index.
pub bits_sense_lem : (v width : ℕ) → sense (bits_ident v width) ≡ just (value (m_bit_vec v width))
unfolding sense bits_sense bits_ident pick
bits_sense_lem v width = rw (natural-decimal v) refl

pub test_sense_lem : (w : List ℕ) → sense (record { name = ascii "is"; indices = by_symbol (ascii "n " ++ w) ∷ [] }) ≡ just (operator (m_is_ctor w) 1)
unfolding sense test_sense same_bytes pick own_of lettered
test_sense_lem w = refl

-- An identifier in front of operands says this.
abbrev pub Says : Ident → Meants → Meant → Type 0
Says i es m = then (sense i) (λ s. in_front s es) ≡ just m

-- An operator of so many operands.
pub operator-says : (i : Ident) (k : MeantKind) (n : ℕ) → sense i ≡ just (operator k n) → (es : Meants) → meants es ≡ n → Says i es (says k es)
unfolding pick
operator-says i k n e es h = rw (e, eq-eqb (meants es) n h) refl

-- One of at least two operands.
pub joining-says : (i : Ident) (k : MeantKind) → sense i ≡ just (joining k) → (e f : Meant) (fs : Meants) → Says i (mcons e (mcons f fs)) (says k (mcons e (mcons f fs)))
unfolding pick meants
joining-says i k e a b bs = rw (e, lt-ltb 1 (suc (suc (meants bs))) (omega arith)) refl

-- Neg and Sub are one symbol.
pub minus_one : (es : Meants) → meants es ≡ 1 → Says (plainly "-") es (says m_neg es)
unfolding meants sense plain_sense words lookup same_bytes pick
minus_one mnil h = absurd (omega (arith, h))
minus_one (mcons e mnil) h = refl
minus_one (mcons e (mcons f fs)) h = absurd (omega (arith, h))

minus-two : (es : Meants) → meants es ≡ 2 → Says (plainly "-") es (says (m_bin op_sub) es)
unfolding meants sense plain_sense words lookup same_bytes pick
minus-two mnil h = absurd (omega (arith, h))
minus-two (mcons e mnil) h = absurd (omega (arith, h))
minus-two (mcons e (mcons f mnil)) h = refl
minus-two (mcons e (mcons f (mcons g gs))) h = absurd (omega (arith, h))

-- The operations.
pub bin_says : (op : BinOp) (es : Meants) → meants es ≡ 2 → Says (plain_ident (spelled_at operators (op_number op))) es (says (m_bin op) es)
unfolding sense plain_sense words operators lookup same_bytes pick
bin_says op_add es h = operator-says (plainly "+") (m_bin op_add) 2 refl es h
bin_says op_sub es h = minus-two es h
bin_says op_mul es h = operator-says (plainly "*") (m_bin op_mul) 2 refl es h
bin_says op_div es h = operator-says (plainly "div") (m_bin op_div) 2 refl es h
bin_says op_mod es h = operator-says (plainly "mod") (m_bin op_mod) 2 refl es h

-- The relations.
relation-sense : (r : Relation) → sense (plain_ident (spelled_at relations (rel_number r))) ≡ just (operator (m_atom r) 2)
unfolding sense plain_sense words operators relations lookup same_bytes pick
relation-sense rel_eq = refl
relation-sense rel_ne = refl
relation-sense rel_gt = refl
relation-sense rel_ge = refl
relation-sense rel_lt = refl
relation-sense rel_le = refl

pub atom-says : (r : Relation) (es : Meants) → meants es ≡ 2 → Says (plain_ident (spelled_at relations (rel_number r))) es (says (m_atom r) es)
atom-says r es h = operator-says (plain_ident (spelled_at relations (rel_number r))) (m_atom r) 2 (relation-sense r) es h

-- The other symbols.
pub equal_sense : sense (plainly "=") ≡ just (operator (m_atom rel_eq) 2)
unfolding sense plain_sense words operators relations lookup same_bytes pick
equal_sense = refl

pub not-sense : sense (plainly "not") ≡ just (operator m_not 1)
unfolding sense plain_sense words lookup same_bytes pick
not-sense = refl

pub imp_sense : sense (plainly "=>") ≡ just (operator m_imp 2)
unfolding sense plain_sense words lookup same_bytes pick
imp_sense = refl

pub if_sense : sense (plainly "ite") ≡ just (operator m_if 3)
unfolding sense plain_sense words lookup same_bytes pick
if_sense = refl

pub and-sense : sense (plainly "and") ≡ just (joining m_and)
unfolding sense plain_sense words lookup same_bytes pick
and-sense = refl

pub or_sense : sense (plainly "or") ≡ just (joining m_or)
unfolding sense plain_sense words lookup same_bytes pick
or_sense = refl

pub true-sense : sense (plainly "true") ≡ just (value (m_bool true))
unfolding sense plain_sense words lookup same_bytes pick
true-sense = refl

pub false-sense : sense (plainly "false") ≡ just (value (m_bool false))
unfolding sense plain_sense words lookup same_bytes pick
false-sense = refl

-- The bit-vector functions: each row of their table, from a number on.
abbrev Numbered : List (Named ℕ) → ℕ → Type 0
Numbered [] k = Unit {0}
Numbered (named s n ∷ rows) k = (plain_sense (ascii s) ≡ just (function k)) × Numbered rows (suc k)

functions-numbered : Numbered bit_vectors 9
unfolding plain_sense words operators relations bit_vectors theory lookup same_bytes pick
functions-numbered = (refl, (refl, (refl, (refl, (refl, (refl, (refl, (refl, (refl, (refl, (refl, (refl, (refl, (refl, (refl, (refl, (refl, (refl, (refl, (refl, (refl, (refl, (refl, tt)))))))))))))))))))))))

spelled-numbered : (rows : List (Named ℕ)) (from k : ℕ) → Numbered rows from → k < length rows → plain_sense (spelled_at rows k) ≡ just (function (from + k))
spelled-numbered [] from k h l = absurd (omega (arith, l))
spelled-numbered (named s n ∷ rows) from zero h l =
    let e : from + 0 ≡ from = omega arith in
    rw e h.0
spelled-numbered (named s n ∷ rows) from (suc k) h l =
    let e : from + suc k ≡ suc from + k = omega arith in
    rw e (spelled-numbered rows (suc from) k h.1 (omega (arith, l)))

-- An identifier that calls h.
abbrev pub Calls : Meant → Ident → Type 0
Calls h i = (es : Meants) → Says i es (calls es h)

function-sense : (k : ℕ) → 9 ≤ k → k < 32 → sense (plain_ident (spelled_at bit_vectors (k - 9))) ≡ just (function k)
unfolding sense bit_vectors theory
function-sense k h l =
    let e : 9 + (k - 9) ≡ k = omega arith in
    rw e at (spelled-numbered bit_vectors 9 (k - 9) functions-numbered (omega arith))

pub function-calls : (k : ℕ) → Every (function_of k) (Calls (says (m_theory k) mnil))
unfolding function_of
function-calls k =
    pick_known _ _ _ (λ a. Every a (Calls (says (m_theory k) mnil))) (λ e. tt) λ e.
    pick_known _ _ _ (λ a. Every a (Calls (says (m_theory k) mnil))) (λ f es. rw (function-sense k (ltb-false k 9 e) (ltb-true k 32 f)) refl) (λ f. tt)
