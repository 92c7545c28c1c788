-- The bytes that are printed of symbols, identifiers, variables and terms, in pieces that stand one behind the other.
use Prim.Native.Nat.{ℕ, ◌<◌}
use mathlib.Core.Path.{◌≡◌, refl, sym, ap, ◌∙◌}
use mathlib.Core.Bool.{Bool, true, false, ◌&&◌}
use mathlib.Core.List.{List, [], ◌∷◌, ◌++◌, append_assoc, append-nil}
use native.Mathlib.Omega.{arith}
use lib.ListN.{length}
use Rattle.reading.specs.Pick.{pick}
use Rattle.reading.specs.Bytes.{ascii, same_bytes, Named}
use Rattle.reading.specs.Number.{is_digit}
use Rattle.grammar.specs.Names.{theory}
use Rattle.writing.specs.Digits.{decimal}
use Rattle.smt.specs.Sexp.{list, symbol_byte, reserved_words, is_reserved, simple, symbol_text, print, inside}
use Rattle.smt.specs.Term.{by_number, by_symbol, Ident, Var, Term, Terms, tapp, tlet, texists, tcons, bnil, ident_sx, sort_sx, var_sx, var_sxs, term_sx, term_sxs}
use Rattle.smt.specs.Vocabulary.{operators, relations, bit_vectors}
use Rattle.smt.specs.Writer.{spelled_at, fresh_symbol, bits_ident}
use Rattle.smt.proofs.Tables.{each_name, name_passes}
use Rattle.smt.proofs.Figures.{decimal-symbol}

-- A symbol with a space in it stands in bars.
never-simple : (b : ℕ) (w : List ℕ) → simple (b ∷ 32 ∷ w) ≡ false
unfolding simple symbol_byte is_digit pick
never-simple b w = rw (falls (symbol_byte b)) refl
  where
    falls : (t : Bool) → (t && false) ≡ false
    falls true = refl
    falls false = refl

pub barred_text : (b : ℕ) (w : List ℕ) → symbol_text (b ∷ 32 ∷ w) ≡ 124 ∷ b ∷ 32 ∷ w ++ (124 ∷ [])
unfolding symbol_text pick
barred_text b w = rw (never-simple b w) refl

pub fresh-text : (k : ℕ) → symbol_text (fresh_symbol k) ≡ 124 ∷ 118 ∷ 32 ∷ decimal k ++ (124 ∷ [])
unfolding fresh_symbol
fresh-text k = barred_text 118 (decimal k)

-- A symbol that needs no bars.
pub simple-text : (s : List ℕ) → simple s ≡ true → symbol_text s ≡ s
unfolding symbol_text pick
simple-text s e = rw e refl

-- The symbols of a table.
spelled-text : {A : Type 0} (rows : List (Named A)) (k : ℕ) → each_name simple rows ≡ true → k < length rows → symbol_text (spelled_at rows k) ≡ spelled_at rows k
spelled-text rows k h l = simple-text (spelled_at rows k) (name_passes simple rows k h (λ m. absurd (omega (arith, l, m))))

pub operator-text : (k : ℕ) → k < 5 → symbol_text (spelled_at operators k) ≡ spelled_at operators k
unfolding operators simple symbol_byte is_digit is_reserved reserved_words same_bytes pick
operator-text k l = spelled-text operators k refl l

pub relation-text : (k : ℕ) → k < 6 → symbol_text (spelled_at relations k) ≡ spelled_at relations k
unfolding relations simple symbol_byte is_digit is_reserved reserved_words same_bytes pick
relation-text k l = spelled-text relations k refl l

pub function-text : (k : ℕ) → k < 23 → symbol_text (spelled_at bit_vectors k) ≡ spelled_at bit_vectors k
unfolding bit_vectors theory simple symbol_byte is_digit is_reserved reserved_words same_bytes pick
function-text k l = spelled-text bit_vectors k refl l

-- Identifiers with an index: a bit-vector value, a constructor test, the sort of bit vectors.
bits_simple : (v : ℕ) → simple (ascii "bv" ++ decimal v) ≡ true
unfolding simple symbol_byte is_digit is_reserved reserved_words same_bytes pick
bits_simple v = rw (decimal-symbol v) refl

pub bits_text_lem : (v width : ℕ) → print (ident_sx (bits_ident v width)) ≡ ascii "(_ bv" ++ (decimal v ++ (32 ∷ decimal width ++ (41 ∷ [])))
unfolding print bits_ident
bits_text_lem v width =
    ap (λ (l : List ℕ). ascii "(_ " ++ ((l ++ (32 ∷ decimal width ++ [])) ++ (41 ∷ []))) (simple-text (ascii "bv" ++ decimal v) (bits_simple v))
    ∙ rw (append-nil (decimal width), append_assoc (decimal v) (32 ∷ decimal width) (41 ∷ [])) refl

pub test_text : (w : List ℕ) → print (ident_sx (record { name = ascii "is"; indices = by_symbol (110 ∷ 32 ∷ w) ∷ [] })) ≡ ascii "(_ is " ++ ((124 ∷ 110 ∷ 32 ∷ w ++ (124 ∷ [])) ++ (41 ∷ []))
unfolding print
test_text w =
    rw (simple-text (ascii "is") (unfold simple symbol_byte is_digit is_reserved reserved_words same_bytes pick in refl), barred_text 110 w) (ap (λ (l : List ℕ). ascii "(_ is |n " ++ (l ++ (41 ∷ []))) (append-nil (w ++ (124 ∷ []))))

pub width-text : (n : ℕ) → print (ident_sx (record { name = ascii "BitVec"; indices = by_number n ∷ [] })) ≡ ascii "(_ BitVec " ++ (decimal n ++ (41 ∷ []))
unfolding print
width-text n =
    rw (simple-text (ascii "BitVec") (unfold simple symbol_byte is_digit is_reserved reserved_words same_bytes pick in refl), append-nil (decimal n)) refl

-- A list of which the first item is x.
first-item : (x ys : List ℕ) → (40 ∷ (x ++ (32 ∷ ys)) ++ (41 ∷ [])) ≡ (40 ∷ x ++ (32 ∷ [])) ++ (ys ++ (41 ∷ []))
first-item x ys = ap (λ (l : List ℕ). 40 ∷ l) (append_assoc x (32 ∷ ys) (41 ∷ []) ∙ sym (append_assoc x (32 ∷ []) (ys ++ (41 ∷ []))))

-- A sorted variable.
pub var-text : (v : Var) → print (var_sx v) ≡ (40 ∷ symbol_text v.name ++ (32 ∷ [])) ++ (print (sort_sx v.sort) ++ (41 ∷ []))
unfolding print var_sx
var-text v = rw (append-nil (print (sort_sx v.sort))) (first-item (symbol_text v.name) (print (sort_sx v.sort)))

-- An identifier in front of terms.
pub applied-text : (i : Ident) (t : Term) (ts : Terms) → print (term_sx (tapp i t ts)) ≡ (40 ∷ print (ident_sx i) ++ (32 ∷ [])) ++ (inside (term_sxs (tcons t ts)) ++ (41 ∷ []))
unfolding print term_sx
applied-text i t ts = first-item (print (ident_sx i)) (inside (term_sxs (tcons t ts)))

-- A let of one symbol.
let-pieces : (x y z : List ℕ) → ((40 ∷ ((40 ∷ (x ++ (32 ∷ y ++ [])) ++ (41 ∷ [])) ++ []) ++ (41 ∷ [])) ++ (32 ∷ z ++ [])) ++ (41 ∷ []) ≡ (40 ∷ 40 ∷ x ++ (32 ∷ [])) ++ ((y ++ (41 ∷ 41 ∷ 32 ∷ z)) ++ (41 ∷ []))
let-pieces x y z =
    let pair = (x ++ (32 ∷ y)) ++ (41 ∷ []) in
    let behind = 41 ∷ 41 ∷ 32 ∷ z ++ (41 ∷ []) in
    rw (append-nil y, append-nil z, append-nil pair) (
    ap (λ (l : List ℕ). 40 ∷ 40 ∷ l) (
    append_assoc (pair ++ (41 ∷ [])) (32 ∷ z) (41 ∷ [])
    ∙ append_assoc pair (41 ∷ []) (32 ∷ z ++ (41 ∷ []))
    ∙ append_assoc (x ++ (32 ∷ y)) (41 ∷ []) (41 ∷ 32 ∷ z ++ (41 ∷ []))
    ∙ append_assoc x (32 ∷ y) behind
    ∙ ap (λ (l : List ℕ). x ++ (32 ∷ l)) (sym (append_assoc y (41 ∷ 41 ∷ 32 ∷ z) (41 ∷ [])))
    ∙ sym (append_assoc x (32 ∷ []) ((y ++ (41 ∷ 41 ∷ 32 ∷ z)) ++ (41 ∷ [])))))

pub let-text : (x : List ℕ) (t u : Term) → print (term_sx (tlet x t bnil u)) ≡ (ascii "(let ((" ++ (symbol_text x ++ (32 ∷ []))) ++ ((print (term_sx t) ++ (ascii ")) " ++ print (term_sx u))) ++ (41 ∷ []))
unfolding print term_sx
let-text x t u = ap (λ (l : List ℕ). ascii "(let " ++ l) (let-pieces (symbol_text x) (print (term_sx t)) (print (term_sx u)))

-- An exists.
pub exists-text : (v : Var) (vs : List Var) (t : Term) → print (term_sx (texists v vs t)) ≡ (ascii "(exists " ++ (print (list (var_sxs (v ∷ vs))) ++ (32 ∷ []))) ++ (print (term_sx t) ++ (41 ∷ []))
unfolding print term_sx var_sxs
exists-text v vs t = simp (append_assoc, append-nil)
