-- What is told of a kind has the bytes of the kind's form: in front of the operands, between them and behind them.
use Prim.Native.Nat.{ℕ, zero, suc, ◌<◌}
use mathlib.Core.Bool.{Bool, true, false}
use mathlib.Core.Path.{◌≡◌, refl, sym, ap, ◌∙◌}
use mathlib.Core.List.{List, [], ◌∷◌, ◌++◌, append_assoc}
use native.Mathlib.Omega.{arith}
use lib.ListN.{length}
use Rattle.reading.specs.Pick.{pick}
use Rattle.reading.specs.Bytes.{ascii, Span}
use Rattle.reading.specs.Number.{Wide, value_of}
use Rattle.reading.specs.Answer.{Ans, got, bad, and_then, unwritable}
use Rattle.grammar.specs.Expr.{BinOp, op_number, op_add, op_sub, op_mul, op_div, op_mod, Relation, rel_number, rel_eq, rel_ne, rel_gt, rel_ge, rel_lt, rel_le, Binder, Kind, k_num, k_bool, k_str, k_bit_vec, k_fresh, k_named, k_neg, k_bin, k_if, k_and, k_or, k_not, k_imp, k_iff, k_atom, k_let, k_theory, k_is_ctor, k_exists, k_let_fresh}
use Rattle.nodes.specs.Node.{node_of}
use Rattle.nodes.specs.declared.kind.Node.TheVariants as told
use Rattle.writing.specs.Digits.{decimal}
use Rattle.smt.specs.Sexp.{symbol_text, list, print}
use Rattle.smt.specs.Term.{by_symbol, plain_ident, SmtSort, Var, tstr, tid, ident_sx, var_sxs, term_sx}
use Rattle.smt.specs.Vocabulary.{operators, relations}
use Rattle.smt.specs.Writer.{spelled_at, bits_ident, fits_width, fresh_symbol, Form, alone, operator, folded, letting, some, bytes_of, symbol_of, vars_of, fields_of, sort_of}
use Rattle.smt.proofs.Text.{barred_text, fresh-text, operator-text, relation-text, bits_text_lem, test_text}
use Rattle.smtnames.specs.Pieces.{joined, name_text, fresh_text, string_text, vars_text}
use Rattle.smtoperators.specs.Operators.{operator_text}
use Rattle.smtbools.specs.Bools.{folded_text}
use Rattle.smtfronts.specs.Fronts.{front_of, front_text, bits_text, let_fresh_text, node_text, Numbered, exists_text}
use Rattle.smtfunctions.proofs.Symbols.{own_bare}

-- Operators and relations have numbers in their tables.
op-small : (op : BinOp) → op_number op < 5
op-small op_add = omega arith
op-small op_sub = omega arith
op-small op_mul = omega arith
op-small op_div = omega arith
op-small op_mod = omega arith

rel_small : (r : Relation) → rel_number r < 6
rel_small rel_eq = omega arith
rel_small rel_ne = omega arith
rel_small rel_gt = omega arith
rel_small rel_ge = omega arith
rel_small rel_lt = omega arith
rel_small rel_le = omega arith

pub node-numbered : (k : Kind) → Numbered (node_of k)
node-numbered (k_num v) = tt
node-numbered (k_bool b) = tt
node-numbered (k_str s) = tt
node-numbered (k_bit_vec v width) = tt
node-numbered (k_fresh k) = tt
node-numbered (k_named x) = tt
node-numbered k_neg = tt
node-numbered (k_bin op) = op-small op
node-numbered k_if = tt
node-numbered k_and = tt
node-numbered k_or = tt
node-numbered k_not = tt
node-numbered k_imp = tt
node-numbered k_iff = tt
node-numbered (k_atom r) = rel_small r
node-numbered (k_let x) = tt
node-numbered (k_theory k) = tt
node-numbered (k_is_ctor x) = tt
node-numbered (k_exists bs) = tt
node-numbered (k_let_fresh k) = tt

-- A constructor test.
test_print : (name : List ℕ) → ascii "((_ is " ++ ((124 ∷ 110 ∷ 32 ∷ name ++ (124 ∷ [])) ++ ascii ") ") ≡ operator_text (print (ident_sx (record { name = ascii "is"; indices = by_symbol (ascii "n " ++ name) ∷ [] })))
test_print name =
    ap (λ l. ascii "((_ is " ++ l) (sym (append_assoc (124 ∷ 110 ∷ 32 ∷ name ++ (124 ∷ [])) (41 ∷ []) (32 ∷ [])))
    ∙ ap operator_text (sym (test_text name))

-- The front of a form that may be refused.
abbrev fronts_of : Ans Form → ℕ → Ans (List ℕ)
fronts_of x n = and_then x λ f. got (front_of f n)

-- And and Or.
folded-front : (unit s : List ℕ) → symbol_text unit ≡ unit → symbol_text s ≡ s → (m : ℕ) → got (folded_text unit s m) ≡ fronts_of (got (folded (record { name = unit; indices = [] }) (record { name = s; indices = [] }))) m
unfolding folded_text front_of print
folded-front unit s e f zero = ap got (sym e)
folded-front unit s e f (suc zero) = refl
folded-front unit s e f (suc (suc m)) = ap (λ l. got (operator_text l)) (sym f)

module _ (n : ℕ) where
  -- An operator by its symbol.
  operator-front : (s : List ℕ) (k : ℕ) → symbol_text s ≡ s → got (operator_text s) ≡ fronts_of (got (operator (record { name = s; indices = [] }) k)) n
  unfolding front_of print
  operator-front s k e = ap (λ l. got (operator_text l)) (sym e)

  string-front : (text : List ℕ) (s : Span) → string_text text s ≡ fronts_of (fields_of text (k_str s)) n
  unfolding string_text fields_of front_of print term_sx
  string-front text s = go (bytes_of text s)
    where
      go : (x : Ans (List ℕ)) → and_then x (λ bytes. got (34 ∷ bytes ++ (34 ∷ []))) ≡ fronts_of (and_then x λ bytes. got (alone (tstr bytes))) n
      go (got bytes) = refl
      go (bad r) = refl

  value-front : (text : List ℕ) (v : Wide) (width : ℕ) → bits_text v width ≡ fronts_of (fields_of text (k_bit_vec v width)) n
  unfolding bits_text fields_of front_of term_sx pick
  value-front text v width = go (fits_width v width)
    where
      go : (b : Bool) → pick b (got (ascii "(_ bv" ++ (decimal (value_of v) ++ (32 ∷ decimal width ++ (41 ∷ []))))) (bad unwritable) ≡ fronts_of (pick b (got (alone (tid (bits_ident (value_of v) width)))) (bad unwritable)) n
      go true = ap got (sym (bits_text_lem (value_of v) width))
      go false = refl

  name-front : (text : List ℕ) (s : Span) → name_text text 110 s ≡ fronts_of (and_then (symbol_of text "n " s) λ name. got (alone (tid (plain_ident name)))) n
  unfolding name_text symbol_of front_of print term_sx
  name-front text s = go (bytes_of text s)
    where
      go : (x : Ans (List ℕ)) → and_then x (λ name. got (124 ∷ 110 ∷ 32 ∷ name ++ (124 ∷ []))) ≡ fronts_of (and_then (and_then x λ name. got (ascii "n " ++ name)) λ name. got (alone (tid (plain_ident name)))) n
      go (got name) = ap got (sym (barred_text 110 name))
      go (bad r) = refl

  let-front : (text : List ℕ) (s : Span) → joined (got (ascii "(let ((")) (joined (name_text text 110 s) (got (ascii " "))) ≡ fronts_of (and_then (symbol_of text "n " s) λ name. got (letting name)) n
  unfolding joined name_text symbol_of front_of
  let-front text s = go (bytes_of text s)
    where
      go : (x : Ans (List ℕ)) → joined (got (ascii "(let ((")) (joined (and_then x (λ name. got (124 ∷ 110 ∷ 32 ∷ name ++ (124 ∷ [])))) (got (ascii " "))) ≡ fronts_of (and_then (and_then x λ name. got (ascii "n " ++ name)) λ name. got (letting name)) n
      go (got name) = ap (λ l. got (ascii "(let ((" ++ (l ++ (32 ∷ [])))) (sym (barred_text 110 name))
      go (bad r) = refl

  test_front : (text : List ℕ) (s : Span) → joined (got (ascii "((_ is ")) (joined (name_text text 110 s) (got (ascii ") "))) ≡ fronts_of (and_then (symbol_of text "n " s) λ name. got (operator (record { name = ascii "is"; indices = by_symbol name ∷ [] }) 1)) n
  unfolding joined name_text symbol_of front_of
  test_front text s = go (bytes_of text s)
    where
      go : (x : Ans (List ℕ)) → joined (got (ascii "((_ is ")) (joined (and_then x (λ name. got (124 ∷ 110 ∷ 32 ∷ name ++ (124 ∷ [])))) (got (ascii ") "))) ≡ fronts_of (and_then (and_then x λ name. got (ascii "n " ++ name)) λ name. got (operator (record { name = ascii "is"; indices = by_symbol name ∷ [] }) 1)) n
      go (got name) = ap got (test_print name)
      go (bad r) = refl

-- An exists.
pub exists-front : (text : List ℕ) (bs : List Binder) (n : ℕ) → exists_text text bs ≡ front_text text (k_exists bs) n
unfolding exists_text front_text fields_of front_of vars_of vars_text joined
exists-front text [] n = refl
exists-front text (b ∷ bs) n = go (sort_of text b.sort) (vars_of text bs)
  where
    vars : Ans SmtSort → Ans (List Var) → Ans (List Var)
    vars x y =
        and_then x λ s.
        and_then y λ vs.
        got (record { name = fresh_symbol b.var; sort = s } ∷ vs)

    go : (x : Ans SmtSort) (y : Ans (List Var)) → joined (got (ascii "(exists ")) (joined (and_then (vars x y) λ vs. got (print (list (var_sxs vs)))) (got (ascii " "))) ≡ fronts_of (and_then (vars x y) λ vs. got (some vs)) n
    go (got s) (got vs) = refl
    go (got s) (bad r) = refl
    go (bad r) y = refl

-- Every other kind.
pub node-front : (text : List ℕ) (k : Kind) (n : ℕ) → ((m : ℕ) → node_of k ≡ told.Exists m → ⊥) → node_text text (node_of k) n ≡ front_text text k n
unfolding front_text fields_of front_of fresh_text let_fresh_text print term_sx
node-front text (k_num v) n h = refl
node-front text (k_bool true) n h = ap got (sym own_bare.yes)
node-front text (k_bool false) n h = ap got (sym own_bare.no)
node-front text (k_str s) n h = string-front n text s
node-front text (k_bit_vec v width) n h = value-front n text v width
node-front text (k_fresh k) n h = ap got (sym (fresh-text k))
node-front text (k_named x) n h = name-front n text x.span
node-front text k_neg n h = operator-front n (ascii "-") 1 own_bare.minus
node-front text (k_bin op) n h = operator-front n (spelled_at operators (op_number op)) 2 (operator-text (op_number op) (op-small op))
node-front text k_if n h = operator-front n (ascii "ite") 3 own_bare.choice
node-front text k_and n h = folded-front (ascii "true") (ascii "and") own_bare.yes own_bare.both n
node-front text k_or n h = folded-front (ascii "false") (ascii "or") own_bare.no own_bare.either n
node-front text k_not n h = operator-front n (ascii "not") 1 own_bare.negated
node-front text k_imp n h = operator-front n (ascii "=>") 2 own_bare.implied
node-front text k_iff n h = operator-front n (ascii "=") 2 own_bare.same
node-front text (k_atom r) n h = operator-front n (spelled_at relations (rel_number r)) 2 (relation-text (rel_number r) (rel_small r))
node-front text (k_let x) n h = let-front n text x.span
node-front text (k_theory k) n h = refl
node-front text (k_is_ctor x) n h = test_front n text x.span
node-front text (k_exists bs) n h = absurd (h (length bs) refl)
node-front text (k_let_fresh k) n h = ap (λ l. got (ascii "(let ((" ++ (l ++ (32 ∷ [])))) (sym (fresh-text k))
