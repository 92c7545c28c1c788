-- What is told of a kind says what stands between its operands and behind them, and names it as a head.
use Prim.Native.Nat.{ℕ, suc}
use mathlib.Core.Bool.{true, false}
use mathlib.Core.Path.{◌≡◌, refl, ap}
use mathlib.Core.List.{List, [], ◌∷◌, ◌++◌}
use native.Mathlib.Omega.{arith}
use lib.ListN.{length}
use borrow.Author.Tests.{lt-ltb}
use Rattle.reading.specs.Bytes.{ascii, Span}
use Rattle.reading.specs.Number.{value_of}
use Rattle.reading.specs.Answer.{Ans, got, bad, and_then, unwritable}
use Rattle.reading.proofs.Picks.{pick-holds}
use Rattle.grammar.specs.Expr.{Kind, k_num, k_bool, k_str, k_bit_vec, k_fresh, k_named, k_neg, k_bin, k_if, k_and, k_or, k_not, k_imp, k_iff, k_atom, k_let, k_theory, k_is_ctor, k_exists, k_let_fresh}
use Rattle.grammar.proofs.AnswerHolds.{Every, any-every}
use Rattle.nodes.specs.Node.{node_of}
use Rattle.smt.specs.Sexp.{print}
use Rattle.smt.specs.Term.{plain_ident, SmtSort, Var, tid}
use Rattle.smt.specs.Writer.{fresh_symbol, bits_ident, fits_width, Form, alone, some, bytes_of, symbol_of, sort_of, vars_of, fields_of, head_kind}
use Rattle.smt.proofs.Text.{barred_text, fresh-text}
use Rattle.smtnames.specs.Pieces.{ident_text, name_text, fresh_text}
use Rattle.smtseams.specs.Seams.{node_lets, node_closes}
use Rattle.smtfronts.specs.Fronts.{form_lets, form_closes, callee_text}
use Rattle.smtfunctions.specs.Functions.{function_text}
use Rattle.smtfronts.proofs.FrontsFormed.{every_got}

-- A form with the same bytes between its operands and behind them.
abbrev Stands : Kind → ℕ → Form → Type 0
Stands k n f = (node_lets (node_of k) ≡ form_lets f) × (node_closes (node_of k) n ≡ form_closes f n)

kind-stands : (text : List ℕ) (n : ℕ) (k : Kind) → Every (fields_of text k) (Stands k n)
unfolding fields_of form_lets form_closes vars_of
kind-stands text n (k_num v) = (refl, refl)
kind-stands text n (k_bool true) = (refl, refl)
kind-stands text n (k_bool false) = (refl, refl)
kind-stands text n (k_str s) = any-every (bytes_of text s) _ (Stands (k_str s) n) λ bytes. (refl, refl)
kind-stands text n (k_bit_vec v width) =
    pick-holds (fits_width v width) (got (alone (tid (bits_ident (value_of v) width)))) (bad unwritable) (λ x. Every x (Stands (k_bit_vec v width) n)) (refl, refl) tt
kind-stands text n (k_fresh k) = (refl, refl)
kind-stands text n (k_named x) = any-every (symbol_of text "n " x.span) _ (Stands (k_named x) n) λ name. (refl, refl)
kind-stands text n k_neg = (refl, refl)
kind-stands text n (k_bin op) = (refl, refl)
kind-stands text n k_if = (refl, refl)
kind-stands text n k_and = (refl, refl)
kind-stands text n k_or = (refl, refl)
kind-stands text n k_not = (refl, refl)
kind-stands text n k_imp = (refl, refl)
kind-stands text n k_iff = (refl, refl)
kind-stands text n (k_atom r) = (refl, refl)
kind-stands text n (k_let x) = any-every (symbol_of text "n " x.span) _ (Stands (k_let x) n) λ name. (refl, refl)
kind-stands text n (k_theory k) = tt
kind-stands text n (k_is_ctor x) = any-every (symbol_of text "n " x.span) _ (Stands (k_is_ctor x) n) λ name. (refl, refl)
kind-stands text n (k_exists []) = (refl, refl)
kind-stands text n (k_exists (b ∷ bs)) = go (sort_of text b.sort) (vars_of text bs)
  where
    go : (x : Ans SmtSort) (y : Ans (List Var)) → Every (and_then (and_then x λ s. and_then y λ vs. got (record { name = fresh_symbol b.var; sort = s } ∷ vs)) λ vs. got (some vs)) (Stands (k_exists (b ∷ bs)) n)
    go (got s) (got vs) = (refl, lt-ltb 0 (suc (length bs)) (omega arith))
    go (got s) (bad r) = tt
    go (bad r) y = tt
kind-stands text n (k_let_fresh k) = (refl, refl)

module _ (text : List ℕ) (k : Kind) (n : ℕ) {f : Form} (e : fields_of text k ≡ got f) where
  -- Between the operands.
  pub node-lets : node_lets (node_of k) ≡ form_lets f
  node-lets = (every_got (Stands k n) (kind-stands text n k) e).0

  -- Behind them.
  pub node-closes : node_closes (node_of k) n ≡ form_closes f n
  node-closes = (every_got (Stands k n) (kind-stands text n k) e).1

-- A name as a head.
name-callee : (text : List ℕ) (s : Span) → ident_text (and_then (symbol_of text "n " s) λ name. got (plain_ident name)) ≡ name_text text 110 s
unfolding ident_text symbol_of name_text print
name-callee text s = go (bytes_of text s)
  where
    go : (x : Ans (List ℕ)) → ident_text (and_then (and_then x λ name. got (ascii "n " ++ name)) λ name. got (plain_ident name)) ≡ and_then x (λ name. got (124 ∷ 110 ∷ 32 ∷ name ++ (124 ∷ [])))
    go (got name) = ap got (barred_text 110 name)
    go (bad r) = refl

pub node-callee : (text : List ℕ) (k : Kind) → ident_text (head_kind text k) ≡ callee_text text (node_of k)
unfolding ident_text head_kind function_text fresh_text print
node-callee text (k_num v) = refl
node-callee text (k_bool b) = refl
node-callee text (k_str s) = refl
node-callee text (k_bit_vec v width) = refl
node-callee text (k_fresh k) = ap got (fresh-text k)
node-callee text (k_named x) = name-callee text x.span
node-callee text k_neg = refl
node-callee text (k_bin op) = refl
node-callee text k_if = refl
node-callee text k_and = refl
node-callee text k_or = refl
node-callee text k_not = refl
node-callee text k_imp = refl
node-callee text k_iff = refl
node-callee text (k_atom r) = refl
node-callee text (k_let x) = refl
node-callee text (k_theory k) = refl
node-callee text (k_is_ctor x) = refl
node-callee text (k_exists bs) = refl
node-callee text (k_let_fresh k) = refl
