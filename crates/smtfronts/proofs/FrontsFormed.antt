-- A kind with the operands that it takes becomes a term, if its fields can be written.
use Prim.Native.Nat.{ℕ, suc, ◌<◌}
use mathlib.Core.Bool.{true, false}
use mathlib.Core.Path.{◌≡◌, refl}
use mathlib.Core.List.{List}
use native.Mathlib.Omega.{arith}
use borrow.Author.Tests.{eq-eqb}
use Rattle.reading.specs.Pick.{pick}
use Rattle.reading.specs.Number.{value_of}
use Rattle.reading.specs.Answer.{Ans, got, bad, unwritable}
use Rattle.reading.proofs.Picks.{pick-holds}
use Rattle.grammar.specs.Expr.{Kind, k_num, k_bool, k_str, k_bit_vec, k_fresh, k_named, k_neg, k_bin, k_if, k_and, k_or, k_not, k_imp, k_iff, k_atom, k_let, k_theory, k_is_ctor, k_exists, k_let_fresh}
use Rattle.grammar.specs.Shape.{HasOperands}
use Rattle.grammar.proofs.AnswerHolds.{Every, any-every}
use Rattle.smt.specs.Term.{Ident, Var, Term, Terms, tid, tapp, tlet, bnil, tnil, tcons, terms}
use Rattle.smt.specs.Writer.{bits_ident, fits_width, Form, alone, operator, folded, letting, some, folding, quantified, formed, bytes_of, symbol_of, vars_of, fields_of}

-- So many operands are right for a form.
abbrev Takes : ℕ → Form → Type 0
Takes n (alone t) = n ≡ 0
Takes n (operator i k) = (n ≡ k) × (0 < k)
Takes n (folded unit i) = Unit {0}
Takes n (letting x) = n ≡ 2
Takes n (some vs) = n ≡ 1

-- A form becomes a term.
abbrev pub Becomes : Form → Terms → Type 0
Becomes f ts = (t : Term) × (formed f ts ≡ got t)

module _ (u : Term) where
  alone_becomes : (ts : Terms) → terms ts ≡ 0 → Becomes (alone u) ts
  unfolding formed terms
  alone_becomes tnil e = (u, refl)
  alone_becomes (tcons t ts) e = absurd (omega (arith, e))

module _ (i : Ident) (k : ℕ) where
  operator_becomes : (ts : Terms) → terms ts ≡ k → 0 < k → Becomes (operator i k) ts
  unfolding formed terms pick
  operator_becomes tnil e h = absurd (omega (arith, e, h))
  operator_becomes (tcons t ts) e h = (tapp i t ts, rw (eq-eqb (suc (terms ts)) k e) refl)

module _ (x : List ℕ) where
  letting_becomes : (ts : Terms) → terms ts ≡ 2 → Becomes (letting x) ts
  unfolding formed terms
  letting_becomes tnil e = absurd (omega (arith, e))
  letting_becomes (tcons t tnil) e = absurd (omega (arith, e))
  letting_becomes (tcons t (tcons u tnil)) e = (tlet x t bnil u, refl)
  letting_becomes (tcons t (tcons u (tcons v vs))) e = absurd (omega (arith, e))

module _ (vs : List Var) where
  some_becomes : (ts : Terms) → terms ts ≡ 1 → Becomes (some vs) ts
  unfolding formed terms
  some_becomes tnil e = absurd (omega (arith, e))
  some_becomes (tcons t tnil) e = (quantified vs t, refl)
  some_becomes (tcons t (tcons u us)) e = absurd (omega (arith, e))

form_becomes : (f : Form) (ts : Terms) → Takes (terms ts) f → Becomes f ts
unfolding formed
form_becomes (alone u) ts h = alone_becomes u ts h
form_becomes (operator i k) ts h = operator_becomes i k ts h.0 h.1
form_becomes (folded unit i) ts h = (folding unit i ts, refl)
form_becomes (letting x) ts h = letting_becomes x ts h
form_becomes (some vs) ts h = some_becomes vs ts h

module _ (text : List ℕ) (n : ℕ) where
  -- The operands that a kind takes are those that its form takes.
  kind_takes : (k : Kind) → HasOperands k n → Every (fields_of text k) (Takes n)
  unfolding fields_of
  kind_takes (k_num v) h = h
  kind_takes (k_bool true) h = h
  kind_takes (k_bool false) h = h
  kind_takes (k_str s) h = any-every (bytes_of text s) _ (Takes n) λ bytes. h
  kind_takes (k_bit_vec v width) h =
      pick-holds (fits_width v width) (got (alone (tid (bits_ident (value_of v) width)))) (bad unwritable) (λ x. Every x (Takes n)) h tt
  kind_takes (k_fresh k) h = h
  kind_takes (k_named x) h = any-every (symbol_of text "n " x.span) _ (Takes n) λ name. h
  kind_takes k_neg h = (h, omega arith)
  kind_takes (k_bin op) h = (h, omega arith)
  kind_takes k_if h = (h, omega arith)
  kind_takes k_and h = tt
  kind_takes k_or h = tt
  kind_takes k_not h = (h, omega arith)
  kind_takes k_imp h = (h, omega arith)
  kind_takes k_iff h = (h, omega arith)
  kind_takes (k_atom r) h = (h, omega arith)
  kind_takes (k_let x) h = any-every (symbol_of text "n " x.span) _ (Takes n) λ name. h
  kind_takes (k_theory k) h = tt
  kind_takes (k_is_ctor x) h = any-every (symbol_of text "n " x.span) _ (Takes n) λ name. (h, omega arith)
  kind_takes (k_exists bs) h = any-every (vars_of text bs) _ (Takes n) λ vs. h
  kind_takes (k_let_fresh k) h = h

-- What holds of every answer holds of the one that is got.
pub every_got : {A : Type 0} (Q : A → Type 0) {x : Ans A} {a : A} → Every x Q → x ≡ got a → Q a
every_got Q {x} {a} h e = rw e at h

-- A kind with its operands becomes a term.
pub kind_becomes : (text : List ℕ) (k : Kind) (ts : Terms) {f : Form} → HasOperands k (terms ts) → fields_of text k ≡ got f → Becomes f ts
kind_becomes text k ts {f} h e = form_becomes f ts (every_got (Takes (terms ts)) (kind_takes text (terms ts) k h) e)
