-- What holds of an expression holds of it with its fresh numbers raised: it is coded, and scoped, and its literals fit.
use Prim.Native.Nat.{ℕ, zero, suc, ◌+◌}
use mathlib.Core.Path.{◌≡◌, refl}
use mathlib.Core.List.{List, [], ◌∷◌, ◌++◌}
use native.Mathlib.Omega.{arith}
use Rattle.grammar.specs.Item.{raise, bound}
use Rattle.grammar.specs.Expr.{Binder, Kind, k_num, k_bool, k_str, k_bit_vec, k_fresh, k_named, k_neg, k_bin, k_if, k_and, k_or, k_not, k_imp, k_iff, k_atom, k_let, k_theory, k_is_ctor, k_exists, k_let_fresh, Expr, Exprs, node, app, enil, econs, exprs, kind_items, outside, EachKind, EachKindAll}
use Rattle.grammar.specs.Shape.{HasOperands, BindersCoded, KindCoded, Coded, CodedAll}
use Rattle.grammar.specs.Scoped.{Scoped, ScopedIn, ScopedAll}
use Rattle.grammar.specs.Literals.{LiteralFits, LiteralsFit}
use Rattle.grammar.specs.Lets.{NoNamedLet, NoNamedLets}
use Rattle.grammar.specs.Raise.{raise_binders, raise_kind, raise_expr, raise_exprs}
use Rattle.grammar.proofs.Raise.{exprs-raise, kind-raise, raise_zero}

module _ (c limit numbers : ℕ) where
  -- Binders with numbers below a bound have them below the raised bound.
  pub binders-coded-raise : (bs : List Binder) → BindersCoded bs limit numbers → BindersCoded (raise_binders c bs) limit (c + numbers)
  unfolding raise_binders
  binders-coded-raise [] h = tt
  binders-coded-raise (b ∷ bs) h = (omega (arith, h.0), h.1, binders-coded-raise bs h.2)

  -- The fields of a kind.
  kind-coded-raise : (k : Kind) → KindCoded k limit numbers → KindCoded (raise_kind c k) limit (c + numbers)
  unfolding raise_kind
  kind-coded-raise (k_num v) h = tt
  kind-coded-raise (k_bool b) h = tt
  kind-coded-raise (k_str s) h = h
  kind-coded-raise (k_bit_vec v width) h = tt
  kind-coded-raise (k_fresh k) h = omega (arith, h)
  kind-coded-raise (k_named x) h = h
  kind-coded-raise k_neg h = tt
  kind-coded-raise (k_bin op) h = tt
  kind-coded-raise k_if h = tt
  kind-coded-raise k_and h = tt
  kind-coded-raise k_or h = tt
  kind-coded-raise k_not h = tt
  kind-coded-raise k_imp h = tt
  kind-coded-raise k_iff h = tt
  kind-coded-raise (k_atom r) h = tt
  kind-coded-raise (k_let x) h = h
  kind-coded-raise (k_theory k) h = h
  kind-coded-raise (k_is_ctor x) h = h
  kind-coded-raise (k_exists bs) h = binders-coded-raise bs h
  kind-coded-raise (k_let_fresh k) h = omega (arith, h)

  -- Raising keeps how many operands are right.
  operands-raise : (k : Kind) (n : ℕ) → HasOperands k n → HasOperands (raise_kind c k) n
  unfolding raise_kind
  operands-raise (k_num v) n h = h
  operands-raise (k_bool b) n h = h
  operands-raise (k_str s) n h = h
  operands-raise (k_bit_vec v width) n h = h
  operands-raise (k_fresh k) n h = h
  operands-raise (k_named x) n h = h
  operands-raise k_neg n h = h
  operands-raise (k_bin op) n h = h
  operands-raise k_if n h = h
  operands-raise k_and n h = h
  operands-raise k_or n h = h
  operands-raise k_not n h = h
  operands-raise k_imp n h = h
  operands-raise k_iff n h = h
  operands-raise (k_atom r) n h = h
  operands-raise (k_let x) n h = h
  operands-raise (k_theory k) n h = h
  operands-raise (k_is_ctor x) n h = h
  operands-raise (k_exists bs) n h = h
  operands-raise (k_let_fresh k) n h = h

  mutual
    unfolding raise_expr

    -- A coded expression is coded when it is raised.
    pub coded-raise : (e : Expr) → Coded e limit numbers → Coded (raise_expr c e) limit (c + numbers)
    coded-raise (node k es) h = (rw (exprs-raise c es) (operands-raise k (exprs es) h.0), kind-coded-raise k h.1, coded-all-raise es h.2)
    coded-raise (app o es e) h = (coded-all-raise es h.0, h.1, coded-raise e h.2)

    -- The same for several expressions.
    pub coded-all-raise : (es : Exprs) → CodedAll es limit numbers → CodedAll (raise_exprs c es) limit (c + numbers)
    coded-all-raise enil h = tt
    coded-all-raise (econs e es) h = (coded-raise e h.0, coded-all-raise es h.1)

-- Raising leaves outside what stands outside.
outside-raise : (c : ℕ) (k : Kind) → outside (raise_kind c k) ≡ outside k
unfolding raise_kind
outside-raise c (k_num v) = refl
outside-raise c (k_bool b) = refl
outside-raise c (k_str s) = refl
outside-raise c (k_bit_vec v width) = refl
outside-raise c (k_fresh j) = refl
outside-raise c (k_named x) = refl
outside-raise c k_neg = refl
outside-raise c (k_bin op) = refl
outside-raise c k_if = refl
outside-raise c k_and = refl
outside-raise c k_or = refl
outside-raise c k_not = refl
outside-raise c k_imp = refl
outside-raise c k_iff = refl
outside-raise c (k_atom r) = refl
outside-raise c (k_let x) = refl
outside-raise c (k_theory j) = refl
outside-raise c (k_is_ctor x) = refl
outside-raise c (k_exists bs) = refl
outside-raise c (k_let_fresh j) = refl

mutual
  unfolding raise_expr

  -- An expression that is scoped when its numbers are raised by c is scoped once they are.
  pub scoped-raise : (c : ℕ) (e : Expr) (around : List ℕ) → Scoped e c around → Scoped (raise_expr c e) 0 around
  scoped-raise c (node k es) around h =
      rw (exprs-raise c es, kind-raise c k (exprs es), raise_zero (raise c (kind_items k (exprs es))), outside-raise c k) (h.0, scoped_in_raise c (outside k) es around (bound (raise c (kind_items k (exprs es))) ++ around) h.1)
  scoped-raise c (app o es e) around h = (scoped-all-raise c es around h.0, scoped-raise c e around h.1)

  -- The same for operands, the first n of them outside.
  scoped_in_raise : (c n : ℕ) (es : Exprs) (around inside : List ℕ) → ScopedIn n es c around inside → ScopedIn n (raise_exprs c es) 0 around inside
  scoped_in_raise c n enil around inside h = tt
  scoped_in_raise c zero (econs e es) around inside h = (scoped-raise c e inside h.0, scoped_in_raise c zero es around inside h.1)
  scoped_in_raise c (suc n) (econs e es) around inside h = (scoped-raise c e around h.0, scoped_in_raise c n es around inside h.1)

  -- The same for several expressions.
  pub scoped-all-raise : (c : ℕ) (es : Exprs) (around : List ℕ) → ScopedAll es c around → ScopedAll (raise_exprs c es) 0 around
  scoped-all-raise c enil around h = tt
  scoped-all-raise c (econs e es) around h = (scoped-raise c e around h.0, scoped-all-raise c es around h.1)

-- A literal stays as it is.
kind-fits-raise : (c : ℕ) (k : Kind) → LiteralFits k → LiteralFits (raise_kind c k)
unfolding raise_kind
kind-fits-raise c (k_num v) h = h
kind-fits-raise c (k_bool b) h = h
kind-fits-raise c (k_str s) h = h
kind-fits-raise c (k_bit_vec v width) h = h
kind-fits-raise c (k_fresh k) h = h
kind-fits-raise c (k_named x) h = h
kind-fits-raise c k_neg h = h
kind-fits-raise c (k_bin op) h = h
kind-fits-raise c k_if h = h
kind-fits-raise c k_and h = h
kind-fits-raise c k_or h = h
kind-fits-raise c k_not h = h
kind-fits-raise c k_imp h = h
kind-fits-raise c k_iff h = h
kind-fits-raise c (k_atom r) h = h
kind-fits-raise c (k_let x) h = h
kind-fits-raise c (k_theory k) h = h
kind-fits-raise c (k_is_ctor x) h = h
kind-fits-raise c (k_exists bs) h = h
kind-fits-raise c (k_let_fresh k) h = h

-- What raising keeps of a kind it keeps of each node.
module _ (P : Kind → Type 0) (c : ℕ) (keeps : (k : Kind) → P k → P (raise_kind c k)) where
  mutual
    unfolding raise_expr

    pub kinds-raise : (e : Expr) → EachKind P e → EachKind P (raise_expr c e)
    kinds-raise (node k es) h = (keeps k h.0, all-kinds-raise es h.1)
    kinds-raise (app o es e) h = (all-kinds-raise es h.0, kinds-raise e h.1)

    all-kinds-raise : (es : Exprs) → EachKindAll P es → EachKindAll P (raise_exprs c es)
    all-kinds-raise enil h = tt
    all-kinds-raise (econs e es) h = (kinds-raise e h.0, all-kinds-raise es h.1)

-- An expression whose literals fit has literals that fit when it is raised.
pub literals-raise : (c : ℕ) (e : Expr) → LiteralsFit e → LiteralsFit (raise_expr c e)
literals-raise c e h = kinds-raise LiteralFits c (kind-fits-raise c) e h

-- A let of a number stays one.
kind-unnamed-raise : (c : ℕ) (k : Kind) → NoNamedLet k → NoNamedLet (raise_kind c k)
unfolding raise_kind
kind-unnamed-raise c (k_num v) h = h
kind-unnamed-raise c (k_bool b) h = h
kind-unnamed-raise c (k_str s) h = h
kind-unnamed-raise c (k_bit_vec v width) h = h
kind-unnamed-raise c (k_fresh j) h = h
kind-unnamed-raise c (k_named x) h = h
kind-unnamed-raise c k_neg h = h
kind-unnamed-raise c (k_bin op) h = h
kind-unnamed-raise c k_if h = h
kind-unnamed-raise c k_and h = h
kind-unnamed-raise c k_or h = h
kind-unnamed-raise c k_not h = h
kind-unnamed-raise c k_imp h = h
kind-unnamed-raise c k_iff h = h
kind-unnamed-raise c (k_atom r) h = h
kind-unnamed-raise c (k_let x) h = h
kind-unnamed-raise c (k_theory j) h = h
kind-unnamed-raise c (k_is_ctor x) h = h
kind-unnamed-raise c (k_exists bs) h = h
kind-unnamed-raise c (k_let_fresh j) h = h

pub named-lets-raise : (c : ℕ) (e : Expr) → NoNamedLets e → NoNamedLets (raise_expr c e)
named-lets-raise c e h = kinds-raise NoNamedLet c (kind-unnamed-raise c) e h
