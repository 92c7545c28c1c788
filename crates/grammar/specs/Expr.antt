-- Expressions, binds and solutions, and the items that they are written from.
use Rattle.std.specs.Prelude.{ℕ, suc, Bool, List, [], ◌∷◌, ◌++◌, length}
use Rattle.reading.specs.Bytes.{Span, Maybe, nothing, just}
use Rattle.reading.specs.Number.{Wide}
use Rattle.reading.specs.Tree.{bit, span_words, wide_words}
use Rattle.grammar.specs.Sort.{Sort, sort_words}
use Rattle.grammar.specs.Item.{Item, plain, plains, uses, binds}

-- The name of a variable and the name of a kvar are two types, as in the source.
pub record VarName : Type 0 where
  pub span : Span

pub record KvarName : Type 0 where
  pub span : Span

pub data BinOp : Type 0 where
  op_add op_sub op_mul op_div op_mod : BinOp

abbrev pub op_number : BinOp → ℕ
op_number op_add = 0
op_number op_sub = 1
op_number op_mul = 2
op_number op_div = 3
op_number op_mod = 4

pub data Relation : Type 0 where
  rel_eq rel_ne rel_gt rel_ge rel_lt rel_le : Relation

abbrev pub rel_number : Relation → ℕ
rel_number rel_eq = 0
rel_number rel_ne = 1
rel_number rel_gt = 2
rel_number rel_ge = 3
rel_number rel_lt = 4
rel_number rel_le = 5

-- A bound variable: its fresh number and its sort.
pub record Binder : Type 0 where
  pub var : ℕ
  pub sort : Sort

-- What an expression is, but for its operands and but for applications.
pub data Kind : Type 0 where
  k_num : Wide → Kind
  k_bool : Bool → Kind
  k_str : Span → Kind
  k_bit_vec : Wide → ℕ → Kind
  k_fresh : ℕ → Kind
  k_named : VarName → Kind
  k_neg : Kind
  k_bin : BinOp → Kind
  k_if k_and k_or k_not k_imp k_iff : Kind
  k_atom : Relation → Kind
  k_let : VarName → Kind
  k_theory : ℕ → Kind
  k_is_ctor : VarName → Kind
  k_exists : List Binder → Kind
  k_let_fresh : ℕ → Kind

mutual
  pub data Expr : Type 0 where
    -- a kind and its operands
    node : Kind → Exprs → Expr
    -- an application: output sort, arguments, head
    app : Maybe Sort → Exprs → Expr → Expr

  pub data Exprs : Type 0 where
    enil : Exprs
    econs : Expr → Exprs → Exprs

abbrev pub leaf : Kind → Expr
leaf k = node k enil

abbrev pub one_of : Expr → Exprs
one_of e = econs e enil

-- How many expressions there are.
unfoldable pub exprs : Exprs → ℕ
exprs enil = 0
exprs (econs e es) = suc (exprs es)

-- Something holds of the kind of each node of an expression, of several.
abbrev mutual
  pub EachKind : (Kind → Type 0) → Expr → Type 0
  EachKind P (node k es) = P k × EachKindAll P es
  EachKind P (app o es h) = EachKindAll P es × EachKind P h

  pub EachKindAll : (Kind → Type 0) → Exprs → Type 0
  EachKindAll P enil = Unit {0}
  EachKindAll P (econs e es) = EachKind P e × EachKindAll P es

pub data Pred : Type 0 where
  kvar : KvarName → List VarName → Pred
  expr : Expr → Pred

-- Something holds of each predicate that is an expression.
abbrev pub PredsHold : (Expr → Type 0) → List Pred → Type 0
PredsHold P [] = Unit {0}
PredsHold P (kvar k xs ∷ ps) = PredsHold P ps
PredsHold P (expr e ∷ ps) = P e × PredsHold P ps

pub record Bind : Type 0 where
  pub name : VarName
  pub sort : Sort
  pub preds : List Pred

-- Parameters and an expression under them.
pub record Solution : Type 0 where
  pub params : List Binder
  pub body : Expr

abbrev pub span_items : Span → List Item
span_items s = plains (span_words s)

abbrev pub sort_items : Sort → List Item
sort_items s = plains (sort_words s)

unfoldable pub binder_items : List Binder → List Item
binder_items [] = []
binder_items (b ∷ bs) = binds b.var ∷ sort_items b.sort ++ binder_items bs

-- The items of a kind, in front of its n operands.
unfoldable pub kind_items : Kind → ℕ → List Item
kind_items (k_num v) n = plain 32 ∷ plains (wide_words v)
kind_items (k_bool b) n = plain 33 ∷ plain (bit b) ∷ []
kind_items (k_str s) n = plain 34 ∷ span_items s
kind_items (k_bit_vec v width) n = plain 35 ∷ plains (wide_words v) ++ (plain width ∷ [])
kind_items (k_fresh k) n = plain 36 ∷ uses k ∷ []
kind_items (k_named x) n = plain 37 ∷ span_items x.span
kind_items k_neg n = plain 39 ∷ []
kind_items (k_bin op) n = plain 40 ∷ plain (op_number op) ∷ []
kind_items k_if n = plain 41 ∷ []
kind_items k_and n = plain 42 ∷ plain n ∷ []
kind_items k_or n = plain 43 ∷ plain n ∷ []
kind_items k_not n = plain 44 ∷ []
kind_items k_imp n = plain 45 ∷ []
kind_items k_iff n = plain 46 ∷ []
kind_items (k_atom r) n = plain 47 ∷ plain (rel_number r) ∷ []
kind_items (k_let x) n = plain 48 ∷ span_items x.span
kind_items (k_theory k) n = plain 49 ∷ plain k ∷ []
kind_items (k_is_ctor x) n = plain 50 ∷ span_items x.span
kind_items (k_exists bs) n = plain 51 ∷ plain (length bs) ∷ binder_items bs
kind_items (k_let_fresh k) n = plain 52 ∷ binds k ∷ []

-- How many of its operands, the first ones, a kind does not enclose by what it binds: a let's binding.
abbrev pub outside : Kind → ℕ
outside (k_num v) = 0
outside (k_bool b) = 0
outside (k_str s) = 0
outside (k_bit_vec v width) = 0
outside (k_fresh k) = 0
outside (k_named x) = 0
outside k_neg = 0
outside (k_bin op) = 0
outside k_if = 0
outside k_and = 0
outside k_or = 0
outside k_not = 0
outside k_imp = 0
outside k_iff = 0
outside (k_atom r) = 0
outside (k_let x) = 0
outside (k_theory k) = 0
outside (k_is_ctor x) = 0
outside (k_exists bs) = 0
outside (k_let_fresh k) = 1

-- The flag of an application, and its output sort.
abbrev pub flag : Maybe Sort → ℕ
flag nothing = 0
flag (just s) = 1

abbrev pub out_sort : Maybe Sort → List Item
out_sort nothing = []
out_sort (just s) = sort_items s

unfoldable mutual
  pub expr_items : Expr → List Item
  expr_items (node k es) = kind_items k (exprs es) ++ exprs_items es
  expr_items (app o es h) = plain 38 ∷ plain (flag o) ∷ plain (exprs es) ∷ exprs_items es ++ (out_sort o ++ expr_items h)

  pub exprs_items : Exprs → List Item
  exprs_items enil = []
  exprs_items (econs e es) = expr_items e ++ exprs_items es

unfoldable pub name_items : List VarName → List Item
name_items [] = []
name_items (x ∷ xs) = plain 37 ∷ span_items x.span ++ name_items xs

unfoldable pub pred_items : Pred → List Item
pred_items (kvar k xs) = plain 64 ∷ span_items k.span ++ (plain (length xs) ∷ name_items xs)
pred_items (expr e) = plain 65 ∷ expr_items e

unfoldable pub preds_items : List Pred → List Item
preds_items [] = []
preds_items (p ∷ ps) = pred_items p ++ preds_items ps

unfoldable pub bind_items : Bind → List Item
bind_items b = span_items b.name.span ++ (sort_items b.sort ++ (plain (length b.preds) ∷ preds_items b.preds))

unfoldable pub solution_items : Solution → List Item
solution_items s = plain (length s.params) ∷ binder_items s.params ++ expr_items s.body

-- What a draft leaves in the output, and in the draft slice: the parameters, and the body before flattening.
abbrev pub param_items : Solution → List Item
param_items s = plain (length s.params) ∷ binder_items s.params

abbrev pub body_items : Solution → List Item
body_items s = expr_items s.body
