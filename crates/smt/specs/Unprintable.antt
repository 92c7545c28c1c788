-- The bytes that request C-11 lists as those that a name or a string may not have, which are 16.
use Rattle.std.specs.Prelude.{ℕ, ◌<◌, List, ◌∷◌}
use Rattle.reading.specs.Bytes.{Span, Maybe, bytes_at}
use Rattle.grammar.specs.Sort.{Ctor, c_data, Sort, Sorts, s_app, scons}
use Rattle.grammar.specs.Expr.{VarName, Binder, Kind, k_str, k_named, k_let, k_is_ctor, k_exists, Expr, Exprs, node, app, econs, Solution}

-- `|`, `"`, a backslash, or a byte outside 32 to 126.
pub data Unfit : ℕ → Type 0 where
  a_bar : Unfit 124
  a_quote : Unfit 34
  a_backslash : Unfit 92
  below32 : {b : ℕ} → b < 32 → Unfit b
  above126 : {b : ℕ} → 126 < b → Unfit b

-- One of the bytes.
pub data UnfitIn : List ℕ → Type 0 where
  first_byte : {b : ℕ} {bs : List ℕ} → Unfit b → UnfitIn (b ∷ bs)
  later_byte : {b : ℕ} {bs : List ℕ} → UnfitIn bs → UnfitIn (b ∷ bs)

-- Bytes of a sort.
mutual
  pub data SortByte (text : List ℕ) : Sort → Type 0 where
    in_sort_name : {s : Span} {ss : Sorts} → UnfitIn (bytes_at text s) → SortByte text (s_app (c_data s) ss)
    byte_in_sorts : {c : Ctor} {ss : Sorts} → SortsByte text ss → SortByte text (s_app c ss)

  pub data SortsByte (text : List ℕ) : Sorts → Type 0 where
    byte_in_first_sort : {s : Sort} {ss : Sorts} → SortByte text s → SortsByte text (scons s ss)
    byte_in_later_sorts : {s : Sort} {ss : Sorts} → SortsByte text ss → SortsByte text (scons s ss)

-- Bytes of variables: those of their sorts.
pub data VarsByte (text : List ℕ) : List Binder → Type 0 where
  byte_in_first_var : {b : Binder} {bs : List Binder} → SortByte text b.sort → VarsByte text (b ∷ bs)
  byte_in_later_vars : {b : Binder} {bs : List Binder} → VarsByte text bs → VarsByte text (b ∷ bs)

-- Bytes of an expression. The output sort of an application is skipped.
mutual
  pub data Byte (text : List ℕ) : Expr → Type 0 where
    in_string : {s : Span} {es : Exprs} → UnfitIn (bytes_at text s) → Byte text (node (k_str s) es)
    in_name : {x : VarName} {es : Exprs} → UnfitIn (bytes_at text x.span) → Byte text (node (k_named x) es)
    in_let_name : {x : VarName} {es : Exprs} → UnfitIn (bytes_at text x.span) → Byte text (node (k_let x) es)
    in_ctor_name : {x : VarName} {es : Exprs} → UnfitIn (bytes_at text x.span) → Byte text (node (k_is_ctor x) es)
    byte_in_vars : {bs : List Binder} {es : Exprs} → VarsByte text bs → Byte text (node (k_exists bs) es)
    byte_in_operands : {k : Kind} {es : Exprs} → Bytes text es → Byte text (node k es)
    byte_in_arguments : {o : Maybe Sort} {es : Exprs} {h : Expr} → Bytes text es → Byte text (app o es h)
    byte_in_head : {o : Maybe Sort} {es : Exprs} {h : Expr} → Byte text h → Byte text (app o es h)

  pub data Bytes (text : List ℕ) : Exprs → Type 0 where
    byte_in_first : {e : Expr} {es : Exprs} → Byte text e → Bytes text (econs e es)
    byte_in_later : {e : Expr} {es : Exprs} → Bytes text es → Bytes text (econs e es)

-- In a parameter or in the body.
pub data SolutionByte (text : List ℕ) : Solution → Type 0 where
  byte_in_params : {s : Solution} → VarsByte text s.params → SolutionByte text s
  byte_in_body : {s : Solution} → Byte text s.body → SolutionByte text s
