-- The parts of a solution that request C-11 lists as those that cannot be written, which are 15.
use Rattle.std.specs.Prelude.{ℕ, ◌^◌, ◌≤◌, ◌<◌, ◌≡◌, List, ◌∷◌}
use Rattle.reading.specs.Bytes.{Maybe}
use Rattle.reading.specs.Number.{Wide, value_of}
use Rattle.grammar.specs.Sort.{Ctor, c_set, c_map, Sort, Sorts, s_bit_vec, s_size, s_var, s_func, s_abs, s_app, scons, sorts}
use Rattle.grammar.specs.Expr.{VarName, Binder, Kind, k_bit_vec, k_fresh, k_named, k_theory, k_exists, Expr, Exprs, node, app, enil, econs, leaf, Solution}

-- Parts of a sort.
mutual
  pub data SortPart : Sort → Type 0 where
    a_set : {ss : Sorts} → SortPart (s_app c_set ss)
    a_map_not_of_two : {ss : Sorts} → (sorts ss ≡ 2 → ⊥) → SortPart (s_app c_map ss)
    a_func : {s t : Sort} → SortPart (s_func s t)
    an_abs : {i : ℕ} {s : Sort} → SortPart (s_abs i s)
    a_sort_variable : {i : ℕ} → SortPart (s_var i)
    a_size_outside : {width : ℕ} → SortPart (s_size width)
    a_bit_vec_without_size : {s : Sort} → ((width : ℕ) → s ≡ s_size width → ⊥) → SortPart (s_bit_vec s)
    a_bit_vec_of_zero : SortPart (s_bit_vec (s_size 0))
    in_sorts : {c : Ctor} {ss : Sorts} → SortsPart ss → SortPart (s_app c ss)

  pub data SortsPart : Sorts → Type 0 where
    in_first_sort : {s : Sort} {ss : Sorts} → SortPart s → SortsPart (scons s ss)
    in_later_sorts : {s : Sort} {ss : Sorts} → SortsPart ss → SortsPart (scons s ss)

-- Parts of variables: those of their sorts.
pub data VarsPart : List Binder → Type 0 where
  in_first_var : {b : Binder} {bs : List Binder} → SortPart b.sort → VarsPart (b ∷ bs)
  in_later_vars : {b : Binder} {bs : List Binder} → VarsPart bs → VarsPart (b ∷ bs)

-- What may stand before arguments: a variable or a bit-vector function.
pub data IsHead : Expr → Type 0 where
  a_fresh_variable : {k : ℕ} → IsHead (leaf (k_fresh k))
  a_named_variable : {x : VarName} → IsHead (leaf (k_named x))
  a_bit_vector_function : {k : ℕ} → 9 ≤ k → k < 32 → IsHead (leaf (k_theory k))

-- Parts of an expression. The output sort of an application is skipped; of the head of one with arguments only what it is counts.
mutual
  pub data Part : Expr → Type 0 where
    -- the string and conversion functions
    a_function_below9 : {k : ℕ} {es : Exprs} → k < 9 → Part (node (k_theory k) es)
    -- the Set and Map functions
    a_function_from32 : {k : ℕ} {es : Exprs} → 32 ≤ k → Part (node (k_theory k) es)
    -- a bit-vector function without arguments
    a_function_alone : {k : ℕ} {es : Exprs} → 9 ≤ k → k < 32 → Part (node (k_theory k) es)
    a_value_too_large : {v : Wide} {width : ℕ} {es : Exprs} → 2 ^ width ≤ value_of v → Part (node (k_bit_vec v width) es)
    a_width_of_zero : {v : Wide} {es : Exprs} → Part (node (k_bit_vec v 0) es)
    in_vars : {bs : List Binder} {es : Exprs} → VarsPart bs → Part (node (k_exists bs) es)
    in_operands : {k : Kind} {es : Exprs} → Parts es → Part (node k es)
    in_arguments : {o : Maybe Sort} {es : Exprs} {h : Expr} → Parts es → Part (app o es h)
    in_head_alone : {o : Maybe Sort} {h : Expr} → Part h → Part (app o enil h)
    another_head : {o : Maybe Sort} {e : Expr} {es : Exprs} {h : Expr} → (IsHead h → ⊥) → Part (app o (econs e es) h)

  pub data Parts : Exprs → Type 0 where
    in_first : {e : Expr} {es : Exprs} → Part e → Parts (econs e es)
    in_later : {e : Expr} {es : Exprs} → Parts es → Parts (econs e es)

-- In a parameter or in the body.
pub data SolutionPart : Solution → Type 0 where
  in_params : {s : Solution} → VarsPart s.params → SolutionPart s
  in_body : {s : Solution} → Part s.body → SolutionPart s
