-- Raising the fresh numbers of an expression raises them in its items, and changes neither its size nor its shape.
use Prim.Native.Nat.{ℕ, suc, ◌+◌, max}
use mathlib.Core.Path.{◌≡◌, refl, sym, ap, ap₂, ◌∙◌}
use mathlib.Core.List.{List, [], ◌∷◌, ◌++◌}
use native.Mathlib.Nat.{zero-add}
use lib.ListN.{length}
use Rattle.reading.specs.Bytes.{Maybe, nothing, just}
use Rattle.grammar.specs.Sort.{Sort, sort_words}
use Rattle.grammar.specs.Item.{Item, plain, uses, binds, plains, raise, words_of}
use Rattle.grammar.specs.Expr.{Binder, Kind, k_num, k_bool, k_str, k_bit_vec, k_fresh, k_named, k_neg, k_bin, k_if, k_and, k_or, k_not, k_imp, k_iff, k_atom, k_let, k_theory, k_is_ctor, k_exists, k_let_fresh, Expr, Exprs, node, app, enil, econs, exprs, Solution, sort_items, binder_items, kind_items, flag, out_sort, expr_items, exprs_items, solution_items}
use Rattle.grammar.specs.Shape.{depth, depths}
use Rattle.grammar.specs.Raise.{raise_binders, raise_kind, raise_expr, raise_exprs, raise_solution}

-- Raised items, one after the other.
pub raise_append : (c : ℕ) (a b : List Item) → raise c (a ++ b) ≡ raise c a ++ raise c b
unfolding raise
raise_append c [] b = refl
raise_append c (plain w ∷ its) b = ap (λ l. plain w ∷ l) (raise_append c its b)
raise_append c (uses k ∷ its) b = ap (λ l. uses (c + k) ∷ l) (raise_append c its b)
raise_append c (binds k ∷ its) b = ap (λ l. binds (c + k) ∷ l) (raise_append c its b)

-- Plain words have no fresh number.
pub raise-plains : (c : ℕ) (ws : List ℕ) → raise c (plains ws) ≡ plains ws
unfolding raise
raise-plains c [] = refl
raise-plains c (w ∷ ws) = ap (λ l. plain w ∷ l) (raise-plains c ws)

-- Plain words in front of other items stay as they are.
pub raise-front : (c : ℕ) (ws : List ℕ) (its : List Item) → raise c (plains ws ++ its) ≡ plains ws ++ raise c its
unfolding raise
raise-front c [] its = refl
raise-front c (w ∷ ws) its = ap (λ l. plain w ∷ l) (raise-front c ws its)

-- Raised by 0, items are as they were.
pub raise_zero : (its : List Item) → raise 0 its ≡ its
unfolding raise
raise_zero [] = refl
raise_zero (plain w ∷ its) = ap (λ l. plain w ∷ l) (raise_zero its)
raise_zero (uses k ∷ its) = ap₂ (λ n l. uses n ∷ l) (zero-add k) (raise_zero its)
raise_zero (binds k ∷ its) = ap₂ (λ n l. binds n ∷ l) (zero-add k) (raise_zero its)

-- Raised items have as many words.
pub words-raise : (c : ℕ) (its : List Item) → length (words_of (raise c its)) ≡ length (words_of its)
unfolding raise words_of
words-raise c [] = refl
words-raise c (plain w ∷ its) = ap suc (words-raise c its)
words-raise c (uses k ∷ its) = ap (λ n. suc (suc n)) (words-raise c its)
words-raise c (binds k ∷ its) = ap (λ n. suc (suc n)) (words-raise c its)

-- Two parts, raised each.
raise-two : (c : ℕ) (a b a' b' : List Item) → a' ≡ raise c a → b' ≡ raise c b → a' ++ b' ≡ raise c (a ++ b)
raise-two c a b a' b' p q = ap₂ ◌++◌ p q ∙ sym (raise_append c a b)

-- The items of raised binders are the items raised.
pub binders-raise : (c : ℕ) (bs : List Binder) → binder_items (raise_binders c bs) ≡ raise c (binder_items bs)
unfolding binder_items raise_binders raise
binders-raise c [] = refl
binders-raise c (b ∷ bs) =
    ap (λ l. binds (c + b.var) ∷ l) (ap (λ l. sort_items b.sort ++ l) (binders-raise c bs) ∙ sym (raise-front c (sort_words b.sort) (binder_items bs)))

-- As many binders.
pub length-raise : (c : ℕ) (bs : List Binder) → length (raise_binders c bs) ≡ length bs
unfolding raise_binders
length-raise c [] = refl
length-raise c (b ∷ bs) = ap suc (length-raise c bs)

-- As many expressions.
pub exprs-raise : (c : ℕ) (es : Exprs) → exprs (raise_exprs c es) ≡ exprs es
unfolding raise_expr exprs
exprs-raise c enil = refl
exprs-raise c (econs e es) = ap suc (exprs-raise c es)

-- The items of a raised kind.
pub kind-raise : (c : ℕ) (k : Kind) (n : ℕ) → kind_items (raise_kind c k) n ≡ raise c (kind_items k n)
unfolding raise_kind kind_items raise
kind-raise c (k_num v) n = refl
kind-raise c (k_bool b) n = refl
kind-raise c (k_str s) n = refl
kind-raise c (k_bit_vec v width) n = refl
kind-raise c (k_fresh k) n = refl
kind-raise c (k_named x) n = refl
kind-raise c k_neg n = refl
kind-raise c (k_bin op) n = refl
kind-raise c k_if n = refl
kind-raise c k_and n = refl
kind-raise c k_or n = refl
kind-raise c k_not n = refl
kind-raise c k_imp n = refl
kind-raise c k_iff n = refl
kind-raise c (k_atom r) n = refl
kind-raise c (k_let x) n = refl
kind-raise c (k_theory k) n = refl
kind-raise c (k_is_ctor x) n = refl
kind-raise c (k_exists bs) n = ap₂ (λ m l. plain 51 ∷ plain m ∷ l) (length-raise c bs) (binders-raise c bs)
kind-raise c (k_let_fresh k) n = refl

-- An output sort has no fresh number.
out-raise : (c : ℕ) (o : Maybe Sort) → out_sort o ≡ raise c (out_sort o)
unfolding raise
out-raise c nothing = refl
out-raise c (just s) = sym (raise-plains c (sort_words s))

mutual
  unfolding raise_expr expr_items raise

  -- The items of a raised expression are its items raised.
  pub items-raise : (c : ℕ) (e : Expr) → expr_items (raise_expr c e) ≡ raise c (expr_items e)
  items-raise c (node k es) =
      raise-two c (kind_items k (exprs es)) (exprs_items es) _ _ (ap (kind_items (raise_kind c k)) (exprs-raise c es) ∙ kind-raise c k (exprs es)) (all-items-raise c es)
  items-raise c (app o es h) =
      ap₂ (λ n l. plain 38 ∷ plain (flag o) ∷ plain n ∷ l) (exprs-raise c es) (raise-two c (exprs_items es) (out_sort o ++ expr_items h) _ _ (all-items-raise c es) (raise-two c (out_sort o) (expr_items h) _ _ (out-raise c o) (items-raise c h)))

  -- The same for several expressions.
  pub all-items-raise : (c : ℕ) (es : Exprs) → exprs_items (raise_exprs c es) ≡ raise c (exprs_items es)
  all-items-raise c enil = refl
  all-items-raise c (econs e es) = raise-two c (expr_items e) (exprs_items es) _ _ (items-raise c e) (all-items-raise c es)

-- The same for a solution.
pub solution-raise : (c : ℕ) (s : Solution) → solution_items (raise_solution c s) ≡ raise c (solution_items s)
unfolding raise_solution solution_items raise
solution-raise c s =
    ap₂ (λ n l. plain n ∷ l) (length-raise c s.params) (raise-two c (binder_items s.params) (expr_items s.body) _ _ (binders-raise c s.params) (items-raise c s.body))

mutual
  unfolding raise_expr depth

  -- A raised expression nests as deep.
  pub depth-raise : (c : ℕ) (e : Expr) → depth (raise_expr c e) ≡ depth e
  depth-raise c (node k es) = ap suc (depths-raise c es)
  depth-raise c (app o es h) = ap₂ (λ m n. suc (max m n)) (depths-raise c es) (depth-raise c h)

  -- The same for several expressions.
  pub depths-raise : (c : ℕ) (es : Exprs) → depths (raise_exprs c es) ≡ depths es
  depths-raise c enil = refl
  depths-raise c (econs e es) = ap₂ max (depth-raise c e) (depths-raise c es)
