-- Words judged: which words are a sort, an expression or a solution, and with what refusal any others are refused.
use Rattle.std.specs.Prelude.{ℕ, zero, suc, ◌+◌, ◌-◌, ◌*◌, ◌^◌, Bool, true, false, List, [], ◌∷◌, eqb, ltb, leb, length, get_or}
use Rattle.reading.specs.Limits.{max_nodes}
use Rattle.reading.specs.Pick.{pick}
use Rattle.reading.specs.Bytes.{Span, Maybe, nothing, just}
use Rattle.reading.specs.Number.{Wide}
use Rattle.reading.specs.Answer.{not_words, number, too_deep}
use Rattle.grammar.specs.Sort.{Ctor, c_set, c_map, c_data, Sort, s_int, s_bool, s_real, s_str, s_bit_vec, s_size, s_var, s_func, s_abs, s_app, snil, scons}
use Rattle.grammar.specs.Expr.{VarName, op_add, op_sub, op_mul, op_div, op_mod, rel_eq, rel_ne, rel_gt, rel_ge, rel_lt, rel_le, Binder, Kind, k_num, k_bool, k_str, k_bit_vec, k_fresh, k_named, k_neg, k_bin, k_if, k_and, k_or, k_not, k_imp, k_iff, k_atom, k_let, k_theory, k_is_ctor, k_exists, k_let_fresh, Expr, node, app, enil, econs, Solution}
use Rattle.grammar.specs.Scope.{var_of}

-- What was read and the position behind it, or the number of a refusal.
pub data Judged (A : Type 0) : Type 0 where
  reads : A → ℕ → Judged A
  fails : ℕ → Judged A

-- Reads words at a position.
abbrev pub FromWords : Type 0 → Type 0
FromWords A = List ℕ → ℕ → Judged A

abbrev pub go_on : {A B : Type 0} → Judged A → (A → FromWords B) → List ℕ → Judged B
go_on (reads a at) f ws = f a ws at
go_on (fails r) f ws = fails r

-- One after the other, for `do`; the first refusal ends it.
infixr 10 ◌>>=◌
abbrev pub ◌>>=◌ : {A B : Type 0} → FromWords A → (A → FromWords B) → FromWords B
◌>>=◌ p f = λ ws at. go_on (p ws at) f ws

abbrev pub ret : {A : Type 0} → A → FromWords A
ret a = λ ws at. reads a at

abbrev pub fail : {A : Type 0} → ℕ → FromWords A
fail r = λ ws at. fails r

-- A word of any value.
unfoldable pub word : FromWords ℕ
word ws at = pick (ltb at (length ws)) (reads (get_or ws at 0) (at + 1)) (fails not_words)

-- A word below a bound.
unfoldable pub word_below : ℕ → FromWords ℕ
word_below m = do
  k ← word
  pick (ltb k m) (ret k) (fail not_words)

-- The element at a place.
abbrev pub among : {A : Type 0} → List A → ℕ → Maybe A
among [] k = nothing
among (a ∷ rest) zero = just a
among (a ∷ rest) (suc k) = among rest k

abbrev pub or_fail : {A : Type 0} → Maybe (FromWords A) → FromWords A
or_fail nothing = fail not_words
or_fail (just p) = p

-- By a word that counts from `first` on.
unfoldable pub choose : {A : Type 0} → ℕ → List (FromWords A) → ℕ → FromWords A
choose first rs k = pick (ltb k first) (fail not_words) (or_fail (among rs (k - first)))

-- A number of 64 bits and one of 128.
unfoldable pub two_words : FromWords ℕ
two_words = do
  a ← word
  b ← word
  ret (a + b * 2 ^ 32)

unfoldable pub four_words : FromWords Wide
four_words = do
  a ← word
  b ← word
  c ← word
  d ← word
  ret (record { a = a; b = b; c = c; d = d })

-- So many, one after the other.
unfoldable pub several : {A B : Type 0} → FromWords A → B → (A → B → B) → ℕ → FromWords B
several p none put zero = ret none
several p none put (suc n) = do
  a ← p
  b ← several p none put n
  ret (put a b)

-- What the kind and the fields of an expression say: so many operands of a kind, or an application with or without an output sort and so many arguments.
pub data Plan : Type 0 where
  operands_of : Kind → ℕ → Plan
  arguments_of : Bool → ℕ → Plan

abbrev pub plan : Kind → ℕ → FromWords Plan
plan k n = ret (operands_of k n)

-- A span ends at most at the limit, which is the length of a text that is lent with the words.
module _ (limit : ℕ) where
  unfoldable pub span_within : FromWords Span
  span_within = do
    a ← word
    b ← word
    pick (leb (a + b) limit) (ret (record { start = a; len = b })) (fail not_words)

  unfoldable pub name_within : FromWords VarName
  name_within = do
    s ← span_within
    ret (var_of s)

  -- Set, Map, Data.
  unfoldable pub ctors : List (FromWords Ctor)
  ctors =
      ret c_set
      ∷ ret c_map
      ∷ (do
        s ← span_within
        ret (c_data s))
      ∷ []

  -- The sorts from kind 1 on; d reads a sort inside.
  unfoldable pub sort_kinds : FromWords Sort → List (FromWords Sort)
  sort_kinds d =
      ret s_int
      ∷ ret s_bool
      ∷ ret s_real
      ∷ ret s_str
      ∷ (do
        s ← d
        ret (s_bit_vec s))
      ∷ (do
        width ← word
        ret (s_size width))
      ∷ (do
        i ← two_words
        ret (s_var i))
      ∷ (do
        s ← d
        t ← d
        ret (s_func s t))
      ∷ (do
        i ← word
        s ← d
        ret (s_abs i s))
      ∷ (do
        k ← word
        c ← choose 0 ctors k
        n ← word
        ss ← several d snil scons n
        ret (s_app c ss))
      ∷ []

  -- Sorts nest at most as deep as there are words.
  unfoldable pub sort_deep : ℕ → FromWords Sort
  sort_deep zero = fail not_words
  sort_deep (suc deep) = do
    k ← word
    choose 1 (sort_kinds (sort_deep deep)) k

  unfoldable pub sort_at : FromWords Sort
  sort_at ws at = sort_deep (length ws) ws at

  unfoldable pub binder_at : FromWords Binder
  binder_at = do
    k ← two_words
    s ← sort_at
    ret (record { var = k; sort = s })

  unfoldable pub binders_at : ℕ → FromWords (List Binder)
  binders_at n = several binder_at [] (λ b bs. b ∷ bs) n

  -- The kinds from 32 on, with their fields.
  unfoldable pub kinds : List (FromWords Plan)
  kinds =
      (do
        v ← four_words
        plan (k_num v) 0)
      ∷ (do
        b ← word_below 2
        plan (k_bool (eqb b 1)) 0)
      ∷ (do
        s ← span_within
        plan (k_str s) 0)
      ∷ (do
        v ← four_words
        width ← word
        plan (k_bit_vec v width) 0)
      ∷ (do
        k ← two_words
        plan (k_fresh k) 0)
      ∷ (do
        x ← name_within
        plan (k_named x) 0)
      ∷ (do
        f ← word_below 2
        n ← word
        ret (arguments_of (eqb f 1) n))
      ∷ plan k_neg 1
      ∷ (do
        k ← word
        choose 0 (plan (k_bin op_add) 2 ∷ plan (k_bin op_sub) 2 ∷ plan (k_bin op_mul) 2 ∷ plan (k_bin op_div) 2 ∷ plan (k_bin op_mod) 2 ∷ []) k)
      ∷ plan k_if 3
      ∷ (do
        n ← word
        plan k_and n)
      ∷ (do
        n ← word
        plan k_or n)
      ∷ plan k_not 1
      ∷ plan k_imp 2
      ∷ plan k_iff 2
      ∷ (do
        k ← word
        choose 0 (plan (k_atom rel_eq) 2 ∷ plan (k_atom rel_ne) 2 ∷ plan (k_atom rel_gt) 2 ∷ plan (k_atom rel_ge) 2 ∷ plan (k_atom rel_lt) 2 ∷ plan (k_atom rel_le) 2 ∷ []) k)
      ∷ (do
        x ← name_within
        plan (k_let x) 2)
      ∷ (do
        k ← word_below 42
        plan (k_theory k) 0)
      ∷ (do
        x ← name_within
        plan (k_is_ctor x) 1)
      ∷ (do
        n ← word
        bs ← binders_at n
        plan (k_exists bs) 1)
      ∷ (do
        k ← two_words
        plan (k_let_fresh k) 2)
      ∷ []

  unfoldable pub header : FromWords Plan
  header = do
    k ← word
    choose 32 kinds k

  -- An output sort where the flag says that there is one.
  unfoldable pub sort_if : Bool → FromWords (Maybe Sort)
  sort_if false = ret nothing
  sort_if true = do
    s ← sort_at
    ret (just s)

  -- What follows a header; d reads an expression inside.
  unfoldable pub planned : FromWords Expr → Plan → FromWords Expr
  planned d (operands_of k n) = do
    es ← several d enil econs n
    ret (node k es)
  planned d (arguments_of f n) = do
    es ← several d enil econs n
    o ← sort_if f
    h ← d
    ret (app o es h)

  -- An expression with room for so many inside one another; one of a known kind that begins where there is none is 6.
  unfoldable pub expr_deep : ℕ → FromWords Expr
  expr_deep zero = do
    k ← word
    fail (pick (ltb k 32) not_words (pick (ltb k (32 + length kinds)) (number too_deep) not_words))
  expr_deep (suc room) = do
    p ← header
    planned (expr_deep room) p

  -- Nothing is left behind what was read.
  unfoldable pub at_end : {A : Type 0} → A → FromWords A
  at_end a ws at = pick (eqb at (length ws)) (reads a at) (fails not_words)

  unfoldable pub expr_at : FromWords Expr
  expr_at = expr_deep max_nodes

  -- Words that are one expression.
  unfoldable pub judge_expr : List ℕ → Judged Expr
  judge_expr ws = (expr_at >>= at_end) ws 0

  -- Words that are one solution.
  unfoldable pub judge_solution : List ℕ → Judged Solution
  judge_solution ws = (word >>= λ n. binders_at n >>= λ bs. expr_at >>= λ e. at_end (record { params = bs; body = e })) ws 0
