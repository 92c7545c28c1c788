-- What a let binds, in everything that is read: its name means its own number in its body, and nothing else; and no let of a name is made.
use Rattle.std.specs.Prelude.{ℕ, suc, ◌+◌, ◌≤◌, true, false, ◌≡◌, List, [], ◌∷◌, ◌++◌, length}
use Rattle.reading.specs.Pick.{pick}
use Rattle.reading.specs.Bytes.{ascii, same_bytes, Span, bytes_at}
use Rattle.reading.specs.Tree.{symbol, Tree, Trees, atom, list, tcons}
use Rattle.reading.specs.Answer.{got, ok}
use Rattle.grammar.specs.Item.{used}
use Rattle.grammar.specs.Expr.{Kind, k_num, k_bool, k_str, k_bit_vec, k_fresh, k_named, k_neg, k_bin, k_if, k_and, k_or, k_not, k_imp, k_iff, k_atom, k_let, k_theory, k_is_ctor, k_exists, k_let_fresh, Expr, Exprs, node, app, one_of, enil, econs, expr_items, EachKind, PredsHold, Bind, Solution}
use Rattle.grammar.specs.Scope.{Scope, same_name}
use Rattle.grammar.specs.Numbers.{In}
use Rattle.grammar.specs.ParseExpr.{child, parse_expr}
use Rattle.grammar.specs.ParseBind.{parse_bind}
use Rattle.grammar.specs.ParseSolution.{parse_solution}

-- Something holds of each of a list.
abbrev pub Each : {A : Type 0} → (A → Type 0) → List A → Type 0
Each P [] = Unit {0}
Each P (a ∷ as') = P a × Each P as'

-- The names of named variables: of a kind, of an expression, of several.
abbrev pub names_of : Kind → List Span
names_of (k_num v) = []
names_of (k_bool b) = []
names_of (k_str s) = []
names_of (k_bit_vec v width) = []
names_of (k_fresh k) = []
names_of (k_named x) = x.span ∷ []
names_of k_neg = []
names_of (k_bin op) = []
names_of k_if = []
names_of k_and = []
names_of k_or = []
names_of k_not = []
names_of k_imp = []
names_of k_iff = []
names_of (k_atom r) = []
names_of (k_let x) = []
names_of (k_theory k) = []
names_of (k_is_ctor x) = []
names_of (k_exists bs) = []
names_of (k_let_fresh k) = []

unfoldable mutual
  pub names_in : Expr → List Span
  names_in (node k es) = names_of k ++ names_in_all es
  names_in (app o es h) = names_in_all es ++ names_in h

  pub names_in_all : Exprs → List Span
  names_in_all enil = []
  names_in_all (econs e es) = names_in e ++ names_in_all es

-- The numbers of all binders of a name: among names that are numbered from k on, and in the open scopes.
unfoldable pub numbers_among : List ℕ → Span → List Span → ℕ → List ℕ
numbers_among text s [] k = []
numbers_among text s (x ∷ xs) k = pick (same_name text s x) (k ∷ numbers_among text s xs (suc k)) (numbers_among text s xs (suc k))

unfoldable pub numbers_of : List ℕ → Span → List Scope → List ℕ
numbers_of text s [] = []
numbers_of text s (sc ∷ scs) = numbers_among text s sc.names sc.first ++ numbers_of text s scs

-- Open scopes whose numbers are below n, those of each above those of the scopes round it. The parser opens none but such scopes: each
-- takes its numbers from the next number on.
abbrev pub Apart : List Scope → ℕ → Type 0
Apart [] n = Unit {0}
Apart (s ∷ sc) n = (s.first + length s.names ≤ n) × Apart sc s.first

-- What a let of the name s is read as, under open scopes: no named variable of its body has the name, and no number of its body is that of
-- another binder of the name round the let.
pub record LetBinds (text : List ℕ) (s : Span) (sc : List Scope) (e : Expr) : Type 0 where
  pub number : ℕ
  pub value : Expr
  pub body : Expr
  pub is : e ≡ node (k_let_fresh number) (econs value (one_of body))
  pub unnamed : Each (λ x. same_name text x s ≡ false) (names_in body)
  pub own : Each (λ j. In j (numbers_of text s sc) → ⊥) (used (expr_items body))

-- So it is with every list that begins with `let`, wherever it is read as an expression.
abbrev pub LetsBind : Type 0
LetsBind =
    (text : List ℕ) (t s : Span) (u : Tree) (us : Trees) (sc : List Scope) (n m : ℕ) (e : Expr)
    → same_bytes (bytes_at text t) (ascii "let") ≡ true → (child text u).let_name ≡ got s → Apart sc n
    → (child text (list (tcons (atom (symbol t)) (tcons u us)))).plainly sc n ≡ ok e m → LetBinds text s sc e

-- A kind is no let of a name (48), which words from elsewhere may have.
abbrev pub NoNamedLet : Kind → Type 0
NoNamedLet (k_num v) = Unit {0}
NoNamedLet (k_bool b) = Unit {0}
NoNamedLet (k_str s) = Unit {0}
NoNamedLet (k_bit_vec v width) = Unit {0}
NoNamedLet (k_fresh k) = Unit {0}
NoNamedLet (k_named x) = Unit {0}
NoNamedLet k_neg = Unit {0}
NoNamedLet (k_bin op) = Unit {0}
NoNamedLet k_if = Unit {0}
NoNamedLet k_and = Unit {0}
NoNamedLet k_or = Unit {0}
NoNamedLet k_not = Unit {0}
NoNamedLet k_imp = Unit {0}
NoNamedLet k_iff = Unit {0}
NoNamedLet (k_atom r) = Unit {0}
NoNamedLet (k_let x) = ⊥
NoNamedLet (k_theory k) = Unit {0}
NoNamedLet (k_is_ctor x) = Unit {0}
NoNamedLet (k_exists bs) = Unit {0}
NoNamedLet (k_let_fresh k) = Unit {0}

-- No node of an expression is one.
abbrev pub NoNamedLets : Expr → Type 0
NoNamedLets e = EachKind NoNamedLet e

-- So it is in everything that is read.
pub record NoNamedLetRead (text : List ℕ) (t : Tree) : Type 0 where
  pub of_expr : (n m : ℕ) (e : Expr) → parse_expr text t n ≡ ok e m → NoNamedLets e
  pub of_bind : (n m : ℕ) (b : Bind) → parse_bind text t n ≡ ok b m → PredsHold NoNamedLets b.preds
  pub of_solution : (n m : ℕ) (s : Solution) → parse_solution text t n ≡ ok s m → NoNamedLets s.body
