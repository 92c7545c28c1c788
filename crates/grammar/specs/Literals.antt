-- What is promised of literals: one that is accepted is the value of its digits and as wide as they are many, so that its value is below
-- 2^width, wherever it stands in what is read.
use Rattle.std.specs.Prelude.{ℕ, ◌^◌, ◌≤◌, ◌<◌, true, ◌≡◌, List, length}
use Rattle.reading.specs.Bytes.{ascii, begins_with, Span, bytes_at}
use Rattle.reading.specs.Number.{wide_of, value_of, all_digits, value_from}
use Rattle.reading.specs.Tree.{quoted, Tree, atom}
use Rattle.reading.specs.Answer.{got, ok}
use Rattle.grammar.specs.Expr.{Kind, k_num, k_bool, k_str, k_bit_vec, k_fresh, k_named, k_neg, k_bin, k_if, k_and, k_or, k_not, k_imp, k_iff, k_atom, k_let, k_theory, k_is_ctor, k_exists, k_let_fresh, Expr, Exprs, leaf, EachKind, EachKindAll, PredsHold, Bind, Solution}
use Rattle.grammar.specs.Scope.{Scope}
use Rattle.grammar.specs.ParseExpr.{Child, child_at, digits_in, width_of, lit_form, parse_expr}
use Rattle.grammar.specs.ParseBind.{parse_bind}
use Rattle.grammar.specs.ParseSolution.{parse_solution}

-- A literal that is read from the items of a list, `lit` being the first.
pub record LiteralOf (text : List ℕ) (cs : List Child) (e : Expr) : Type 0 where
  -- The second item is a string that begins with `#b`.
  pub second : Child
  pub is_second : child_at cs 1 ≡ got second
  pub string : Span
  pub is_string : second.tree ≡ atom (quoted string)
  pub begins : begins_with (ascii "#b") (bytes_at text string) ≡ true
  -- Every byte behind `#b` is 0 or 1; they give the value, and none of it is lost in the four words.
  pub value : ℕ
  pub binary : all_digits 2 (digits_in (bytes_at text string)) ≡ true
  pub counted : value ≡ value_from 2 0 (digits_in (bytes_at text string))
  pub whole : value_of (wide_of value) ≡ value
  -- The third item gives the width, which is the number of digits; there is at least one.
  pub third : Child
  pub is_third : child_at cs 2 ≡ got third
  pub width : ℕ
  pub sized : width_of text third.tree ≡ got width
  pub wide : width ≡ length (digits_in (bytes_at text string))
  pub some : 1 ≤ width
  -- So the value is below 2^width.
  pub below : value < 2 ^ width
  pub is : e ≡ leaf (k_bit_vec (wide_of value) width)

-- Every literal that is accepted is one.
abbrev pub LiteralRead : Type 0
LiteralRead = (text : List ℕ) (cs : List Child) (sc : List Scope) (n : ℕ) (e : Expr) (m : ℕ) → lit_form text cs sc n ≡ ok e m → LiteralOf text cs e

-- A literal has at least one digit, and a value below 2^width; of other kinds nothing is asked.
abbrev pub LiteralFits : Kind → Type 0
LiteralFits (k_num v) = Unit {0}
LiteralFits (k_bool b) = Unit {0}
LiteralFits (k_str s) = Unit {0}
LiteralFits (k_bit_vec v width) = (1 ≤ width) × (value_of v < 2 ^ width)
LiteralFits (k_fresh k) = Unit {0}
LiteralFits (k_named x) = Unit {0}
LiteralFits k_neg = Unit {0}
LiteralFits (k_bin op) = Unit {0}
LiteralFits k_if = Unit {0}
LiteralFits k_and = Unit {0}
LiteralFits k_or = Unit {0}
LiteralFits k_not = Unit {0}
LiteralFits k_imp = Unit {0}
LiteralFits k_iff = Unit {0}
LiteralFits (k_atom r) = Unit {0}
LiteralFits (k_let x) = Unit {0}
LiteralFits (k_theory k) = Unit {0}
LiteralFits (k_is_ctor x) = Unit {0}
LiteralFits (k_exists bs) = Unit {0}
LiteralFits (k_let_fresh k) = Unit {0}

-- So it is with every literal in an expression.
abbrev pub LiteralsFit : Expr → Type 0
LiteralsFit e = EachKind LiteralFits e

abbrev pub AllLiteralsFit : Exprs → Type 0
AllLiteralsFit es = EachKindAll LiteralFits es

-- So it is in everything that is read.
pub record LiteralsRead (text : List ℕ) (t : Tree) : Type 0 where
  pub of_expr : (n m : ℕ) (e : Expr) → parse_expr text t n ≡ ok e m → LiteralsFit e
  pub of_bind : (n m : ℕ) (b : Bind) → parse_bind text t n ≡ ok b m → PredsHold LiteralsFit b.preds
  pub of_solution : (n m : ℕ) (s : Solution) → parse_solution text t n ≡ ok s m → LiteralsFit s.body
