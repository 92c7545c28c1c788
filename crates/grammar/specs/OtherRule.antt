-- The parser with another rule for the lists that begin with one name, and the trees to which that rule makes no difference.
use Rattle.std.specs.Prelude.{ℕ, Bool, false, ◌≡◌, List, [], ◌∷◌}
use Rattle.reading.specs.Pick.{pick}
use Rattle.reading.specs.Bytes.{ascii, same_bytes, bytes_at}
use Rattle.reading.specs.Tree.{Atom, symbol, quoted, integer, decimal, boolean, Tree, Trees, atom, list, tnil, tcons}
use Rattle.reading.specs.Answer.{◌>>=◌, lifted}
use Rattle.grammar.specs.ParseExpr.{P, Child, child_at, atom_child, atom_expr, let_form, lit_form, headed, list_of, child}

module _ (text name : List ℕ) where
  -- An item that is the symbol of this name.
  abbrev pub is_name_atom : Atom → Bool
  is_name_atom (symbol s) = same_bytes (bytes_at text s) name
  is_name_atom (quoted s) = false
  is_name_atom (integer w) = false
  is_name_atom (decimal s) = false
  is_name_atom (boolean b) = false

  abbrev pub is_name : Tree → Bool
  is_name (atom a) = is_name_atom a
  is_name (list ts) = false

  -- A list of these items does not begin with the name.
  abbrev pub NotFirst : Trees → Type 0
  NotFirst tnil = Unit {0}
  NotFirst (tcons t ts) = is_name t ≡ false

  -- No list of a tree begins with the name, the tree itself or one inside it.
  abbrev mutual
    pub Without : Tree → Type 0
    Without (atom a) = Unit {0}
    Without (list ts) = NotFirst ts × AllWithout ts

    pub AllWithout : Trees → Type 0
    AllWithout tnil = Unit {0}
    AllWithout (tcons t ts) = Without t × AllWithout ts

  module _ (rule : List Child → P) where
    -- A list that begins with the name is read by the rule, any other as it is (`headed`).
    unfoldable pub headed_by : Tree → List Child → P
    headed_by t cs = pick (is_name t) (rule cs) (headed text t cs)

    -- `list_expr`, `list_child` and `child`, with that.
    unfoldable pub list_expr_by : List Child → P
    list_expr_by cs sc = do
      c ← lifted (child_at cs 0)
      headed_by c.tree cs sc

    unfoldable pub list_child_by : Trees → List Child → Child
    list_child_by ts cs = list_of text ts cs (list_expr_by cs)

    unfoldable mutual
      pub child_by : Tree → Child
      child_by (atom a) = atom_child a (atom_expr text a)
      child_by (list ts) = list_child_by ts (children_by ts)

      pub children_by : Trees → List Child
      children_by tnil = []
      children_by (tcons t ts) = child_by t ∷ children_by ts

-- The names that a literal and a let begin with.
abbrev pub lit_name : List ℕ
lit_name = ascii "lit"

abbrev pub let_name : List ℕ
let_name = ascii "let"

-- With the rule of literals for the one name, or the rule of lets for the other, this is the parser.
abbrev pub LiteralsByRule : Type 0
LiteralsByRule = (text : List ℕ) (t : Tree) → child_by text lit_name (lit_form text) t ≡ child text t

abbrev pub LetsByRule : Type 0
LetsByRule = (text : List ℕ) (t : Tree) → child_by text let_name let_form t ≡ child text t

-- With any rule for any name it reads every tree without the name as the parser does; so what was or will be said of `lit` or `let` changes
-- nothing in expressions, binds and solutions without one, all of which are read by `child`.
abbrev pub OtherwiseAlike : Type 0
OtherwiseAlike = (text name : List ℕ) (rule : List Child → P) (t : Tree) → Without text name t → child_by text name rule t ≡ child text t
