-- What a tree is not, by the first word of the words that begin with it.
use Prim.Native.Nat.{ℕ}
use mathlib.Core.Path.{◌≡◌, refl}
use mathlib.Core.List.{List, ◌++◌}
use lib.ListN.{get_or}
use Rattle.reading.specs.Tree.{symbol, quoted, integer, decimal, boolean, Tree, atom, list, atom_words, tree_words}
use Rattle.reading.specs.Answer.{bad, malformed}
use Rattle.grammar.specs.ParseSort
use Rattle.grammar.specs.ParseSort.{symbol_in}

module _ (rest : List ℕ) {ws : List ℕ} where
  -- With another first word it is no symbol, no integer and no list.
  pub no_symbol : (t : Tree) → ws ≡ tree_words t ++ rest → (get_or ws 0 0 ≡ 16 → ⊥) → ParseSort.in_symbol t ≡ bad malformed
  unfolding ParseSort.in_symbol ParseSort.in_atom symbol_in tree_words atom_words
  no_symbol (atom (symbol s)) e h = absurd (h (rw e refl))
  no_symbol (atom (quoted s)) e h = refl
  no_symbol (atom (integer w)) e h = refl
  no_symbol (atom (decimal s)) e h = refl
  no_symbol (atom (boolean b)) e h = refl
  no_symbol (list ts) e h = refl

  pub no-integer : (t : Tree) → ws ≡ tree_words t ++ rest → (get_or ws 0 0 ≡ 18 → ⊥) → ParseSort.in_integer t ≡ bad malformed
  unfolding ParseSort.in_integer ParseSort.in_atom ParseSort.integer_in tree_words atom_words
  no-integer (atom (symbol s)) e h = refl
  no-integer (atom (quoted s)) e h = refl
  no-integer (atom (integer w)) e h = absurd (h (rw e refl))
  no-integer (atom (decimal s)) e h = refl
  no-integer (atom (boolean b)) e h = refl
  no-integer (list ts) e h = refl

  pub no-list : (t : Tree) → ws ≡ tree_words t ++ rest → (get_or ws 0 0 ≡ 21 → ⊥) → ParseSort.in_list t ≡ bad malformed
  unfolding ParseSort.in_list tree_words
  no-list (atom a) e h = refl
  no-list (list ts) e h = absurd (h (rw e refl))

-- A tree that is no symbol and no list is no sort.
pub no-sort : (text : List ℕ) (t : Tree) {ws : List ℕ} → ws ≡ tree_words t → (get_or ws 0 0 ≡ 16 → ⊥) → (get_or ws 0 0 ≡ 21 → ⊥) → ParseSort.parse_sort text t ≡ bad malformed
unfolding ParseSort.parse_sort ParseSort.view ParseSort.atom_sort symbol_in tree_words atom_words
no-sort text (atom (symbol s)) e h k = absurd (h (rw e refl))
no-sort text (atom (quoted s)) e h k = refl
no-sort text (atom (integer w)) e h k = refl
no-sort text (atom (decimal s)) e h k = refl
no-sort text (atom (boolean b)) e h k = refl
no-sort text (list ts) e h k = absurd (k (rw e refl))
