-- The tree of a text, as the parser is given it.
use Rattle.std.specs.Prelude.{◌≡◌, ℕ, ◌^◌, ◌<◌, ◌≤◌, List, length}
use Rattle.reading.specs.Limits.{max_bytes, max_lists}
use Rattle.reading.specs.Tree.{Tree, tree_words, nesting}

-- The words of a tree and what is known of the text that it was read from.
pub record Whole (text ws : List ℕ) : Type 0 where
  pub tree : Tree
  pub words : ws ≡ tree_words tree
  pub small : length ws < 2 ^ 32
  pub nests : nesting tree ≤ max_lists
  pub bytes : length text ≤ max_bytes
