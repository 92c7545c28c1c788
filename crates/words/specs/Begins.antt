-- What a function over the words of trees asks of them.
use Rattle.std.specs.Prelude.{ℕ, ◌≡◌, List, ◌++◌}
use Rattle.reading.specs.Tree.{Tree, tree_words}

-- Words that begin with a tree's.
pub record Begins (ws : List ℕ) : Type 0 where
  pub first : Tree
  pub rest : List ℕ
  pub words : ws ≡ tree_words first ++ rest
