-- The tree that a text is, as it stands in the tree slice.
use Rattle.std.specs.Prelude.{ℕ, ◌^◌, ◌≤◌, ◌<◌, ◌≡◌, List, length, take, Result, Ok, Err}
use Rattle.reading.specs.Limits.{max_bytes, max_lists}
use Rattle.reading.specs.Tree.{Tree, tree_words, nesting}
use Rattle.reading.specs.Answer.{Refusal as Met, number, got, bad}
use Rattle.grammar.specs.Operations.{the_tree}
use Rattle.words.specs.declared.refusal.Refusal.{Refusal}
use Rattle.words.specs.Refusals.{number_of}

-- The first n words of the slice are those of the tree.
pub record TreeIn (text tree tree' : List ℕ) (n : ℕ) : Type 0 where
  pub it : Tree
  pub is : the_tree text tree ≡ got it
  pub there : take n tree' ≡ tree_words it
  pub within : n ≤ length tree'
  pub small : n < 2 ^ 32
  pub nests : nesting it ≤ max_lists
  pub short : length text ≤ max_bytes

-- There is no tree, or no room for it.
pub record NoTree (text tree : List ℕ) (r : Refusal) : Type 0 where
  pub why : Met
  pub is : the_tree text tree ≡ bad why
  pub tells : number_of r ≡ number why

-- What is answered: how many words of the slice are the tree's, or the refusal.
abbrev pub TreeOf : List ℕ → List ℕ → List ℕ → Result ℕ Refusal → Type 0
TreeOf text tree tree' (Ok n) = TreeIn text tree tree' n
TreeOf text tree tree' (Err r) = NoTree text tree r
