-- A tree at a place of words.
use Rattle.std.specs.Prelude.{ℕ, ◌+◌, ◌^◌, ◌≤◌, ◌<◌, ◌≡◌, Bool, false, List, ◌++◌, length, get_or, drop}
use Rattle.reading.specs.Pick.{pick}
use Rattle.reading.specs.Tree.{Tree, tree_words, nesting}
use Rattle.grammar.specs.ParseExpr.{child}

-- The words from a place on begin with those of a tree.
pub record Spot (ws : List ℕ) (at : ℕ) : Type 0 where
  pub tree : Tree
  pub rest : List ℕ
  pub words : drop at ws ≡ tree_words tree ++ rest

-- A tree of so few words that no sum of words made from it overflows.
pub record Small (ws : List ℕ) (at : ℕ) : Type 0 where
  pub spot : Spot ws at
  pub small : length (tree_words spot.tree) < 2 ^ 32

-- A place inside lists of one element, or the place itself. Behind such lists stands none of them; the pair of a `let` is seen through, too.
pub record Seen (text : List ℕ) (plain : Bool) (ws : List ℕ) (at : ℕ) (p : Spot ws at) (q : ℕ) : Type 0 where
  pub spot : Spot ws q
  pub same : pick plain (child text p.tree).plainly (child text p.tree).nested ≡ (child text spot.tree).plainly
  pub name : (child text p.tree).let_name ≡ (child text spot.tree).let_name
  pub value : (child text p.tree).let_value ≡ (child text spot.tree).let_value
  pub ends : plain ≡ false → get_or ws q 0 ≡ 21 → get_or ws (q + 1) 0 ≡ 1 → ⊥
  pub forward : at ≤ q
  pub shallow : nesting spot.tree ≤ nesting p.tree
  pub short : length (tree_words spot.tree) ≤ length (tree_words p.tree)
