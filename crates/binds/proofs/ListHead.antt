-- A list that a node says, and its first item.
use Prim.Native.Nat.{ℕ, ◌+◌}
use mathlib.Core.Path.{◌≡◌, ap, ◌∙◌}
use mathlib.Core.List.{List, ◌++◌}
use native.Mathlib.Omega.{arith}
use lib.ListN.{length, drop}
use Rattle.reading.specs.Tree.{Tree, list, tcons, trees, tree_words, trees_words}
use Rattle.places.specs.Spot.{Spot}
use Rattle.places.proofs.FirstTree.{More, some}
use Rattle.places.proofs.Spots.{IsList, as_list}
use Rattle.places.proofs.Inside.{ListNode, items-there, first-there, others-there}

module _ {ws : List ℕ} {at : ℕ} (p : Spot ws at) {k f : ℕ} (n : ListNode ws at k f) where
  pub the_list : IsList ws at p.tree
  the_list = as_list p n.kind

  pub list-trees : k ≡ trees the_list.items
  list-trees = n.many ∙ the_list.many

  module _ (z : k ≡ 0 → ⊥) where
    pub the_items : More the_list.items
    the_items = some the_list.items (omega (arith, list-trees, z))

    pub whole_is : p.tree ≡ list (tcons the_items.first the_items.others)
    whole_is = the_list.is ∙ ap list the_items.is

    items-here : drop f ws ≡ trees_words (tcons the_items.first the_items.others) ++ p.rest
    items-here =
        ap (λ (i : ℕ). drop i ws) n.first
        ∙ items-there ws at (tcons the_items.first the_items.others) p.rest (p.words ∙ ap (λ (t : Tree). tree_words t ++ p.rest) whole_is)

    pub head-words : drop f ws ≡ tree_words the_items.first ++ (trees_words the_items.others ++ p.rest)
    head-words = first-there ws f the_items.first the_items.others p.rest items-here

    abbrev pub head-spot : Spot ws f
    head-spot = record { tree = the_items.first; rest = trees_words the_items.others ++ p.rest; words = head-words }

    -- The others stand behind it.
    pub others-words : (j : ℕ) → j ≡ length (tree_words the_items.first) → drop (f + j) ws ≡ trees_words the_items.others ++ p.rest
    others-words j e = others-there ws f the_items.first the_items.others p.rest items-here j e
