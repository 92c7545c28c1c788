-- Trees one after the other at a place of words.
use Prim.Native.Nat.{ℕ, suc, ◌+◌, ◌<◌, max}
use mathlib.Core.Path.{◌≡◌, refl, sym, ap, ◌∙◌}
use mathlib.Core.List.{List, ◌++◌, append_assoc}
use native.Mathlib.Omega.{arith}
use lib.ListN.{length, get_or, drop, length-append}
use lib.Seq.{drop-drop, drop_at}
use Rattle.reading.specs.Tree.{symbol, quoted, integer, decimal, boolean, Tree, Trees, atom, list, tnil, tcons, trees, atom_words, tree_words, trees_words, nestings, nesting}
use Rattle.places.specs.Spot.{Spot}
use Rattle.reading.proofs.TreeHead.{is-symbol}
use Rattle.places.proofs.Spots.{word, word0}

-- What stands behind a tree.
pub tree-after : (ws : List ℕ) (at : ℕ) (t : Tree) (rest : List ℕ) (k : ℕ) → k ≡ length (tree_words t) → drop at ws ≡ tree_words t ++ rest → drop (at + k) ws ≡ rest
tree-after ws at t rest k h e = sym (drop-drop k at ws) ∙ ap (drop k) e ∙ drop_at (tree_words t) rest k (sym h)

-- What stands behind the first three words of a list.
pub list_inside : (ws : List ℕ) (at : ℕ) (ts : Trees) (rest : List ℕ) → drop at ws ≡ tree_words (list ts) ++ rest → drop (at + 3) ws ≡ trees_words ts ++ rest
unfolding tree_words
list_inside ws at ts rest e = sym (drop-drop 3 at ws) ∙ ap (drop 3) e

-- The first of some trees, and the others.
pub record Leading (ws : List ℕ) (at : ℕ) (us : Trees) : Type 0 where
  pub tree : Tree
  pub others : Trees
  pub is : us ≡ tcons tree others
  pub rest : List ℕ
  pub words : drop at ws ≡ tree_words tree ++ (trees_words others ++ rest)

abbrev pub lead-spot : {ws : List ℕ} {at : ℕ} {us : Trees} → Leading ws at us → Spot ws at
lead-spot l = record { tree = l.tree; rest = trees_words l.others ++ l.rest; words = l.words }

pub leading : (us : Trees) (rest : List ℕ) {ws : List ℕ} {at : ℕ} → drop at ws ≡ trees_words us ++ rest → 0 < trees us → Leading ws at us
unfolding tree_words trees
leading tnil rest e h = absurd (omega arith)
leading (tcons t ts) rest e h = record { tree = t; others = ts; is = refl; rest = rest; words = e ∙ append_assoc (tree_words t) (trees_words ts) rest }

module _ {ws : List ℕ} {at : ℕ} {us : Trees} (l : Leading ws at us) where
  pub lead-count : trees us ≡ suc (trees l.others)
  unfolding trees
  lead-count = ap trees l.is

  pub lead-size : length (trees_words us) ≡ length (tree_words l.tree) + length (trees_words l.others)
  unfolding tree_words
  lead-size = ap (λ ts. length (trees_words ts)) l.is ∙ length-append (tree_words l.tree) (trees_words l.others)

  pub lead-nesting : nestings us ≡ max (nesting l.tree) (nestings l.others)
  unfolding nestings
  lead-nesting = ap nestings l.is

  -- The next one.
  pub lead-next : {k : ℕ} → k ≡ length (tree_words l.tree) → 1 < trees us → Leading ws (at + k) l.others
  lead-next {k} e h = leading l.others l.rest (tree-after ws at l.tree (trees_words l.others ++ l.rest) k e l.words) (omega (arith, lead-count))

-- A symbol and a quoted text, by their words.
module _ {ws : List ℕ} {at : ℕ} (p : Spot ws at) where
  pub as_symbol : get_or ws at 0 ≡ 16 → p.tree ≡ atom (symbol (record { start = get_or ws (at + 1) 0; len = get_or ws (at + 2) 0 }))
  as_symbol h = is-symbol p.rest p.tree refl (sym (word0 p) ∙ h) ∙ rw (word p 1, word p 2) refl

  pub as_quoted : get_or ws at 0 ≡ 17 → p.tree ≡ atom (quoted (record { start = get_or ws (at + 1) 0; len = get_or ws (at + 2) 0 }))
  unfolding tree_words atom_words
  as_quoted h = is-quoted p.tree p.rest (sym (word0 p) ∙ h) ∙ rw (word p 1, word p 2) refl
    where
      is-quoted : (t : Tree) (rest : List ℕ) → get_or (tree_words t ++ rest) 0 0 ≡ 17 → t ≡ atom (quoted (record { start = get_or (tree_words t ++ rest) 1 0; len = get_or (tree_words t ++ rest) 2 0 }))
      is-quoted (atom (symbol s)) rest k = absurd (omega arith)
      is-quoted (atom (quoted s)) rest k = refl
      is-quoted (atom (integer v)) rest k = absurd (omega arith)
      is-quoted (atom (decimal s)) rest k = absurd (omega arith)
      is-quoted (atom (boolean b)) rest k = absurd (omega arith)
      is-quoted (list ts) rest k = absurd (omega arith)
