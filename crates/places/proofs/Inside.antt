-- The items of a list, by the words from a place on.
use Prim.Native.Nat.{ℕ, suc, ◌+◌}
use mathlib.Core.Path.{◌≡◌, refl, sym, ap, ◌∙◌}
use mathlib.Core.Bool.{Bool, true, false}
use mathlib.Core.List.{List, ◌++◌, append_assoc}
use native.Mathlib.Omega.{arith}
use lib.Dec.{eqb}
use lib.ListN.{length, get_or, drop, length-append}
use lib.Seq.{drop-drop, drop_at}
use borrow.Author.Tests.{eqb-true, eq-eqb}
use Rattle.reading.specs.Pick.{pick}
use Rattle.reading.specs.Tree.{Tree, Trees, atom, list, tnil, tcons, trees, tree_words, trees_words}
use Rattle.grammar.specs.ParseExpr
use Rattle.grammar.specs.ParseExpr.{atom_child}
use Rattle.places.specs.Spot.{Spot}
use Rattle.std.specs.Prelude.{Option, Some, None}
use Rattle.places.specs.declared.place.List.{List as ListHere}
use Rattle.places.proofs.Spots.{word}

-- A list stands at a place: its items stand behind three words, which say what it is, how many items there are, and how many words they have.
module _ (ws : List ℕ) (at : ℕ) (items : Trees) (rest : List ℕ) (e : drop at ws ≡ tree_words (list items) ++ rest) where
  abbrev pub list-spot : Spot ws at
  list-spot = record { tree = list items; rest = rest; words = e }

  pub list-many : get_or ws (at + 1) 0 ≡ trees items
  unfolding tree_words
  list-many = word list-spot 1

  pub list-words : get_or ws (at + 2) 0 ≡ length (trees_words items)
  unfolding tree_words
  list-words = word list-spot 2

  pub items-there : drop (at + 3) ws ≡ trees_words items ++ rest
  unfolding tree_words
  items-there = sym (drop-drop 3 at ws) ∙ ap (drop 3) e

-- Trees stand from a place on: the first, and the others behind it.
module _ (ws : List ℕ) (at : ℕ) (t : Tree) (ts : Trees) (rest : List ℕ) (e : drop at ws ≡ trees_words (tcons t ts) ++ rest) where
  pub first-there : drop at ws ≡ tree_words t ++ (trees_words ts ++ rest)
  unfolding tree_words
  first-there = e ∙ append_assoc (tree_words t) (trees_words ts) rest

  abbrev pub first-spot : Spot ws at
  first-spot = record { tree = t; rest = trees_words ts ++ rest; words = first-there }

  pub others-there : (j : ℕ) → j ≡ length (tree_words t) → drop (at + j) ws ≡ trees_words ts ++ rest
  others-there j h = sym (drop-drop j at ws) ∙ ap (drop j) first-there ∙ drop_at (tree_words t) (trees_words ts ++ rest) j (sym h)

-- How many words they have.
pub trees-size : (t : Tree) (ts : Trees) → length (trees_words (tcons t ts)) ≡ length (tree_words t) + length (trees_words ts)
unfolding tree_words
trees-size t ts = length-append (tree_words t) (trees_words ts)

pub list_length : (ts : Trees) → length (tree_words (list ts)) ≡ 3 + length (trees_words ts)
unfolding tree_words
list_length ts = let z : length (tree_words (list ts)) ≡ suc (suc (suc (length (trees_words ts)))) = refl in omega arith

-- Two trees.
pub record Pair (ts : Trees) : Type 0 where
  pub first : Tree
  pub second : Tree
  pub is : ts ≡ tcons first (tcons second tnil)

pub pair_of : (ts : Trees) → trees ts ≡ 2 → Pair ts
unfolding trees
pair_of tnil h = absurd (omega arith)
pair_of (tcons t tnil) h = absurd (omega arith)
pair_of (tcons t (tcons u tnil)) h = record { first = t; second = u; is = refl }
pair_of (tcons t (tcons u (tcons v ts))) h = absurd (omega arith)

-- What the tree at a place was taken apart into.
pub record ListNode (ws : List ℕ) (at k f : ℕ) : Type 0 where
  pub kind : get_or ws at 0 ≡ 21
  pub many : k ≡ get_or ws (at + 1) 0
  pub first : f ≡ at + 3

module _ (ws : List ℕ) (at : ℕ) {r : Option ListHere} (e : r ≡ pick (eqb (get_or ws at 0) 21) (Some (record { items = get_or ws (at + 1) 0; first = at + 3 })) None) where
  pub node-list : {l : ListHere} → r ≡ Some l → ListNode ws at l.items l.first
  unfolding pick
  node-list {l} h = go (eqb (get_or ws at 0) 21) refl e
    where
      go : (b : Bool) → eqb (get_or ws at 0) 21 ≡ b → r ≡ pick b (Some (record { items = get_or ws (at + 1) 0; first = at + 3 })) None → ListNode ws at l.items l.first
      go true t x = let s : l ≡ record { items = get_or ws (at + 1) 0; first = at + 3 } = cc in record { kind = eqb-true (get_or ws at 0) 21 t; many = ap (λ (k : ListHere). k.items) s; first = ap (λ (k : ListHere). k.first) s }
      go false t x = let z : ◌≡◌ {A = ℕ} 0 1 = cc in absurd (omega arith)

  pub node-other : r ≡ None → get_or ws at 0 ≡ 21 → ⊥
  unfolding pick
  node-other h k = let x : r ≡ Some (record { items = get_or ws (at + 1) 0; first = at + 3 }) = rw (eq-eqb (get_or ws at 0) 21 k) at e in let z : ◌≡◌ {A = ℕ} 0 1 = cc in omega arith

-- An item of a list is made of its tree.
pub child-tree : (text : List ℕ) (t : Tree) → (ParseExpr.child text t).tree ≡ t
unfolding ParseExpr.child ParseExpr.list_child atom_child
child-tree text (atom a) = refl
child-tree text (list ts) = refl
