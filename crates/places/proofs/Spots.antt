-- What the words at a place say of the tree that stands there.
use Prim.Native.Nat.{ℕ, suc, ◌+◌, ◌≤◌, max}
use mathlib.Core.Path.{◌≡◌, refl, sym, ap, ◌∙◌}
use mathlib.Core.Bool.{Bool, true, false, true≢false}
use mathlib.Core.List.{List, [], ◌++◌, append_assoc}
use native.Mathlib.Omega.{arith}
use native.Mathlib.Nat.{add-zero, le-max_left}
use lib.ListN.{length, get_or, drop, length-append, length-drop}
use lib.Seq.{get_or-drop, drop-drop}
use Rattle.reading.specs.Pick.{pick}
use Rattle.reading.specs.Tree.{Tree, Trees, atom, list, tnil, tcons, trees, tree_words, nesting}
use Rattle.grammar.specs.ParseExpr
use Rattle.grammar.specs.ParseExpr.{through, atom_child}
use Rattle.places.specs.Spot.{Spot, Seen}
use Rattle.reading.proofs.TreeHead.{tree-two, is-list, size-list}

-- A list: its items, and how many they are.
pub record IsList (ws : List ℕ) (at : ℕ) (t : Tree) : Type 0 where
  pub items : Trees
  pub is : t ≡ list items
  pub many : get_or ws (at + 1) 0 ≡ trees items

module _ {ws : List ℕ} {at : ℕ} (p : Spot ws at) where
  pub word : (i : ℕ) → get_or ws (at + i) 0 ≡ get_or (tree_words p.tree ++ p.rest) i 0
  word i = sym (get_or-drop at ws i 0) ∙ ap (λ (l : List ℕ). get_or l i 0) p.words

  pub word0 : get_or ws at 0 ≡ get_or (tree_words p.tree ++ p.rest) 0 0
  word0 = ap (λ (k : ℕ). get_or ws k 0) (sym (add-zero at)) ∙ word 0

  pub spot-within : at + length (tree_words p.tree) ≤ length ws
  spot-within = omega (arith, length-drop at ws, ap length p.words, length-append (tree_words p.tree) p.rest, tree-two p.tree)

  -- A tree has two words at least.
  pub two-there : at + 2 ≤ length ws
  two-there = omega (arith, spot-within, tree-two p.tree)

  module _ (h : get_or ws at 0 ≡ 21) where
    kind : get_or (tree_words p.tree ++ p.rest) 0 0 ≡ 21
    kind = sym word0 ∙ h

    pub as_list : IsList ws at p.tree
    unfolding tree_words
    as_list =
        let l = is-list p.rest p.tree refl kind in
        record { items = l.items; is = l.is; many = word 1 ∙ ap (λ (t : Tree). get_or (tree_words t ++ p.rest) 1 0) l.is }

    pub list-size : get_or ws (at + 2) 0 + 3 ≡ length (tree_words p.tree)
    list-size = omega (arith, word 2, (size-list p.rest p.tree refl kind).1)

    -- Where a list stands, three words do.
    pub list-there : at + 3 ≤ length ws
    list-there = omega (arith, spot-within, list-size)

-- How far a loop has come inside lists of one element.
pub record Inwards (text : List ℕ) (ws : List ℕ) (at : ℕ) (p : Spot ws at) (q : ℕ) : Type 0 where
  pub spot : Spot ws q
  pub same : (ParseExpr.child text p.tree).nested ≡ (ParseExpr.child text spot.tree).nested
  pub name : (ParseExpr.child text p.tree).let_name ≡ (ParseExpr.child text spot.tree).let_name
  pub value : (ParseExpr.child text p.tree).let_value ≡ (ParseExpr.child text spot.tree).let_value
  pub forward : at ≤ q
  pub shallow : nesting spot.tree ≤ nesting p.tree
  pub short : length (tree_words spot.tree) ≤ length (tree_words p.tree)

pub record Single (ts : Trees) : Type 0 where
  pub tree : Tree
  pub is : ts ≡ tcons tree tnil

pub single : (ts : Trees) → trees ts ≡ 1 → Single ts
unfolding trees
single tnil h = absurd (omega arith)
single (tcons t tnil) h = record { tree = t; is = refl }
single (tcons t (tcons u us)) h = absurd (omega arith)

not-single : (text : List ℕ) (ts : Trees) → (trees ts ≡ 1 → ⊥) → (ParseExpr.child text (list ts)).nested ≡ (ParseExpr.child text (list ts)).plainly
unfolding ParseExpr.child ParseExpr.list_child through trees
not-single text tnil h = refl
not-single text (tcons t tnil) h = absurd (h refl)
not-single text (tcons t (tcons u us)) h = refl

not-list : (text : List ℕ) (t : Tree) (rest : List ℕ) {k : ℕ} → k ≡ get_or (tree_words t ++ rest) 0 0 → (k ≡ 21 → ⊥) → (ParseExpr.child text t).nested ≡ (ParseExpr.child text t).plainly
unfolding ParseExpr.child atom_child tree_words
not-list text (atom a) rest e h = refl
not-list text (list ts) rest e h = absurd (h e)

module _ (text : List ℕ) (ws : List ℕ) (at : ℕ) (p : Spot ws at) where
  pub in_start : Inwards text ws at p at
  in_start = record { spot = p; same = refl; name = refl; value = refl; forward = omega arith; shallow = omega arith; short = omega arith }

  module _ (q : ℕ) (x : Inwards text ws at p q) where
    finish : (ParseExpr.child text x.spot.tree).nested ≡ (ParseExpr.child text x.spot.tree).plainly → (get_or ws q 0 ≡ 21 → get_or ws (q + 1) 0 ≡ 1 → ⊥) → Seen text false ws at p q
    unfolding pick
    finish e h = record { spot = x.spot; same = x.same ∙ e; name = x.name; value = x.value; ends = λ _. h; forward = x.forward; shallow = x.shallow; short = x.short }

    -- no list
    pub in_atom_lem : (get_or ws q 0 ≡ 21 → ⊥) → Seen text false ws at p q
    in_atom_lem h = finish (not-list text x.spot.tree x.spot.rest (word0 x.spot) h) (λ k _. h k)

    module _ (h : get_or ws q 0 ≡ 21) where
      -- not one element
      pub in_many : (get_or ws (q + 1) 0 ≡ 1 → ⊥) → Seen text false ws at p q
      in_many n =
          let l = as_list x.spot h in
          finish (rw l.is (not-single text l.items (λ e. n (l.many ∙ e)))) (λ _ k. n k)

      pub in_one : get_or ws (q + 1) 0 ≡ 1 → Inwards text ws at p (q + 3)
      unfolding tree_words nesting ParseExpr.child ParseExpr.list_child through ParseExpr.through_name ParseExpr.through_value
      in_one n =
          let l = as_list x.spot h in
          let s = single l.items (sym l.many ∙ n) in
          let t : x.spot.tree ≡ list (tcons s.tree tnil) = l.is ∙ ap list s.is in
          let sz : length (tree_words x.spot.tree) ≡ suc (suc (suc (length (tree_words s.tree ++ [])))) = ap (λ (u : Tree). length (tree_words u)) t in
          let ns : nesting x.spot.tree ≡ suc (max (nesting s.tree) 0) = ap nesting t in
          record {
            spot = record {
              tree = s.tree;
              rest = x.spot.rest;
              words = sym (drop-drop 3 q ws) ∙ ap (drop 3) (x.spot.words ∙ ap (λ (u : Tree). tree_words u ++ x.spot.rest) t) ∙ append_assoc (tree_words s.tree) [] x.spot.rest;
            };
            same = x.same ∙ ap (λ (u : Tree). (ParseExpr.child text u).nested) t;
            name = x.name ∙ ap (λ (u : Tree). (ParseExpr.child text u).let_name) t;
            value = x.value ∙ ap (λ (u : Tree). (ParseExpr.child text u).let_value) t;
            forward = omega (arith, x.forward);
            shallow = omega (arith, x.shallow, ns, le-max_left (nesting s.tree) 0);
            short = omega (arith, x.short, sz, length-append (tree_words s.tree) []);
          }

pub seen_here : (text : List ℕ) (plain : Bool) {ws : List ℕ} {at : ℕ} (p : Spot ws at) → plain ≡ true → Seen text plain ws at p at
unfolding pick
seen_here text plain p e = rw e (record { spot = p; same = refl; name = refl; value = refl; ends = λ f. absurd (true≢false f); forward = omega arith; shallow = omega arith; short = omega arith })
