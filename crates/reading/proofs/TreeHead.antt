-- Which tree words begin with, by its first word, and how many words it has.
use Prim.Native.Nat.{ℕ, suc, ◌+◌, ◌≤◌, ◌<◌}
use mathlib.Core.Path.{◌≡◌, refl, sym, ap, ◌∙◌}
use mathlib.Core.List.{List, [], ◌++◌, append-nil}
use native.Mathlib.Omega.{arith}
use lib.ListN.{length, get_or, take, drop, length-append}
use lib.Seq.{take_at, drop_at}
use Rattle.reading.specs.Tree.{symbol, quoted, integer, decimal, boolean, Tree, Trees, atom, list, tnil, tcons, trees, atom_words, tree_words, trees_words}
use Rattle.reading.proofs.Token.{atom-size}

-- A tree alone.
pub alone : {ws : List ℕ} (t : Tree) → ws ≡ tree_words t → ws ≡ tree_words t ++ []
alone t e = e ∙ sym (append-nil (tree_words t))

-- A tree has at least two words.
pub tree-two : (t : Tree) → 2 ≤ length (tree_words t)
unfolding tree_words
tree-two (atom a) = (atom-size a).0
tree-two (list ts) = omega arith

-- Three trees, and their words.
pub record Three (ws : List ℕ) (ts : Trees) : Type 0 where
  pub first : Tree
  pub second : Tree
  pub third : Tree
  pub is : ts ≡ tcons first (tcons second (tcons third tnil))
  pub words : ws ≡ tree_words first ++ trees_words (tcons second (tcons third tnil))
  pub long : 5 < length ws

-- Trees that are three have their words.
pub three-trees : (ts : Trees) {ws : List ℕ} → ws ≡ trees_words ts → trees ts ≡ 3 → Three ws ts
unfolding tree_words trees
three-trees tnil e h = let k : ◌≡◌ {A = ℕ} 0 3 = h in absurd (omega arith)
three-trees (tcons a tnil) e h = let k : ◌≡◌ {A = ℕ} 1 3 = h in absurd (omega arith)
three-trees (tcons a (tcons b tnil)) e h = let k : ◌≡◌ {A = ℕ} 2 3 = h in absurd (omega arith)
three-trees (tcons a (tcons b (tcons c tnil))) e h =
    record {
      first = a;
      second = b;
      third = c;
      is = refl;
      words = e;
      long = rw e (omega (arith, tree-two a, tree-two b, tree-two c, length-append (tree_words a) (tree_words b ++ (tree_words c ++ [])), length-append (tree_words b) (tree_words c ++ []), length-append (tree_words c) []));
    }
three-trees (tcons a (tcons b (tcons c (tcons d ts)))) e h = let k : suc (suc (suc (suc (trees ts)))) ≡ 3 = h in absurd (omega arith)

-- A word is not two different kinds.
pub apart : {B : Type 0} {k : ℕ} (m n : ℕ) → k ≡ m → k ≡ n → (m ≡ n → ⊥) → B
apart m n p q h = absurd (h (sym p ∙ q))

-- A tree that is a list.
pub record ListOf (t : Tree) : Type 0 where
  pub items : Trees
  pub is : t ≡ list items

list-size : (us : Trees) (rest : List ℕ) → (2 < length (tree_words (list us) ++ rest)) × (get_or (tree_words (list us) ++ rest) 2 0 + 3 ≡ length (tree_words (list us)))
unfolding tree_words
list-size us rest = (omega arith, omega arith)

module _ (rest : List ℕ) {ws : List ℕ} where
  -- So have the words that begin with it.
  pub head-two : (t : Tree) → ws ≡ tree_words t ++ rest → 2 ≤ length ws
  head-two t e = rw e (omega (arith, length-append (tree_words t) rest, tree-two t))

  -- The first word says what it is.
  pub is-symbol : (t : Tree) → ws ≡ tree_words t ++ rest → get_or ws 0 0 ≡ 16 → t ≡ atom (symbol (record { start = get_or ws 1 0; len = get_or ws 2 0 }))
  unfolding tree_words atom_words
  is-symbol (atom (symbol s)) e h = rw e refl
  is-symbol (atom (quoted s)) e h = let k : ◌≡◌ {A = ℕ} 17 16 = rw e at h in absurd (omega arith)
  is-symbol (atom (integer w)) e h = let k : ◌≡◌ {A = ℕ} 18 16 = rw e at h in absurd (omega arith)
  is-symbol (atom (decimal s)) e h = let k : ◌≡◌ {A = ℕ} 19 16 = rw e at h in absurd (omega arith)
  is-symbol (atom (boolean b)) e h = let k : ◌≡◌ {A = ℕ} 20 16 = rw e at h in absurd (omega arith)
  is-symbol (list ts) e h = let k : ◌≡◌ {A = ℕ} 21 16 = rw e at h in absurd (omega arith)

  pub is-integer : (t : Tree) → ws ≡ tree_words t ++ rest → get_or ws 0 0 ≡ 18 → t ≡ atom (integer (record { a = get_or ws 1 0; b = get_or ws 2 0; c = get_or ws 3 0; d = get_or ws 4 0 }))
  unfolding tree_words atom_words
  is-integer (atom (symbol s)) e h = let k : ◌≡◌ {A = ℕ} 16 18 = rw e at h in absurd (omega arith)
  is-integer (atom (quoted s)) e h = let k : ◌≡◌ {A = ℕ} 17 18 = rw e at h in absurd (omega arith)
  is-integer (atom (integer w)) e h = rw e refl
  is-integer (atom (decimal s)) e h = let k : ◌≡◌ {A = ℕ} 19 18 = rw e at h in absurd (omega arith)
  is-integer (atom (boolean b)) e h = let k : ◌≡◌ {A = ℕ} 20 18 = rw e at h in absurd (omega arith)
  is-integer (list ts) e h = let k : ◌≡◌ {A = ℕ} 21 18 = rw e at h in absurd (omega arith)

  pub is-list : (t : Tree) → ws ≡ tree_words t ++ rest → get_or ws 0 0 ≡ 21 → ListOf t
  unfolding tree_words atom_words
  is-list (atom (symbol s)) e h = let k : ◌≡◌ {A = ℕ} 16 21 = rw e at h in absurd (omega arith)
  is-list (atom (quoted s)) e h = let k : ◌≡◌ {A = ℕ} 17 21 = rw e at h in absurd (omega arith)
  is-list (atom (integer w)) e h = let k : ◌≡◌ {A = ℕ} 18 21 = rw e at h in absurd (omega arith)
  is-list (atom (decimal s)) e h = let k : ◌≡◌ {A = ℕ} 19 21 = rw e at h in absurd (omega arith)
  is-list (atom (boolean b)) e h = let k : ◌≡◌ {A = ℕ} 20 21 = rw e at h in absurd (omega arith)
  is-list (list ts) e h = record { items = ts; is = refl }

  -- How many words the tree has.
  pub size-list : (t : Tree) → ws ≡ tree_words t ++ rest → get_or ws 0 0 ≡ 21 → (2 < length ws) × (get_or ws 2 0 + 3 ≡ length (tree_words t))
  size-list t e h = let l = is-list t e h in listed l.items (e ∙ ap (λ u. tree_words u ++ rest) l.is) l.is
    where
      listed : (us : Trees) → ws ≡ tree_words (list us) ++ rest → t ≡ list us → (2 < length ws) × (get_or ws 2 0 + 3 ≡ length (tree_words t))
      listed us q i = rw (i, q) (list-size us rest)

  pub size-integer : (t : Tree) → ws ≡ tree_words t ++ rest → get_or ws 0 0 ≡ 18 → 5 ≡ length (tree_words t)
  unfolding tree_words atom_words
  size-integer t e h = rw (is-integer t e h) refl

  pub size-boolean : (t : Tree) → ws ≡ tree_words t ++ rest → get_or ws 0 0 ≡ 20 → 2 ≡ length (tree_words t)
  unfolding tree_words atom_words
  size-boolean (atom (symbol s)) e h = let k : ◌≡◌ {A = ℕ} 16 20 = rw e at h in absurd (omega arith)
  size-boolean (atom (quoted s)) e h = let k : ◌≡◌ {A = ℕ} 17 20 = rw e at h in absurd (omega arith)
  size-boolean (atom (integer w)) e h = let k : ◌≡◌ {A = ℕ} 18 20 = rw e at h in absurd (omega arith)
  size-boolean (atom (decimal s)) e h = let k : ◌≡◌ {A = ℕ} 19 20 = rw e at h in absurd (omega arith)
  size-boolean (atom (boolean b)) e h = refl
  size-boolean (list ts) e h = let k : ◌≡◌ {A = ℕ} 21 20 = rw e at h in absurd (omega arith)

  pub size-other : (t : Tree) → ws ≡ tree_words t ++ rest → (get_or ws 0 0 ≡ 21 → ⊥) → (get_or ws 0 0 ≡ 18 → ⊥) → (get_or ws 0 0 ≡ 20 → ⊥) → 3 ≡ length (tree_words t)
  unfolding tree_words atom_words
  size-other (atom (symbol s)) e h i b = refl
  size-other (atom (quoted s)) e h i b = refl
  size-other (atom (integer w)) e h i b = absurd (i (rw e refl))
  size-other (atom (decimal s)) e h i b = refl
  size-other (atom (boolean x)) e h i b = absurd (b (rw e refl))
  size-other (list ts) e h i b = absurd (h (rw e refl))

  pub size-symbol : (t : Tree) → ws ≡ tree_words t ++ rest → get_or ws 0 0 ≡ 16 → (2 < length ws) × (3 ≡ length (tree_words t))
  unfolding tree_words atom_words
  size-symbol t e h =
      let k : 3 ≡ length (tree_words t) = rw (is-symbol t e h) refl in
      (omega (arith, ap length e, length-append (tree_words t) rest), k)

-- Trees that have words: the first, and the others.
pub record Split (ws : List ℕ) (ts : Trees) : Type 0 where
  pub first : Tree
  pub others : Trees
  pub is : ts ≡ tcons first others
  pub words : ws ≡ tree_words first ++ trees_words others

pub split : (ts : Trees) {ws : List ℕ} → ws ≡ trees_words ts → (length ws ≡ 0 → ⊥) → Split ws ts
unfolding tree_words
split tnil e h = absurd (h (rw e refl))
split (tcons t us) e h = record { first = t; others = us; is = refl; words = e }

-- Trees that have none.
pub no-trees : (ts : Trees) {ws : List ℕ} → ws ≡ trees_words ts → length ws ≡ 0 → ts ≡ tnil
unfolding tree_words
no-trees tnil e h = refl
no-trees (tcons t us) {ws} e h = absurd (omega (arith, head-two (trees_words us) t e))

-- The words of the first tree, where k is how many it has, and those of the others.
module _ (t : Tree) (ts : Trees) {ws : List ℕ} (e : ws ≡ tree_words t ++ trees_words ts) (k : ℕ) (h : k ≡ length (tree_words t)) where
  pub first-words : take k ws ≡ tree_words t
  first-words = rw e (take_at (tree_words t) (trees_words ts) k (sym h))

  pub other-words : drop k ws ≡ trees_words ts
  other-words = rw e (drop_at (tree_words t) (trees_words ts) k (sym h))

-- The first item of a list, where there is one.
pub record First (ws : List ℕ) (ts : Trees) : Type 0 where
  pub first : Tree
  pub others : Trees
  pub is : ts ≡ tcons first others
  pub rest : drop 3 ws ≡ tree_words first ++ trees_words others
  pub many : get_or ws 1 0 ≡ suc (trees others)
  pub long : 4 < length ws

pub list-first : (ts : Trees) {ws : List ℕ} → ws ≡ tree_words (list ts) → (get_or ws 1 0 ≡ 0 → ⊥) → First ws ts
unfolding tree_words trees
list-first tnil e h = absurd (h (rw e refl))
list-first (tcons t us) e h =
    record { first = t; others = us; is = refl; rest = rw e refl; many = rw e refl; long = rw e (omega (arith, head-two (trees_words us) {ws = tree_words t ++ trees_words us} t refl)) }

-- A list without items.
pub list-none : (ts : Trees) {ws : List ℕ} → ws ≡ tree_words (list ts) → get_or ws 1 0 ≡ 0 → ts ≡ tnil
unfolding tree_words trees
list-none tnil e h = refl
list-none (tcons t us) e h = let k : suc (trees us) ≡ 0 = rw e at h in absurd (omega arith)

-- The words before its items.
pub list-three : (ts : Trees) {ws : List ℕ} → ws ≡ tree_words (list ts) → 2 < length ws
unfolding tree_words
list-three ts e = rw e (omega arith)
