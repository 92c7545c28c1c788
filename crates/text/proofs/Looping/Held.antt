-- The words of the lists that are open, and the arrays that hold where the lists begin and how many trees they have.
use Prim.Native.Nat.{ℕ, suc, ◌+◌, ◌*◌, ◌≤◌, ◌<◌}
use mathlib.Core.Path.{◌≡◌, refl, sym, ap, ◌∙◌}
use mathlib.Core.List.{List, [], ◌∷◌, ◌++◌, append_assoc, append-nil}
use native.Mathlib.Numerals.{add-one}
use native.Mathlib.Omega.{arith}
use lib.ListN.{length, set, get_or, length-append}
use lib.Seq.{sets, get_or-set_other, get_or-set_same}
use Rattle.reading.specs.Tree.{Tree, Trees, atom, list, tnil, tcons, trees, tree_words, trees_words}
use Rattle.reading.proofs.Token.{atom-size}
use Rattle.text.proofs.Looping.Stack.{snoc}

-- A list that is open has zeros for its two numbers.
unfoldable pub stack_words : Trees → List Trees → List ℕ
stack_words f [] = trees_words f
stack_words f (g ∷ st) = stack_words g st ++ (21 ∷ 0 ∷ 0 ∷ trees_words f)

words_snoc : (f : Trees) (t : Tree) → trees_words (snoc f t) ≡ trees_words f ++ tree_words t
unfolding trees_words snoc
words_snoc tnil t = append-nil (tree_words t)
words_snoc (tcons u f) t = ap (λ (l : List ℕ). tree_words u ++ l) (words_snoc f t) ∙ sym (append_assoc (tree_words u) (trees_words f) (tree_words t))

trees-snoc : (f : Trees) (t : Tree) → trees (snoc f t) ≡ suc (trees f)
unfolding trees snoc
trees-snoc tnil t = refl
trees-snoc (tcons u f) t = ap suc (trees-snoc f t)

-- A tree more in the innermost list.
pub stack_snoc : (f : Trees) (t : Tree) (st : List Trees) → stack_words (snoc f t) st ≡ stack_words f st ++ tree_words t
unfolding stack_words
stack_snoc f t [] = words_snoc f t
stack_snoc f t (g ∷ st) =
    ap (λ (l : List ℕ). stack_words g st ++ (21 ∷ 0 ∷ 0 ∷ l)) (words_snoc f t)
    ∙ sym (append_assoc (stack_words g st) (21 ∷ 0 ∷ 0 ∷ trees_words f) (tree_words t))

tree-two : (t : Tree) → 2 ≤ length (tree_words t)
unfolding tree_words
tree-two (atom a) = (atom-size a).0
tree-two (list ts) = omega arith

trees-two : (f : Trees) → 2 * trees f ≤ length (trees_words f)
unfolding trees_words trees
trees-two tnil = omega arith
trees-two (tcons t f) = simp length-append (omega (arith, tree-two t, trees-two f))

-- How many words there are inside a list.
pub stack_length : (f g : Trees) (st : List Trees) → length (stack_words f (g ∷ st)) ≡ length (stack_words g st) + 3 + length (trees_words f)
unfolding stack_words
stack_length f g st = simp length-append (omega arith)

-- A tree has at least two words.
pub stack_trees : (f : Trees) (st : List Trees) → 2 * trees f ≤ length (stack_words f st)
unfolding stack_words
stack_trees f [] = trees-two f
stack_trees f (g ∷ st) = simp length-append (omega (arith, trees-two f))

-- A list gets its two numbers.
pub stack_close : (s f : List ℕ) (n m : ℕ) → sets (s ++ (21 ∷ 0 ∷ 0 ∷ f)) (length s) (21 ∷ n ∷ m ∷ []) ≡ s ++ (21 ∷ n ∷ m ∷ f)
stack_close [] f n m = refl
stack_close (x ∷ s) f n m = ap (λ (l : List ℕ). x ∷ l) (stack_close s f n m)

-- The arrays: the trees of each list that is open, and the words before it.
unfoldable pub Held : Trees → List Trees → List ℕ → List ℕ → Type 0
Held f [] offs counts = get_or counts 0 0 ≡ trees f
Held f (g ∷ st) offs counts = (get_or counts (suc (length st)) 0 ≡ trees f) × (get_or offs (length st) 0 ≡ length (stack_words g st)) × Held g st offs counts

pub held-count : (f : Trees) (st : List Trees) (offs counts : List ℕ) (j : ℕ) → j ≡ length st → Held f st offs counts → get_or counts j 0 ≡ trees f
unfolding Held
held-count f [] offs counts j e h = rw e h
held-count f (g ∷ st) offs counts j e h = rw e h.0

pub held-off : (f g : Trees) (st : List Trees) (offs counts : List ℕ) (j : ℕ) → j ≡ length st → Held f (g ∷ st) offs counts → get_or offs j 0 ≡ length (stack_words g st)
unfolding Held
held-off f g st offs counts j e h = rw e h.1

pub held-around : (f g : Trees) (st : List Trees) (offs counts : List ℕ) → Held f (g ∷ st) offs counts → Held g st offs counts
unfolding Held
held-around f g st offs counts h = h.2

-- No list is open, and nothing is read.
pub held_start : (offs counts : List ℕ) → get_or counts 0 0 ≡ 0 → Held tnil [] offs counts
unfolding Held trees
held_start offs counts e = e

-- What is stored further in changes nothing.
held-set : (f : Trees) (st : List Trees) (offs counts : List ℕ) (i j v w : ℕ) → length st ≤ i → length st < j → Held f st offs counts → Held f st (set offs i v) (set counts j w)
unfolding Held
held-set f [] offs counts i j v w hi hj h = get_or-set_other counts j 0 w 0 (omega arith) ∙ h
held-set f (g ∷ st) offs counts i j v w hi hj h = (
  get_or-set_other counts j (suc (length st)) w 0 (omega arith) ∙ h.0,
  get_or-set_other offs i (length st) v 0 (omega arith) ∙ h.1,
  held-set g st offs counts i j v w (omega arith) (omega arith) h.2,
)

held-counts : (f : Trees) (st : List Trees) (offs counts : List ℕ) (j w : ℕ) → length st < j → Held f st offs counts → Held f st offs (set counts j w)
unfolding Held
held-counts f [] offs counts j w hj h = get_or-set_other counts j 0 w 0 (omega arith) ∙ h
held-counts f (g ∷ st) offs counts j w hj h = (get_or-set_other counts j (suc (length st)) w 0 (omega arith) ∙ h.0, h.1, held-counts g st offs counts j w (omega arith) h.2)

-- One more list is open.
pub held_open : (f : Trees) (st : List Trees) (offs counts : List ℕ) (d d' w : ℕ)
    → d ≡ length st → d' ≡ suc (length st) → w ≡ length (stack_words f st) → d < length offs → d' < length counts
    → Held f st offs counts → Held tnil (f ∷ st) (set offs d w) (set counts d' 0)
unfolding Held trees
held_open f st offs counts d d' w e e' q ho hc h =
    rw (e, e') (
      get_or-set_same counts (suc (length st)) 0 0 (omega arith),
      get_or-set_same offs (length st) w 0 (omega arith) ∙ q,
      held-set f st offs counts (length st) (suc (length st)) w 0 (omega arith) (omega arith) h,
    )

-- One more tree in the innermost list.
pub held-tree : (f : Trees) (t : Tree) (st : List Trees) (offs counts : List ℕ) (j : ℕ) → j ≡ length st → j < length counts
    → Held f st offs counts → Held (snoc f t) st offs (set counts j (get_or counts j 0 + 1))
unfolding Held
held-tree f t [] offs counts j e hc h = rw e (get_or-set_same counts 0 (get_or counts 0 0 + 1) 0 (omega arith) ∙ add-one (get_or counts 0 0) ∙ ap suc h ∙ sym (trees-snoc f t))
held-tree f t (g ∷ st) offs counts j e hc h =
    let n : ℕ = get_or counts (suc (length st)) 0 in
    rw e (
      get_or-set_same counts (suc (length st)) (n + 1) 0 (omega arith) ∙ add-one n ∙ ap suc h.0 ∙ sym (trees-snoc f t),
      h.1,
      held-counts g st offs counts (suc (length st)) (n + 1) (omega arith) h.2,
    )
