-- What a function over the words of trees asks of them, and what it leaves in its output.
use Rattle.std.specs.Prelude.{ℕ, ◌^◌, ◌<◌, ◌≡◌, List, length, Result, Ok, Err}
use Rattle.reading.specs.Tree.{Tree, Trees, list, trees, tree_words, trees_words}
use Rattle.reading.specs.Answer.{Refusal as Met, Ans, got, bad, over}
use Rattle.words.specs.declared.refusal.Refusal.{Refusal}
use Rattle.words.specs.Refusals.{refusal_of}

-- The words of one tree. There are so few that no sum of words made from them overflows.
pub record IsTree (ws : List ℕ) : Type 0 where
  pub tree : Tree
  pub words : ws ≡ tree_words tree
  pub small : length ws < 2 ^ 32

-- The words of a list.
pub record IsList (ws : List ℕ) : Type 0 where
  pub items : Trees
  pub words : ws ≡ tree_words (list items)
  pub small : length ws < 2 ^ 32

-- The words of trees, one after the other.
pub record IsTrees (ws : List ℕ) : Type 0 where
  pub items : Trees
  pub words : ws ≡ trees_words items
  pub small : length ws < 2 ^ 32

-- The words of three trees.
pub record IsThree (ws : List ℕ) : Type 0 where
  pub items : Trees
  pub words : ws ≡ trees_words items
  pub three : trees items ≡ 3
  pub small : length ws < 2 ^ 32

-- What a result gives is what is said of it, by what the code's value stands for; or the same refusal.
abbrev pub Gives : {A B : Type 0} → (A → B) → Result A Refusal → Ans B → Type 0
Gives f (Ok a) x = got (f a) ≡ x
Gives f (Err r) (got b) = ⊥
Gives f (Err r) (bad e) = r ≡ refusal_of e

-- A value: its words are laid over the output, as far as they fit, and the answer is how many there are. A refusal: of the output nothing is said.
pub data Outcome {A : Type 0} (words : A → List ℕ) : Ans A → List ℕ → List ℕ → Result ℕ Refusal → Type 0 where
  wrote : {a : A} {o o' : List ℕ} {r : Result ℕ Refusal} → r ≡ Ok (length (words a)) → o' ≡ over (words a) o → Outcome words (got a) o o' r
  refused : {e : Met} {o o' : List ℕ} {r : Result ℕ Refusal} → r ≡ Err (refusal_of e) → Outcome words (bad e) o o' r
