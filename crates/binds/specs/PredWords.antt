-- Predicates as the code reads them: `and` is stepped into, so that they stand one after the other.
use Rattle.std.specs.Prelude.{ℕ, ◌+◌, ◌*◌, ◌^◌, ◌≤◌, ◌<◌, ◌≡◌, List, [], ◌∷◌, ◌++◌, length, drop, Result, Ok, Err}
use Rattle.reading.specs.Limits.{max_bytes, max_lists}
use Rattle.reading.specs.Bytes.{Span}
use Rattle.reading.specs.Tree.{symbol, Tree, Trees, atom, list, tcons, trees, tree_words, trees_words, nesting}
use Rattle.reading.specs.Answer.{Refusal as Met, ok, no}
use Rattle.grammar.specs.Item.{Item, plain, raise, words_of}
use Rattle.grammar.specs.Expr.{VarName, Pred, pred_items, preds_items, name_items}
use Rattle.grammar.specs.ParseExpr.{child, children, each_pred, kvar_form}
use Rattle.places.specs.Spot.{Spot}
use Rattle.writing.specs.Laid.{laid}
use Rattle.places.specs.Outcome.{bound}
use Rattle.binds.specs.declared.preds.Step.{Step}
use Rattle.words.specs.declared.refusal.Refusal.{Refusal}
use Rattle.words.specs.Refusals.{refusal_of}

-- Where a predicate stands, and room for its words and numbers.
pub record PredHere (text ws : List ℕ) (at w next : ℕ) : Type 0 where
  pub spot : Spot ws at
  pub nests : nesting spot.tree ≤ max_lists
  pub small : length (tree_words spot.tree) < 2 ^ 32
  pub room : w + next + 32 * length (tree_words spot.tree) ≤ bound
  pub bytes : length text ≤ max_bytes

-- Where a list that begins with a kvar's name stands, and room for its words.
pub record KvarHere (text ws : List ℕ) (at w next : ℕ) : Type 0 where
  pub name : Span
  pub others : Trees
  pub rest : List ℕ
  pub words : drop at ws ≡ tree_words (list (tcons (atom (symbol name)) others)) ++ rest
  pub kvar : (child text (list (tcons (atom (symbol name)) others))).preds ≡ kvar_form name (children text (tcons (atom (symbol name)) others))
  pub room : w + next + 32 * length (tree_words (list (tcons (atom (symbol name)) others))) ≤ bound

-- How many predicates there are, and the predicates.
abbrev pub counted_preds : List Pred → List Item
counted_preds ps = plain (length ps) ∷ preds_items ps

-- One predicate was read: its words are laid from w on, and the next number is m.
pub record ReadPred (text : List ℕ) (count : ℕ) (t : Tree) (w next : ℕ) (o o' : List ℕ) (u m : ℕ) : Type 0 where
  pub pred : Pred
  pub is : (child text t).preds next ≡ ok (pred ∷ []) m
  pub words : o' ≡ laid o w (words_of (raise count (pred_items pred)))
  pub place : u ≡ w + length (words_of (raise count (pred_items pred)))
  pub room : u + m ≤ w + next + 32 * length (tree_words t)

-- A list that begins with `and`: its other items are the predicates.
pub record IsAnd (text : List ℕ) (t : Tree) : Type 0 where
  pub name : Span
  pub items : Trees
  pub is : t ≡ list (tcons (atom (symbol name)) items)
  pub preds : (child text t).preds ≡ each_pred (children text items)

-- A step that was not refused: a predicate was read, or `and` is stepped into.
pub data Went (text : List ℕ) (count : ℕ) (t : Tree) (at w next : ℕ) (o o' : List ℕ) (s : Step) : Type 0 where
  step_read : ReadPred text count t w next o o' s.words s.fresh → s.next ≡ at + length (tree_words t) → s.preds ≡ 1 → Went text count t at w next o o' s
  step_into : IsAnd text t → o' ≡ o → s.next ≡ at + 6 → s.words ≡ w → s.fresh ≡ next → s.preds ≡ 0 → Went text count t at w next o o' s

-- A step that was refused.
pub record Stopped (text : List ℕ) (t : Tree) (next : ℕ) (r : Refusal) : Type 0 where
  pub why : Met
  pub is : (child text t).preds next ≡ no why
  pub same : r ≡ refusal_of why

-- What a step says.
abbrev pub Stepped : (text : List ℕ) (count : ℕ) (t : Tree) (at w next : ℕ) (o o' : List ℕ) → Result Step Refusal → Type 0
Stepped text count t at w next o o' (Ok s) = Went text count t at w next o o' s
Stepped text count t at w next o o' (Err r) = Stopped text t next r

-- So many symbols, one after the other, and room for their words.
pub record NameRow (ws : List ℕ) (at n w : ℕ) : Type 0 where
  pub items : Trees
  pub rest : List ℕ
  pub words : drop at ws ≡ trees_words items ++ rest
  pub many : n ≡ trees items
  pub room : w + 3 * n ≤ bound

-- The words of names.
abbrev pub names_words : List VarName → List ℕ
names_words xs = words_of (name_items xs)
