-- The tree that an operation reads.
use Prim.Native.Nat.{ℕ}
use mathlib.Core.Path.{◌≡◌, refl, sym, subst}
use mathlib.Core.Bool.{false}
use mathlib.Core.List.{List}
use Rattle.reading.specs.Tree.{Trees}
use Rattle.reading.specs.Answer.{Ans, got, bad, and_then, check, no_room, fits_in}
use Rattle.reading.specs.Reading.{Read, read_text, read_words}
use Rattle.reading.proofs.TextTree.{TextTree, text-tree}
use Rattle.grammar.specs.ParseSort.{tree_at}
use Rattle.grammar.specs.Operations.{the_tree}
use Rattle.grammar.proofs.AnswerHolds.{Every, any-every}

first-tree : (text : List ℕ) (r : Read) → read_text false text ≡ got r → Every (tree_at r.read 0) (TextTree text)
unfolding tree_at
first-tree text r e = let o = text-tree text r e in subst (λ (ts : Trees). Every (tree_at ts 0) (TextTree text)) (sym o.1) o.2

-- It is one that stands alone in the text.
pub the_tree_lem : (text tree : List ℕ) → Every (the_tree text tree) (TextTree text)
unfolding the_tree
the_tree_lem text tree = go (read_text false text) refl
  where
    go : (x : Ans Read) → read_text false text ≡ x → Every (and_then x (λ r. and_then (check (fits_in tree (read_words r)) no_room) (λ _. tree_at r.read 0))) (TextTree text)
    go (got r) e = any-every (check (fits_in tree (read_words r)) no_room) _ _ λ _. first-tree text r e
    go (bad r) e = tt
