-- Binders as the code reads them.
use Rattle.std.specs.Prelude.{◌≡◌, ℕ, ◌+◌, ◌*◌, ◌^◌, ◌<◌, ◌≤◌, List, ◌++◌, length, drop}
use Rattle.reading.specs.Tree.{Trees, trees, trees_words}
use Rattle.grammar.specs.Item.{raise, words_of}
use Rattle.grammar.specs.Expr.{binder_items}
use Rattle.grammar.specs.Scope.{numbered}
use Rattle.grammar.specs.ParseExpr.{Binders}
use Rattle.places.specs.Outcome.{bound}
use Rattle.plans.specs.Plans.{factor}

-- So many trees, one after the other, and room for the words of as many binders.
pub record BinderRow (ws : List ℕ) (at n w : ℕ) : Type 0 where
  pub items : Trees
  pub rest : List ℕ
  pub words : drop at ws ≡ trees_words items ++ rest
  pub many : n ≡ trees items
  pub small : length (trees_words items) < 2 ^ 32
  pub room : w + factor * length (trees_words items) ≤ bound

-- The words of binders that are numbered from the next number on, raised by the count.
abbrev pub binders_words : ℕ → ℕ → Binders → List ℕ
binders_words count next bs = words_of (raise count (binder_items (numbered next bs.sorts)))
