-- What flattening writes to the output, as the code does it.
use Rattle.std.specs.Prelude.{ℕ, ◌+◌, ◌-◌, ◌≤◌, ◌<◌, min, ◌≡◌, List, length, set}
use Rattle.grammar.specs.Item.{words_of}
use Rattle.grammar.specs.Expr.{Expr, Exprs, expr_items, exprs_items, exprs}
use Rattle.writing.specs.Wrote.{most_count, Wrote}
use Rattle.flattening.specs.Uncurry.{uncurry, uncurry_all, most_operands, most_operands_all}
use Rattle.judging.specs.Judge.{reads, expr_deep}
use Rattle.flattening.specs.Operations.{no_text}
use Rattle.words.specs.declared.walked.Walked.{Walked}
use Rattle.flatwriter.specs.declared.Joined.{Joined}

-- The flattened words of an expression that ends at n, and of several.
pub record WroteExpr (l : List ℕ) (place : ℕ) (e : Expr) (n : ℕ) (l' : List ℕ) (r : Walked) : Type 0 where
  pub next : r.next ≡ n
  pub words : Wrote l place (words_of (expr_items (uncurry e))) (most_operands (uncurry e)) l' r.place

pub record WroteExprs (l : List ℕ) (place : ℕ) (es : Exprs) (n : ℕ) (l' : List ℕ) (r : Walked) : Type 0 where
  pub next : r.next ≡ n
  pub words : Wrote l place (words_of (exprs_items (uncurry_all es))) (most_operands_all (uncurry_all es)) l' r.place

-- A count is stored in front of a place, if it fits in a word.
pub record Patched (l : List ℕ) (place count behind : ℕ) (l' : List ℕ) (r : ℕ) : Type 0 where
  pub kept : length l' ≡ length l
  pub stored : count < most_count → 0 < place → (r ≡ behind) × (l' ≡ set l (place - 1) count)
  pub over : most_count ≤ count → r ≡ length l + 1

-- The joined arguments of a chain are written, and the head at its end is known.
pub record Chained (ws l : List ℕ) (place : ℕ) (es : Exprs) (h : Expr) (n : ℕ) (l' : List ℕ) (r : Joined) : Type 0 where
  pub head : expr_deep no_text r.room ws r.head ≡ reads h n
  pub count : r.count ≡ min (exprs es) most_count
  pub words : Wrote l place (words_of (exprs_items (uncurry_all es))) (most_operands_all (uncurry_all es)) l' r.place
