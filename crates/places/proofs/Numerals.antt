-- The words of integers.
use Prim.Native.Nat.{ℕ, ◌^◌, ◌<◌, ◌≤◌}
use mathlib.Core.Path.{◌≡◌, refl}
use mathlib.Core.List.{◌∷◌}
use borrow.Author.Tests.{lt-ltb, le-ltb}
use Rattle.reading.specs.Pick.{pick}
use Rattle.reading.specs.Number.{Wide, minus_of, value_of}
use Rattle.words.specs.Quads.{as_quad, as_wide}
use Rattle.words.specs.declared.quad.Quad.{Quad}
use Rattle.reading.specs.Tree.{wide_words}
use Rattle.grammar.specs.Item.{raise, words_of}
use Rattle.grammar.specs.Expr.{exprs, expr_items, exprs_items, kind_items}
use Rattle.grammar.specs.ParseExpr.{numeral}
use Rattle.grammar.specs.Written.{expr_words}

-- An integer below 2^127 is a numeral; another one is Neg of a numeral.
module _ (count : ℕ) (w : Wide) where
  pub numeral-plus : value_of w < 2 ^ 127 → expr_words count (numeral w) ≡ 32 ∷ wide_words w
  unfolding numeral pick expr_items exprs_items kind_items exprs raise words_of
  numeral-plus h = rw (lt-ltb (value_of w) (2 ^ 127) h) refl

  pub numeral-minus : {q : Quad} → 2 ^ 127 ≤ value_of w → q ≡ as_quad (minus_of w) → expr_words count (numeral w) ≡ 39 ∷ 32 ∷ wide_words (as_wide q)
  unfolding numeral pick expr_items exprs_items kind_items exprs raise words_of
  numeral-minus h e = rw (le-ltb (value_of w) (2 ^ 127) h, e) refl
