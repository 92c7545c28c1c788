-- The words of symbols.
use Rattle.std.proofs.Common.{◌≡◌, ℕ, ◌+◌, ◌/◌, ◌%◌, ◌^◌, List, [], ◌∷◌, sym, refl, ap, ◌∙◌, arith}
use Rattle.std.specs.Prelude.{Option, Some, None}
use Rattle.reading.specs.Bytes.{Span, bytes_at, Maybe, nothing, just, lookup}
use Rattle.grammar.specs.Item.{raise, words_of}
use Rattle.grammar.specs.Expr.{exprs, expr_items, exprs_items, kind_items}
use Rattle.grammar.specs.Names.{theory}
use Rattle.grammar.specs.Scope.{Scope, number_in, or_named, symbol_expr}
use Rattle.grammar.specs.Written.{expr_words}
use Rattle.forms.specs.FormNames.{theory_in}
use Rattle.scopes.specs.Scopes.{Meant}

-- A number of 64 bits has the words of the number that it was wrapped from.
pub low_wrapped : (v k : ℕ) → k ≡ v % 2 ^ 64 → v % 2 ^ 32 ≡ k % 2 ^ 32
low_wrapped v k e = omega arith

pub high_wrapped : (v k : ℕ) → k ≡ v % 2 ^ 64 → v / 2 ^ 32 % 2 ^ 32 ≡ k / 2 ^ 32 % 2 ^ 32
high_wrapped v k e = omega arith

-- A symbol as an expression, by what is found out about its bytes w.
module _ (count : ℕ) (text : List ℕ) (s : Span) (sc : List Scope) {w : List ℕ} {t : Option ℕ} (same : w ≡ bytes_at text s) (told : theory_in t ≡ lookup theory w) where
  theory-is : (u : Option ℕ) → t ≡ u → theory_in u ≡ lookup theory (bytes_at text s)
  theory-is u e = ap theory_in (sym e) ∙ told ∙ ap (lookup theory) same

  -- A theory function.
  pub variable-theory : {k : ℕ} → t ≡ Some k → expr_words count (symbol_expr text s sc) ≡ 49 ∷ k ∷ []
  unfolding symbol_expr expr_items exprs_items kind_items exprs raise words_of
  variable-theory {k} e = rw (← theory-is (Some k) e) refl

  module _ (none : t ≡ None) {f : Option ℕ} (meant : Meant count (number_in text s sc) f) where
    -- A variable of an open scope.
    pub variable-fresh : {k a b : ℕ} → f ≡ Some k → a ≡ k % 2 ^ 32 → b ≡ k / 2 ^ 32 % 2 ^ 32 → expr_words count (symbol_expr text s sc) ≡ 36 ∷ a ∷ b ∷ []
    unfolding symbol_expr expr_items exprs_items kind_items exprs raise words_of
    variable-fresh {k} {a} {b} e p q = rw (← theory-is None none) (go (number_in text s sc) meant)
      where
        go : (m : Maybe ℕ) → Meant count m f → expr_words count (or_named text s m) ≡ 36 ∷ a ∷ b ∷ []
        go nothing x = let z : ◌≡◌ {A = ℕ} 0 1 = cc in absurd (omega arith)
        go (just j) x = let z : k ≡ (count + j) % 2 ^ 64 = cc in rw (p, q, low_wrapped (count + j) k z, high_wrapped (count + j) k z) refl

    -- A named variable.
    pub variable-named : f ≡ None → expr_words count (symbol_expr text s sc) ≡ 37 ∷ s.start ∷ s.len ∷ []
    unfolding symbol_expr expr_items exprs_items kind_items exprs raise words_of
    variable-named e = rw (← theory-is None none) (go (number_in text s sc) meant)
      where
        go : (m : Maybe ℕ) → Meant count m f → expr_words count (or_named text s m) ≡ 37 ∷ s.start ∷ s.len ∷ []
        go nothing x = refl
        go (just j) x = let z : ◌≡◌ {A = ℕ} 0 1 = cc in absurd (omega arith)
