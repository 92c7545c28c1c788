-- How many words the parser's answers have, and how many numbers they take: at most 15 words and one number for each byte that the tree takes.
use Prim.Native.Nat.{ℕ, ◌+◌, ◌*◌, ◌^◌, ◌≤◌}
use mathlib.Core.Path.{◌≡◌, ap, ◌∙◌}
use mathlib.Core.List.{List, [], ◌++◌, append-nil}
use native.Mathlib.Omega.{arith}
use lib.Dec.{ltb}
use lib.ListN.{length, length-append}
use Rattle.reading.specs.Bytes.{Span, bytes_at, Maybe, nothing, just, lookup}
use Rattle.reading.specs.Number.{Wide, value_of, minus_of}
use Rattle.reading.specs.Tree.{symbol, quoted, integer, boolean, Tree, Trees, atom, weight, weights}
use Rattle.reading.proofs.Weight.{weight-some}
use Rattle.reading.proofs.Picks.{pick-holds}
use Rattle.grammar.specs.Sort.{Sort, sort_words}
use Rattle.grammar.specs.Item.{Item, words_of}
use Rattle.grammar.specs.Expr.{Kind, k_num, k_bool, k_str, k_neg, k_named, k_fresh, k_theory, Expr, Exprs, node, leaf, one_of, exprs, kind_items, binder_items, expr_items, exprs_items, sort_items}
use Rattle.grammar.specs.Names.{theory}
use Rattle.grammar.specs.Scope
use Rattle.grammar.specs.Scope.{Scope, numbered}
use Rattle.grammar.specs.ParseExpr.{numeral}
use Rattle.grammar.proofs.Items.{length-words, words-front}
use Rattle.grammar.proofs.WalkKeeps.{Kept}

-- As a predicate an expression has one word more.
pub record Sized (t : Tree) (sc : List Scope) (n : ℕ) (e : Expr) (m : ℕ) : Type 0 where
  pub words : length (words_of (expr_items e)) + 1 ≤ 15 * weight t
  pub numbers : m ≤ n + weight t

pub record SizedAll (ts : Trees) (sc : List Scope) (n : ℕ) (es : Exprs) (m : ℕ) : Type 0 where
  pub words : length (words_of (exprs_items es)) ≤ 15 * weights ts
  pub numbers : m ≤ n + weights ts

-- The words of a sort in front of items.
sort-long : (o : Sort) (its : List Item) → length (words_of (sort_items o ++ its)) ≡ length (sort_words o) + length (words_of its)
sort-long o its = ap length (words-front (sort_words o) its) ∙ length-append (sort_words o) (words_of its)

lone_long : (e : Expr) → length (words_of (exprs_items (one_of e))) ≡ length (words_of (expr_items e))
unfolding expr_items
lone_long e = ap (λ l. length (words_of l)) (append-nil (expr_items e))

sized-leaf : (t : Tree) (sc : List Scope) (n : ℕ) (k : Kind) → length (words_of (expr_items (leaf k))) ≤ 14 → Sized t sc n (leaf k) n
sized-leaf t sc n k h = record { words = omega (arith, h, weight-some t); numbers = omega arith }

module _ (text : List ℕ) where
  on-symbol : (s : Span) (sc : List Scope) (n : ℕ) → Sized (atom (symbol s)) sc n (Scope.symbol_expr text s sc) n
  unfolding Scope.symbol_expr expr_items kind_items words_of
  on-symbol s sc n = go (lookup theory (bytes_at text s))
    where
      named_or : (m : Maybe ℕ) → Sized (atom (symbol s)) sc n (Scope.or_named text s m) n
      named_or nothing = sized-leaf (atom (symbol s)) sc n (k_named (record { span = s })) (omega arith)
      named_or (just j) = sized-leaf (atom (symbol s)) sc n (k_fresh j) (omega arith)

      go : (m : Maybe ℕ) → Sized (atom (symbol s)) sc n (Scope.or_variable text s sc m) n
      go (just k) = sized-leaf (atom (symbol s)) sc n (k_theory k) (omega arith)
      go nothing = named_or (Scope.number_in text s sc)

  on-integer : (w : Wide) (sc : List Scope) (n : ℕ) → Sized (atom (integer w)) sc n (numeral w) n
  unfolding numeral expr_items kind_items words_of weight
  on-integer w sc n =
      pick-holds (ltb (value_of w) (2 ^ 127)) (leaf (k_num w)) (node k_neg (one_of (leaf (k_num (minus_of w))))) (λ e. Sized (atom (integer w)) sc n e n)
      (sized-leaf (atom (integer w)) sc n (k_num w) (omega arith))
      (record { words = omega arith; numbers = omega arith })

  -- Every expression that the parser builds is sized so.
  pub sized : Kept text Sized SizedAll
  unfolding expr_items kind_items words_of weight
  sized =
      record {
        on_symbol = on-symbol;
        on_quoted = λ s sc n. sized-leaf (atom (quoted s)) sc n (k_str s) (omega arith);
        on_integer = on-integer;
        on_boolean = λ b sc n. sized-leaf (atom (boolean b)) sc n (k_bool b) (omega arith);
        none = λ ts sc n. record { words = omega arith; numbers = omega arith };
        more = λ t ts sc n m p e es h k. record { words = omega (arith, length-words (expr_items e) (exprs_items es), h.words, k.words); numbers = omega (arith, h.numbers, k.numbers) };
        skip = λ t ts sc n m es h. record { words = omega (arith, h.words); numbers = omega (arith, h.numbers) };
        item = λ ts sc n m e h. record { words = omega (arith, lone_long e, h.words); numbers = omega (arith, h.numbers) };
        on_node = λ ts sc n m k es p a h. record { words = omega (arith, length-words (kind_items k (exprs es)) (exprs_items es), p.size (exprs es), h.words); numbers = omega (arith, h.numbers) };
        on_call = λ t ts sc n m p es h x y. record { words = omega (arith, length-words (exprs_items es) (expr_items h), x.words, y.words); numbers = omega (arith, x.numbers, y.numbers) };
        on_as = λ t ts sc n m o e s h. record { words = omega (arith, sort-long o (expr_items e), lone_long e, s.size, h.words); numbers = omega (arith, h.numbers) };
        on_exists = λ s v ts sc n m names sorts e b h. record { words = omega (arith, length-words (binder_items (numbered n sorts)) (expr_items e ++ []), b.size n, h.words); numbers = omega (arith, b.few, h.numbers) };
        on_let = λ s u ts sc n m p x v b l g h. record { words = omega (arith, length-words (expr_items v) (expr_items b ++ []), g.words, h.words); numbers = omega (arith, g.numbers, h.numbers, weight-some s) };
      }
