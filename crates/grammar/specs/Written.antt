-- Parsing as far as words go: what the parser writes of a tree at the reader's count, piece by piece.
use Rattle.std.specs.Prelude.{ℕ, zero, suc, ◌+◌, List, [], ◌∷◌, ◌++◌}
use Rattle.reading.specs.Pick.{pick}
use Rattle.reading.specs.Bytes.{Span}
use Rattle.reading.specs.Tree.{Tree, Trees, tnil, tcons}
use Rattle.reading.specs.Answer.{malformed, repeated_name, Res, ok, no}
use Rattle.grammar.specs.Item.{Item, raise, words_of}
use Rattle.grammar.specs.Expr.{Kind, Expr, Exprs, expr_items, exprs_items, kind_items}
use Rattle.grammar.specs.Scope.{Scope, repeated}
use Rattle.grammar.specs.ParseExpr.{child}

-- Words and the next fresh number, or a refusal.
abbrev pub W : Type 0
W = Res (List ℕ)

-- The words of an expression, of several and of a kind with so many operands, each fresh number raised by the count.
abbrev pub expr_words : ℕ → Expr → List ℕ
expr_words count e = words_of (raise count (expr_items e))

abbrev pub exprs_words : ℕ → Exprs → List ℕ
exprs_words count es = words_of (raise count (exprs_items es))

abbrev pub kind_words : ℕ → Kind → ℕ → List ℕ
kind_words count k n = words_of (raise count (kind_items k n))

-- What is made, as words at the count.
abbrev pub told_of : {A : Type 0} → (A → List Item) → ℕ → Res A → W
told_of items count (ok a n) = ok (words_of (raise count (items a))) n
told_of items count (no r) = no r

abbrev pub told : ℕ → Res Expr → W
told count r = told_of expr_items count r

abbrev pub told_all : ℕ → Res Exprs → W
told_all count (ok es n) = ok (exprs_words count es) n
told_all count (no r) = no r

-- Words in front.
abbrev pub ahead : List ℕ → W → W
ahead h (ok ws n) = ok (h ++ ws) n
ahead h (no r) = no r

-- One after the other.
abbrev pub after : W → (ℕ → W) → W
after (ok ws n) f = ahead ws (f n)
after (no r) f = no r

-- So many operands of some trees.
unfoldable pub operands_w : List ℕ → ℕ → Trees → ℕ → List Scope → ℕ → W
operands_w text count ts zero sc n = ok [] n
operands_w text count tnil (suc k) sc n = no malformed
operands_w text count (tcons t ts) (suc k) sc n = after (told count ((child text t).nested sc n)) (λ m. operands_w text count ts k sc m)

-- One after the other, and in front of both words that depend on the number between them.
abbrev pub behind : W → (ℕ → List ℕ) → (ℕ → W) → W
behind (ok ws n) front f = ahead (front n) (ahead ws (f n))
behind (no r) front f = no r

-- What comes behind the operands: nothing, and then the names of a scope are judged; or one operand more, seen through or not, or with
-- a name bound to the next number.
pub data Last : Type 0 where
  no_last : Last
  seen_last plain_last : Tree → Last
  bound_last : Span → Tree → Last

unfoldable pub end_w : List ℕ → ℕ → Last → List Scope → List Span → ℕ → W
end_w text count no_last sc names n = pick (repeated text names) (no repeated_name) (ok [] n)
end_w text count (seen_last t) sc names n = told count ((child text t).nested sc n)
end_w text count (plain_last t) sc names n = told count ((child text t).plainly sc n)
end_w text count (bound_last s t) sc names n = told count ((child text t).nested (record { names = s ∷ []; first = n } ∷ sc) (n + 1))
