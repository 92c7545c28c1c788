-- The bytes of the parts of a solution, as the code writes them one behind the other.
use Rattle.std.specs.Prelude.{ℕ, List, [], ◌∷◌, ◌++◌}
use Rattle.reading.specs.Bytes.{Span}
use Rattle.reading.specs.Answer.{Ans, got, and_then}
use Rattle.grammar.specs.Sort.{Sort}
use Rattle.grammar.specs.Expr.{Binder}
use Rattle.writing.specs.Digits.{decimal}
use Rattle.smt.specs.Sexp.{list, print}
use Rattle.smt.specs.Term.{Ident, ident_sx, sort_sx, var_sxs}
use Rattle.smt.specs.Writer.{bytes_of, sort_of, vars_of}

-- Bytes behind bytes; the first refusal ends it.
unfoldable pub joined : Ans (List ℕ) → Ans (List ℕ) → Ans (List ℕ)
joined x y =
    and_then x λ xs.
    and_then y λ ys.
    got (xs ++ ys)

-- An identifier, a sort.
unfoldable pub ident_text : Ans Ident → Ans (List ℕ)
ident_text x = and_then x λ i. got (print (ident_sx i))

unfoldable pub sort_text : List ℕ → Sort → Ans (List ℕ)
sort_text text s = and_then (sort_of text s) λ t. got (print (sort_sx t))

-- A name in bars, behind the letter of its kind and a space.
unfoldable pub name_text : List ℕ → ℕ → Span → Ans (List ℕ)
name_text text kind s = and_then (bytes_of text s) λ name. got (124 ∷ kind ∷ 32 ∷ name ++ (124 ∷ []))

-- A fresh variable in bars.
unfoldable pub fresh_text : ℕ → List ℕ
fresh_text k = 124 ∷ 118 ∷ 32 ∷ decimal k ++ (124 ∷ [])

-- The list of sorted variables in parentheses.
unfoldable pub vars_text : List ℕ → List Binder → Ans (List ℕ)
vars_text text bs = and_then (vars_of text bs) λ vs. got (print (list (var_sxs vs)))

-- A string in quotes.
unfoldable pub string_text : List ℕ → Span → Ans (List ℕ)
string_text text s = and_then (bytes_of text s) λ bytes. got (34 ∷ bytes ++ (34 ∷ []))

-- A sorted variable in parentheses.
unfoldable pub var_text : List ℕ → Binder → Ans (List ℕ)
var_text text b = joined (got (40 ∷ fresh_text b.var ++ (32 ∷ []))) (joined (sort_text text b.sort) (got (41 ∷ [])))
