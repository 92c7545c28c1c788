-- The bytes of terms, as the code writes them one behind the other.
use Rattle.std.specs.Prelude.{ℕ, List, []}
use Rattle.reading.specs.Answer.{Ans, got, and_then}
use Rattle.grammar.specs.Expr.{Expr, Exprs, enil, econs}
use Rattle.smt.specs.Sexp.{print}
use Rattle.smt.specs.Term.{term_sx}
use Rattle.smt.specs.Writer.{term_of}
use Rattle.smtnames.specs.Pieces.{joined}

-- A term.
unfoldable pub term_text : List ℕ → Expr → Ans (List ℕ)
term_text text e = and_then (term_of text e) λ t. got (print (term_sx t))

-- Terms with these bytes between them.
unfoldable pub seamed : List ℕ → List ℕ → Exprs → Ans (List ℕ)
seamed text seam enil = got []
seamed text seam (econs e enil) = term_text text e
seamed text seam (econs e (econs f fs)) = joined (term_text text e) (joined (got seam) (seamed text seam (econs f fs)))
