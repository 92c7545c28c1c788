-- The name of a theory function by its number.
use Rattle.std.specs.Prelude.{ℕ, List}
use Rattle.reading.specs.Answer.{Ans}
use Rattle.smt.specs.Writer.{function_of}
use Rattle.smtnames.specs.Pieces.{ident_text}

unfoldable pub function_text : ℕ → Ans (List ℕ)
function_text k = ident_text (function_of k)
