-- What is answered where a text is to be shown, and what the output is afterwards.
use Rattle.std.specs.Prelude.{ℕ, Bool, false, List, leb, length}
use Rattle.reading.specs.Pick.{pick}
use Rattle.reading.specs.Bytes.{Maybe, nothing, just}
use Rattle.reading.specs.Answer.{zeros, over}
use Rattle.grammar.specs.Expr.{Solution}
use Rattle.judging.specs.Judge.{Judged, reads, fails, judge_solution}
use Rattle.flattening.specs.Operations.{no_text}
use Rattle.show.specs.Lines.{solution_text}

-- The text of what was judged: words that are refused have none.
abbrev pub text_of : Judged Solution → Maybe (List ℕ)
text_of (reads s n) = just (solution_text s)
text_of (fails r) = nothing

-- The text of words is that of the solution that they are judged to be, where no text is lent for their spans.
unfoldable pub words_text : List ℕ → Maybe (List ℕ)
words_text words = text_of (judge_solution no_text words)

-- There is a text, and room for all of it.
abbrev pub has_room : Maybe (List ℕ) → ℕ → Bool
has_room nothing room = false
has_room (just text) room = leb (length text) room

-- How many bytes are shown, and the output afterwards.
pub record Shown : Type 0 where
  pub count : ℕ
  pub out : List ℕ

-- No byte is shown, and the output is zeros throughout.
abbrev pub not_shown : List ℕ → Shown
not_shown out = record { count = 0; out = zeros out }

-- A text is shown from the start of an output that has room for all of it, and no later byte is changed.
-- Where there is no text, or no room for it, none is shown.
unfoldable pub shown : Maybe (List ℕ) → List ℕ → Shown
shown nothing out = not_shown out
shown (just text) out = pick (leb (length text) (length out)) (record { count = length text; out = over text out }) (not_shown out)
