-- What is printed for a text.
use Rattle.std.specs.Prelude.{ℕ, List, [], ltb, length, replicate}
use Rattle.reading.specs.Pick.{pick}
use Rattle.reading.specs.Answer.{number, too_long, Final, accepts, refuses}
use Rattle.flattening.specs.Uncurry.{flattened}
use Rattle.session.specs.Session.{Term, a_read, a_sort, an_expr, a_bind, a_solution, final}
use Rattle.replies.specs.Calls.{solution_call}
use Rattle.show.specs.Lines.{refusal_text, solution_text}

-- The lines of what such a call makes, which is always a solution.
abbrev pub term_text : Term → List ℕ
term_text (a_read all r) = []
term_text (a_sort s) = []
term_text (an_expr e) = []
term_text (a_bind b) = []
term_text (a_solution s) = solution_text (flattened s)

-- The lines of what a call decides.
unfoldable pub final_text : Final Term → List ℕ
final_text (accepts m n) = term_text m
final_text (refuses r) = refusal_text r

-- A slice that is lent.
unfoldable pub slice : List ℕ
slice = replicate 4096 0

-- A text of more than 8,192 bytes is refused; any other one is read by a reader opened at 0.
unfoldable pub printed : List ℕ → List ℕ
printed text = pick (ltb 8192 (length text)) (refusal_text (number too_long)) (final_text (final (solution_call text slice slice slice) 0))
