-- The script that is printed for a text: one function, or the refusal by which there is none.
use Rattle.std.specs.Prelude.{ℕ, List, [], ◌∷◌, ◌++◌, leb, ltb, length, replicate}
use Rattle.reading.specs.Pick.{pick}
use Rattle.reading.specs.Bytes.{ascii}
use Rattle.reading.specs.Answer.{number, no_room, too_long, Ans, got, bad, Final, accepts, refuses}
use Rattle.flattening.specs.Uncurry.{flattened}
use Rattle.session.specs.Session.{Term, a_read, a_sort, an_expr, a_bind, a_solution, final}
use Rattle.replies.specs.Calls.{solution_call}
use Rattle.writing.specs.Digits.{two_digits}
use Rattle.smt.specs.Sexp.{list, print}
use Rattle.smt.specs.Term.{var_sxs, term_sx, Closed, closed_bytes}
use Rattle.smt.specs.Writer.{solution_term}

-- The first line is a comment: a refusal's number in two digits; 0 says that there is none.
unfoldable pub comment_line : ℕ → List ℕ
comment_line r = ascii "; " ++ (two_digits r ++ (10 ∷ []))

-- The line that defines the function, by the bytes of its list of variables and of its term.
unfoldable pub function_line : List ℕ → List ℕ → List ℕ
function_line vars term = ascii "(define-fun solution " ++ (vars ++ (ascii " Bool " ++ (term ++ ascii ")\n")))

-- The lines of a solution as SMT-LIB has it, or of 15 or 16; list and term are made in a slice of 65,536 bytes.
unfoldable pub closed_text : Ans Closed → List ℕ
closed_text (bad r) = comment_line (number r)
closed_text (got c) =
    pick (leb (length (closed_bytes c)) 65536)
    (comment_line 0 ++ function_line (print (list (var_sxs c.vars))) (print (term_sx c.term)))
    (comment_line (number no_room))

-- The lines of what such a call makes of the text, which is always a solution.
abbrev pub term_text : List ℕ → Term → List ℕ
term_text text (a_read all r) = []
term_text text (a_sort s) = []
term_text text (an_expr e) = []
term_text text (a_bind b) = []
term_text text (a_solution s) = closed_text (solution_term text (flattened s))

-- The lines of what a call decides.
unfoldable pub final_text : List ℕ → Final Term → List ℕ
final_text text (accepts m n) = term_text text m
final_text text (refuses r) = comment_line r

-- A slice that is lent.
unfoldable pub slice : List ℕ
slice = replicate 4096 0

-- A text of more than 8,192 bytes is refused; any other one is read by a reader opened at 0.
unfoldable pub script : List ℕ → List ℕ
script text = pick (ltb 8192 (length text)) (comment_line (number too_long)) (final_text text (final (solution_call text slice slice slice) 0))
