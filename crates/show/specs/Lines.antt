-- What is printed of a solution, and of a refusal.
use Rattle.std.specs.Prelude.{ℕ, List, [], ◌∷◌, ◌++◌}
use Rattle.grammar.specs.Sort.{two, sort_words}
use Rattle.grammar.specs.Item.{words_of}
use Rattle.grammar.specs.Expr.{Binder, expr_items, Solution}
use Rattle.writing.specs.Digits.{two_digits, eight_digits}

-- What stands behind a word: a space, or a line feed if no word follows.
abbrev pub separator : List ℕ → ℕ
separator [] = 10
separator (w ∷ ws) = 32

-- A line of words, each in eight digits.
unfoldable pub line : List ℕ → List ℕ
line [] = []
line (w ∷ ws) = eight_digits w ++ (separator ws ∷ line ws)

-- A refusal's number in two digits; 0 says that there is none.
unfoldable pub refusal_text : ℕ → List ℕ
refusal_text r = two_digits r ++ (10 ∷ [])

-- A line for each parameter: its fresh number and its sort.
unfoldable pub param_lines : List Binder → List ℕ
param_lines [] = []
param_lines (b ∷ bs) = line (two b.var ++ sort_words b.sort) ++ param_lines bs

-- No refusal, the parameters, and the expression on a line.
unfoldable pub solution_text : Solution → List ℕ
solution_text s = refusal_text 0 ++ (param_lines s.params ++ line (words_of (expr_items s.body)))
