-- The operations flatten and solution.
use Rattle.std.specs.Prelude.{ℕ, ◌^◌, Bool, false, List, ltb, length}
use Rattle.reading.specs.Pick.{pick}
use Rattle.reading.specs.Answer.{number, no_room, Final, accepts, refuses, finish, fits_in, Said, accepted, said_of, output_of}
use Rattle.grammar.specs.Item.{Item, words_of}
use Rattle.grammar.specs.Expr.{Expr, expr_items, Solution, solution_items}
use Rattle.grammar.specs.Operations.{make_solution}
use Rattle.flattening.specs.Uncurry.{uncurry, flattened, most_operands}
use Rattle.judging.specs.Judge.{Judged, reads, fails, judge_expr}

abbrev pub expr_words : Expr → List ℕ
expr_words e = words_of (expr_items e)

-- No text is lent with the words: the sum of two words is no limit.
abbrev pub no_text : ℕ
no_text = 2 ^ 33

-- A flattened expression has room in the output, and each joined count in one word.
unfoldable pub flat_fits : List ℕ → Expr → Bool
flat_fits out e = pick (ltb (most_operands e) (2 ^ 32)) (fits_in out (expr_words e)) false

-- Flatten words: 14 and 6 as met, 14 for words left over, then 7.
unfoldable pub flatten_by : List ℕ → Judged Expr → Final Expr
flatten_by out (fails r) = refuses r
flatten_by out (reads e at) = pick (flat_fits out (uncurry e)) (accepts (uncurry e) 0) (refuses (number no_room))

-- The operation flatten, with an output of these words; it takes no reader.
unfoldable pub flatten_final : List ℕ → List ℕ → Final Expr
flatten_final words out = flatten_by out (judge_expr no_text words)

-- What it answers, and the output afterwards; the words read are not changed.
unfoldable pub flatten_said : List ℕ → List ℕ → Said
flatten_said words out = said_of (λ e. accepted (length (expr_words e)) 0) (flatten_final words out)

unfoldable pub flatten_out : List ℕ → List ℕ → List ℕ
flatten_out words out = output_of expr_words (flatten_final words out) out

-- What the output of a solution is written from.
abbrev pub flat_items : Solution → List Item
flat_items s = solution_items (flattened s)

-- The draft takes the body before flattening, the output the flattened solution.
unfoldable pub solution_fits : List ℕ → List ℕ → Solution → Bool
solution_fits draft out s = pick (fits_in draft (expr_words s.body)) (fits_in out (words_of (flat_items s))) false

-- The operation solution at the reader's count c, with a draft and an output of these words.
unfoldable pub solution_final : List ℕ → List ℕ → List ℕ → List ℕ → ℕ → Final Solution
solution_final text tree draft out c = finish (solution_fits draft out) c (make_solution text tree 0)
