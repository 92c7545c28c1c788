-- What flatten and solution decide, as the code answers it.
use Rattle.std.specs.Prelude.{ℕ}
use Rattle.reading.specs.Answer.{Final}
use Rattle.grammar.specs.Expr.{Expr, Solution}
use Rattle.words.specs.Answered.{Answered, sized_by}
use Rattle.parse.specs.Answers.{counted_by}
use Rattle.parse.specs.declared.Counted.{Counted}
use Rattle.flattening.specs.Operations.{expr_words, flat_items}

-- How many words there are, or the refusal's number.
abbrev pub flatten_answer : Final Expr → Answered ℕ
flatten_answer f = sized_by expr_words f

-- How many words there are, and the reader's count afterwards; or the refusal's number.
abbrev pub solution_answer : ℕ → Final Solution → Answered Counted
solution_answer c f = counted_by flat_items c f
