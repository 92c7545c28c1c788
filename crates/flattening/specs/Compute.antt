-- Opens every definition of this crate at once, for claims that are proved by computing.
use Rattle.grammar.specs.Compute.{parse_computes}
use Rattle.flattening.specs.Flat.{gathered, spine}
use Rattle.judging.specs.Judge.{word, word_below, choose, two_words, four_words, several, span_within, name_within, ctors, sort_kinds, sort_deep, sort_at, binder_at, binders_at, kinds, header, sort_if, planned, expr_deep, at_end, expr_at, judge_expr, judge_solution}
use Rattle.flattening.specs.Operations.{flat_fits, flatten_by, flatten_final, flatten_said, flatten_out, solution_fits, solution_final}
use Rattle.flattening.specs.Uncurry.{join, applied, uncurry, most_operands}

unfoldable pub flatten_computes : Unit {0}
unfolding parse_computes gathered spine word word_below choose two_words four_words several span_within name_within ctors sort_kinds sort_deep sort_at binder_at binders_at kinds header sort_if planned expr_deep at_end expr_at judge_expr judge_solution flat_fits flatten_by flatten_final flatten_said flatten_out solution_fits solution_final join applied uncurry most_operands
flatten_computes = tt
