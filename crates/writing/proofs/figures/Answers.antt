use mathlib.Core.Path.{sym, ◌∙◌}
use borrow.Author.Tests.{ltb-true, ltb-false}
use borrow.Author.Rules.{rules}
use native.Mathlib.Omega.{arith}
use Rattle.writing.proofs.Quads.{quad_long}
use Rattle.writing.proofs.Pieces.{count_next, count-all, count-few}
use Rattle.writing.proofs.figures.Goals as goal

pub overflow_add-n : goal.overflow_add-n
overflow_add-n c = omega (arith, count-few c.loop-rest.invariant (quad_long _ (search rules) (search rules) (search rules) (search rules)) (ltb-false _ _ (sym c.one_digit.ensures ∙ c.loop-rest-test.true)))

pub loop-rest-preserved : goal.loop-rest-preserved
loop-rest-preserved c = count_next c.loop-rest.invariant c.shortened.ensures (ltb-false _ _ (sym c.one_digit.ensures ∙ c.loop-rest-test.true))

pub returns : goal.returns
returns c = count-all c.loop-rest.invariant (ltb-true _ _ (sym c.one_digit.ensures ∙ c.loop-rest-test.false))
