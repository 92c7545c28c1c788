use borrow.Author.Tests.{true-eqb, false-eqb}
use Rattle.judging.proofs.Exits.{exits}
use Rattle.judge.proofs.ReadExpr.{solution-none, solution-params, solution-body, solution-all}
use Rattle.judge.proofs.expr_words.solution.Goals as goal

pub returns-then-is_empty : goal.returns-then-is_empty
returns-then-is_empty c = solution-none _ _ (true-eqb _ _ c.if-is_empty.ensures)

pub returns-in_err-body : goal.returns-in_err-body
returns-in_err-body c = exits _ _ c.from_residual.ensures (solution-params _ _ (false-eqb _ _ c.if-is_empty.ensures) c.in_err-body.ensures)

pub returns-in_err-end : goal.returns-in_err-end
returns-in_err-end c = exits _ _ c.from_residual-in_err-end.ensures (solution-body _ _ (false-eqb _ _ c.if-is_empty.ensures) c.in_ok-body.ensures c.in_err-end.ensures)

pub returns : goal.returns
returns c = solution-all _ _ (false-eqb _ _ c.if-is_empty.ensures) c.in_ok-body.ensures c.in_ok-end.ensures c.whole.ensures
