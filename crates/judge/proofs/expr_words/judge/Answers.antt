use Rattle.judging.proofs.Exits.{exits}
use Rattle.judge.proofs.ReadExpr.{whole-all, whole-no}
use Rattle.judge.proofs.expr_words.judge.Goals as goal

pub returns-in_err-end : goal.returns-in_err-end
returns-in_err-end c = exits _ _ c.from_residual.ensures (whole-no _ _ c.in_err-end.ensures)

pub returns : goal.returns
returns c = whole-all _ _ c.in_ok-end.ensures c.whole.ensures
