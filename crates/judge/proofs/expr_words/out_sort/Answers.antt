use Rattle.judge.proofs.ReadExpr.{sort-none, sort-some}
use Rattle.judge.proofs.expr_words.out_sort.Goals as goal

pub returns-then-flag : goal.returns-then-flag
returns-then-flag c = sort-some _ _ _ c.if-flag.true c.sort_end.ensures

pub returns : goal.returns
returns c = sort-none _ _ _ c.if-flag.false
