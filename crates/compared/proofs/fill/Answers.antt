use Rattle.compared.proofs.Comparing.{filling_all, filling_more, filling_none}
use Rattle.compared.proofs.fill.Goals as goal

pub loop-i-init : goal.loop-i-init
loop-i-init c = filling_all _

pub loop-i-preserved : goal.loop-i-preserved
loop-i-preserved c = filling_more c.loop-i.invariant c.loop-i-test.true c.pattern.ensures

pub returns : goal.returns
returns c = filling_none c.loop-i.invariant c.loop-i-test.false
