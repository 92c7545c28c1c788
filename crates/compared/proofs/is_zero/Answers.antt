use Rattle.compared.specs.Recorded.{is_zero}
use Rattle.compared.proofs.Comparing.{comparing_differ, comparing_more, comparing_none, zeros-at}
use Rattle.compared.proofs.is_zero.Goals as goal

pub returns-then-w-ne0 : goal.returns-then-w-ne0
unfolding is_zero
returns-then-w-ne0 c = comparing_differ c.loop-w.invariant c.loop-w-test.true (zeros-at c.args.words.now c.loop-w.w-index c.loop-w-test.true) c.if-w-ne0.true

pub loop-w-preserved : goal.loop-w-preserved
loop-w-preserved c = comparing_more c.loop-w.invariant c.loop-w-test.true (zeros-at c.args.words.now c.loop-w.w-index c.loop-w-test.true) c.if-w-ne0.false

pub returns : goal.returns
unfolding is_zero
returns c = comparing_none c.loop-w.invariant c.loop-w-test.false
