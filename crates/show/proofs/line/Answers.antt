use Rattle.show.proofs.Printing.{lining_more, lining_ends}
use Rattle.show.proofs.line.Goals as goal

pub loop-i-preserved : goal.loop-i-preserved
loop-i-preserved c = lining_more c.loop-i.invariant c.requires.1 c.loop-i-test.true c.separator.ensures c.word.ensures

pub returns : goal.returns
returns c = lining_ends c.loop-i.invariant c.loop-i-test.false
