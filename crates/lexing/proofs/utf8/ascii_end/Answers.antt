use mathlib.Core.Path.{◌∙◌}
use Rattle.lexing.proofs.Lexing.WellFormed.{formed-ascii}
use Rattle.lexing.proofs.utf8.ascii_end.Goals as goal

pub loop-i-preserved : goal.loop-i-preserved
loop-i-preserved c = c.loop-i.invariant ∙ formed-ascii _ c.loop-i.i c.loop-i-test.true c.if-text-i-ge128.false
