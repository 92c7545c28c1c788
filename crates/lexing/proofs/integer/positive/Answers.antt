use native.Mathlib.Omega.{arith}
use Rattle.lexing.proofs.Lexing.Signs.{value-under, value-over, positive_in, positive-out}
use Rattle.lexing.proofs.integer.positive.Goals as goal

pub returns-then-q : goal.returns-then-q
returns-then-q c = positive_in _ (omega arith) (value-under _ (omega arith) c.if-q.true)

pub returns-else-q : goal.returns-else-q
returns-else-q c = positive-out _ (value-over _ c.if-q.false)
