use mathlib.Core.Path.{refl}
use native.Mathlib.Omega.{arith}
use Rattle.recorded.proofs.Places.{upto-end, upto_stop, upto-more}
use Rattle.recorded.proofs.numbers.end_from.Goals as goal

pub loop-i-init : goal.loop-i-init
loop-i-init c = (omega arith, refl)

pub returns-then-k-ends : goal.returns-then-k-ends
returns-then-k-ends c = omega (arith, upto_stop c.args.k c.args.lines.now c.loop-i.i c.loop-i-test.true (omega (arith, c.ends.ensures, c.if-k-ends.true)))

pub loop-i-preserved : goal.loop-i-preserved
loop-i-preserved c = (omega arith, omega (arith, upto-more c.args.k c.args.lines.now c.loop-i.i c.loop-i-test.true (omega (arith, c.ends.ensures, c.if-k-ends.false))))

pub returns : goal.returns
returns c = omega (arith, c.max.ensures, upto-end c.args.k c.args.lines.now c.loop-i.i c.loop-i-test.false)
