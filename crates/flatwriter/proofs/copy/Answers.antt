use native.Mathlib.Omega.{arith}
use Rattle.writing.proofs.Pieces.{copy_none, copy_next}
use Rattle.flatwriter.proofs.WriteSteps.{copied-all}
use Rattle.flatwriter.proofs.copy.Goals as goal

pub loop-i-init : goal.loop-i-init
loop-i-init c = copy_none _ _ _

pub loop-i-preserved : goal.loop-i-preserved
loop-i-preserved c = copy_next c.loop-i.invariant c.loop-i-test.true

pub returns : goal.returns
returns c xs s = copied-all s c.in-Some.ensures.lookup.0.2 c.loop-i.invariant c.loop-i-test.false (omega (arith, c.if-out-place.false, c.if-out-place-2.false))
