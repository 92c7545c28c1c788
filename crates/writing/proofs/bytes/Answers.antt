use mathlib.Core.Path.{◌≡◌}
use native.Mathlib.Omega.{arith}
use lib.ListN.{length}
use Rattle.writing.proofs.Pieces.{copy_none, copy_next, copy_all}
use Rattle.writing.proofs.bytes.Goals as goal

pub loop-i-init : goal.loop-i-init
loop-i-init c = copy_none _ _ _

pub loop-i-preserved : goal.loop-i-preserved
loop-i-preserved c = copy_next c.loop-i.invariant c.loop-i-test.true

pub returns : goal.returns
returns c =
    let e : c.loop-i.i ≡ length c.args.from.now = omega (arith, c.loop-i.invariant.upto, c.loop-i-test.false) in
    rw e at (copy_all c.loop-i.invariant c.loop-i-test.false (omega arith))
