use Prim.Native.Nat.{◌+◌, ◌-◌}
use mathlib.Core.Path.{◌≡◌}
use native.Mathlib.Omega.{arith}
use lib.ListN.{drop}
use Rattle.recorded.specs.Spelled.{bytes_once, again}
use Rattle.recorded.proofs.Storing.{left-all, left-more, left-none, again-next, again-none}
use Rattle.recorded.proofs.input.repeat_bytes.Goals as goal

pub loop-init : goal.loop-init
loop-init c =
    let z : c.args.times - 0 ≡ c.args.times = omega arith in
    (omega arith, rw z (left-all _ _ _))

pub loop-preserved : goal.loop-preserved
loop-preserved c =
    let b = bytes_once (drop c.args.at c.args.lines.now) in
    let t = c.args.times in
    (omega (arith, c.copy_bytes-len.ensures.0), left-more c.loop.invariant.1 b (again (t - (c.loop.counter + 1)) b) (again-next b (t - c.loop.counter) (t - (c.loop.counter + 1)) (omega arith)) (omega arith) c.copy_bytes-len.ensures.1 c.copy_bytes-len.ensures.0)

pub returns : goal.returns
returns c = left-none c.loop.invariant.1 (again-none _ (c.args.times - c.loop.counter) (omega arith)) c.loop.invariant.0
