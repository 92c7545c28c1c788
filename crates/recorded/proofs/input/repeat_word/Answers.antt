use Prim.Native.Nat.{◌+◌, ◌-◌}
use mathlib.Core.Path.{◌≡◌}
use native.Mathlib.Omega.{arith}
use Rattle.recorded.proofs.Storing.{left-all, word_more, word_done}
use Rattle.recorded.proofs.input.repeat_word.Goals as goal

pub loop-i-init : goal.loop-i-init
loop-i-init c =
    let a = c.args in
    let z : a.n + a.times - a.n ≡ a.times = omega arith in
    rw z (left-all _ _ _)

pub loop-i-preserved : goal.loop-i-preserved
loop-i-preserved c = word_more c.args.n c.args.times c.args.word c.loop-i.invariant (omega (arith, c.min-i-end.ensures, c.saturating_add-end.ensures)) (omega (arith, c.min-i-end.ensures)) (omega arith)

pub returns : goal.returns
returns c = word_done c.args.n c.args.times c.args.word c.loop-i.invariant (omega (arith, c.saturating_add-end.ensures)) (omega arith) (omega (arith, c.min-i-end.ensures))
