use Prim.Native.Nat.{◌+◌, ◌*◌}
use mathlib.Core.Path.{ap, ◌∙◌}
use mathlib.Core.List.{[], ◌∷◌}
use native.Mathlib.Omega.{arith}
use lib.ListN.{drop}
use Rattle.recorded.specs.Numbers.{digit}
use Rattle.recorded.specs.Spelled.{bytes_once}
use Rattle.recorded.proofs.Parts.{once-end, once-high, once-low, once_more}
use Rattle.recorded.proofs.Storing.{left-more, left-none}
use Rattle.recorded.proofs.input.copy_bytes.Goals as goal

pub returns-in_default : goal.returns-in_default
returns-in_default c = left-none c.loop-i.invariant.1 (once-high c.args.lines.now c.loop-i.i c.loop-i-test.true (omega (arith, c.in_default.ensures))) c.loop-i.invariant.0

pub returns-in_default-digit : goal.returns-in_default-digit
returns-in_default-digit c =
    left-none c.loop-i.invariant.1 (once-low c.args.lines.now c.loop-i.i c.loop-i-test.true (omega (arith, c.in_default-digit.ensures, ap digit c.byte_at.ensures))) c.loop-i.invariant.0

pub loop-i-preserved : goal.loop-i-preserved
loop-i-preserved c =
    let l = c.args.lines.now in
    let i = c.loop-i.i in
    let high = c.in-Some.ensures in
    let low = c.in-Some-digit.ensures in
    (omega (arith, c.saturating_add-len.ensures), left-more c.loop-i.invariant.1 ((16 * c.in-Some.high + c.in-Some-digit.low) ∷ []) (bytes_once (drop (i + 2) l)) (once_more l i c.loop-i-test.true c.in-Some.high c.in-Some-digit.low high.0 (low.0 ∙ ap digit c.byte_at.ensures) (omega arith) (omega arith)) (omega arith) c.put_byte.ensures (omega (arith, c.saturating_add-len.ensures)))

pub returns : goal.returns
returns c = left-none c.loop-i.invariant.1 (once-end c.args.lines.now c.loop-i.i c.loop-i-test.false) c.loop-i.invariant.0
