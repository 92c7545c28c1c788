use mathlib.Core.Path.{refl}
use native.Mathlib.Omega.{arith}
use Rattle.recorded.specs.Numbers.{most, decimal}
use Rattle.recorded.proofs.Digits.{number-end, number_stop, number-next}
use Rattle.recorded.proofs.numbers.decimal.Goals as goal

pub loop-i-init : goal.loop-i-init
loop-i-init c = (omega arith, refl)

pub returns-in_default : goal.returns-in_default
unfolding decimal
returns-in_default c =
    let p = c.loop-i in
    number_stop most 10 c.args.lines.now c.args.at p.i p.value p.invariant.0 p.invariant.1 c.loop-i-test.true (omega (arith, c.in-Some.ensures))

pub returns-in_default-2 : goal.returns-in_default-2
unfolding decimal
returns-in_default-2 c =
    let p = c.loop-i in
    number_stop most 10 c.args.lines.now c.args.at p.i p.value p.invariant.0 p.invariant.1 c.loop-i-test.true (omega (arith, c.in_default.ensures))

pub loop-i-preserved : goal.loop-i-preserved
loop-i-preserved c =
    let p = c.loop-i in
    number-next most 10 c.args.lines.now c.args.at p.i p.value p.invariant.0 p.invariant.1 c.loop-i-test.true (omega (arith, c.in-Some.ensures))
    (omega (arith, c.in-Some.ensures, c.saturating_mul.ensures, c.from.ensures, c.saturating_add-value.ensures))

pub returns : goal.returns
unfolding decimal
returns c =
    let p = c.loop-i in
    number-end most 10 c.args.lines.now c.args.at p.i p.value p.invariant.0 p.invariant.1 c.loop-i-test.false
