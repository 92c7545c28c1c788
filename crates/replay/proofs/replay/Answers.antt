use mathlib.Core.Path.{refl, ap}
use Rattle.recorded.specs.declared.line.Line.{Line}
use Rattle.replay.proofs.Tallying.{tally_all, tally_more, tally_none, line-next}
use native.Mathlib.Omega.{arith}
use Rattle.replay.proofs.replay.Goals as goal

pub loop-at-init : goal.loop-at-init
loop-at-init c = tally_all _ _ refl refl

pub loop-at-preserved : goal.loop-at-preserved
loop-at-preserved c = tally_more c.args.lines.now c.loop-at.invariant c.loop-at-test.true c.line_at-line.ensures c.step-state.ensures

pub returns-after-loop-at : goal.returns-after-loop-at
returns-after-loop-at c = tally_none c.args.lines.now c.loop-at.invariant c.loop-at-test.false

pub returns-then-line-at : goal.returns-then-line-at
returns-then-line-at c =
    let g = line-next c.args.lines.now c.loop-at.at c.loop-at-test.true in
    absurd (omega (arith, g, c.if-line-at.true, ap (λ (l : Line). l.next) c.line_at-line.ensures))

pub loop-at-smaller : goal.loop-at-smaller
loop-at-smaller c = omega arith
