use mathlib.Core.Path.{refl}
use Rattle.replay.proofs.Calling.{step-flat, step_call}
use Rattle.replay.proofs.step.Goals as goal

pub returns-then-line-eq70 : goal.returns-then-line-eq70
returns-then-line-eq70 c = step-flat c.args.lines.now c.args.line c.if-line-eq70.true c.told.ensures c.flatten_line.ensures

pub returns-then-reader-line : goal.returns-then-reader-line
returns-then-reader-line c = step_call c.args.lines.now c.args.line c.if-line-eq70.false c.returned.ensures refl refl refl c.text_line.ensures.0 c.if-reader-line.true

pub returns : goal.returns
returns c = step_call c.args.lines.now c.args.line c.if-line-eq70.false c.returned-2.ensures refl refl refl c.text_line-2.ensures.0 c.open.ensures
