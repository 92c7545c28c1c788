use mathlib.Core.Path.{◌∙◌}
use Rattle.text.proofs.Looping.Turn.{follows-all, follows-inside}
use Rattle.text.proofs.scan.may_follow.Goals as goal

pub returns-then-all : goal.returns-then-all
returns-then-all c = c.if-all.true ∙ follows-all _ c.args.depth c.if-all.true

pub returns-else-all : goal.returns-else-all
returns-else-all c = follows-inside _ _ c.if-all.false
