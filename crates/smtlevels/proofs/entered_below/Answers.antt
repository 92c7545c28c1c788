use Rattle.smtlevels.proofs.Levels.{inner-into, outer_into}
use Rattle.smtlevels.proofs.entered_below.Goals as goal

pub returns-then-base-left : goal.returns-then-base-left
returns-then-base-left c = record { room = c.entered.ensures.room; lists = λ m cs p o. inner-into _ m cs c.args.bases.now c.args.known p c.entered.new.bases c.entered.result c.if-base-left.true (c.entered.ensures.lists m cs p) o }

pub returns : goal.returns
returns c = record { room = c.requires; lists = λ m cs p o. outer_into _ m cs c.args.bases.now c.args.known p c.if-base-left.false o }
