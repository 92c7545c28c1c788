use native.Mathlib.Omega.{arith}
use Rattle.smtlevels.proofs.Levels.{inner-past, outer_past}
use Rattle.smtlevels.proofs.standing_below.Goals as goal

pub returns-then-pending-left : goal.returns-then-pending-left
returns-then-pending-left c = record { few = c.standing.ensures.few; lists = λ m cs ds e p o. inner-past _ m cs _ _ p e c.if-pending-left.true c.standing.ensures.lists o }

pub returns : goal.returns
returns c = record { few = omega arith; lists = λ m cs ds e p o. outer_past _ m cs c.args.bases.now c.args.known p e c.if-pending-left.false o }
