use Rattle.smtfronts.proofs.FrontsSteps.{front-never, front-exists, front-plain}
use Rattle.smtfronts.proofs.fronts.front.Goals as goal

pub returns-then-words-at : goal.returns-then-words-at
returns-then-words-at c limit k a e f = front-never limit _ _ _ k e f c.if-words-at.true

pub returns-else-words-at : goal.returns-else-words-at
returns-else-words-at c limit k a e f = front-exists limit _ _ _ k e f c.in-Exists.is c.exists_front.ensures

pub returns-in_default : goal.returns-in_default
returns-in_default c limit k a e f = front-plain limit _ _ _ k e f c.in_default.not-Exists c.plain_front.ensures
