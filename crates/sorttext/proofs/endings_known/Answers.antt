use native.Mathlib.Omega.{arith}
use Rattle.smtlevels.proofs.Levels.{standing-count, standing-known}
use Rattle.sorttext.proofs.endings_known.Goals as goal

pub standing-rest-requires : goal.standing-rest-requires
standing-rest-requires c = c.requires.1

pub endings-requires : goal.endings-requires
endings-requires c = (c.requires.0, omega arith)

pub returns-then-rest-eq0 : goal.returns-then-rest-eq0
returns-then-rest-eq0 c = record { room = c.endings.ensures.room; lists = λ cs w e o. c.endings.ensures.lists cs w; known = λ cs w e o. c.endings.ensures.known cs w e }

pub returns : goal.returns
returns c = record { room = (c.requires.0, omega (arith, c.standing-rest.ensures.few, c.requires.1)); lists = λ cs w e o. standing-count _ _ _ cs e o c.standing-rest.ensures.lists c.if-rest-eq0.false; known = λ cs w e o. rw c.standing-rest.ensures.lists (standing-known _ _ _ cs e o) }
