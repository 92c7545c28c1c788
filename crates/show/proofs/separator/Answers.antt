use borrow.Author.Tests.{eq-eqb, ne_eqb}
use Rattle.reading.specs.Pick.{pick}
use Rattle.show.proofs.separator.Goals as goal

pub returns-then-next-to : goal.returns-then-next-to
unfolding pick
returns-then-next-to c = simp (eq-eqb _ _ c.if-next-to.true)

pub returns-else-next-to : goal.returns-else-next-to
unfolding pick
returns-else-next-to c = simp (ne_eqb _ _ c.if-next-to.false)
