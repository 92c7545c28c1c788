use Rattle.writing.proofs.Wrote.{wrote_none}
use Rattle.smtlib.proofs.terms.gap.Goals as goal

-- src/terms.rt:76:9
pub returns-then-first : goal.returns-then-first
returns-then-first c = rw c.if-first.true (wrote_none _ _)

-- src/terms.rt:72:1
pub returns : goal.returns
returns c = rw c.if-first.false c.seam.ensures
